-- Who stands before and behind whom, and first and last, once a key is gone or has come.
use Rattle.std.proofs.Common.{◌≡◌, ℕ, ◌≤◌, Bool, true, false, cond, List, [], ◌∷◌, ◌++◌, Option, Some, None, is_some, refl, ap, arith}
use Rattle.std.proofs.lemmas.Bool.{cond_both}
use Rattle.std.proofs.lemmas.Bool.Decides.{nat_tests}
use Rattle.job_table.specs.Table.{is_key, without, first_of, behind}
use Rattle.job_table.specs.Queue.{last_of, ahead, is_named}
use Rattle.job_table.proofs.QueueLemmas.{times, times_first, key_is}

-- one that does not stand among some keys is not the first, and is not among the others
pub record IsNotIn (t s : ℕ) (key : ℕ × ℕ) (keys : List (ℕ × ℕ)) : Type 0 where
  pub first : is_key t s key ≡ false
  pub rest : times t s keys ≡ 0

not_in_case : (t s : ℕ) (key : ℕ × ℕ) (keys : List (ℕ × ℕ)) (b : Bool) → is_key t s key ≡ b → times t s (key ∷ keys) ≡ 0 → IsNotIn t s key keys
not_in_case t s key keys true e none = absurd (omega (arith, times_first t s key keys true e, none))
not_in_case t s key keys false e none = record { first = e; rest = omega (arith, times_first t s key keys false e, none) }

pub not_in : (t s : ℕ) (key : ℕ × ℕ) (keys : List (ℕ × ℕ)) → times t s (key ∷ keys) ≡ 0 → IsNotIn t s key keys
not_in t s key keys none = not_in_case t s key keys (is_key t s key) refl none

-- no key stands there twice
abbrev pub AreOnce : List (ℕ × ℕ) → Type 0
AreOnce keys = (t s : ℕ) → times t s keys ≤ 1

pub once_rest : (key : ℕ × ℕ) (keys : List (ℕ × ℕ)) → AreOnce (key ∷ keys) → AreOnce keys
once_rest key keys once t s = omega (arith, once t s, times_first t s key keys (is_key t s key) refl)

-- the first is not among the others
pub once_first : (t s : ℕ) (key : ℕ × ℕ) (keys : List (ℕ × ℕ)) → AreOnce (key ∷ keys) → is_key t s key ≡ true → times t s keys ≡ 0
once_first t s key keys once is = omega (arith, once t s, times_first t s key keys true is)

pub behind_none : (t s : ℕ) (keys : List (ℕ × ℕ)) → times t s keys ≡ 0 → behind t s keys ≡ None
behind_none t s [] none = refl
behind_none t s (key ∷ keys) none = let it = not_in t s key keys none in rw it.first (behind_none t s keys it.rest)

pub ahead_none : (before : Option (ℕ × ℕ)) (t s : ℕ) (keys : List (ℕ × ℕ)) → times t s keys ≡ 0 → ahead before t s keys ≡ None
ahead_none before t s [] none = refl
ahead_none before t s (key ∷ keys) none = let it = not_in t s key keys none in rw it.first (ahead_none (Some key) t s keys it.rest)

-- one that does not stand among the keys is no key's neighbour
pub first_not : (u n : ℕ) (keys : List (ℕ × ℕ)) → times u n keys ≡ 0 → is_named (first_of keys) u n ≡ false
first_not u n [] none = refl
first_not u n (key ∷ keys) none = (not_in u n key keys none).first

pub behind_not : (t s u n : ℕ) (keys : List (ℕ × ℕ)) → times u n keys ≡ 0 → is_named (behind t s keys) u n ≡ false
behind_not t s u n [] none = refl
behind_not t s u n (key ∷ keys) none =
    let it = not_in u n key keys none in
    cond_both (is_key t s key) (first_of keys) (behind t s keys) (λ o. is_named o u n ≡ false) (λ e. first_not u n keys it.rest) (λ e. behind_not t s u n keys it.rest)

pub ahead_not : (before : Option (ℕ × ℕ)) (t s u n : ℕ) (keys : List (ℕ × ℕ)) → is_named before u n ≡ false → times u n keys ≡ 0 → is_named (ahead before t s keys) u n ≡ false
ahead_not before t s u n [] not none = refl
ahead_not before t s u n (key ∷ keys) not none =
    let it = not_in u n key keys none in
    cond_both (is_key t s key) before (ahead (Some key) t s keys) (λ o. is_named o u n ≡ false) (λ e. not) (λ e. ahead_not (Some key) t s u n keys it.first it.rest)

other_key : (t s u n : ℕ) (key : ℕ × ℕ) → is_key t s (u, n) ≡ false → is_key t s key ≡ true → is_key u n key ≡ false
other_key t s u n key other is = grind (arith, nat_tests)

-- what is behind a key that is the last before one that goes
first_without : (key : ℕ × ℕ) (t s u n : ℕ) (keys : List (ℕ × ℕ)) → is_key u n key ≡ true → times u n keys ≡ 0
    → first_of (without t s keys) ≡ cond (is_named (ahead (Some key) t s keys) u n) (behind t s keys) (first_of keys)
first_without key t s u n [] is none = refl
first_without key t s u n (k ∷ keys) is none = first_case key t s u n k keys (is_key t s k) refl is (not_in u n k keys none)
  where
    first_case : (key : ℕ × ℕ) (t s u n : ℕ) (k : ℕ × ℕ) (keys : List (ℕ × ℕ)) (b : Bool) → is_key t s k ≡ b → is_key u n key ≡ true → IsNotIn u n k keys
        → first_of (cond b keys (k ∷ without t s keys)) ≡ cond (is_named (cond b (Some key) (ahead (Some k) t s keys)) u n) (cond b (first_of keys) (behind t s keys)) (Some k)
    first_case key t s u n k keys true e is it = rw is refl
    first_case key t s u n k keys false e is it = let not = ahead_not (Some k) t s u n keys it.first it.rest in rw not refl

-- who stands behind another one once a key is gone
pub behind_without : (before : Option (ℕ × ℕ)) (t s u n : ℕ) (keys : List (ℕ × ℕ)) → AreOnce keys → is_key t s (u, n) ≡ false → is_named before u n ≡ false
    → behind u n (without t s keys) ≡ cond (is_named (ahead before t s keys) u n) (behind t s keys) (behind u n keys)
behind_without before t s u n [] once other not = refl
behind_without before t s u n (key ∷ keys) once other not =
    behind_case before t s u n key keys (is_key t s key) refl (is_key u n key) refl once other not (λ e. behind_without (Some key) t s u n keys (once_rest key keys once) other e)
  where
    behind_case : (before : Option (ℕ × ℕ)) (t s u n : ℕ) (key : ℕ × ℕ) (keys : List (ℕ × ℕ)) (a : Bool) → is_key t s key ≡ a → (b : Bool) → is_key u n key ≡ b → AreOnce (key ∷ keys) → is_key t s (u, n) ≡ false → is_named before u n ≡ false
        → (is_key u n key ≡ false → behind u n (without t s keys) ≡ cond (is_named (ahead (Some key) t s keys) u n) (behind t s keys) (behind u n keys))
        → behind u n (cond a keys (key ∷ without t s keys)) ≡ cond (is_named (cond a before (ahead (Some key) t s keys)) u n) (cond a (first_of keys) (behind t s keys)) (cond b (first_of keys) (behind u n keys))
    behind_case before t s u n key keys true d true e once other not later = let no : is_key u n key ≡ false = other_key t s u n key other d in absurd (cc)
    behind_case before t s u n key keys true d false e once other not later = rw not refl
    behind_case before t s u n key keys false d true e once other not later = rw e (first_without key t s u n keys e (once_first u n key keys once e))
    behind_case before t s u n key keys false d false e once other not later = rw e (later e)

-- who stands before another one once a key is gone
pub ahead_without : (before : Option (ℕ × ℕ)) (t s u n : ℕ) (keys : List (ℕ × ℕ)) → AreOnce keys → is_key t s (u, n) ≡ false
    → ahead before u n (without t s keys) ≡ cond (is_named (behind t s keys) u n) (ahead before t s keys) (ahead before u n keys)
ahead_without before t s u n [] once other = refl
ahead_without before t s u n (key ∷ keys) once other =
    ahead_case before t s u n key keys (is_key t s key) refl (is_key u n key) refl once other (ahead_without (Some key) t s u n keys (once_rest key keys once) other)
  where
    ahead_next : (before : Option (ℕ × ℕ)) (u n : ℕ) (key : ℕ × ℕ) (keys : List (ℕ × ℕ)) → ahead before u n keys ≡ cond (is_named (first_of keys) u n) before (ahead (Some key) u n keys)
    ahead_next before u n key [] = refl
    ahead_next before u n key (k ∷ keys) = refl_case (is_key u n k)
      where
        refl_case : (b : Bool) → cond b before (ahead (Some k) u n keys) ≡ cond b before (cond b (Some key) (ahead (Some k) u n keys))
        refl_case true = refl
        refl_case false = refl

    ahead_case : (before : Option (ℕ × ℕ)) (t s u n : ℕ) (key : ℕ × ℕ) (keys : List (ℕ × ℕ)) (a : Bool) → is_key t s key ≡ a → (b : Bool) → is_key u n key ≡ b → AreOnce (key ∷ keys) → is_key t s (u, n) ≡ false
        → ahead (Some key) u n (without t s keys) ≡ cond (is_named (behind t s keys) u n) (ahead (Some key) t s keys) (ahead (Some key) u n keys)
        → ahead before u n (cond a keys (key ∷ without t s keys)) ≡ cond (is_named (cond a (first_of keys) (behind t s keys)) u n) (cond a before (ahead (Some key) t s keys)) (cond b before (ahead (Some key) u n keys))
    ahead_case before t s u n key keys true d true e once other later = let no : is_key u n key ≡ false = other_key t s u n key other d in absurd (cc)
    ahead_case before t s u n key keys true d false e once other later = ahead_next before u n key keys
    ahead_case before t s u n key keys false d true e once other later = let not = behind_not t s u n keys (once_first u n key keys once e) in rw (e, not) refl
    ahead_case before t s u n key keys false d false e once other later = rw e later

-- who stands first and last once a key is gone
ahead_some : (before : Option (ℕ × ℕ)) (t s : ℕ) (keys : List (ℕ × ℕ)) → is_some before ≡ true → times t s keys ≡ 1 → is_some (ahead before t s keys) ≡ true
ahead_some before t s [] some once = absurd (omega (arith, once))
ahead_some before t s (key ∷ keys) some once = some_case before t s key keys (is_key t s key) refl some once (ahead_some (Some key) t s keys refl)
  where
    some_case : (before : Option (ℕ × ℕ)) (t s : ℕ) (key : ℕ × ℕ) (keys : List (ℕ × ℕ)) (b : Bool) → is_key t s key ≡ b → is_some before ≡ true → times t s (key ∷ keys) ≡ 1
        → (times t s keys ≡ 1 → is_some (ahead (Some key) t s keys) ≡ true) → is_some (cond b before (ahead (Some key) t s keys)) ≡ true
    some_case before t s key keys true e some once later = some
    some_case before t s key keys false e some once later = later (omega (arith, once, times_first t s key keys false e))

pub first_out : (t s : ℕ) (keys : List (ℕ × ℕ)) → times t s keys ≡ 1 → first_of (without t s keys) ≡ cond (is_some (ahead None t s keys)) (first_of keys) (behind t s keys)
first_out t s [] once = absurd (omega (arith, once))
first_out t s (key ∷ keys) once = out_case t s key keys (is_key t s key) refl once
  where
    out_case : (t s : ℕ) (key : ℕ × ℕ) (keys : List (ℕ × ℕ)) (b : Bool) → is_key t s key ≡ b → times t s (key ∷ keys) ≡ 1
        → first_of (cond b keys (key ∷ without t s keys)) ≡ cond (is_some (cond b None (ahead (Some key) t s keys))) (Some key) (cond b (first_of keys) (behind t s keys))
    out_case t s key keys true e once = refl
    out_case t s key keys false e once = let some = ahead_some (Some key) t s keys refl (omega (arith, once, times_first t s key keys false e)) in rw some refl

pub last_out : (before : Option (ℕ × ℕ)) (t s : ℕ) (keys : List (ℕ × ℕ)) → times t s keys ≡ 1 → last_of before (without t s keys) ≡ cond (is_some (behind t s keys)) (last_of before keys) (ahead before t s keys)
last_out before t s [] once = absurd (omega (arith, once))
last_out before t s (key ∷ keys) once = out_case before t s key keys (is_key t s key) refl once (last_out (Some key) t s keys)
  where
    last_same : (before : Option (ℕ × ℕ)) (key : ℕ × ℕ) (keys : List (ℕ × ℕ)) → last_of before keys ≡ cond (is_some (first_of keys)) (last_of (Some key) keys) before
    last_same before key [] = refl
    last_same before key (k ∷ keys) = refl

    out_case : (before : Option (ℕ × ℕ)) (t s : ℕ) (key : ℕ × ℕ) (keys : List (ℕ × ℕ)) (b : Bool) → is_key t s key ≡ b → times t s (key ∷ keys) ≡ 1
        → (times t s keys ≡ 1 → last_of (Some key) (without t s keys) ≡ cond (is_some (behind t s keys)) (last_of (Some key) keys) (ahead (Some key) t s keys))
        → last_of before (cond b keys (key ∷ without t s keys)) ≡ cond (is_some (cond b (first_of keys) (behind t s keys))) (last_of (Some key) keys) (cond b before (ahead (Some key) t s keys))
    out_case before t s key keys true e once later = last_same before key keys
    out_case before t s key keys false e once later = later (omega (arith, once, times_first t s key keys false e))

-- who stands where once a key has come last
pub first_push : (key : ℕ × ℕ) (keys : List (ℕ × ℕ)) → first_of (keys ++ key ∷ []) ≡ cond (is_some (last_of None keys)) (first_of keys) (Some key)
first_push key [] = refl
first_push key (k ∷ keys) = let some = last_some k keys in rw some refl
  where
    last_some : (k : ℕ × ℕ) (keys : List (ℕ × ℕ)) → is_some (last_of (Some k) keys) ≡ true
    last_some k [] = refl
    last_some k (j ∷ keys) = last_some j keys

pub last_push : (before : Option (ℕ × ℕ)) (key : ℕ × ℕ) (keys : List (ℕ × ℕ)) → last_of before (keys ++ key ∷ []) ≡ Some key
last_push before key [] = refl
last_push before key (k ∷ keys) = last_push (Some k) key keys

-- the last is not before the last, nor any other
pub last_not : (before : Option (ℕ × ℕ)) (u n : ℕ) (keys : List (ℕ × ℕ)) → is_named before u n ≡ false → times u n keys ≡ 0 → is_named (last_of before keys) u n ≡ false
last_not before u n [] not none = not
last_not before u n (key ∷ keys) not none = let it = not_in u n key keys none in last_not (Some key) u n keys it.first it.rest

pub behind_push : (before : Option (ℕ × ℕ)) (key : ℕ × ℕ) (u n : ℕ) (keys : List (ℕ × ℕ)) → AreOnce keys → is_named before u n ≡ false → is_key u n key ≡ false
    → behind u n (keys ++ key ∷ []) ≡ cond (is_named (last_of before keys) u n) (Some key) (behind u n keys)
behind_push before key u n [] once not other = rw (other, not) refl
behind_push before key u n (k ∷ keys) once not other =
    push_case key u n k keys (is_key u n k) refl once (λ e. behind_push (Some k) key u n keys (once_rest k keys once) e other)
  where
    first_last : (key : ℕ × ℕ) (u n : ℕ) (k : ℕ × ℕ) (keys : List (ℕ × ℕ)) → is_key u n k ≡ true → times u n keys ≡ 0 → first_of (keys ++ key ∷ []) ≡ cond (is_named (last_of (Some k) keys) u n) (Some key) (first_of keys)
    first_last key u n k [] is none = rw is refl
    first_last key u n k (j ∷ keys) is none = let it = not_in u n j keys none in let not = last_not (Some j) u n keys it.first it.rest in rw not refl

    push_case : (key : ℕ × ℕ) (u n : ℕ) (k : ℕ × ℕ) (keys : List (ℕ × ℕ)) (b : Bool) → is_key u n k ≡ b → AreOnce (k ∷ keys)
        → (is_key u n k ≡ false → behind u n (keys ++ key ∷ []) ≡ cond (is_named (last_of (Some k) keys) u n) (Some key) (behind u n keys))
        → cond b (first_of (keys ++ key ∷ [])) (behind u n (keys ++ key ∷ [])) ≡ cond (is_named (last_of (Some k) keys) u n) (Some key) (cond b (first_of keys) (behind u n keys))
    push_case key u n k keys true e once later = first_last key u n k keys e (once_first u n k keys once e)
    push_case key u n k keys false e once later = later e

pub behind_pushed : (t s : ℕ) (keys : List (ℕ × ℕ)) → times t s keys ≡ 0 → behind t s (keys ++ (t, s) ∷ []) ≡ None
behind_pushed t s [] none = let is = key_is t s in rw is refl
behind_pushed t s (key ∷ keys) none = let it = not_in t s key keys none in rw it.first (behind_pushed t s keys it.rest)

pub ahead_push : (before : Option (ℕ × ℕ)) (key : ℕ × ℕ) (u n : ℕ) (keys : List (ℕ × ℕ)) → is_key u n key ≡ false → ahead before u n (keys ++ key ∷ []) ≡ ahead before u n keys
ahead_push before key u n [] other = rw other refl
ahead_push before key u n (k ∷ keys) other = ap (λ o. cond (is_key u n k) before o) (ahead_push (Some k) key u n keys other)

pub ahead_pushed : (before : Option (ℕ × ℕ)) (t s : ℕ) (keys : List (ℕ × ℕ)) → times t s keys ≡ 0 → ahead before t s (keys ++ (t, s) ∷ []) ≡ last_of before keys
ahead_pushed before t s [] none = let is = key_is t s in rw is refl
ahead_pushed before t s (key ∷ keys) none = let it = not_in t s key keys none in rw it.first (ahead_pushed (Some key) t s keys it.rest)
