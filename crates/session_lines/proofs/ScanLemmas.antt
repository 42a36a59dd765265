-- A reader in the middle of a line.
use Rattle.std.proofs.Common.{◌≡◌, ◌≢◌, ℕ, ◌+◌, ◌<◌, ◌≤◌, Bool, false, true, cond, not, List, [], ◌∷◌, ◌++◌, All, Option, Some, None, IfSome, length, take, nat_lt, ◌==◌, refl, sym, ap, subst, ◌∙◌, arith, append_assoc, append-nil, length-append, length-take-le, suc}
use Rattle.std.proofs.lemmas.Bool.{lt-ltb}
use Rattle.std.proofs.lemmas.Bool.Decides.{nat_tests}
use Rattle.std.proofs.BufReadLemmas.{take_through-append, drop_through-append, Consumes_shown}
use Rattle.std.specs.List.{position}
use Rattle.std.specs.Io.{StartsWith}
use Rattle.std.specs.Io.KnownBytes.{Keeps, Consumes}
use Rattle.std.specs.Io.BufRead.{take_through, drop_through, DropsConsumable}
use Rattle.psplib_mm.specs.Text.{is_line_feed}
use Rattle.session_lines.specs.Known.{Goes}
use Rattle.session_lines.proofs.FeedLemmas.{IsFeed, feed_some}
use Rattle.session_lines.specs.declared.line.LineMeaning.{LineMeaning}
use Rattle.session_lines.specs.Taken.{TakesLine, TakesNone, TakesIf, TakesMeaning}

-- raw was taken of the known bytes, and has no line feed
pub record InLine (raw xs ys : List ℕ) : Type 0 where
  pub taken : xs ≡ raw ++ ys
  pub through : take_through 10 xs ≡ raw ++ take_through 10 ys
  pub rest : drop_through 10 xs ≡ drop_through 10 ys

abbrev pub Scans : List ℕ → Option (List ℕ) → Option (List ℕ) → Type 0
Scans raw old new = Goes old new (InLine raw)

pub Scans-start : (a : Option (List ℕ)) → Scans [] a a
Scans-start None = tt
Scans-start (Some xs) = record { taken = refl; through = refl; rest = refl }

InLine-inside : (raw bytes xs ys zs : List ℕ) → All (λ x. x ≢ 10) bytes → InLine raw xs ys → ys ≡ bytes ++ zs → InLine (raw ++ bytes) xs zs
InLine-inside raw bytes xs ys zs h s e = record {
  taken = s.taken ∙ ap (λ l. raw ++ l) e ∙ sym (append_assoc raw bytes zs);
  through = s.through ∙ ap (λ l. raw ++ take_through 10 l) e ∙ ap (λ l. raw ++ l) (take_through-append 10 bytes zs h) ∙ sym (append_assoc raw bytes (take_through 10 zs));
  rest = s.rest ∙ ap (drop_through 10) e ∙ drop_through-append 10 bytes zs h;
}

pub Scans-inside : (raw bytes : List ℕ) (a b d : Option (List ℕ)) → All (λ x. x ≢ 10) bytes → Scans raw a b → Consumes b d bytes → Scans (raw ++ bytes) a d
Scans-inside raw bytes None b d h s e = tt
Scans-inside raw bytes (Some xs) (Some ys) (Some zs) h s e = InLine-inside raw bytes xs ys zs h s e
Scans-inside raw bytes (Some xs) (Some ys) None h s e = absurd e
Scans-inside raw bytes (Some xs) None d h s e = absurd s

-- the whole line was taken, with its end
pub record IsWhole (raw xs ys : List ℕ) : Type 0 where
  pub taken : xs ≡ raw ++ ys
  pub through : take_through 10 xs ≡ raw
  pub rest : ys ≡ drop_through 10 xs

IsWhole-feed : (raw xs zs : List ℕ) → InLine raw xs (10 ∷ zs) → IsWhole (raw ++ 10 ∷ []) xs zs
IsWhole-feed raw xs zs s = record {
  taken = s.taken ∙ sym (append_assoc raw (10 ∷ []) zs);
  through = s.through;
  rest = sym s.rest;
}

pub Scans-last : (raw bytes : List ℕ) (a b d : Option (List ℕ)) → All (λ x. x ≢ 10) bytes → Scans raw a b → Consumes b d (bytes ++ 10 ∷ []) → Goes a d (IsWhole ((raw ++ bytes) ++ 10 ∷ []))
Scans-last raw bytes None b d h s e = tt
Scans-last raw bytes (Some xs) (Some ys) (Some zs) h s e =
    IsWhole-feed (raw ++ bytes) xs zs (InLine-inside raw bytes xs ys (10 ∷ zs) h s (e ∙ append_assoc bytes (10 ∷ []) zs))
Scans-last raw bytes (Some xs) (Some ys) None h s e = absurd e
Scans-last raw bytes (Some xs) None d h s e = absurd s

-- all that was left was taken
pub record IsAll (raw xs ys : List ℕ) : Type 0 where
  pub whole : IsWhole raw xs ys
  pub over : ys ≡ []

pub Goes-map : (a b : Option (List ℕ)) (P Q : List ℕ → List ℕ → Type 0) → ((xs ys : List ℕ) → P xs ys → Q xs ys) → Goes a b P → Goes a b Q
Goes-map None b P Q f h = tt
Goes-map (Some xs) (Some ys) P Q f h = f xs ys h
Goes-map (Some xs) None P Q f h = absurd h

pub Goes-trans : (a b d : Option (List ℕ)) (P Q R : List ℕ → List ℕ → Type 0) → ((xs ys zs : List ℕ) → P xs ys → Q ys zs → R xs zs) → Goes a b P → Goes b d Q → Goes a d R
Goes-trans None b d P Q R f p q = tt
Goes-trans (Some xs) (Some ys) (Some zs) P Q R f p q = f xs ys zs p q
Goes-trans (Some xs) (Some ys) None P Q R f p q = absurd q
Goes-trans (Some xs) None d P Q R f p q = absurd p

pub Scans-end : (raw : List ℕ) (a b d : Option (List ℕ)) → Scans raw a b → Goes b d TakesNone → Goes a d (IsAll raw)
Scans-end raw a b d = Goes-trans a b d (InLine raw) TakesNone (IsAll raw) (λ xs ys zs s t. record {
  whole = record {
    taken = s.taken ∙ ap (λ l. raw ++ l) (t.none ∙ sym t.over);
    through = s.through ∙ ap (λ l. raw ++ take_through 10 l) t.none ∙ append-nil raw;
    rest = t.over ∙ sym (s.rest ∙ ap (drop_through 10) t.none);
  };
  over = t.over;
})

-- a line with a byte kept is one with a byte
some_kept : (n : ℕ) (raw : List ℕ) → nat_lt 0 (length raw) ≡ not (length (take (suc n) raw) == 0)
some_kept n [] = refl
some_kept n (x ∷ xs) = grind (arith, nat_tests)

pub kept_some : (raw kept : List ℕ) → kept ≡ take 4099 raw → not (length kept == 0) ≡ nat_lt 0 (length raw)
kept_some raw kept e = ap (λ l. not (length l == 0)) e ∙ sym (some_kept 4098 raw)

pub some_through : (xs : List ℕ) → nat_lt 0 (length xs) ≡ nat_lt 0 (length (take_through 10 xs))
some_through [] = refl
some_through (x ∷ xs) = elim (x == 10) as (λ t. nat_lt 0 (suc (length xs)) ≡ nat_lt 0 (length (cond t (x ∷ []) (x ∷ take_through 10 xs)))) [ true ↦ grind (arith, nat_tests) | false ↦ grind (arith, nat_tests) ]

-- a whole line was taken, of which P holds
pub TakesLine-whole : (P : List ℕ → Type 0) (raw : List ℕ) (before after : ℕ) → P raw → 0 < length raw → length raw + after ≡ before → (xs ys : List ℕ) → IsWhole raw xs ys → TakesLine P before after xs ys
TakesLine-whole P raw before after holds some paid xs ys w =
    let longer : length xs ≡ length raw + length ys = ap length w.taken ∙ length-append raw ys in
    record {
      some = omega arith;
      line = subst P (sym w.through) holds;
      rest = w.rest;
      paid = omega arith;
    }

-- the input has ended behind these bytes, which are a line if there is one of them
pub ends_if : (found : Bool) (P : List ℕ → Type 0) (raw : List ℕ) (a d : Option (List ℕ)) (before after : ℕ) → P raw → found ≡ nat_lt 0 (length raw) → length raw + after ≡ before → Goes a d (IsAll raw) → TakesIf found P before after a d
ends_if found P [] a d before after holds e paid w =
    subst (λ f. TakesIf f P before after a d) (sym e) (Goes-map a d (IsAll []) TakesNone (λ xs ys w. record { none = w.whole.taken ∙ w.over; over = w.over }) w)
ends_if found P (x ∷ raw) a d before after holds e paid w =
    let some : 0 < length (x ∷ raw) = omega arith in
    subst (λ f. TakesIf f P before after a d) (sym (e ∙ lt-ltb 0 (length (x ∷ raw)) some))
    (Goes-map a d (IsAll (x ∷ raw)) (TakesLine P before after) (λ xs ys w. TakesLine-whole P (x ∷ raw) before after holds some paid xs ys w.whole) w)

-- ---- a line that lies whole in what a reader shows

pub front_line : (P : List ℕ → Type 0) (shown : List ℕ) (place : ℕ) (a d : Option (List ℕ)) (before after : ℕ) → IsFeed shown place
    → Consumes a d (take (place + 1) shown) → P (take (place + 1) shown) → place + 1 + after ≡ before → Goes a d (TakesLine P before after)
front_line P shown place a d before after is took holds paid =
    let long : length (take (place + 1) shown) ≡ place + 1 = length-take-le (place + 1) shown (omega (arith, is.inside)) in
    let whole : Goes a d (IsWhole (take (place + 1) shown)) =
    subst (λ l. Goes a d (IsWhole l)) (sym is.feed) (Scans-last [] (take place shown) a a d is.before (Scans-start a) (subst (Consumes a d) is.feed took)) in
    Goes-map a d _ _ (TakesLine-whole P (take (place + 1) shown) before after holds (omega (arith, long)) (omega (arith, long))) whole

-- what a reader has left stays what it was
pub Goes-kept : (a b d : Option (List ℕ)) (P : List ℕ → List ℕ → Type 0) → Keeps a b → Goes b d P → Goes a d P
Goes-kept None b d P k p = tt
Goes-kept (Some xs) None d P k p = absurd k
Goes-kept (Some xs) (Some ys) None P k p = absurd p
Goes-kept (Some xs) (Some ys) (Some zs) P k p = subst (λ l. P l zs) k p

pub TakesMeaning-kept : (found : Option LineMeaning) (before after : ℕ) (a b d : Option (List ℕ)) → Keeps a b → TakesMeaning found before after b d → TakesMeaning found before after a d
TakesMeaning-kept (Some meaning) before after a b d k t = Goes-kept a b d _ k t
TakesMeaning-kept None before after a b d k t = Goes-kept a b d _ k t

pub TakesIf-kept : (found : Bool) (P : List ℕ → Type 0) (before after : ℕ) (a b d : Option (List ℕ)) → Keeps a b → TakesIf found P before after b d → TakesIf found P before after a d
TakesIf-kept true P before after a b d k t = Goes-kept a b d _ k t
TakesIf-kept false P before after a b d k t = Goes-kept a b d _ k t

pub Goes-line : (P Q : List ℕ → Type 0) (before after : ℕ) (a d : Option (List ℕ)) → ((line : List ℕ) → P line → Q line) → Goes a d (TakesLine P before after) → Goes a d (TakesLine Q before after)
Goes-line P Q before after a d f = Goes-map a d _ _ (λ xs ys t. record { some = t.some; line = f _ t.line; rest = t.rest; paid = t.paid })

-- nothing is shown, and nothing is left
pub nothing_left : (a b : Option (List ℕ)) (shown : List ℕ) → length shown ≡ 0 → IfSome a (λ xs. length shown ≡ 0 → xs ≡ []) → Keeps a b → Goes a b TakesNone
nothing_left None b shown none end k = tt
nothing_left (Some xs) None shown none end k = absurd k
nothing_left (Some xs) (Some ys) shown none end k = record { none = end none; over = k ∙ end none }

-- what a reader showed was taken through its first line feed
pub taken_line : (P : List ℕ → Type 0) (shown : List ℕ) (place : ℕ) (a b d : Option (List ℕ)) (limit : Option ℕ) (before after : ℕ) → Some place ≡ position is_line_feed shown
    → IfSome a (λ xs. StartsWith xs shown) → IfSome a (λ xs. length shown ≡ 0 → xs ≡ []) → Keeps a b → IfSome a (λ _. IfSome limit (λ n. length shown ≤ n)) → DropsConsumable b d limit (place + 1)
    → P (take (place + 1) shown) → place + 1 + after ≡ before → Goes a d (TakesLine P before after)
taken_line P shown place a b d limit before after here front end kept fits drops holds paid =
    let is = feed_some shown place (sym here) in
    front_line P shown place a d before after is (Consumes_shown a b d limit shown (place + 1) (omega (arith, is.inside)) front end kept fits drops).0 holds paid
