-- Which of the waiting jobs are passed, as calls move the world.
use Rattle.std.proofs.Common.{◌≡◌, ◌⊎◌, inl, inr, ⊎_elim, ℕ, zero, suc, ◌+◌, ◌<◌, ◌≤◌, Bool, true, false, Option, Some, None, List, [], ◌∷◌, ◌++◌, length, filter, nat_le, refl, sym, ap, ◌∙◌, subst, arith}
use Rattle.std.specs.Prelude.{slice_get}
use Rattle.std.proofs.lemmas.Bool.{cases_eq}
use Rattle.std.proofs.lemmas.Bool.Decides.{nat_tests}
use Rattle.job_table.specs.Table.{TableData, is_waiting, is_out, waiting_then}
use Rattle.job_table.specs.Job.{IsFunded}
use Rattle.farm_core.specs.declared.account.Account.{Account}
use Rattle.farm_core.specs.declared.entry.Event.{Event}
use Rattle.farm_core.specs.Tenant.{Member, kept}
use Rattle.farm_core.specs.Step.{Answer, has_room}
use Rattle.farm_core.specs.World.{World, table_of, member, view, entries_of, IsWithout, KeepsOrder, Follows}
use Rattle.farm_core.specs.Farm.{IsFarm, IsPassed, ArePassed, owed}
use Rattle.farm_core.proofs.ViewLemmas.{moved}
use Rattle.farm_core.proofs.MoveLemmas.{IsMove, moved_view, one_entry, move_follows, written}

-- ---- a tenant that has no entries for a turn never has them again

less_room : (a b most : ℕ) → a ≤ b → nat_le a most ≡ false → nat_le b most ≡ false
less_room a b most l none = grind (arith, nat_tests)

abbrev room_in : Member → Bool
room_in m = nat_le (m.used + length (filter (λ job. is_out job.phase) m.jobs) + 2) m.terms.entries

room_other : (w new : World) (u : ℕ) → member u new ≡ member u w → has_room 2 (view u new) ≡ has_room 2 (view u w)
unfolding view kept
room_other w new u same = ap room_in same

-- the call takes an entry, and frees one that was kept at most
room_own : (w : World) (t : ℕ) (all : TableData) (account : Account) → kept (view t w) ≤ kept (moved_view w t all account) + 1 → has_room 2 (view t w) ≡ false
    → has_room 2 (moved_view w t all account) ≡ false
unfolding view member
room_own w t all account less none =
    less_room ((view t w).used + kept (view t w) + 2) (length (entries_of t w.journal) + 1 + kept (moved_view w t all account) + 2) (view t w).terms.entries (omega (arith, less)) none

no_room : (w : World) (t : ℕ) (all : TableData) (account : Account) (event : Event) (answer : Answer) → IsMove w t all account event answer
    → (u : ℕ) → has_room 2 (view u w) ≡ false → has_room 2 (view u (moved w t all account (one_entry t event))) ≡ false
no_room w t all account event answer move u none =
    let new : World = moved w t all account (one_entry t event) in
    let follows = move_follows w t all account event answer move in
    ⊎_elim
    (λ (same : u ≡ t).
    let own : has_room 2 (view t w) ≡ false = subst (λ v. has_room 2 (view v w) ≡ false) same none in
    subst (λ v. has_room 2 (view v new) ≡ false) (sym same) (ap (has_room 2) (follows.own ∙ move.after) ∙ room_own w t all account move.kept_less own))
    (λ (ne : u ≡ t → ⊥). room_other w new u (follows.others u ne) ∙ none)
    (cases_eq u t)

-- ---- who is passed

passed_then : (w new : World) (key : ℕ × ℕ) (keys : List (ℕ × ℕ)) → ((u : ℕ) → has_room 2 (view u w) ≡ false → has_room 2 (view u new) ≡ false) → IsPassed w key keys → IsPassed new key keys
passed_then w new key [] stays it = it
passed_then w new key (first ∷ keys) stays it =
    (stays first.0 it.0, ⊎_elim (λ (here : first ≡ key). inl here) (λ (rest : IsPassed w key keys). inr (passed_then w new key keys stays rest)) it.1)

passed_more : (w : World) (key : ℕ × ℕ) (keys more : List (ℕ × ℕ)) → IsPassed w key keys → IsPassed w key (keys ++ more)
passed_more w key [] more it = absurd it
passed_more w key (first ∷ keys) more it = (it.0, ⊎_elim (λ (here : first ≡ key). inl here) (λ (rest : IsPassed w key keys). inr (passed_more w key keys more rest)) it.1)

-- one of a tenant that has entries for a turn is not among the passed, and may go
passed_less : (w : World) (t s : ℕ) (key : ℕ × ℕ) (before behind : List (ℕ × ℕ)) → has_room 2 (view t w) ≡ true → IsPassed w key (before ++ (t, s) ∷ behind) → IsPassed w key (before ++ behind)
passed_less w t s key [] behind room it = let none : has_room 2 (view t w) ≡ false = it.0 in absurd (cc)
passed_less w t s key (first ∷ before) behind room it =
    (it.0, ⊎_elim (λ (here : first ≡ key). inl here) (λ (rest : IsPassed w key (before ++ (t, s) ∷ behind)). inr (passed_less w t s key before behind room rest)) it.1)

-- those who wait stand as they stood, and one may have come behind them
abbrev pub OnlyMore : List (ℕ × ℕ) → List (ℕ × ℕ) → Type 0
OnlyMore old new = (new ≡ old) ⊎ ((key : ℕ × ℕ) × (new ≡ old ++ key ∷ []))

-- so it is where a job did not wait, and where it waits then
comes_last : (t s : ℕ) (is : Bool) (keys : List (ℕ × ℕ)) → OnlyMore keys (waiting_then t s false is keys)
comes_last t s true keys = inr ((t, s), refl)
comes_last t s false keys = inl refl

goes_on : (t s : ℕ) (was : Bool) (keys : List (ℕ × ℕ)) → OnlyMore keys (waiting_then t s was true keys)
goes_on t s true keys = inl refl
goes_on t s false keys = inr ((t, s), refl)

pub more_come : (t s : ℕ) (is : Bool) (old new : List (ℕ × ℕ)) → new ≡ waiting_then t s false is old → OnlyMore old new
more_come t s is old new turns = subst (OnlyMore old) (sym turns) (comes_last t s is old)

pub more_funded : (w : World) (t s quanta : ℕ) (all : TableData) → IsFunded (table_of w) t s quanta all → OnlyMore w.waiting all.waiting
more_funded w t s quanta all did = subst (OnlyMore w.waiting) (sym (ap (λ (d : TableData). d.waiting) did.after)) (goes_on t s (is_waiting did.job.phase) w.waiting)

passed_longer : (w : World) (key : ℕ × ℕ) (new : List (ℕ × ℕ)) → OnlyMore w.waiting new → IsPassed w key w.waiting → IsPassed w key new
passed_longer w key new more it =
    ⊎_elim (λ (same : new ≡ w.waiting). subst (IsPassed w key) (sym same) it)
    (λ (one : (k : ℕ × ℕ) × (new ≡ w.waiting ++ k ∷ [])). subst (IsPassed w key) (sym one.1) (passed_more w key w.waiting (one.0 ∷ []) it)) more

passed_ordered : (w : World) (t : ℕ) (key : ℕ × ℕ) (new : List (ℕ × ℕ)) → has_room 2 (view t w) ≡ true → KeepsOrder t w.waiting new → IsPassed w key w.waiting → IsPassed w key new
passed_ordered w t key new room order it =
    ⊎_elim (λ (same : new ≡ w.waiting). subst (IsPassed w key) (sym same) it)
    (λ (rest : ((seq : ℕ) × (new ≡ w.waiting ++ (t, seq) ∷ [])) ⊎ IsWithout t w.waiting new).
    ⊎_elim (λ (one : (seq : ℕ) × (new ≡ w.waiting ++ (t, seq) ∷ [])). subst (IsPassed w key) (sym one.1) (passed_more w key w.waiting ((t, one.0) ∷ []) it))
    (λ (one : IsWithout t w.waiting new). subst (IsPassed w key) (sym one.is) (passed_less w t one.seq key one.before one.behind room (subst (IsPassed w key) one.was it))) rest) order

moved_passed : (w : World) (t : ℕ) (all : TableData) (account : Account) (event : Event) (answer : Answer) (passed : Option (ℕ × ℕ)) → IsMove w t all account event answer
    → ((key : ℕ × ℕ) → passed ≡ Some key → IsPassed w key w.waiting → IsPassed w key all.waiting) → ArePassed w passed → ArePassed (moved w t all account (one_entry t event)) passed
moved_passed w t all account event answer None move stays it = tt
moved_passed w t all account event answer (Some key) move stays it =
    passed_then w (moved w t all account (one_entry t event)) key all.waiting (no_room w t all account event answer move) (stays key refl it)

ordered : (w : World) (t : ℕ) (room : Bool) (key : ℕ × ℕ) (passed : Option (ℕ × ℕ)) (new : List (ℕ × ℕ)) → has_room 2 (view t w) ≡ room → (room ≡ false → passed ≡ None) → passed ≡ Some key
    → KeepsOrder t w.waiting new → IsPassed w key w.waiting → IsPassed w key new
ordered w t true key passed new is begins one order it = passed_ordered w t key new is order it
ordered w t false key passed new is begins one order it = let none : passed ≡ None = begins refl in absurd (cc)

-- a call that was written down keeps the farm and follows, and those who were passed are passed: where none that waits goes,
pub written_more : (w v : World) (t : ℕ) (all : TableData) (account : Account) (event : Event) (answer : Answer) (old new : ℕ) (passed : Option (ℕ × ℕ))
    → IsFarm w old → IsMove w t all account event answer → v ≡ moved w t all account (one_entry t event) → length w.journal + 1 + owed all.rows ≤ new
    → OnlyMore w.waiting all.waiting → ArePassed w passed → IsFarm v new × Follows w t event answer v × ArePassed v passed
written_more w v t all account event answer old new passed farm move is room more it =
    let both = written w v t all account event answer old new farm move is room in
    (both.0, both.1, subst (λ (x : World). ArePassed x passed) (sym is) (moved_passed w t all account event answer passed move (λ key one. passed_longer w key all.waiting more) it))

-- and where one goes, unless its tenant has no entries for a turn
pub written_less : (w v : World) (t : ℕ) (all : TableData) (account : Account) (event : Event) (answer : Answer) (old new : ℕ) (passed : Option (ℕ × ℕ))
    → IsFarm w old → IsMove w t all account event answer → v ≡ moved w t all account (one_entry t event) → length w.journal + 1 + owed all.rows ≤ new
    → (has_room 2 (view t w) ≡ false → passed ≡ None) → ArePassed w passed → IsFarm v new × Follows w t event answer v × ArePassed v passed
written_less w v t all account event answer old new passed farm move is room begins it =
    let both = written w v t all account event answer old new farm move is room in (
      both.0,
      both.1,
      subst (λ (x : World). ArePassed x passed) (sym is)
          (moved_passed w t all account event answer passed move (λ key one. ordered w t (has_room 2 (view t w)) key passed all.waiting refl begins one move.order) it),
    )

-- ---- places

-- those who are passed, up to a place
pub record StandsAt (w : World) (key : ℕ × ℕ) (keys : List (ℕ × ℕ)) : Type 0 where
  pub at : ℕ
  pub here : slice_get keys at ≡ Some key
  pub before : (j u n : ℕ) → j < at + 1 → slice_get keys j ≡ Some (u, n) → has_room 2 (view u w) ≡ false

first_is : (w : World) (first : ℕ × ℕ) (u n : ℕ) → has_room 2 (view first.0 w) ≡ false → Some first ≡ Some (u, n) → has_room 2 (view u w) ≡ false
first_is w first u n none is = let same : first ≡ (u, n) = cc in subst (λ (k : ℕ × ℕ). has_room 2 (view k.0 w) ≡ false) same none

-- what holds of the first and of all further ones, up to a place
first_and : (w : World) (first : ℕ × ℕ) (keys : List (ℕ × ℕ)) (at : ℕ) → has_room 2 (view first.0 w) ≡ false
    → ((j u n : ℕ) → j < at → slice_get keys j ≡ Some (u, n) → has_room 2 (view u w) ≡ false)
    → (j u n : ℕ) → j < at + 1 → slice_get (first ∷ keys) j ≡ Some (u, n) → has_room 2 (view u w) ≡ false
first_and w first keys at none rest zero u n l is = first_is w first u n none is
first_and w first keys at none rest (suc j) u n l is = rest j u n (omega (arith, l)) is

pub passed_at : (w : World) (key : ℕ × ℕ) (keys : List (ℕ × ℕ)) → IsPassed w key keys → StandsAt w key keys
passed_at w key [] it = absurd it
passed_at w key (first ∷ keys) it =
    ⊎_elim (λ (here : first ≡ key). record { at = 0; here = ap {B = Option (ℕ × ℕ)} (λ k. Some k) here; before = first_and w first keys 0 it.0 (λ j u n l is. absurd (omega (arith, l))) })
    (λ (rest : IsPassed w key keys).
    let one = passed_at w key keys rest in
    record { at = suc one.at; here = one.here; before = λ j u n l is. first_and w first keys (one.at + 1) it.0 one.before j u n (omega (arith, l)) is }) it.1

pub at_passed : (w : World) (key : ℕ × ℕ) (keys : List (ℕ × ℕ)) (at : ℕ) → slice_get keys at ≡ Some key
    → ((j u n : ℕ) → j < at + 1 → slice_get keys j ≡ Some (u, n) → has_room 2 (view u w) ≡ false) → IsPassed w key keys
at_passed w key [] at here before = absurd (cc)
at_passed w key (first ∷ keys) zero here before = (before 0 first.0 first.1 (omega arith) refl, inl (let same : first ≡ key = cc in same))
at_passed w key (first ∷ keys) (suc at) here before =
    (before 0 first.0 first.1 (omega arith) refl, inr (at_passed w key keys at here (λ j u n l is. before (suc j) u n (omega (arith, l)) is)))
