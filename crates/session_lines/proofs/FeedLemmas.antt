-- Where the first line feed of some bytes is.
use Rattle.std.proofs.Common.{◌≡◌, ◌≢◌, ℕ, ◌+◌, ◌<◌, ◌≤◌, Bool, true, false, not, cond, ◌==◌, Some, None, List, [], ◌∷◌, ◌++◌, All, length, take, get_or, refl, sym, ap, subst, ◌∙◌, arith, eq-eqb, eqb-true, get_or-take, length-take-le, take_all}
use Rattle.std.specs.List.{position, position_or_len}
use Rattle.std.proofs.lemmas.Bool.{ltb-false, ltb-true, false≢true}
use Rattle.std.proofs.lemmas.List.{take_more}
use Rattle.std.proofs.lemmas.List.Sums.{prefix_len_passes, prefix_len_stops}
use Rattle.psplib_mm.specs.Text.{is_line_feed}

some_place : (b : Bool) (n i : ℕ) → cond b (Some n) None ≡ Some i → (b ≡ true) × (n ≡ i)
some_place true n i e = (refl, cc)
some_place false n i e = absurd cc

no_place : (b : Bool) (n : ℕ) → cond b (Some n) None ≡ None → b ≡ false
no_place true n e = absurd cc
no_place false n e = refl

other : (b : ℕ) → not (is_line_feed b) ≡ true → b ≢ 10
other b h e = absurd (false≢true (ap not (sym (eq-eqb b 10 e)) ∙ h))

same : (b : ℕ) → not (is_line_feed b) ≡ false → b ≡ 10
same b h = eqb-true b 10 (go (b == 10) h)
  where
    go : (t : Bool) → not t ≡ false → t ≡ true
    go true h = refl
    go false h = absurd (false≢true (sym h))

before : (xs : List ℕ) (n : ℕ) → n ≤ position_or_len is_line_feed xs → n ≤ length xs → All (λ x. x ≢ 10) (take n xs)
before xs n first within k d lt =
    let long : length (take n xs) ≡ n = length-take-le n xs within in
    subst (λ x. x ≢ 10) (sym (get_or-take n xs k d (omega (arith, long, lt)))) (other (get_or xs k d) (prefix_len_passes (λ x. not (is_line_feed x)) xs k d (omega (arith, long, lt))))

-- there is none
pub feed_none : (xs : List ℕ) → position is_line_feed xs ≡ None → All (λ x. x ≢ 10) xs
feed_none xs e =
    let far = ltb-false _ _ (no_place _ _ e) in
    subst (All (λ x. x ≢ 10)) (take_all (length xs) xs (omega arith)) (before xs (length xs) (omega (arith, far)) (omega arith))

-- it is here, and there is none before it
pub record IsFeed (xs : List ℕ) (place : ℕ) : Type 0 where
  pub inside : place < length xs
  pub before : All (λ x. x ≢ 10) (take place xs)
  pub feed : take (place + 1) xs ≡ take place xs ++ 10 ∷ []

pub feed_some : (xs : List ℕ) (place : ℕ) → position is_line_feed xs ≡ Some place → IsFeed xs place
feed_some xs place e =
    let found = some_place _ _ _ e in
    let lt : position_or_len is_line_feed xs < length xs = ltb-true _ _ found.0 in
    let at : get_or xs (position_or_len is_line_feed xs) 0 ≡ 10 = same _ (prefix_len_stops (λ x. not (is_line_feed x)) xs 0 lt) in
    let here : position_or_len is_line_feed xs < length xs → take (position_or_len is_line_feed xs + 1) xs ≡ take (position_or_len is_line_feed xs) xs ++ 10 ∷ [] =
    λ l. take_more xs (position_or_len is_line_feed xs) 0 l ∙ ap (λ b. take (position_or_len is_line_feed xs) xs ++ b ∷ []) at in
    subst (IsFeed xs) found.1 (record { inside = lt; before = before xs (position_or_len is_line_feed xs) (omega arith) (omega (arith, lt)); feed = here lt })
