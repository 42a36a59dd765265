-- The first byte that a search finds is at the position of the test.
use Rattle.std.proofs.Common.{◌≡◌, ℕ, ◌<◌, Bool, true, false, List, Option, Some, None, length, get_or, position, arith, ⊎_elim}
use Rattle.std.specs.List.{position_or_len}
use Rattle.std.proofs.lemmas.Bool.{cases_Bool}
use Rattle.std.proofs.lemmas.Bool.Decides.{nat_tests}
use Rattle.std.proofs.lemmas.List.Sums.{position_or_len_is}
use Rattle.memchr.specs.Find.{IsFirstByte}

fails : (test : ℕ → Bool) (x : ℕ) → (test x ≡ true → ⊥) → test x ≡ false
fails test x never = ⊎_elim (λ (e : test x ≡ true). absurd (never e)) (λ (e : test x ≡ false). e) (cases_Bool (test x))

pub position_is : (test : ℕ → Bool) (xs : List ℕ) (r : Option ℕ) → IsFirstByte test xs r → r ≡ position test xs
position_is test xs None h =
    let end : position_or_len test xs ≡ length xs = position_or_len_is test xs (length xs) 0 (omega arith) (λ k l. fails test (get_or xs k 0) (h k (omega arith) l)) (λ l. absurd (omega arith)) in
    rw end (grind (arith, nat_tests))
position_is test xs (Some k) h =
    let is : position_or_len test xs ≡ k = position_or_len_is test xs k 0 (omega (arith, h.0.high)) (λ i l. fails test (get_or xs i 0) (h.0.before i (omega arith) l)) (λ _. h.1) in
    let inside : k < length xs = h.0.high in
    rw is (grind (arith, nat_tests))
