-- Least numbers and sums of which some may be missing.
use Rattle.std.proofs.Common.{◌≡◌, ℕ, zero, suc, ◌+◌, ◌<◌, ◌≤◌, true, arith, refl, ⊎_elim, subst, Option, Some, None}
use Rattle.std.proofs.lemmas.Bool.{cases_eq, ltb-true, lt-ltb}
use Rattle.mrcpsp.specs.Numbers.{sum_below}
use Rattle.schedule_prices.specs.Least.{lesser, least_below, together, total_below, exceeds}

-- the number is there and at most x
abbrev pub IsAtMost : Option ℕ → ℕ → Type 0
IsAtMost None x = ⊥
IsAtMost (Some y) x = y ≤ x

lesser-left : (a b : Option ℕ) (x : ℕ) → IsAtMost a x → IsAtMost (lesser a b) x
lesser-left None b x h = absurd h
lesser-left (Some y) None x h = h
lesser-left (Some y) (Some z) x h = omega arith

lesser-right : (a b : Option ℕ) (x : ℕ) → IsAtMost b x → IsAtMost (lesser a b) x
lesser-right None b x h = h
lesser-right (Some y) None x h = absurd h
lesser-right (Some y) (Some z) x h = omega arith

pub least-at-most : (f : ℕ → Option ℕ) (n k x : ℕ) → k < n → IsAtMost (f k) x → IsAtMost (least_below f n) x
least-at-most f zero k x l h = absurd (omega arith)
least-at-most f (suc n) k x l h =
    ⊎_elim
    (λ (e : k ≡ n). lesser-right (least_below f n) (f n) x (subst (λ i. IsAtMost (f i) x) e h))
    (λ (ne : k ≡ n → ⊥). lesser-left (least_below f n) (f n) x (least-at-most f n k x (omega arith) h))
    (cases_eq k n)

together-at-most : (a b : Option ℕ) (x y : ℕ) → IsAtMost a x → IsAtMost b y → IsAtMost (together a b) (x + y)
together-at-most None b x y h i = absurd h
together-at-most (Some a) None x y h i = absurd i
together-at-most (Some a) (Some b) x y h i = omega arith

pub total-at-most : (f : ℕ → Option ℕ) (g : ℕ → ℕ) (n : ℕ) → ((j : ℕ) → j < n → IsAtMost (f j) (g j)) → IsAtMost (total_below f n) (sum_below g n)
total-at-most f g zero h = omega arith
total-at-most f g (suc n) h =
    together-at-most (total_below f n) (f n) (sum_below g n) (g n) (total-at-most f g n (λ j l. h j (omega arith))) (h n (omega arith))

-- what is at most x does not exceed a limit of at least x
pub at-most-exceeds : (a : Option ℕ) (x limit : ℕ) → IsAtMost a x → x ≤ limit → exceeds a limit ≡ true → ⊥
at-most-exceeds None x limit h l e = absurd h
at-most-exceeds (Some y) x limit h l e = absurd (omega (arith, ltb-true limit y e))

-- a sum that exceeds a limit exceeds it with more parts
more-exceeds : (a b : Option ℕ) (limit : ℕ) → exceeds a limit ≡ true → exceeds (together a b) limit ≡ true
more-exceeds None b limit e = refl
more-exceeds (Some x) None limit e = refl
more-exceeds (Some x) (Some y) limit e = lt-ltb limit (x + y) (omega (arith, ltb-true limit x e))

exceeds-later : (f : ℕ → Option ℕ) (limit k n : ℕ) → k ≤ n → exceeds (total_below f k) limit ≡ true → exceeds (total_below f n) limit ≡ true
exceeds-later f limit k zero l e = let same : k ≡ 0 = omega arith in rw same at e
exceeds-later f limit k (suc n) l e =
    ⊎_elim
    (λ (same : k ≡ suc n). rw same at e)
    (λ (ne : k ≡ suc n → ⊥). more-exceeds (total_below f n) (f n) limit (exceeds-later f limit k n (omega arith) e))
    (cases_eq k (suc n))

-- an activity without a number, and one whose number takes the sum above the limit
pub missing-exceeds : (f : ℕ → Option ℕ) (limit k n total : ℕ) → total_below f k ≡ Some total → f k ≡ None → k < n → exceeds (total_below f n) limit ≡ true
missing-exceeds f limit k n total was none l = exceeds-later f limit (suc k) n (omega arith) (rw (was, none) refl)

pub sum-exceeds : (f : ℕ → Option ℕ) (limit k n total least : ℕ) → total_below f k ≡ Some total → f k ≡ Some least → k < n → limit < total + least → exceeds (total_below f n) limit ≡ true
sum-exceeds f limit k n total least was here l over = exceeds-later f limit (suc k) n (omega arith) (rw (was, here) (lt-ltb limit (total + least) over))

pub least-same : (f g : ℕ → Option ℕ) (n : ℕ) → ((k : ℕ) → k < n → f k ≡ g k) → least_below f n ≡ least_below g n
least-same f g zero h = refl
least-same f g (suc n) h = rw (least-same f g n (λ k l. h k (omega arith)), h n (omega arith)) refl

pub total-same : (f g : ℕ → Option ℕ) (n : ℕ) → ((k : ℕ) → k < n → f k ≡ g k) → total_below f n ≡ total_below g n
total-same f g zero h = refl
total-same f g (suc n) h = rw (total-same f g n (λ k l. h k (omega arith)), h n (omega arith)) refl
