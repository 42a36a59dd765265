-- The bound and precedences bar choices.
use Rattle.std.proofs.Common.{◌≡◌, ℕ, ◌+◌, ◌<◌, ◌≤◌, true, false, arith}
use Rattle.std.specs.Prelude.{nat_lt}
use Rattle.std.proofs.lemmas.Bool.Decides.{nat_tests}
use Rattle.mrcpsp.specs.Project.{size, duration}
use Rattle.mrcpsp.specs.Schedule.{mode_of, start_of, finish, makespan}
use Rattle.mrcpsp.proofs.NumbersLemmas.{at-le-max_below}
use Rattle.schedule_prices.specs.Steps.{LateIsBarred, EarlyIsBarred, BehindIsBarred}
use Rattle.schedule_prices.proofs.ChoiceLemmas.{bars}

at-most : (a b : ℕ) → b ≤ a → nat_lt a b ≡ false
at-most a b l = grind (arith, nat_tests)

less : (a b : ℕ) → nat_lt a b ≡ true → a < b
less a b e = grind (arith, nat_tests)

pub late-is-barred : LateIsBarred
unfolding finish makespan
late-is-barred p bound s feasible short j l = at-most bound (finish p s j) (omega (arith, at-le-max_below (finish p s) (size p) j l))

pub early-is-barred : EarlyIsBarred
unfolding finish
early-is-barred p bound barred i k e known there after barring left =
    bars p bound barred k (λ m t. nat_lt t e) barring
    (λ s feasible short early.
    let ended = left (mode_of s i) (start_of s i) ((feasible.modes_exist i known).1, barring s feasible short i known) in
    let behind : finish p s i ≤ start_of s k = feasible.precedence i k known there after in
    absurd (omega (arith, ended, behind, less (start_of s k) e early)))

pub behind-is-barred : BehindIsBarred
unfolding finish
behind-is-barred p bound barred i k l known there after barring left =
    bars p bound barred i (λ m t. nat_lt l (t + duration p i m)) barring
    (λ s feasible short late.
    let begun = left (mode_of s k) (start_of s k) ((feasible.modes_exist k there).1, barring s feasible short k there) in
    let behind : finish p s i ≤ start_of s k = feasible.precedence i k known there after in
    absurd (omega (arith, begun, behind, less l (finish p s i) late)))
