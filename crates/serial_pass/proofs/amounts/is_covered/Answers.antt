use Rattle.std.proofs.Common.{◌≡◌, ◌<◌, ◌+◌, ◌-◌, ◌*◌, ◌%◌, ◌^◌, ℕ, arith, get_or, ⊎_elim}
use Rattle.std.specs.Int.{bit_at}
use lib.Bits.{bit_and}
use Rattle.std.proofs.lemmas.Nat.{le_or_l, le_or_r, or_lt}
use Rattle.std.proofs.lemmas.Nat.Bits.{and_pow}
use Rattle.std.proofs.lemmas.Bool.{cases_eq}
use Rattle.serial_pass.proofs.amounts.is_covered.Goals as goal

pub loop-kind-preserved : goal.loop-kind-preserved
loop-kind-preserved c =
    let k : ℕ = c.loop-kind.kind in
    let over : ℕ = c.loop-kind.over in
    let rest : ℕ = (get_or c.args.there.now k 0 + (2 ^ 32 - get_or c.args.taken.now k 0)) % 2 ^ 32 in
    let high : ℕ = bit_and rest (2 ^ 31) in
    let is : high ≡ bit_at rest 31 * 2 ^ 31 = and_pow rest 31 in
    let so_far = c.loop-kind.invariant in (
      λ none r l.
          let before : over ≡ 0 = omega (arith, le_or_l over high, none) in
          let here : rest < 2147483648 = omega (arith, le_or_r over high, none, is) in
          ⊎_elim
          (λ (e : r ≡ k). rw e here)
          (λ (ne : r ≡ k → ⊥). so_far.0 before r (omega arith))
          (cases_eq r k),
      λ within.
          let before : over ≡ 0 = so_far.1 (λ r l. within r (omega arith)) in
          let here : rest < 2147483648 = within k (omega arith) in
          omega (arith, or_lt 0 over high (omega arith) (omega (arith, is, here))),
    )
