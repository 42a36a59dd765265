use Rattle.std.proofs.Common.{◌≡◌, ◌<◌, ◌≤◌, ◌+◌, ◌-◌, ◌%◌, ◌^◌, ℕ, arith, get_or, ⊎_elim}
use Rattle.std.proofs.lemmas.Nat.{le_or_l, le_or_r, or_lt}
use Rattle.std.proofs.lemmas.Bool.{cases_eq, cases_lt, lt-ltb, ltb-true}
use Rattle.tree_search.proofs.amounts.is_covered.Goals as goal

pub loop-kind-preserved : goal.loop-kind-preserved
loop-kind-preserved c =
    let k : ℕ = c.loop-kind.kind in
    let over : ℕ = c.loop-kind.over in
    let rest : ℕ = (get_or c.args.there.now k 0 + (2 ^ 32 - get_or c.args.taken.now k 0)) % 2 ^ 32 in
    let so_far = c.loop-kind.invariant in (
      λ none r l.
          let before : over < 2147483648 = omega (arith, le_or_l over rest, none) in
          let here : rest < 2147483648 = omega (arith, le_or_r over rest, none) in
          ⊎_elim
          (λ (e : r ≡ k). rw e here)
          (λ (ne : r ≡ k → ⊥). so_far.0 before r (omega arith))
          (cases_eq r k),
      λ within.
          let before : over < 2147483648 = so_far.1 (λ r l. within r (omega arith)) in
          let here : rest < 2147483648 = within k (omega arith) in
          or_lt 31 over rest before here,
    )

-- beyond the lanes there is nothing
pub returns : goal.returns
returns c = (
  λ few r among.
      ⊎_elim
      (λ (inside : r < c.args.lanes). c.loop-kind.invariant.0 (ltb-true c.loop-kind.over 2147483648 few) r (omega (arith, inside)))
      (λ (past : c.args.lanes ≤ r). rw (c.requires.none r past among, c.requires.beyond r past among) (omega arith))
      (cases_lt r c.args.lanes),
  λ all. lt-ltb c.loop-kind.over 2147483648 (c.loop-kind.invariant.1 (λ r l. all r (omega (arith, l, c.requires.lanes)))),
)
