use Rattle.std.proofs.Common.{◌≡◌, ◌∙◌, ◌∷◌, [], sym, length, slice_index, drop}
use Rattle.std.proofs.lemmas.List.{drop_all}
use Rattle.clause_kernel.specs.Clauses.{negated}
use Rattle.clause_kernel.specs.Propagation.{with_true}
use Rattle.clause_kernel.specs.Marks.{is_marked}
use Rattle.clause_kernel.proofs.MarkLemmas.{assume-step, with_none}
use Rattle.clause_kernel.proofs.marks.assume.Goals as goal

pub loop-literal-preserved : goal.loop-literal-preserved
loop-literal-preserved c = record {
  marked =
      let here : is_marked c.assign.new.values c.args.mark ≡ with_true (length c.args.values.now) (is_marked c.loop-literal.values c.args.mark) (negated (slice_index c.args.clause.now c.loop-literal.literal-index) ∷ []) = rw (← c.loop-literal.auto.values, ← c.negated.ensures) c.assign.ensures.marked in
      c.loop-literal.invariant.marked ∙ assume-step (length c.args.values.now) (is_marked c.loop-literal.values c.args.mark) (is_marked c.assign.new.values c.args.mark) c.args.clause.now c.loop-literal.literal-index c.loop-literal-test.true here;
  fixed = c.assign.ensures.fixed ∙ c.loop-literal.invariant.fixed;
  fresh = c.assign.ensures.fresh;
}

pub returns-clause-marked : goal.returns-clause-marked
returns-clause-marked c =
    let none : drop c.loop-literal.literal-index c.args.clause.now ≡ [] = drop_all c.loop-literal.literal-index c.args.clause.now c.loop-literal-test.false in
    sym (c.loop-literal.invariant.marked ∙ rw none (with_none (length c.args.values.now) (is_marked c.loop-literal.values c.args.mark)))
