use Rattle.std.proofs.Common.{◌≡◌, length, arith, ◌∙◌}
use Rattle.schedule_clauses.proofs.EncodingLemmas.{extends-trans, good-more, are-good-more, are-good-extends}
use Rattle.schedule_clauses.proofs.encoding.Encoding.add.Goals as goal

pub loop-term-preserved : goal.loop-term-preserved
loop-term-preserved c = record {
  extends = extends-trans c.args.self.now.meanings.items c.loop-term.self.meanings.items c.literal.new.self.meanings.items c.loop-term.invariant.extends c.literal.ensures.extends;
  same = c.literal.ensures.same ∙ c.loop-term.invariant.same;
  so_far = λ s h. rw c.in_ok-push.ensures.items
      (good-more c.args.scope.project.now c.loop-term.self.meanings.items c.literal.new.self.meanings.items c.loop-term.literals.items c.in_ok-literal.literal c.args.terms.now c.loop-term.term-index _ (omega arith) c.literal.ensures.extends c.in_ok-literal.ensures.stands c.in_ok-literal.ensures.sign c.loop-term.invariant.so_far s h);
}

pub returns-clause-good : goal.returns-clause-good
returns-clause-good c = rw (c.in_ok-push-2.ensures.pushed, c.deref.ensures.value, c.loop-term.invariant.same)
    (are-good-more c.args.scope.project.now c.args.scope.limit c.args.self.now.meanings.items c.loop-term.self.meanings.items c.args.self.now.clauses c.loop-term.literals.items c.args.terms.now c.requires.good c.loop-term.invariant.extends c.requires.valid
    (let e : length c.args.terms.now ≡ c.loop-term.term-index = omega arith in λ s h. c.loop-term.invariant.so_far s (rw (← e) h)))

pub returns-in_err-literal-clause-good : goal.returns-in_err-literal-clause-good
returns-in_err-literal-clause-good c =
    are-good-extends c.args.scope.project.now c.args.scope.limit c.args.self.now.meanings.items c.literal.new.self.meanings.items c.args.self.now.clauses c.literal.new.self.clauses c.requires.good
    (extends-trans c.args.self.now.meanings.items c.loop-term.self.meanings.items c.literal.new.self.meanings.items c.loop-term.invariant.extends c.literal.ensures.extends) (c.literal.ensures.same ∙ c.loop-term.invariant.same)

pub returns-in_err-push-clause-good : goal.returns-in_err-push-clause-good
returns-in_err-push-clause-good c =
    are-good-extends c.args.scope.project.now c.args.scope.limit c.args.self.now.meanings.items c.literal.new.self.meanings.items c.args.self.now.clauses c.literal.new.self.clauses c.requires.good
    (extends-trans c.args.self.now.meanings.items c.loop-term.self.meanings.items c.literal.new.self.meanings.items c.loop-term.invariant.extends c.literal.ensures.extends) (c.literal.ensures.same ∙ c.loop-term.invariant.same)

pub returns-in_err-push-2-clause-good : goal.returns-in_err-push-2-clause-good
returns-in_err-push-2-clause-good c =
    are-good-extends c.args.scope.project.now c.args.scope.limit c.args.self.now.meanings.items c.loop-term.self.meanings.items c.args.self.now.clauses _ c.requires.good c.loop-term.invariant.extends (c.in_err-push-2.ensures.no_memory ∙ c.loop-term.invariant.same)
