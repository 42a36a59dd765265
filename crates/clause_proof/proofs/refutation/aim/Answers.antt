use Rattle.std.proofs.Common.{arith, refl, []}
use Rattle.clause_proof.proofs.RefutationLemmas.{aimed}
use Rattle.clause_proof.proofs.refutation.aim.Goals as goal

pub returns-clause-refuted : goal.returns-clause-refuted
returns-clause-refuted c =
    aimed c.args.clauses.now c.push-2.new.self [] c.resize.new.self.items c.push.new.self.items c.in_ok-push-2.ensures.pushed refl c.in_ok-push.ensures.items
    (omega (arith, c.in_ok-resize.ensures.len, c.resize.new.self.ok, c.len.ensures))
