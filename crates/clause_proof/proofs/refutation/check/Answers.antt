use Rattle.std.proofs.Common.{arith, length}
use Rattle.clause_proof.proofs.RefutationLemmas.{extends-trans, refuted-more, unsatisfiable}
use Rattle.clause_proof.proofs.refutation.check.Goals as goal

pub returns : goal.returns
returns c = λ well.
    unsatisfiable c.args.clauses.now c.aim.new.clauses c.check_backwards.new.used
    (extends-trans c.args.clauses.now c.extend.new.clauses c.aim.new.clauses c.in_ok-extend.ensures c.in_ok-used.ensures.extends)
    (refuted-more c.aim.new.clauses c.check_backwards.new.used c.len-originals.result (length c.args.clauses.now)
    (omega (arith, c.len-originals.ensures))
    (c.in_ok-well.ensures well))
