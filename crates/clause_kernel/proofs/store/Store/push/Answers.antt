use Rattle.clause_kernel.proofs.StoreLemmas.{clauses-more}
use Rattle.clause_kernel.proofs.store.Store.push.Goals as goal

pub returns-in-Err-clause-no_memory : goal.returns-in-Err-clause-no_memory
returns-in-Err-clause-no_memory c =
    rw (c.in-Err.ensures.no_memory, c.in_ok-extend_from_slice.ensures.items, ← c.self.view_is) (clauses-more c.self.inside.words.items c.args.clause.now c.self.inside.places.items c.self.invariant)
