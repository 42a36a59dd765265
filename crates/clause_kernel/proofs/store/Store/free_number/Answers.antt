use Rattle.clause_kernel.proofs.StoreLemmas.{removed}
use Rattle.clause_kernel.proofs.store.Store.free_number.Goals as goal

pub returns-then-words-gt0 : goal.returns-then-words-gt0
returns-then-words-gt0 c = rw (c.clear-words.ensures, ← c.self.view_is) (removed c.self.inside.words.items c.self.inside.places.items c.args.number)

pub returns-else-words-gt0 : goal.returns-else-words-gt0
returns-else-words-gt0 c = rw (c.clear-words.ensures, ← c.self.view_is) (removed c.self.inside.words.items c.self.inside.places.items c.args.number)
