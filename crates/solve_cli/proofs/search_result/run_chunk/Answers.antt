use Rattle.std.proofs.Common.{ap, ◌∙◌, arith}
use Rattle.strategy.specs.Search.{ran_on}
use Rattle.solve_cli.proofs.SearchLemmas.{ran_at, ran_less}
use Rattle.solve_cli.proofs.search_result.run_chunk.Goals as goal

pub returns-clause-at : goal.returns-clause-at
returns-clause-at g c =
    let m = g.S.Strategy.meaning c.args.search.now in
    ran_at c.args.chunk m (g.S.Strategy.meaning c.run-ran.new.self) (c.run-ran.ensures.shown ∙ ap (λ n. ran_on n m) c.run-ran.ensures.ran)

pub returns-clause-more : goal.returns-clause-more
returns-clause-more g c =
    let m = g.S.Strategy.meaning c.args.search.now in
    ran_less c.args.chunk m (g.S.Strategy.meaning c.run-ran.new.self) c.requires.some c.requires.going c.requires.paid (c.run-ran.ensures.shown ∙ ap (λ n. ran_on n m) c.run-ran.ensures.ran)
