use Rattle.std.proofs.Common.{◌≡◌, ap, ◌∙◌}
use Rattle.quanta_till.specs.Lease.{after_use}
use Rattle.strategy.specs.Search.{ran_on}
use Rattle.paid_search.proofs.PaidLemmas.{one_within}
use Rattle.paid_search.proofs.paid.PaidStrategy.advance.Goals as goal

pub returns-clause-shown : goal.returns-clause-shown
returns-clause-shown g c =
    let one : c.run-ran.result ≡ 1 = c.run-ran.ensures.ran ∙ one_within c.args.self.now.0 c.requires.going c.requires.paid in
    c.run-ran.ensures.shown ∙ ap (λ n. ran_on n c.args.self.now.0) one

pub returns-clause-used : goal.returns-clause-used
returns-clause-used g c =
    let one : c.run-ran.result ≡ 1 = c.run-ran.ensures.ran ∙ one_within c.args.self.now.0 c.requires.going c.requires.paid in
    c.run-ran.ensures.used ∙ ap (λ n. after_use c.args.self.now.1 n) one
