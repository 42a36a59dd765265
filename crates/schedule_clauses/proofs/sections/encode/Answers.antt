use Rattle.std.proofs.Common.{rules, ◌≡◌, subst}
use Rattle.price_search.specs.Barring.{IsBarring}
use Rattle.schedule_clauses.proofs.sections.encode.Goals as goal

pub barred_section-requires-clause-barring : goal.barred_section-requires-clause-barring
barred_section-requires-clause-barring c =
    let same : c.args.project.now ≡ c.end_section-8.new.self.project = search rules in
    subst (λ p. IsBarring p c.args.bound c.args.barring.now) same c.requires
