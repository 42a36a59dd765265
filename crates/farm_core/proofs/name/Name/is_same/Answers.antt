use Rattle.std.proofs.Common.{◌≡◌}
use Rattle.std.proofs.lemmas.Bool.{ne_eqb}
use Rattle.farm_core.specs.Name.{tag_of}
use Rattle.farm_core.proofs.NameLemmas.{tags_differ}
use Rattle.farm_core.proofs.name.Name.is_same.Goals as goal

pub returns-else-self-other-clause-value : goal.returns-else-self-other-clause-value
returns-else-self-other-clause-value c =
    let one : c.self.inside.tag ≡ tag_of c.args.self.now = cc in
    let two : c.other.inside.tag ≡ tag_of c.args.other.now = cc in
    tags_differ c.args.self.now c.args.other.now c.self.inside.tag c.other.inside.tag one two (ne_eqb c.self.inside.tag c.other.inside.tag c.if-self-other.false)
