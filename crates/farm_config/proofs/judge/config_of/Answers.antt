use Rattle.std.proofs.Common.{rules, ◌≡◌, cond, Ok, Some, None, ap, sym, ◌∙◌}
use Rattle.farm_core.specs.Config.{ConfigData, is_config}
use Rattle.farm_config.specs.Config.{fault_before_purses, unless}
use Rattle.farm_config.proofs.ConfigLemmas.{lines_are, kept, refused}
use Rattle.farm_config.proofs.judge.config_of.Goals as goal

pub returns-in-Some : goal.returns-in-Some
returns-in-Some c =
    let config : ConfigData = c.args.draft.now in
    let before : unless (fault_before_purses config) config.tenants ≡ Ok c.in_ok-lines.lines.items = search rules in
    let lines = lines_are config c.in_ok-lines.lines.items before in
    let given : ConfigData = record { tenants = c.from.result; workers = c.draft.inside.workers; slice = c.draft.inside.slice } in
    let workers : given.workers ≡ config.workers = search rules in
    let slice : given.slice ≡ config.slice = search rules in
    let same : given ≡ config = rw (c.from.ensures, ← lines, workers, slice) in
    kept config c.in_ok-lines.lines.items c.in-Some.config before (sym c.in-Some.is ∙ c.new.ensures ∙ ap (λ given. cond (is_config given) (Some given) None) same)

pub returns-in-None : goal.returns-in-None
returns-in-None c =
    let config : ConfigData = c.args.draft.now in
    let before : unless (fault_before_purses config) config.tenants ≡ Ok c.in_ok-lines.lines.items = search rules in
    let lines = lines_are config c.in_ok-lines.lines.items before in
    let given : ConfigData = record { tenants = c.from.result; workers = c.draft.inside.workers; slice = c.draft.inside.slice } in
    let workers : given.workers ≡ config.workers = search rules in
    let slice : given.slice ≡ config.slice = search rules in
    let same : given ≡ config = rw (c.from.ensures, ← lines, workers, slice) in
    refused config c.in_ok-lines.lines.items before (sym c.in-None.is ∙ c.new.ensures ∙ ap (λ given. cond (is_config given) (Some given) None) same)
