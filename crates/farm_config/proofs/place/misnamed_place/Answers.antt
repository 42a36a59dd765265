use Rattle.std.proofs.Common.{rules, ◌≡◌, List, Ok, Some, sym, ap, refl, ◌∙◌}
use Rattle.std.specs.List.{slice_get}
use Rattle.serde_json.specs.Read.{read}
use Rattle.serde_json.specs.View.{view}
use Rattle.farm_core.specs.Config.{ConfigData}
use Rattle.farm_core.specs.declared.config.TenantLine.{TenantLine}
use Rattle.farm_config.specs.Config.{written, shaped}
use Rattle.farm_config.specs.Place.{part_to_blame, to_blame}
use Rattle.farm_config.proofs.BlameLemmas.{stands_at, blamed}
use Rattle.farm_config.proofs.place.misnamed_place.Goals as goal

pub returns-in-Some : goal.returns-in-Some
returns-in-Some c =
    let config : ConfigData = c.in-Ok-draft_of.draft in
    let line : TenantLine = c.in-Some.line.now in
    let text : read c.args.bytes.now ≡ Some (view c.in-Ok.value) = search rules in
    let shape : shaped (written (view c.in-Ok.value)) ≡ Ok config = search rules in
    let found = c.in-Some.ensures.lookup in
    let tenants : c.deref.result.now ≡ config.tenants = c.deref.ensures.value ∙ ap (λ (draft : ConfigData). draft.tenants) c.draft.view_is in
    let at : slice_get config.tenants c.args.index ≡ Some line =
    ap (λ (lines : List TenantLine). slice_get lines c.args.index) (sym tenants) ∙ stands_at c.deref.result.now c.args.index line found.3.0 found.1 in
    let blame : to_blame c.args.bytes.now c.args.index ≡ Some (part_to_blame line) = blamed c.args.bytes.now c.args.index (view c.in-Ok.value) config line text shape at in
    (c.part_to_blame.result, blame ∙ ap Some (sym c.part_to_blame.ensures), refl)
