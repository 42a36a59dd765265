use Rattle.std.proofs.Common.{◌≡◌, arith, length, sym, ap, ◌∙◌}
use Rattle.std.proofs.lemmas.List.{length-map}
use Rattle.farm_core.specs.Config.{purse_names}
use Rattle.farm_core.specs.Purses.{purse_of}
use Rattle.farm_core.specs.declared.config.TenantLine.{TenantLine}
use Rattle.farm_core.proofs.PursesLemmas.{granted_below, granted_more, granted_as_before, granted_in_all, quanta_most}
use Rattle.farm_core.proofs.purses.granted_to.Goals as goal
use Rattle.farm_core.proofs.purses.granted_to.Goals.{then-number-purse, else-number-purse}

pub overflow_add-granted : goal.overflow_add-granted
overflow_add-granted c =
    let most = quanta_most c.args.lines.now c.loop-tenant.tenant c.index-lines-tenant.result c.requires.terms (omega arith) c.index-lines-tenant.is in
    omega arith

pub loop-tenant-preserved : goal.loop-tenant-preserved
loop-tenant-preserved c =
    let lines = c.args.lines.now in
    let t = c.loop-tenant.tenant in
    let many = length-map lines (λ (line : TenantLine). line.purse) in
    let number : c.number.result ≡ purse_of (purse_names lines) t = c.number.ensures ∙ c.requires.numbered.each t (omega arith) in
    elim c.if-number-purse.branch [
      | then-number-purse w ↦
          let own = sym number ∙ w.if-number-purse.true in
          let more = granted_more lines c.args.purse t c.index-lines-tenant.result (omega arith) c.index-lines-tenant.is own in
          let most = quanta_most lines t c.index-lines-tenant.result c.requires.terms (omega arith) c.index-lines-tenant.is in
          record { exact = omega arith; most = omega arith }
      | else-number-purse w ↦
          let same = granted_as_before lines c.args.purse t (λ e. w.if-number-purse.false (number ∙ e)) in
          record { exact = omega arith; most = omega arith }
    ]

pub returns : goal.returns
returns c =
    let end : c.loop-tenant.tenant ≡ length c.args.lines.now = omega arith in
    record { exact = c.loop-tenant.invariant.exact ∙ ap (granted_below c.args.lines.now c.args.purse) end ∙ sym (granted_in_all c.args.lines.now c.args.purse) }
