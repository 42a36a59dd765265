use Rattle.std.proofs.Common.{◌≡◌, ◌≢◌, length, get_or, arith, sym, ap, ◌∙◌}
use Rattle.std.proofs.lemmas.List.{length-map, length-set}
use Rattle.farm_core.specs.Config.{purse_names}
use Rattle.farm_core.specs.Purses.{first_member, is_first, passing, purse_of, purses}
use Rattle.farm_core.specs.declared.config.TenantLine.{TenantLine}
use Rattle.farm_core.proofs.SharingLemmas.{is_eq, is_ne, joined, founded}
use Rattle.farm_core.proofs.PursesLemmas.{counts, fails, numbered_more}
use Rattle.farm_core.proofs.purses.Purses.of.Goals as goal
use Rattle.farm_core.proofs.purses.Purses.of.Goals.{then-first-tenant, else-first-tenant}

pub loop-tenant-preserved : goal.loop-tenant-preserved
loop-tenant-preserved c =
    let names = purse_names c.args.lines.now in
    let n = c.loop-tenant.tenant in
    let i = c.loop-tenant.invariant in
    let numbers = c.loop-tenant.numbers in
    let first = c.first_member-first.ensures.exact in
    elim c.if-first-tenant.branch [
      | then-first-tenant w ↦
          let other : first_member names n ≢ n = λ e. absurd (omega (arith, first, e, w.if-first-tenant.true)) in
          let same = ap length (fails (is_first names) n (is_ne (first_member names n) n other)) in
          let number : get_or numbers c.first_member-first.result 0 ≡ purse_of names n =
          i.done c.first_member-first.result (omega arith) ∙ ap (purse_of names) first ∙ sym (joined names n) in
          record {
            fit = ap length w.numbers-is ∙ length-set numbers n (get_or numbers c.first_member-first.result 0) ∙ i.fit;
            done = λ t l. ap (λ ns. get_or ns t 0) w.numbers-is ∙ numbered_more (purse_of names) numbers n (get_or numbers c.first_member-first.result 0) (omega arith) i.done number t l;
            exact = omega arith;
            most = omega arith;
          }
      | else-first-tenant w ↦
          let self : first_member names n ≡ n = omega arith in
          let more = counts (is_first names) n (is_eq (first_member names n) n self) in
          let number = i.exact ∙ sym (founded names n self) in
          record {
            fit = ap length w.numbers-is ∙ length-set numbers n c.loop-tenant.count ∙ i.fit;
            done = λ t l. ap (λ ns. get_or ns t 0) w.numbers-is ∙ numbered_more (purse_of names) numbers n c.loop-tenant.count (omega arith) i.done number t l;
            exact = omega arith;
            most = omega arith;
          }
    ]

pub returns : goal.returns
unfolding purses
returns c =
    let names = purse_names c.args.lines.now in
    let many = length-map c.args.lines.now (λ (line : TenantLine). line.purse) in
    let end : c.loop-tenant.tenant ≡ length names = omega arith in
    record {
      each = λ t l. c.loop-tenant.invariant.done t (omega arith);
      counted = c.loop-tenant.invariant.exact ∙ ap (λ n. length (passing (is_first names) n)) end;
    }
