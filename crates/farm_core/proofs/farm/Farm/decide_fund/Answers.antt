use Rattle.std.proofs.Common.{◌≡◌, ◌+◌, false, true, refl, sym, ap, ◌∙◌, arith}
use Rattle.std.specs.Option.{option_copied}
use Rattle.tenant_book.specs.Book.{BookData}
use Rattle.job_table.specs.Table.{is_out, is_ended}
use Rattle.job_table.specs.declared.phase.Phase.TheVariants.{Waiting}
use Rattle.farm_core.specs.declared.reply.Line.{Line}
use Rattle.farm_core.specs.Tenant.{book, free, line_of}
use Rattle.farm_core.specs.Step.{is_amount}
use Rattle.farm_core.specs.World.{view}
use Rattle.farm_core.proofs.StepLemmas.{fund_short}
use Rattle.farm_core.proofs.CommandLemmas.{fund_most, fund_decided}
use Rattle.farm_core.proofs.farm.Farm.decide_fund.Goals as goal

pub returns-in-Err : goal.returns-in-Err
unfolding book
returns-in-Err g c =
    let free_is : c.account-account.result.book.free ≡ free (view c.args.tenant c.args.self.now) = ap (λ (b : BookData). b.free) c.account-account.ensures.told.book in
    let here : is_out c.in-Some.job.now.phase ≡ false = ap is_out (sym c.phase.ensures) ∙ sym c.is_out.ensures ∙ c.if-is_out.false in
    let going : is_ended c.in-Some.job.now.phase ≡ false = ap is_ended (sym c.phase-2.ensures) ∙ sym c.is_ended.ensures ∙ c.if-is_ended.false in
    let amount : is_amount c.args.quanta ≡ true = sym c.is_amount.ensures ∙ c.if-not-is_amount.false in
    fund_short (view c.args.tenant c.args.self.now) c.args.seq c.args.quanta c.in-Err.short.0 c.in-Some.job.now (sym c.has_room.ensures.exact ∙ c.if-not-has_room.false) (sym c.job.ensures ∙ ap option_copied c.in-Some.is) here going amount
    (λ enough. let no = c.in-Err.ensures.enough.1 (omega (arith, enough, free_is)) in absurd (cc)) (c.in-Err.ensures.short ∙ free_is)

pub overflow_add-line : goal.overflow_add-line
overflow_add-line g c =
    omega (arith, c.left.ensures, fund_most (view c.args.tenant c.args.self.now) c.args.seq c.args.quanta c.in-Some.job.now c.account-account.result c.account-account.ensures.told c.account-account.ensures.covered c.has_room.ensures.limited (sym c.job.ensures ∙ ap option_copied c.in-Some.is) (c.in_default-hold.ensures.enough.0 refl))

pub returns : goal.returns
returns g c =
    let here : is_out c.in-Some.job.now.phase ≡ false = ap is_out (sym c.phase.ensures) ∙ sym c.is_out.ensures ∙ c.if-is_out.false in
    let going : is_ended c.in-Some.job.now.phase ≡ false = ap is_ended (sym c.phase-2.ensures) ∙ sym c.is_ended.ensures ∙ c.if-is_ended.false in
    let amount : is_amount c.args.quanta ≡ true = sym c.is_amount.ensures ∙ c.if-not-is_amount.false in
    fund_decided (view c.args.tenant c.args.self.now) c.args.seq c.args.quanta c.in-Some.job.now (record c.line_of.result { phase = Waiting; left = c.left.result + c.args.quanta }) c.account-account.result
    (record c.account-account.result { book = c.hold.new.self }) c.account-account.ensures.told c.account-account.ensures.covered (sym c.has_room.ensures.exact ∙ c.if-not-has_room.false) (sym c.job.ensures ∙ ap option_copied c.in-Some.is) here going amount (c.in_default-hold.ensures.enough.0 refl)
    (ap (λ (x : Line). let y : Line = record x { phase = Waiting; left = c.left.result + c.args.quanta } in y) c.line_of.ensures
    ∙ ap (λ n. let y : Line = record (line_of c.in-Some.job.now) { phase = Waiting; left = n + c.args.quanta } in y) c.left.ensures) c.in_default-hold.ensures.held
