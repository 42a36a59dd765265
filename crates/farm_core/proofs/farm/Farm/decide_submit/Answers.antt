use Rattle.std.proofs.Common.{◌≡◌, refl, sym, ap, ◌∙◌, arith}
use Rattle.tenant_book.specs.Book.{BookData}
use Rattle.farm_core.specs.Tenant.{book, free}
use Rattle.farm_core.specs.World.{view}
use Rattle.farm_core.proofs.StepLemmas.{submit_short}
use Rattle.farm_core.proofs.CommandLemmas.{submit_decided}
use Rattle.farm_core.proofs.farm.Farm.decide_submit.Goals as goal

pub returns-in-Err : goal.returns-in-Err
unfolding book
returns-in-Err g c =
    let free_is : c.account-account.result.book.free ≡ free (view c.args.tenant c.args.self.now) = ap (λ (b : BookData). b.free) c.account-account.ensures.told.book in
    submit_short (view c.args.tenant c.args.self.now) c.args.plan c.args.quanta c.in-Err.short.0 c.requires.room (sym c.is_amount.ensures ∙ c.if-not-is_amount.false) (sym c.may_keep_more.ensures ∙ c.if-not-may_keep_more.false)
    (λ enough. let no = c.in-Err.ensures.enough.1 (omega (arith, enough, free_is)) in absurd (cc)) (c.in-Err.ensures.short ∙ free_is)

pub returns : goal.returns
returns g c =
    submit_decided (view c.args.tenant c.args.self.now) c.args.plan c.args.quanta c.in_ok-job.job c.account-account.result (record c.account-account.result { book = c.hold.new.self }) c.account-account.ensures.told
    c.account-account.ensures.covered c.requires.room (sym c.is_amount.ensures ∙ c.if-not-is_amount.false) (sym c.may_keep_more.ensures ∙ c.if-not-may_keep_more.false) (c.in_default.ensures.enough.0 refl) c.in_ok-job.ensures c.in_default.ensures.held
