use Rattle.std.proofs.Common.{◌∙◌, ◌-◌, sym, ap, arith}
use Rattle.std.specs.Option.{option_copied}
use Rattle.tenant_book.specs.Book.{after_free_up}
use Rattle.farm_core.specs.World.{view}
use Rattle.farm_core.proofs.CommandLemmas.{cancel_less, cancel_decided}
use Rattle.farm_core.proofs.farm.Farm.decide_cancel.Goals as goal

pub overflow_sub-left : goal.overflow_sub-left
overflow_sub-left g c =
    let given = sym (c.given_up.ensures c.in-Some.job.now c.line_of.ensures) ∙ c.in-Some-given_up.is in
    let less = cancel_less (view c.args.tenant c.args.self.now) c.args.seq c.in-Some.job.now c.in-Some-given_up.line c.account-account.result c.account-account.ensures.told (sym c.job.ensures ∙ ap option_copied c.in-Some.is) given in
    omega (arith, less.0, c.left.ensures)

pub free_up-requires : goal.free_up-requires
free_up-requires g c =
    let given = sym (c.given_up.ensures c.in-Some.job.now c.line_of.ensures) ∙ c.in-Some-given_up.is in
    let less = cancel_less (view c.args.tenant c.args.self.now) c.args.seq c.in-Some.job.now c.in-Some-given_up.line c.account-account.result c.account-account.ensures.told (sym c.job.ensures ∙ ap option_copied c.in-Some.is) given in
    omega (arith, less.1, c.left.ensures)

pub returns : goal.returns
returns g c =
    let given = sym (c.given_up.ensures c.in-Some.job.now c.line_of.ensures) ∙ c.in-Some-given_up.is in
    cancel_decided (view c.args.tenant c.args.self.now) c.args.seq c.in-Some.job.now c.in-Some-given_up.line c.account-account.result (record c.account-account.result { book = c.free_up.new.self }) c.account-account.ensures.told
    c.account-account.ensures.covered (sym c.has_room.ensures.exact ∙ c.if-not-has_room.false) (sym c.job.ensures ∙ ap option_copied c.in-Some.is) given (c.free_up.ensures ∙ ap (λ n. after_free_up (n - c.in-Some-given_up.line.left) c.account-account.result.book) c.left.ensures)
