use Rattle.std.proofs.Common.{◌≡◌, ◌+◌, ◌-◌, ◌<◌, ◌≤◌, Some, set, length, refl, sym, ap, ◌∙◌, subst, arith}
use Rattle.std.specs.Vec.{vec_capacity}
use Rattle.tenant_book.specs.Book.{BookData, after_spend, after_free_up}
use Rattle.job_table.specs.Table.{find_row, is_waiting}
use Rattle.job_table.specs.Job.{back, IsBack}
use Rattle.farm_core.proofs.FarmLemmas.{used_most}
use Rattle.farm_core.proofs.StepLemmas.{untold}
use Rattle.farm_core.proofs.ChangeLemmas.{own_job}
use Rattle.farm_core.proofs.GiveLemmas.{give_told}
use Rattle.farm_core.specs.declared.account.Account.{Account}
use Rattle.farm_core.specs.declared.entry.Event.TheVariants.{Give}
use Rattle.farm_core.specs.declared.reply.Reply.TheVariants as reply
use Rattle.farm_core.specs.Step.{Replied}
use Rattle.farm_core.specs.World.{World, table_of, view, Follows, purses_in}
use Rattle.farm_core.specs.Farm.{IsFarm, owed, ArePassed}
use Rattle.farm_core.specs.Turn.{IsTurn, IsGiven}
use Rattle.farm_core.proofs.ViewLemmas.{moved}
use Rattle.farm_core.proofs.MoveLemmas.{IsMove, account_in, moved_is, one_entry}
use Rattle.farm_core.proofs.PassedLemmas.{more_come, written_more}
use Rattle.farm_core.proofs.farm.Farm.give.Given.{Over}
use Rattle.farm_core.proofs.farm.Farm.give.Goals.{After-write_down}
use Rattle.farm_core.proofs.farm.Farm.give.Goals as goal

pub returns-in_default-clause-strange : goal.returns-in_default-clause-strange
returns-in_default-clause-strange g c job found own =
    let none = untold (view c.turn.inside.tenant c.args.self.now) c.turn.inside.seq (sym c.snapshot.ensures ∙ c.in_default.is) in
    let some = own_job c.args.self.now c.turn.inside.tenant c.turn.inside.seq job (subst (λ x. find_row x.tenant x.seq c.args.self.now.rows ≡ Some job) (sym c.turn.view_is) found) in
    absurd (cc)

pub overflow_add-account : goal.overflow_add-account
overflow_add-account g c =
    let a = account_in c.args.self.now c.turn.inside.tenant (vec_capacity c.self.inside.journal) c.account-account.result (subst (λ (x : World). IsFarm x (vec_capacity c.self.inside.journal)) c.self.view_is c.self.invariant.0) (subst (λ x. x.tenant < length c.args.self.now.config.tenants) (sym c.turn.view_is) c.requires.known) c.account-account.ensures.exact in
    omega (arith, a.used, used_most c.args.self.now c.turn.inside.tenant (vec_capacity c.self.inside.journal) (subst (λ (x : World). IsFarm x (vec_capacity c.self.inside.journal)) c.self.view_is c.self.invariant.0) (subst (λ x. x.tenant < length c.args.self.now.config.tenants) (sym c.turn.view_is) c.requires.known))

pub spend-requires : goal.spend-requires
spend-requires g c =
    let it = give_told c.args.self.now c.turn.inside.tenant c.turn.inside.seq c.turn.inside.slice c.turn.inside.ran (vec_capacity c.self.inside.journal) c.account-account.result (g.J.Strategy.meaning c.turn.inside.search) c.take_back.new.jobs c.in-Some.before c.line_after-line.result (subst (λ (x : World). IsFarm x (vec_capacity c.self.inside.journal)) c.self.view_is c.self.invariant.0) (subst (λ x. x.tenant < length c.args.self.now.config.tenants) (sym c.turn.view_is) c.requires.known) c.account-account.ensures.exact (subst (λ x. IsTurn x.slice x.ran (g.J.Strategy.meaning x.search)) (sym c.turn.view_is) c.requires.turn) (subst (λ (x : World). IsBack (table_of x) c.turn.inside.tenant c.turn.inside.seq c.turn.inside.slice c.turn.inside.ran (g.J.Strategy.meaning c.turn.inside.search) c.take_back.new.jobs) c.self.view_is c.in_default-take_back.ensures.back) (sym c.snapshot.ensures ∙ c.in-Some.is) c.line_after-line.ensures in
    it.spent

pub overflow_sub-before : goal.overflow_sub-before
overflow_sub-before g c =
    let it = give_told c.args.self.now c.turn.inside.tenant c.turn.inside.seq c.turn.inside.slice c.turn.inside.ran (vec_capacity c.self.inside.journal) c.account-account.result (g.J.Strategy.meaning c.turn.inside.search) c.take_back.new.jobs c.in-Some.before c.line_after-line.result (subst (λ (x : World). IsFarm x (vec_capacity c.self.inside.journal)) c.self.view_is c.self.invariant.0) (subst (λ x. x.tenant < length c.args.self.now.config.tenants) (sym c.turn.view_is) c.requires.known) c.account-account.ensures.exact (subst (λ x. IsTurn x.slice x.ran (g.J.Strategy.meaning x.search)) (sym c.turn.view_is) c.requires.turn) (subst (λ (x : World). IsBack (table_of x) c.turn.inside.tenant c.turn.inside.seq c.turn.inside.slice c.turn.inside.ran (g.J.Strategy.meaning c.turn.inside.search) c.take_back.new.jobs) c.self.view_is c.in_default-take_back.ensures.back) (sym c.snapshot.ensures ∙ c.in-Some.is) c.line_after-line.ensures in
    it.ran_most

pub overflow_sub-before-2 : goal.overflow_sub-before-2
overflow_sub-before-2 g c =
    let it = give_told c.args.self.now c.turn.inside.tenant c.turn.inside.seq c.turn.inside.slice c.turn.inside.ran (vec_capacity c.self.inside.journal) c.account-account.result (g.J.Strategy.meaning c.turn.inside.search) c.take_back.new.jobs c.in-Some.before c.line_after-line.result (subst (λ (x : World). IsFarm x (vec_capacity c.self.inside.journal)) c.self.view_is c.self.invariant.0) (subst (λ x. x.tenant < length c.args.self.now.config.tenants) (sym c.turn.view_is) c.requires.known) c.account-account.ensures.exact (subst (λ x. IsTurn x.slice x.ran (g.J.Strategy.meaning x.search)) (sym c.turn.view_is) c.requires.turn) (subst (λ (x : World). IsBack (table_of x) c.turn.inside.tenant c.turn.inside.seq c.turn.inside.slice c.turn.inside.ran (g.J.Strategy.meaning c.turn.inside.search) c.take_back.new.jobs) c.self.view_is c.in_default-take_back.ensures.back) (sym c.snapshot.ensures ∙ c.in-Some.is) c.line_after-line.ensures in
    it.left_most

pub free_up-requires : goal.free_up-requires
free_up-requires g c =
    let it = give_told c.args.self.now c.turn.inside.tenant c.turn.inside.seq c.turn.inside.slice c.turn.inside.ran (vec_capacity c.self.inside.journal) c.account-account.result (g.J.Strategy.meaning c.turn.inside.search) c.take_back.new.jobs c.in-Some.before c.line_after-line.result (subst (λ (x : World). IsFarm x (vec_capacity c.self.inside.journal)) c.self.view_is c.self.invariant.0) (subst (λ x. x.tenant < length c.args.self.now.config.tenants) (sym c.turn.view_is) c.requires.known) c.account-account.ensures.exact (subst (λ x. IsTurn x.slice x.ran (g.J.Strategy.meaning x.search)) (sym c.turn.view_is) c.requires.turn) (subst (λ (x : World). IsBack (table_of x) c.turn.inside.tenant c.turn.inside.seq c.turn.inside.slice c.turn.inside.ran (g.J.Strategy.meaning c.turn.inside.search) c.take_back.new.jobs) c.self.view_is c.in_default-take_back.ensures.back) (sym c.snapshot.ensures ∙ c.in-Some.is) c.line_after-line.ensures in
    omega (arith, it.freed, ap (λ (b : BookData). b.held) c.spend.ensures)

pub write_down-requires-clause-room : goal.write_down-requires-clause-room
write_down-requires-clause-room g c =
    let it = give_told c.args.self.now c.turn.inside.tenant c.turn.inside.seq c.turn.inside.slice c.turn.inside.ran (vec_capacity c.self.inside.journal) c.account-account.result (g.J.Strategy.meaning c.turn.inside.search) c.take_back.new.jobs c.in-Some.before c.line_after-line.result (subst (λ (x : World). IsFarm x (vec_capacity c.self.inside.journal)) c.self.view_is c.self.invariant.0) (subst (λ x. x.tenant < length c.args.self.now.config.tenants) (sym c.turn.view_is) c.requires.known) c.account-account.ensures.exact (subst (λ x. IsTurn x.slice x.ran (g.J.Strategy.meaning x.search)) (sym c.turn.view_is) c.requires.turn) (subst (λ (x : World). IsBack (table_of x) c.turn.inside.tenant c.turn.inside.seq c.turn.inside.slice c.turn.inside.ran (g.J.Strategy.meaning c.turn.inside.search) c.take_back.new.jobs) c.self.view_is c.in_default-take_back.ensures.back) (sym c.snapshot.ensures ∙ c.in-Some.is) c.line_after-line.ensures in
    omega (arith, it.room, c.self.invariant.0.room, ap (λ (x : World). length x.journal) c.self.view_is, ap (λ (x : World). length x.rows) c.self.view_is, ap (λ (x : World). owed x.rows) c.self.view_is)

moves : (g : Over) (c : After-write_down g) → IsMove c.args.self.now c.turn.inside.tenant c.take_back.new.jobs (record c.account-account.result { book = (after_free_up (c.in-Some.before.left - c.turn.inside.ran - c.line_after-line.result.left) (after_spend c.turn.inside.ran c.account-account.result.book)); used = c.account-account.result.used + 1 }) (Give c.turn.inside.seq c.turn.inside.ran) (Replied (reply.Ran c.turn.inside.ran c.line_after-line.result))
moves g c =
    let it = give_told c.args.self.now c.turn.inside.tenant c.turn.inside.seq c.turn.inside.slice c.turn.inside.ran (vec_capacity c.self.inside.journal) c.account-account.result (g.J.Strategy.meaning c.turn.inside.search) c.take_back.new.jobs c.in-Some.before c.line_after-line.result (subst (λ (x : World). IsFarm x (vec_capacity c.self.inside.journal)) c.self.view_is c.self.invariant.0) (subst (λ x. x.tenant < length c.args.self.now.config.tenants) (sym c.turn.view_is) c.requires.known) c.account-account.ensures.exact (subst (λ x. IsTurn x.slice x.ran (g.J.Strategy.meaning x.search)) (sym c.turn.view_is) c.requires.turn) (subst (λ (x : World). IsBack (table_of x) c.turn.inside.tenant c.turn.inside.seq c.turn.inside.slice c.turn.inside.ran (g.J.Strategy.meaning c.turn.inside.search) c.take_back.new.jobs) c.self.view_is c.in_default-take_back.ensures.back) (sym c.snapshot.ensures ∙ c.in-Some.is) c.line_after-line.ensures in
    it.moves

wrote : (g : Over) (c : After-write_down g) →
    let v : World = record { config = c.self.inside.config; rows = c.take_back.new.jobs.rows; waiting = c.take_back.new.jobs.waiting; journal = c.write_down.new.journal.items; books = c.write_down.new.self.books.items; numbers = c.write_down.new.self.numbers.items } in
    IsFarm v (vec_capacity c.write_down.new.journal) × Follows c.args.self.now c.turn.inside.tenant (Give c.turn.inside.seq c.turn.inside.ran) (Replied (reply.Ran c.turn.inside.ran c.line_after-line.result)) v × ArePassed v c.self.inside.passed
wrote g c =
    let w : World = c.args.self.now in
    let t = c.turn.inside.tenant in
    let account : Account = c.account-account.result in
    let then : Account = record account { book = (after_free_up (c.in-Some.before.left - c.turn.inside.ran - c.line_after-line.result.left) (after_spend c.turn.inside.ran c.account-account.result.book)); used = account.used + 1 } in
    let book_is : c.free_up.new.self ≡ (after_free_up (c.in-Some.before.left - c.turn.inside.ran - c.line_after-line.result.left) (after_spend c.turn.inside.ran c.account-account.result.book)) = c.free_up.ensures ∙ ap (after_free_up (c.in-Some.before.left - c.turn.inside.ran - c.line_after-line.result.left)) c.spend.ensures in
    let books_are : c.write_down.new.self.books.items ≡ set c.self.inside.ledgers.books.items c.purse_of-purse.result then.book = c.write_down.ensures.books ∙ ap (set c.self.inside.ledgers.books.items c.purse_of-purse.result) book_is in
    let farm : IsFarm w (vec_capacity c.self.inside.journal) = subst (λ (x : World). IsFarm x (vec_capacity c.self.inside.journal)) c.self.view_is c.self.invariant.0 in
    let v : World = record { config = c.self.inside.config; rows = c.take_back.new.jobs.rows; waiting = c.take_back.new.jobs.waiting; journal = c.write_down.new.journal.items; books = c.write_down.new.self.books.items; numbers = c.write_down.new.self.numbers.items } in
    let is : v ≡ moved w t (c.take_back.new.jobs) then (one_entry t (Give c.turn.inside.seq c.turn.inside.ran)) = moved_is w c.self.inside.config c.self.inside.jobs (c.take_back.new.jobs) c.self.inside.journal.items c.write_down.new.journal.items c.self.inside.ledgers.books.items c.write_down.new.self.books.items c.self.inside.ledgers.numbers.items c.write_down.new.self.numbers.items t c.purse_of-purse.result (c.take_back.new.jobs) then (Give c.turn.inside.seq c.turn.inside.ran)
    c.self.view_is c.purse_of-purse.ensures.exact (refl) books_are c.write_down.ensures.numbers (c.write_down.ensures.journal) in
    let room : length w.journal + 1 + owed c.take_back.new.jobs.rows ≤ vec_capacity c.write_down.new.journal = (let it = give_told c.args.self.now c.turn.inside.tenant c.turn.inside.seq c.turn.inside.slice c.turn.inside.ran (vec_capacity c.self.inside.journal) c.account-account.result (g.J.Strategy.meaning c.turn.inside.search) c.take_back.new.jobs c.in-Some.before c.line_after-line.result (subst (λ (x : World). IsFarm x (vec_capacity c.self.inside.journal)) c.self.view_is c.self.invariant.0) (subst (λ x. x.tenant < length c.args.self.now.config.tenants) (sym c.turn.view_is) c.requires.known) c.account-account.ensures.exact (subst (λ x. IsTurn x.slice x.ran (g.J.Strategy.meaning x.search)) (sym c.turn.view_is) c.requires.turn) (subst (λ (x : World). IsBack (table_of x) c.turn.inside.tenant c.turn.inside.seq c.turn.inside.slice c.turn.inside.ran (g.J.Strategy.meaning c.turn.inside.search) c.take_back.new.jobs) c.self.view_is c.in_default-take_back.ensures.back) (sym c.snapshot.ensures ∙ c.in-Some.is) c.line_after-line.ensures in omega (arith, it.room, c.self.invariant.0.room, c.write_down.ensures.capacity, ap (λ (x : World). length x.journal) c.self.view_is, ap (λ (x : World). length x.rows) c.self.view_is, ap (λ (x : World). owed x.rows) c.self.view_is)) in
    written_more w v t (c.take_back.new.jobs) then (Give c.turn.inside.seq c.turn.inside.ran) (Replied (reply.Ran c.turn.inside.ran c.line_after-line.result)) (vec_capacity c.self.inside.journal) (vec_capacity c.write_down.new.journal) c.self.inside.passed farm (moves g c) is room
    (let it = give_told c.args.self.now c.turn.inside.tenant c.turn.inside.seq c.turn.inside.slice c.turn.inside.ran (vec_capacity c.self.inside.journal) c.account-account.result (g.J.Strategy.meaning c.turn.inside.search) c.take_back.new.jobs c.in-Some.before c.line_after-line.result (subst (λ (x : World). IsFarm x (vec_capacity c.self.inside.journal)) c.self.view_is c.self.invariant.0) (subst (λ x. x.tenant < length c.args.self.now.config.tenants) (sym c.turn.view_is) c.requires.known) c.account-account.ensures.exact (subst (λ x. IsTurn x.slice x.ran (g.J.Strategy.meaning x.search)) (sym c.turn.view_is) c.requires.turn) (subst (λ (x : World). IsBack (table_of x) c.turn.inside.tenant c.turn.inside.seq c.turn.inside.slice c.turn.inside.ran (g.J.Strategy.meaning c.turn.inside.search) c.take_back.new.jobs) c.self.view_is c.in_default-take_back.ensures.back) (sym c.snapshot.ensures ∙ c.in-Some.is) c.line_after-line.ensures in more_come t c.turn.inside.seq (is_waiting (back c.turn.inside.ran it.job).phase) w.waiting c.take_back.new.jobs.waiting it.turns)
    (subst (λ (x : World). ArePassed x c.self.inside.passed) c.self.view_is c.self.invariant.2)

pub invariant_of-self-2 : goal.invariant_of-self-2
invariant_of-self-2 g c = ((wrote g c).0, c.write_down.ensures.purses ∙ c.self.invariant.1, (wrote g c).2)

pub returns-clause-given : goal.returns-clause-given
returns-clause-given g c =
    let it = give_told c.args.self.now c.turn.inside.tenant c.turn.inside.seq c.turn.inside.slice c.turn.inside.ran (vec_capacity c.self.inside.journal) c.account-account.result (g.J.Strategy.meaning c.turn.inside.search) c.take_back.new.jobs c.in-Some.before c.line_after-line.result (subst (λ (x : World). IsFarm x (vec_capacity c.self.inside.journal)) c.self.view_is c.self.invariant.0) (subst (λ x. x.tenant < length c.args.self.now.config.tenants) (sym c.turn.view_is) c.requires.known) c.account-account.ensures.exact (subst (λ x. IsTurn x.slice x.ran (g.J.Strategy.meaning x.search)) (sym c.turn.view_is) c.requires.turn) (subst (λ (x : World). IsBack (table_of x) c.turn.inside.tenant c.turn.inside.seq c.turn.inside.slice c.turn.inside.ran (g.J.Strategy.meaning c.turn.inside.search) c.take_back.new.jobs) c.self.view_is c.in_default-take_back.ensures.back) (sym c.snapshot.ensures ∙ c.in-Some.is) c.line_after-line.ensures in
    let v : World = record { config = c.self.inside.config; rows = c.take_back.new.jobs.rows; waiting = c.take_back.new.jobs.waiting; journal = c.write_down.new.journal.items; books = c.write_down.new.self.books.items; numbers = c.write_down.new.self.numbers.items } in
    subst (λ x. IsGiven c.args.self.now x.tenant x.seq x.slice x.ran (g.J.Strategy.meaning x.search) (reply.Ran c.turn.inside.ran c.line_after-line.result) v) c.turn.view_is
    (record { job = it.job; found = it.found; own = it.own; turns = it.turns; follows = (wrote g c).1 })

pub write_down-requires-clause-known : goal.write_down-requires-clause-known
write_down-requires-clause-known g c = omega (arith, (subst (λ x. x.tenant < length c.args.self.now.config.tenants) (sym c.turn.view_is) c.requires.known), c.self.invariant.0.count, ap (λ (x : World). length x.config.tenants) c.self.view_is)

pub write_down-requires-clause-purse : goal.write_down-requires-clause-purse
write_down-requires-clause-purse g c = omega (arith, c.purse_of-purse.ensures.known, c.self.invariant.0.ledgers, ap (λ (x : World). purses_in x.config) c.self.view_is)
