use Rattle.std.proofs.Common.{◌≡◌, ◌&&◌, ◌+◌, ◌≤◌, ◌++◌, length, refl, sym, ap, ◌∙◌, subst, arith}
use Rattle.std.specs.Vec.{vec_capacity}
use Rattle.std.proofs.lemmas.Bool.{and_parts}
use Rattle.strategy.specs.Search.{Meaning}
use Rattle.job_table.specs.Table.{is_waiting}
use Rattle.job_table.specs.Job.{gone_out, IsSent}
use Rattle.farm_core.specs.Tenant.{line_of}
use Rattle.farm_core.proofs.GiveLemmas.{IsGoing, take_moves, take_ready, take_refused}
use Rattle.farm_core.proofs.TurnLemmas.{turn_fresh}
use Rattle.farm_core.specs.declared.account.Account.{Account}
use Rattle.farm_core.specs.declared.entry.Event.TheVariants.{Take}
use Rattle.farm_core.specs.Step.{Sent, is_slice, has_room}
use Rattle.farm_core.specs.World.{World, table_of, view, Follows, purses_in}
use Rattle.farm_core.specs.Farm.{IsFarm, owed, ArePassed}
use Rattle.farm_core.proofs.ViewLemmas.{moved}
use Rattle.farm_core.proofs.MoveLemmas.{IsMove, account_in, moved_is, one_entry}
use Rattle.farm_core.proofs.PassedLemmas.{written_less}
use Rattle.farm_core.proofs.farm.Farm.take.Given.{Over}
use Rattle.farm_core.proofs.farm.Farm.take.Goals.{After-write_down}
use Rattle.farm_core.proofs.farm.Farm.take.Goals as goal

it : (g : Over) (c : After-write_down g) → IsGoing c.args.self.now c.args.tenant c.args.seq c.args.slice c.account-account.result (g.J.Strategy.meaning c.in-Some-send.search) c.send.new.jobs
it g c =
    let sent = subst (λ (x : World). IsSent (table_of x) c.args.tenant c.args.seq c.args.slice (g.J.Strategy.meaning c.in-Some-send.search) c.send.new.jobs) c.self.view_is c.in-Some-send.ensures.sent in
    take_moves c.args.self.now c.args.tenant c.args.seq c.args.slice (vec_capacity c.self.inside.journal) c.account-account.result c.in-Some.line (g.J.Strategy.meaning c.in-Some-send.search) c.send.new.jobs (subst (λ (x : World). IsFarm x (vec_capacity c.self.inside.journal)) c.self.view_is c.self.invariant.0) c.requires c.account-account.ensures.exact
    (sym c.snapshot.ensures ∙ c.in-Some.is) (sym c.may_take.ensures.exact ∙ c.if-not-may_take.false) sent

moves : (g : Over) (c : After-write_down g) → IsMove c.args.self.now c.args.tenant c.send.new.jobs (record c.account-account.result { book = c.account-account.result.book; used = c.account-account.result.used + 1 }) (Take c.args.seq c.args.slice) (Sent (line_of (gone_out c.args.slice (it g c).job)))
moves g c = (it g c).moves

wrote : (g : Over) (c : After-write_down g) →
    let v : World = record { config = c.self.inside.config; rows = c.send.new.jobs.rows; waiting = c.send.new.jobs.waiting; journal = c.write_down.new.journal.items; books = c.write_down.new.self.books.items; numbers = c.write_down.new.self.numbers.items } in
    IsFarm v (vec_capacity c.write_down.new.journal) × Follows c.args.self.now c.args.tenant (Take c.args.seq c.args.slice) (Sent (line_of (gone_out c.args.slice (it g c).job))) v × ArePassed v c.self.inside.passed
wrote g c =
    let w : World = c.args.self.now in
    let t = c.args.tenant in
    let account : Account = c.account-account.result in
    let then : Account = record account { book = account.book; used = account.used + 1 } in
    let farm : IsFarm w (vec_capacity c.self.inside.journal) = subst (λ (x : World). IsFarm x (vec_capacity c.self.inside.journal)) c.self.view_is c.self.invariant.0 in
    let v : World = record { config = c.self.inside.config; rows = c.send.new.jobs.rows; waiting = c.send.new.jobs.waiting; journal = c.write_down.new.journal.items; books = c.write_down.new.self.books.items; numbers = c.write_down.new.self.numbers.items } in
    let is : v ≡ moved w t (c.send.new.jobs) then (one_entry t (Take c.args.seq c.args.slice)) = moved_is w c.self.inside.config c.self.inside.jobs (c.send.new.jobs) c.self.inside.journal.items c.write_down.new.journal.items c.self.inside.ledgers.books.items c.write_down.new.self.books.items c.self.inside.ledgers.numbers.items c.write_down.new.self.numbers.items t c.purse_of-purse.result (c.send.new.jobs) then (Take c.args.seq c.args.slice)
    c.self.view_is c.purse_of-purse.ensures.exact (refl) c.write_down.ensures.books c.write_down.ensures.numbers (c.write_down.ensures.journal ∙ ap (λ es. es ++ one_entry t (Take c.args.seq c.args.slice)) c.keep_room.ensures.kept) in
    let room : length w.journal + 1 + owed c.send.new.jobs.rows ≤ vec_capacity c.write_down.new.journal = omega (arith, (it g c).room, c.in-Ok.ensures.room, c.write_down.ensures.capacity, c.len.ensures, ap (λ (x : World). length x.journal) c.self.view_is, ap (λ (x : World). length x.rows) c.self.view_is) in
    written_less w v t (c.send.new.jobs) then (Take c.args.seq c.args.slice) (Sent (line_of (gone_out c.args.slice (it g c).job))) (vec_capacity c.self.inside.journal) (vec_capacity c.write_down.new.journal) c.self.inside.passed farm (moves g c) is room
    (λ none. let room = (and_parts (is_waiting c.in-Some.line.phase && is_slice c.args.slice) (has_room 2 (view t w)) (sym c.may_take.ensures.exact ∙ c.if-not-may_take.false)).1 in absurd (cc))
    (subst (λ (x : World). ArePassed x c.self.inside.passed) c.self.view_is c.self.invariant.2)

pub invariant_of-self-2 : goal.invariant_of-self-2
invariant_of-self-2 g c = ((wrote g c).0, c.write_down.ensures.purses ∙ c.self.invariant.1, (wrote g c).2)

pub returns-clause-taken : goal.returns-clause-taken
returns-clause-taken g c =
    let going = it g c in
    record { job = going.job; found = going.found; search = going.search; turns = going.turns; follows = (wrote g c).1 }

pub returns-clause-turn : goal.returns-clause-turn
returns-clause-turn g c = turn_fresh c.args.slice (g.J.Strategy.meaning c.in-Some-send.search) (ap (λ (m : Meaning). m.taken) (it g c).search)

pub overflow_add-account : goal.overflow_add-account
overflow_add-account g c =
    let it = account_in c.args.self.now c.args.tenant (vec_capacity c.self.inside.journal) c.account-account.result (subst (λ (x : World). IsFarm x (vec_capacity c.self.inside.journal)) c.self.view_is c.self.invariant.0) c.requires c.account-account.ensures.exact in
    omega (arith, it.used, c.may_take.ensures.few c.if-not-may_take.false)

pub returns-then-not-may_take-clause-refused : goal.returns-then-not-may_take-clause-refused
returns-then-not-may_take-clause-refused g c =
    take_refused c.args.self.now c.args.tenant c.args.seq c.args.slice c.in-Some.line c.requires (sym c.snapshot.ensures ∙ c.in-Some.is) (sym c.may_take.ensures.exact ∙ c.if-not-may_take.true)

pub returns-in_default-keep_room-clause-ready : goal.returns-in_default-keep_room-clause-ready
returns-in_default-keep_room-clause-ready g c =
    λ _. take_ready c.args.self.now c.args.tenant c.args.seq c.args.slice c.in-Some.line c.requires (sym c.snapshot.ensures ∙ c.in-Some.is) (sym c.may_take.ensures.exact ∙ c.if-not-may_take.false)

pub returns-in_default-send-clause-ready : goal.returns-in_default-send-clause-ready
returns-in_default-send-clause-ready g c =
    λ _. take_ready c.args.self.now c.args.tenant c.args.seq c.args.slice c.in-Some.line c.requires (sym c.snapshot.ensures ∙ c.in-Some.is) (sym c.may_take.ensures.exact ∙ c.if-not-may_take.false)

pub write_down-requires-clause-known : goal.write_down-requires-clause-known
write_down-requires-clause-known g c = omega (arith, c.requires, c.self.invariant.0.count, ap (λ (x : World). length x.config.tenants) c.self.view_is)

pub write_down-requires-clause-purse : goal.write_down-requires-clause-purse
write_down-requires-clause-purse g c = omega (arith, c.purse_of-purse.ensures.known, c.self.invariant.0.ledgers, ap (λ (x : World). purses_in x.config) c.self.view_is)
