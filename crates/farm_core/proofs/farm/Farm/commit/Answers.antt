use Rattle.std.proofs.Common.{◌≡◌, ◌++◌, List, length, refl, sym, ap, ◌∙◌, subst, arith}
use Rattle.std.specs.Vec.{vec_capacity}
use Rattle.job_table.specs.Table.{TableData}
use Rattle.farm_core.specs.declared.entry.Entry.{Entry}
use Rattle.farm_core.specs.declared.entry.Event.{Event}
use Rattle.farm_core.specs.declared.reply.Reply.{Reply}
use Rattle.farm_core.specs.World.{World, table_of, purses_in, view}
use Rattle.farm_core.specs.Farm.{IsFarm, IsReply, ArePassed, owed}
use Rattle.farm_core.specs.Decided.{IsDecided, Fits, IsMade}
use Rattle.farm_core.proofs.ViewLemmas.{moved}
use Rattle.farm_core.proofs.MoveLemmas.{account_in, moved_is, one_entry}
use Rattle.farm_core.proofs.FarmLemmas.{running_in, used_most}
use Rattle.farm_core.proofs.CommandLemmas.{full_reply, has_entry, fits, made_room, made_waits, made_written}
use Rattle.farm_core.proofs.farm.Farm.commit.Given.{Over}
use Rattle.farm_core.proofs.farm.Farm.commit.Goals.{After-write_down}
use Rattle.farm_core.proofs.farm.Farm.commit.Goals as goal

pub returns-in-Nothing-clause-follows : goal.returns-in-Nothing-clause-follows
returns-in-Nothing-clause-follows g c =
    (full_reply c.args.self.now c.args.tenant c.args.event c.in-Nothing.reply c.requires.known (subst (IsDecided (view c.args.tenant c.args.self.now) c.args.event) c.in-Nothing.is c.requires.decided)).0

pub returns-in-Nothing-clause-turns : goal.returns-in-Nothing-clause-turns
returns-in-Nothing-clause-turns g c =
    (full_reply c.args.self.now c.args.tenant c.args.event c.in-Nothing.reply c.requires.known (subst (IsDecided (view c.args.tenant c.args.self.now) c.args.event) c.in-Nothing.is c.requires.decided)).1

pub make-requires-clause-fits : goal.make-requires-clause-fits
make-requires-clause-fits g c κs within =
    subst (λ (x : World). Fits c.args.tenant c.args.effect x.rows) (sym c.self.view_is)
    (fits _ c.args.self.now c.args.tenant (vec_capacity c.self.inside.journal) c.args.event (subst (λ (x : World). IsFarm x (vec_capacity c.self.inside.journal)) c.self.view_is c.self.invariant.0) c.requires.known c.args.effect c.requires.decided (λ (answer : Reply) is. c.in_default.not-Nothing answer is))

pub make-requires-clause-few : goal.make-requires-clause-few
make-requires-clause-few g c κs within =
    let w : World = c.args.self.now in
    let t = c.args.tenant in
    let e : Event = c.args.event in
    let capacity = vec_capacity c.self.inside.journal in
    let farm : IsFarm w capacity = (subst (λ (x : World). IsFarm x (vec_capacity c.self.inside.journal)) c.self.view_is c.self.invariant.0) in
    let a = account_in w t capacity c.account-account.result farm c.requires.known c.account-account.ensures.exact in
    omega (arith, a.used, a.next, used_most w t capacity farm c.requires.known, (running_in w t capacity farm c.requires.known).few)

pub returns-in_default-make-clause-follows : goal.returns-in_default-make-clause-follows
returns-in_default-make-clause-follows g c =
    let w : World = c.args.self.now in
    let t = c.args.tenant in
    let e : Event = c.args.event in
    let capacity = vec_capacity c.self.inside.journal in
    let farm : IsFarm w capacity = (subst (λ (x : World). IsFarm x (vec_capacity c.self.inside.journal)) c.self.view_is c.self.invariant.0) in
    let v : TableData → List Entry → World = λ d es. record { config = c.self.inside.config; rows = d.rows; waiting = d.waiting; journal = es; books = c.self.inside.ledgers.books.items; numbers = c.self.inside.ledgers.numbers.items } in
    (ap (λ d. v d c.make.new.journal.items) c.in_default-make.ensures.kept ∙ ap (v c.self.inside.jobs) c.make.ensures.journal ∙ c.self.view_is, has_entry _ w t capacity e farm c.requires.known c.args.effect c.requires.decided (λ (answer : Reply) is. c.in_default.not-Nothing answer is))

pub write_down-requires-clause-room : goal.write_down-requires-clause-room
write_down-requires-clause-room g c =
    let w : World = c.args.self.now in
    let t = c.args.tenant in
    let e : Event = c.args.event in
    let capacity = vec_capacity c.self.inside.journal in
    let farm : IsFarm w capacity = (subst (λ (x : World). IsFarm x (vec_capacity c.self.inside.journal)) c.self.view_is c.self.invariant.0) in
    let room =
    made_room _ w t capacity e farm c.requires.known c.args.effect c.make.new.jobs c.account-account.result c.make.new.account c.in-Ok.reply (length w.journal) capacity (vec_capacity c.make.new.journal) c.requires.decided
    (subst (λ (d : TableData). IsMade c.args.tenant c.args.effect d c.account-account.result c.make.new.jobs c.make.new.account c.in-Ok.reply) (ap table_of c.self.view_is) c.in-Ok.ensures.made)
    (omega (arith, c.self.invariant.0.room, ap (λ (x : World). length x.journal) c.self.view_is, ap (λ (x : World). owed x.rows) c.self.view_is)) c.make.ensures.capacity
    (λ yes. omega (arith, c.in-Ok.ensures.room yes, ap (λ (x : World). length x.journal) c.self.view_is, ap (λ (x : World). length x.rows) c.self.view_is)) in
    omega (arith, room, ap (λ (es : List Entry). length es) c.make.ensures.journal, ap (λ (x : World). length x.journal) c.self.view_is)

wrote : (g : Over) (c : After-write_down g) →
    let v : World = record { config = c.self.inside.config; rows = c.make.new.jobs.rows; waiting = c.make.new.jobs.waiting; journal = c.write_down.new.journal.items; books = c.write_down.new.self.books.items; numbers = c.write_down.new.self.numbers.items } in
    IsFarm v (vec_capacity c.write_down.new.journal) × IsReply c.args.self.now c.args.tenant c.args.event c.in-Ok.reply v × ArePassed v c.passed_after-passed.result
wrote g c =
    let w : World = c.args.self.now in
    let t = c.args.tenant in
    let e : Event = c.args.event in
    let capacity = vec_capacity c.self.inside.journal in
    let farm : IsFarm w capacity = (subst (λ (x : World). IsFarm x (vec_capacity c.self.inside.journal)) c.self.view_is c.self.invariant.0) in
    let v : World = record { config = c.self.inside.config; rows = c.make.new.jobs.rows; waiting = c.make.new.jobs.waiting; journal = c.write_down.new.journal.items; books = c.write_down.new.self.books.items; numbers = c.write_down.new.self.numbers.items } in
    let is : v ≡ moved w t c.make.new.jobs c.make.new.account (one_entry t e) =
    moved_is w c.self.inside.config c.self.inside.jobs c.make.new.jobs c.self.inside.journal.items c.write_down.new.journal.items c.self.inside.ledgers.books.items c.write_down.new.self.books.items c.self.inside.ledgers.numbers.items c.write_down.new.self.numbers.items t c.purse_of-purse.result c.make.new.jobs c.make.new.account e
    c.self.view_is c.purse_of-purse.ensures.exact refl c.write_down.ensures.books c.write_down.ensures.numbers (c.write_down.ensures.journal ∙ ap (λ es. es ++ one_entry t e) c.make.ensures.journal) in
    let room =
    made_room _ w t capacity e farm c.requires.known c.args.effect c.make.new.jobs c.account-account.result c.make.new.account c.in-Ok.reply (length w.journal) capacity (vec_capacity c.make.new.journal) c.requires.decided
    (subst (λ (d : TableData). IsMade c.args.tenant c.args.effect d c.account-account.result c.make.new.jobs c.make.new.account c.in-Ok.reply) (ap table_of c.self.view_is) c.in-Ok.ensures.made)
    (omega (arith, c.self.invariant.0.room, ap (λ (x : World). length x.journal) c.self.view_is, ap (λ (x : World). owed x.rows) c.self.view_is)) c.make.ensures.capacity
    (λ yes. omega (arith, c.in-Ok.ensures.room yes, ap (λ (x : World). length x.journal) c.self.view_is, ap (λ (x : World). length x.rows) c.self.view_is)) in
    made_written _ w t capacity e farm c.requires.known c.args.effect v c.make.new.jobs c.account-account.result c.make.new.account c.in-Ok.reply (vec_capacity c.write_down.new.journal) c.passed_after-passed.result c.account-account.ensures.exact
    c.requires.planned c.requires.decided (subst (λ (d : TableData). IsMade c.args.tenant c.args.effect d c.account-account.result c.make.new.jobs c.make.new.account c.in-Ok.reply) (ap table_of c.self.view_is) c.in-Ok.ensures.made) is (omega (arith, room, c.write_down.ensures.capacity)) c.passed_after-passed.ensures.passed c.passed_after-passed.ensures.begins

pub invariant_of-self-2 : goal.invariant_of-self-2
invariant_of-self-2 g c = ((wrote g c).0, c.write_down.ensures.purses ∙ c.self.invariant.1, (wrote g c).2)

pub returns-clause-follows : goal.returns-clause-follows
returns-clause-follows g c = (wrote g c).1

pub returns-clause-turns : goal.returns-clause-turns
returns-clause-turns g c =
    let w : World = c.args.self.now in
    let t = c.args.tenant in
    let e : Event = c.args.event in
    let capacity = vec_capacity c.self.inside.journal in
    let farm : IsFarm w capacity = (subst (λ (x : World). IsFarm x (vec_capacity c.self.inside.journal)) c.self.view_is c.self.invariant.0) in
    let v : World = record { config = c.self.inside.config; rows = c.make.new.jobs.rows; waiting = c.make.new.jobs.waiting; journal = c.write_down.new.journal.items; books = c.write_down.new.self.books.items; numbers = c.write_down.new.self.numbers.items } in
    made_waits _ w t capacity e farm c.requires.known c.args.effect v c.account-account.result c.make.new.account c.in-Ok.reply c.requires.decided (subst (λ (d : TableData). IsMade c.args.tenant c.args.effect d c.account-account.result c.make.new.jobs c.make.new.account c.in-Ok.reply) (ap table_of c.self.view_is) c.in-Ok.ensures.made)

pub write_down-requires-clause-known : goal.write_down-requires-clause-known
write_down-requires-clause-known g c = omega (arith, c.requires.known, c.self.invariant.0.count, ap (λ (x : World). length x.config.tenants) c.self.view_is)

pub write_down-requires-clause-purse : goal.write_down-requires-clause-purse
write_down-requires-clause-purse g c = omega (arith, c.purse_of-purse.ensures.known, c.self.invariant.0.ledgers, ap (λ (x : World). purses_in x.config) c.self.view_is)
