use Rattle.std.proofs.Common.{◌≡◌, ℕ, ◌+◌, ◌<◌, ◌++◌, List, length, refl, sym, ap, ◌∙◌, subst, arith}
use Rattle.std.proofs.lemmas.List.{set-get_or}
use Rattle.std.specs.Vec.{vec_capacity}
use Rattle.job_table.specs.Table.{TableData}
use Rattle.farm_core.specs.declared.account.Account.{Account}
use Rattle.farm_core.specs.declared.entry.Entry.{Entry}
use Rattle.farm_core.specs.declared.farm.effect.Effect.{Effect}
use Rattle.farm_core.specs.declared.farm.effect.Effect.TheVariants as effect
use Rattle.farm_core.specs.World.{World, account_of, no_book, purse_in, table_of}
use Rattle.farm_core.specs.Farm.{IsFarm, IsReply, ArePassed, owed}
use Rattle.farm_core.specs.Decided.{IsMade}
use Rattle.farm_core.proofs.ViewLemmas.{moved}
use Rattle.farm_core.proofs.MoveLemmas.{account_in, moved_is, one_entry}
use Rattle.farm_core.proofs.FarmLemmas.{used_most}
use Rattle.farm_core.proofs.CommandLemmas.{made_room, made_waits, made_written}
use Rattle.farm_core.proofs.farm.Farm.note.Given.{Over}
use Rattle.farm_core.proofs.farm.Farm.note.Goals.{After-note}
use Rattle.farm_core.proofs.farm.Farm.note.Goals as goal

pub note-requires-clause-few : goal.note-requires-clause-few
note-requires-clause-few g c =
    let t = c.args.tenant in
    let capacity = vec_capacity c.self.inside.journal in
    let before : World = record { config = c.self.inside.config; rows = c.self.inside.jobs.rows; waiting = c.self.inside.jobs.waiting; journal = c.self.inside.journal.items; books = c.self.inside.ledgers.books.items; numbers = c.self.inside.ledgers.numbers.items } in
    let known : t < length before.config.tenants = omega (arith, c.requires.known, ap (λ (x : World). length x.config.tenants) c.self.view_is) in
    let a = account_in before t capacity (account_of before t) c.self.invariant.0 known refl in
    omega (arith, a.used, used_most before t capacity c.self.invariant.0 known)

-- the account afterwards
then_of : World → ℕ → Account
then_of w t = record (account_of w t) { used = (account_of w t).used + 1 }

wrote : (g : Over) (c : After-note g) →
    let v : World = record { config = c.self.inside.config; rows = c.self.inside.jobs.rows; waiting = c.self.inside.jobs.waiting; journal = c.note.new.journal.items; books = c.note.new.self.books.items; numbers = c.note.new.self.numbers.items } in
    IsFarm v (vec_capacity c.note.new.journal) × IsReply c.args.self.now c.args.tenant c.args.event c.args.reply v × ArePassed v c.self.inside.passed
unfolding then_of
wrote g c =
    let w : World = c.args.self.now in
    let t = c.args.tenant in
    let e = c.args.event in
    let answer = c.args.reply in
    let capacity = vec_capacity c.self.inside.journal in
    let farm : IsFarm w capacity = (subst (λ (x : World). IsFarm x (vec_capacity c.self.inside.journal)) c.self.view_is c.self.invariant.0) in
    let before : World = record { config = c.self.inside.config; rows = c.self.inside.jobs.rows; waiting = c.self.inside.jobs.waiting; journal = c.self.inside.journal.items; books = c.self.inside.ledgers.books.items; numbers = c.self.inside.ledgers.numbers.items } in
    let v : World = record { config = c.self.inside.config; rows = c.self.inside.jobs.rows; waiting = c.self.inside.jobs.waiting; journal = c.note.new.journal.items; books = c.note.new.self.books.items; numbers = c.note.new.self.numbers.items } in
    let then : Account = then_of before t in
    let f : Effect ℕ = effect.Notes answer in
    let made : IsMade t f (table_of w) (account_of w t) (table_of v) then answer = (ap table_of c.self.view_is, ap (λ (x : World). then_of x t) c.self.view_is, refl) in
    let is : v ≡ moved w t (table_of v) then (one_entry t e) =
    moved_is w c.self.inside.config c.self.inside.jobs c.self.inside.jobs c.self.inside.journal.items c.note.new.journal.items c.self.inside.ledgers.books.items c.note.new.self.books.items c.self.inside.ledgers.numbers.items c.note.new.self.numbers.items t (purse_in c.self.inside.config t) (table_of v) then e
    c.self.view_is (ap (λ (x : World). purse_in x.config t) c.self.view_is) refl (c.note.ensures.books ∙ sym (set-get_or c.self.inside.ledgers.books.items (purse_in c.self.inside.config t) no_book)) c.note.ensures.numbers
    (c.note.ensures.journal ∙ ap (λ es. es ++ one_entry t e) c.keep_room.ensures.kept) in
    let room =
    made_room ℕ w t capacity e farm c.requires.known f (table_of v) (account_of w t) then answer (length w.journal) capacity (vec_capacity c.keep_room.new.journal) c.requires.decided made
    (omega (arith, c.self.invariant.0.room, ap (λ (x : World). length x.journal) c.self.view_is, ap (λ (x : World). owed x.rows) c.self.view_is)) c.keep_room.ensures.capacity
    (λ yes. omega (arith, c.in-Ok.ensures.room, c.len.ensures, ap (λ (x : World). length x.journal) c.self.view_is, ap (λ (x : World). length x.rows) c.self.view_is)) in
    made_written ℕ w t capacity e farm c.requires.known f v (table_of v) (account_of w t) then answer (vec_capacity c.note.new.journal) c.self.inside.passed refl
    c.requires.planned c.requires.decided made is (omega (arith, room, c.note.ensures.capacity)) (subst (λ (x : World). ArePassed x c.self.inside.passed) c.self.view_is c.self.invariant.2) (λ yes no. absurd (cc))

pub invariant_of-self-2 : goal.invariant_of-self-2
invariant_of-self-2 g c = ((wrote g c).0, c.note.ensures.purses ∙ c.self.invariant.1, (wrote g c).2)

pub returns-clause-follows : goal.returns-clause-follows
returns-clause-follows g c = (wrote g c).1

pub returns-clause-turns : goal.returns-clause-turns
unfolding then_of
returns-clause-turns g c =
    let w : World = c.args.self.now in
    let t = c.args.tenant in
    let e = c.args.event in
    let capacity = vec_capacity c.self.inside.journal in
    let farm : IsFarm w capacity = (subst (λ (x : World). IsFarm x (vec_capacity c.self.inside.journal)) c.self.view_is c.self.invariant.0) in
    let before : World = record { config = c.self.inside.config; rows = c.self.inside.jobs.rows; waiting = c.self.inside.jobs.waiting; journal = c.self.inside.journal.items; books = c.self.inside.ledgers.books.items; numbers = c.self.inside.ledgers.numbers.items } in
    let v : World = record { config = c.self.inside.config; rows = c.self.inside.jobs.rows; waiting = c.self.inside.jobs.waiting; journal = c.note.new.journal.items; books = c.note.new.self.books.items; numbers = c.note.new.self.numbers.items } in
    let f : Effect ℕ = effect.Notes c.args.reply in
    made_waits ℕ w t capacity e farm c.requires.known f v (account_of w t) (then_of before t) c.args.reply c.requires.decided (ap table_of c.self.view_is, ap (λ (x : World). then_of x t) c.self.view_is, refl)
