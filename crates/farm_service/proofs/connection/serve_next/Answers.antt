use Rattle.std.specs.Prelude.{is_ok}
use Rattle.std.specs.Vec.{vec_capacity}
use Rattle.std.proofs.Common.{◌≡◌, ◌<◌, ◌≤◌, Bool, not, ◌&&◌, ◌∙◌, All, arith, length, map, ap, sym, subst}
use Rattle.farm_core.specs.Tills.{opening_of}
use Rattle.farm_session.proofs.TillLemmas.{tills_kept_in}
use Rattle.farm_service.specs.Session.{stand}
use Rattle.farm_service.proofs.BatchLemmas.{all_known, few_read, read_all, as_many, round_served, round_fails, round_ends, round_goes}
use Rattle.farm_service.proofs.connection.serve_next.Goals as goal

pub ask_all-requires-clause-known : goal.ask_all-requires-clause-known
ask_all-requires-clause-known g c =
    let read = read_all c.args.service.now.shop.config.now 16 c.args.io.now.batch.queries.items c.gather-last.new.batch.queries.items c.args.io.now.batch.names.items c.gather-last.new.batch.names.items c.gather-last.result
    (g.I.Read.remaining c.args.reader.now) (g.I.Read.remaining c.gather-last.new.reader) c.args.io.now.reads c.gather-last.new.watch c.requires.empty.queries c.requires.empty.names c.gather-last.ensures.read in
    subst (λ config. All (λ query. query.tenant < length config.tenants) c.as_slice-queries.result.now) (sym c.requires.config)
    (subst (All (λ query. query.tenant < length c.args.service.now.shop.config.now.tenants)) (sym c.as_slice-queries.ensures.value)
    (all_known c.args.service.now.shop.config.now 16 c.gather-last.new.batch.queries.items c.gather-last.new.batch.names.items c.gather-last.result (g.I.Read.remaining c.args.reader.now) (g.I.Read.remaining c.gather-last.new.reader) c.args.io.now.reads c.gather-last.new.watch read))

pub ask_all-requires-clause-room : goal.ask_all-requires-clause-room
ask_all-requires-clause-room g c =
    let read = read_all c.args.service.now.shop.config.now 16 c.args.io.now.batch.queries.items c.gather-last.new.batch.queries.items c.args.io.now.batch.names.items c.gather-last.new.batch.names.items c.gather-last.result
    (g.I.Read.remaining c.args.reader.now) (g.I.Read.remaining c.gather-last.new.reader) c.args.io.now.reads c.gather-last.new.watch c.requires.empty.queries c.requires.empty.names c.gather-last.ensures.read in
    let few = few_read c.args.service.now.shop.config.now 16 c.gather-last.new.batch.queries.items c.gather-last.new.batch.names.items c.gather-last.result (g.I.Read.remaining c.args.reader.now) (g.I.Read.remaining c.gather-last.new.reader) c.args.io.now.reads c.gather-last.new.watch read in
    omega (arith, few.0, ap length c.as_slice-queries.ensures.value, c.requires.empty.room.2, ap (λ v. vec_capacity v) c.gather-last.ensures.replies)

pub tell_all-requires : goal.tell_all-requires
tell_all-requires g c =
    let read = read_all c.args.service.now.shop.config.now 16 c.args.io.now.batch.queries.items c.gather-last.new.batch.queries.items c.args.io.now.batch.names.items c.gather-last.new.batch.names.items c.gather-last.result
    (g.I.Read.remaining c.args.reader.now) (g.I.Read.remaining c.gather-last.new.reader) c.args.io.now.reads c.gather-last.new.watch c.requires.empty.queries c.requires.empty.names c.gather-last.ensures.read in
    as_many (g.D.Shared.tells c.args.service.now.shared.now) c.args.token.now c.ask_all.new.token c.args.service.now.shop.config.now 16
    c.as_slice-queries.result.now c.gather-last.new.batch.queries.items c.gather-last.new.batch.names.items c.turn.new.self.names.items c.ask_all.new.replies.items c.turn.new.self.replies.items
    c.gather-last.result (g.I.Read.remaining c.args.reader.now) (g.I.Read.remaining c.gather-last.new.reader) c.args.io.now.reads c.gather-last.new.watch read c.as_slice-queries.ensures.value c.ask_all.ensures.told c.turn.ensures.names c.turn.ensures.replies

pub returns-then-not-tell_all-clause-served : goal.returns-then-not-tell_all-clause-served
returns-then-not-tell_all-clause-served g c =
    let read = read_all c.args.service.now.shop.config.now 16 c.args.io.now.batch.queries.items c.gather-last.new.batch.queries.items c.args.io.now.batch.names.items c.gather-last.new.batch.names.items c.gather-last.result
    (g.I.Read.remaining c.args.reader.now) (g.I.Read.remaining c.gather-last.new.reader) c.args.io.now.reads c.gather-last.new.watch c.requires.empty.queries c.requires.empty.names c.gather-last.ensures.read in
    let after = round_served c.args.service.now.shop.config.now (g.D.Shared.tells c.args.service.now.shared.now) (goal.M-post g c.args.service.now.shop.make.now) c.args.till_desks.now c.args.token.now c.ask_all.new.token
    (g.I.Read.remaining c.args.reader.now) (g.I.Read.remaining c.gather-last.new.reader) (g.O.Write.contents c.args.writer.now) (g.O.Write.contents c.tell_all.new.writer)
    c.args.io.now.reads c.gather-last.new.watch c.args.io.now.writes c.tell_all.new.watch
    c.as_slice-queries.result.now c.gather-last.new.batch.queries.items c.gather-last.new.batch.names.items c.turn.new.self.names.items c.ask_all.new.replies.items c.turn.new.self.replies.items
    c.gather-last.result c.tell_all.result read c.as_slice-queries.ensures.value c.ask_all.ensures.told c.turn.ensures.names c.turn.ensures.replies c.tell_all.ensures.told in
    round_fails c.args.service.now.shop.config.now (g.D.Shared.tells c.args.service.now.shared.now) (goal.M-post g c.args.service.now.shop.make.now) c.args.till_desks.now (stand c.args.token.now c.args.till_desks.now (g.I.Read.remaining c.args.reader.now) (g.O.Write.contents c.args.writer.now) c.args.io.now.reads c.args.io.now.writes)
    c.gather-last.result c.tell_all.result c.ask_all.new.token (g.I.Read.remaining c.gather-last.new.reader) (g.O.Write.contents c.tell_all.new.writer) c.gather-last.new.watch c.tell_all.new.watch c.if-not-tell_all.true after

pub returns-in_default-clause-served : goal.returns-in_default-clause-served
returns-in_default-clause-served g c =
    let read = read_all c.args.service.now.shop.config.now 16 c.args.io.now.batch.queries.items c.gather-last.new.batch.queries.items c.args.io.now.batch.names.items c.gather-last.new.batch.names.items c.gather-last.result
    (g.I.Read.remaining c.args.reader.now) (g.I.Read.remaining c.gather-last.new.reader) c.args.io.now.reads c.gather-last.new.watch c.requires.empty.queries c.requires.empty.names c.gather-last.ensures.read in
    let after = round_served c.args.service.now.shop.config.now (g.D.Shared.tells c.args.service.now.shared.now) (goal.M-post g c.args.service.now.shop.make.now) c.args.till_desks.now c.args.token.now c.ask_all.new.token
    (g.I.Read.remaining c.args.reader.now) (g.I.Read.remaining c.gather-last.new.reader) (g.O.Write.contents c.args.writer.now) (g.O.Write.contents c.tell_all.new.writer)
    c.args.io.now.reads c.gather-last.new.watch c.args.io.now.writes c.tell_all.new.watch
    c.as_slice-queries.result.now c.gather-last.new.batch.queries.items c.gather-last.new.batch.names.items c.turn.new.self.names.items c.ask_all.new.replies.items c.turn.new.self.replies.items
    c.gather-last.result c.tell_all.result read c.as_slice-queries.ensures.value c.ask_all.ensures.told c.turn.ensures.names c.turn.ensures.replies c.tell_all.ensures.told in
    round_ends c.args.service.now.shop.config.now (g.D.Shared.tells c.args.service.now.shared.now) (goal.M-post g c.args.service.now.shop.make.now) c.args.till_desks.now (stand c.args.token.now c.args.till_desks.now (g.I.Read.remaining c.args.reader.now) (g.O.Write.contents c.args.writer.now) c.args.io.now.reads c.args.io.now.writes)
    c.gather-last.result c.tell_all.result c.ask_all.new.token (g.I.Read.remaining c.gather-last.new.reader) (g.O.Write.contents c.tell_all.new.writer) c.gather-last.new.watch c.tell_all.new.watch c.if-not-tell_all.false c.in_default.not-Some after

pub returns-in_default-clause-empty : goal.returns-in_default-clause-empty
returns-in_default-clause-empty g c =
    λ _. record {
      queries = ap (λ v. v.items) c.tell_all.ensures.queries ∙ c.turn.ensures.queries;
      names = (c.tell_all.ensures.left c.if-not-tell_all.false).0;
      replies = (c.tell_all.ensures.left c.if-not-tell_all.false).1;
      room = (
        omega (arith, c.requires.empty.room.0, c.gather-last.ensures.room.0, c.turn.ensures.room.0, ap (λ v. vec_capacity v) c.tell_all.ensures.queries),
        omega (arith, c.requires.empty.room.1, c.gather-last.ensures.room.1, c.turn.ensures.room.1, c.tell_all.ensures.room.0),
        omega (arith, c.requires.empty.room.2, ap (λ v. vec_capacity v) c.gather-last.ensures.replies, c.ask_all.ensures.capacity, c.turn.ensures.room.2, c.tell_all.ensures.room.1),
      );
    }

pub returns-then-not-is_end-clause-empty : goal.returns-then-not-is_end-clause-empty
returns-then-not-is_end-clause-empty g c =
    λ _. record {
      queries = ap (λ v. v.items) c.tell_all.ensures.queries ∙ c.turn.ensures.queries;
      names = (c.tell_all.ensures.left c.if-not-tell_all.false).0;
      replies = (c.tell_all.ensures.left c.if-not-tell_all.false).1;
      room = (
        omega (arith, c.requires.empty.room.0, c.gather-last.ensures.room.0, c.turn.ensures.room.0, ap (λ v. vec_capacity v) c.tell_all.ensures.queries),
        omega (arith, c.requires.empty.room.1, c.gather-last.ensures.room.1, c.turn.ensures.room.1, c.tell_all.ensures.room.0),
        omega (arith, c.requires.empty.room.2, ap (λ v. vec_capacity v) c.gather-last.ensures.replies, c.ask_all.ensures.capacity, c.turn.ensures.room.2, c.tell_all.ensures.room.1),
      );
    }

pub returns-else-not-is_end-clause-empty : goal.returns-else-not-is_end-clause-empty
returns-else-not-is_end-clause-empty g c =
    λ _. record {
      queries = ap (λ v. v.items) c.tell_all.ensures.queries ∙ c.turn.ensures.queries;
      names = (c.tell_all.ensures.left c.if-not-tell_all.false).0;
      replies = (c.tell_all.ensures.left c.if-not-tell_all.false).1;
      room = (
        omega (arith, c.requires.empty.room.0, c.gather-last.ensures.room.0, c.turn.ensures.room.0, ap (λ v. vec_capacity v) c.tell_all.ensures.queries),
        omega (arith, c.requires.empty.room.1, c.gather-last.ensures.room.1, c.turn.ensures.room.1, c.tell_all.ensures.room.0),
        omega (arith, c.requires.empty.room.2, ap (λ v. vec_capacity v) c.gather-last.ensures.replies, c.ask_all.ensures.capacity, c.turn.ensures.room.2, c.tell_all.ensures.room.1),
      );
    }

pub returns-then-not-is_end-clause-tills : goal.returns-then-not-is_end-clause-tills
returns-then-not-is_end-clause-tills g c =
    ap (map opening_of)
    (tills_kept_in (goal.M-post g c.args.service.now.shop.make.now) c.args.service.now.shop.config.now c.in-Some.routed c.args.till_desks.now c.reply-told.new.till_desks
    c.reply-told.ensures.leased)
    ∙ c.requires.tills

pub returns-else-not-is_end-clause-tills : goal.returns-else-not-is_end-clause-tills
returns-else-not-is_end-clause-tills g c =
    ap (map opening_of)
    (tills_kept_in (goal.M-post g c.args.service.now.shop.make.now) c.args.service.now.shop.config.now c.in-Some.routed c.args.till_desks.now c.reply-told.new.till_desks
    c.reply-told.ensures.leased)
    ∙ c.requires.tills

pub returns-then-not-is_end-clause-served : goal.returns-then-not-is_end-clause-served
returns-then-not-is_end-clause-served g c =
    let read = read_all c.args.service.now.shop.config.now 16 c.args.io.now.batch.queries.items c.gather-last.new.batch.queries.items c.args.io.now.batch.names.items c.gather-last.new.batch.names.items c.gather-last.result
    (g.I.Read.remaining c.args.reader.now) (g.I.Read.remaining c.gather-last.new.reader) c.args.io.now.reads c.gather-last.new.watch c.requires.empty.queries c.requires.empty.names c.gather-last.ensures.read in
    let after = round_served c.args.service.now.shop.config.now (g.D.Shared.tells c.args.service.now.shared.now) (goal.M-post g c.args.service.now.shop.make.now) c.args.till_desks.now c.args.token.now c.ask_all.new.token
    (g.I.Read.remaining c.args.reader.now) (g.I.Read.remaining c.gather-last.new.reader) (g.O.Write.contents c.args.writer.now) (g.O.Write.contents c.tell_all.new.writer)
    c.args.io.now.reads c.gather-last.new.watch c.args.io.now.writes c.tell_all.new.watch
    c.as_slice-queries.result.now c.gather-last.new.batch.queries.items c.gather-last.new.batch.names.items c.turn.new.self.names.items c.ask_all.new.replies.items c.turn.new.self.replies.items
    c.gather-last.result c.tell_all.result read c.as_slice-queries.ensures.value c.ask_all.ensures.told c.turn.ensures.names c.turn.ensures.replies c.tell_all.ensures.told in
    round_goes c.args.service.now.shop.config.now (g.D.Shared.tells c.args.service.now.shared.now) (goal.M-post g c.args.service.now.shop.make.now) c.args.till_desks.now (stand c.args.token.now c.args.till_desks.now (g.I.Read.remaining c.args.reader.now) (g.O.Write.contents c.args.writer.now) c.args.io.now.reads c.args.io.now.writes)
    c.gather-last.result c.in-Some.routed c.tell_all.result c.is_ok.result c.ask_all.new.token c.reply-told.new.token (g.I.Read.remaining c.gather-last.new.reader) (g.O.Write.contents c.tell_all.new.writer) (g.O.Write.contents c.reply-told.new.writer)
    c.gather-last.new.watch c.tell_all.new.watch c.reply-told.new.watch c.reply-told.new.till_desks c.reply-told.result c.if-not-tell_all.false c.in-Some.is after
    c.reply-told.ensures.told c.reply-told.ensures.leased c.reply-told.ensures.noted (subst (λ (b : Bool). c.is_ok.result ≡ (not b && is_ok c.reply-told.result)) c.if-not-is_end.ensures c.is_ok.ensures.value)

pub returns-else-not-is_end-clause-served : goal.returns-else-not-is_end-clause-served
returns-else-not-is_end-clause-served g c =
    let read = read_all c.args.service.now.shop.config.now 16 c.args.io.now.batch.queries.items c.gather-last.new.batch.queries.items c.args.io.now.batch.names.items c.gather-last.new.batch.names.items c.gather-last.result
    (g.I.Read.remaining c.args.reader.now) (g.I.Read.remaining c.gather-last.new.reader) c.args.io.now.reads c.gather-last.new.watch c.requires.empty.queries c.requires.empty.names c.gather-last.ensures.read in
    let after = round_served c.args.service.now.shop.config.now (g.D.Shared.tells c.args.service.now.shared.now) (goal.M-post g c.args.service.now.shop.make.now) c.args.till_desks.now c.args.token.now c.ask_all.new.token
    (g.I.Read.remaining c.args.reader.now) (g.I.Read.remaining c.gather-last.new.reader) (g.O.Write.contents c.args.writer.now) (g.O.Write.contents c.tell_all.new.writer)
    c.args.io.now.reads c.gather-last.new.watch c.args.io.now.writes c.tell_all.new.watch
    c.as_slice-queries.result.now c.gather-last.new.batch.queries.items c.gather-last.new.batch.names.items c.turn.new.self.names.items c.ask_all.new.replies.items c.turn.new.self.replies.items
    c.gather-last.result c.tell_all.result read c.as_slice-queries.ensures.value c.ask_all.ensures.told c.turn.ensures.names c.turn.ensures.replies c.tell_all.ensures.told in
    round_goes c.args.service.now.shop.config.now (g.D.Shared.tells c.args.service.now.shared.now) (goal.M-post g c.args.service.now.shop.make.now) c.args.till_desks.now (stand c.args.token.now c.args.till_desks.now (g.I.Read.remaining c.args.reader.now) (g.O.Write.contents c.args.writer.now) c.args.io.now.reads c.args.io.now.writes)
    c.gather-last.result c.in-Some.routed c.tell_all.result (not c.is_end-is_end.result) c.ask_all.new.token c.reply-told.new.token (g.I.Read.remaining c.gather-last.new.reader) (g.O.Write.contents c.tell_all.new.writer) (g.O.Write.contents c.reply-told.new.writer)
    c.gather-last.new.watch c.tell_all.new.watch c.reply-told.new.watch c.reply-told.new.till_desks c.reply-told.result c.if-not-tell_all.false c.in-Some.is after
    c.reply-told.ensures.told c.reply-told.ensures.leased c.reply-told.ensures.noted (subst (λ (b : Bool). not c.is_end-is_end.result ≡ (not b && is_ok c.reply-told.result)) c.if-not-is_end.ensures (ap not c.if-not-is_end.false))
