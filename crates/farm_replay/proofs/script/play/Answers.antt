use Rattle.std.proofs.Common.{◌≡◌, refl, map, arith, sym, ap, ◌∙◌, subst}
use Rattle.std.specs.Prelude.{is_some}
use Rattle.farm_core.specs.World.{opened}
use Rattle.farm_core.specs.Tills.{opening_of}
use Rattle.farm_session.specs.TillDesk.{tills_of}
use Rattle.farm_session.proofs.TillLemmas.{tills_kept_to}
use Rattle.farm_replay.specs.ScriptFarm.{IsScriptFarm}
use Rattle.farm_replay.specs.Reader.{script_rest}
use Rattle.farm_replay.proofs.LeaseLemmas.{LeasedTo, none_leased, leases_told, leases_asked, leases_of}
use Rattle.farm_replay.proofs.PlayLemmas.{Played, begun, play_begins, settled_on, settled_cut, asked_on, asked_cut, asked_unsent, played_sent, play_over, play_broken, play_written, play_cut, told_well, asked_well, over_well, read_once, noted_write, noted_from}
use Rattle.farm_replay.proofs.script.play.Goals as goal
use Rattle.farm_replay.proofs.script.play.Goals.{in-Answered+in_default, in-Asked+in_default-send_before_nodes+in_default-tell}

pub loop-answered-init : goal.loop-answered-init
unfolding opened
loop-answered-init g c = (
  ap (λ w. w.config) c.requires.farm,
  c.requires.tills,
  c.requires.script_farm,
  subst (λ b. Played c.args.shop.now.config.now (script_rest g.R.Read.remaining c.args.script.now) (script_rest g.R.Read.remaining c.args.script.now) (g.W.Write.contents c.args.writer.now) (g.W.Write.contents c.args.writer.now) 0 b c.args.stage.now.script_farm.farm)
      (sym c.requires.notes)
      (play_begins c.args.shop.now.config.now (script_rest g.R.Read.remaining c.args.script.now) (g.W.Write.contents c.args.writer.now) c.args.stage.now.script_farm.farm
      (ap (λ w. w.config) c.requires.farm) (begun c.args.shop.now.config.now c.args.stage.now.script_farm.farm c.farms_are_replayed.ensures c.requires.farm)),
  none_leased c.args.shop.now.config.now (goal.M-post g c.args.shop.now.make.now) (script_rest g.R.Read.remaining c.args.script.now) c.args.stage.now.till_desks.items,
  ap (λ v. v.reads) c.watches.view_is,
  ap (λ v. v.writes) c.watches.view_is,
)

pub returns-in-End-clause-written : goal.returns-in-End-clause-written
returns-in-End-clause-written g c =
    play_over c.requests_come_in_turn.ensures c.args.shop.now.config.now (script_rest g.R.Read.remaining c.args.script.now) (script_rest g.R.Read.remaining c.begin.new.self) (script_rest g.R.Read.remaining c.read_request.new.reader)
    (g.W.Write.contents c.args.writer.now) (g.W.Write.contents c.send_before_wait.new.writer) c.loop-answered._answered (is_some c.loop-answered.notes.refused) c.loop-answered.stage.script_farm.farm c.read_request.result (omega arith) (cc (c.in-End.is, c.route.ensures.exact))
    c.read_request.ensures.takes (played_sent c.args.shop.now.config.now (script_rest g.R.Read.remaining c.args.script.now) (script_rest g.R.Read.remaining c.loop-answered.script) (script_rest g.R.Read.remaining c.begin.new.self)
    (g.W.Write.contents c.args.writer.now) (g.W.Write.contents c.loop-answered.writer) (g.W.Write.contents c.send_before_wait.new.writer) c.loop-answered._answered (is_some c.loop-answered.notes.refused) c.loop-answered.stage.script_farm.farm c.begin.ensures
    c.send_before_wait.ensures c.loop-answered.invariant.3)

pub returns-in-Err-clause-cut_off : goal.returns-in-Err-clause-cut_off
returns-in-Err-clause-cut_off g c =
    rw c.in-Err.ensures.fault
    (settled_cut c.requests_come_in_turn.ensures c.args.shop.now.config.now (script_rest g.R.Read.remaining c.args.script.now) (script_rest g.R.Read.remaining c.begin.new.self) (script_rest g.R.Read.remaining c.read_request.new.reader)
    (g.W.Write.contents c.args.writer.now) (g.W.Write.contents c.send_before_wait.new.writer) (g.W.Write.contents c.tell.new.writer) c.loop-answered._answered (is_some c.loop-answered.notes.refused) c.loop-answered.stage.script_farm.farm c.read_request.result
    c.in-Answered.who c.in-Answered.said (cc (c.in-Answered.is, c.route.ensures.exact)) c.read_request.ensures.takes (played_sent c.args.shop.now.config.now (script_rest g.R.Read.remaining c.args.script.now) (script_rest g.R.Read.remaining c.loop-answered.script) (script_rest g.R.Read.remaining c.begin.new.self)
    (g.W.Write.contents c.args.writer.now) (g.W.Write.contents c.loop-answered.writer) (g.W.Write.contents c.send_before_wait.new.writer) c.loop-answered._answered (is_some c.loop-answered.notes.refused) c.loop-answered.stage.script_farm.farm c.begin.ensures
    c.send_before_wait.ensures c.loop-answered.invariant.3) c.in-Err.ensures.writes.err _ _ (rw c.loop-answered.invariant.6 at c.in-Err.ensures.noted))

pub returns-in-Err-send_before_nodes-clause-cut_off : goal.returns-in-Err-send_before_nodes-clause-cut_off
returns-in-Err-send_before_nodes-clause-cut_off g c =
    rw c.in-Err-send_before_nodes.ensures.fault
    (asked_unsent c.requests_come_in_turn.ensures c.args.shop.now.config.now (script_rest g.R.Read.remaining c.args.script.now) (script_rest g.R.Read.remaining c.begin.new.self) (script_rest g.R.Read.remaining c.read_request.new.reader)
    (g.W.Write.contents c.args.writer.now) (g.W.Write.contents c.send_before_nodes.new.writer) c.loop-answered._answered (is_some c.loop-answered.notes.refused) c.loop-answered.stage.script_farm.farm c.read_request.result
    c.in-Asked.tenant c.in-Asked.who c.in-Asked.asked (cc (c.in-Asked.is, c.route.ensures.exact)) c.read_request.ensures.takes
    (played_sent c.args.shop.now.config.now (script_rest g.R.Read.remaining c.args.script.now) (script_rest g.R.Read.remaining c.begin.new.self) (script_rest g.R.Read.remaining c.begin.new.self)
    (g.W.Write.contents c.args.writer.now) (g.W.Write.contents c.send_before_wait.new.writer) (g.W.Write.contents c.send_before_nodes.new.writer) c.loop-answered._answered (is_some c.loop-answered.notes.refused) c.loop-answered.stage.script_farm.farm refl
    c.send_before_nodes.ensures.kept (played_sent c.args.shop.now.config.now (script_rest g.R.Read.remaining c.args.script.now) (script_rest g.R.Read.remaining c.loop-answered.script) (script_rest g.R.Read.remaining c.begin.new.self)
    (g.W.Write.contents c.args.writer.now) (g.W.Write.contents c.loop-answered.writer) (g.W.Write.contents c.send_before_wait.new.writer) c.loop-answered._answered (is_some c.loop-answered.notes.refused) c.loop-answered.stage.script_farm.farm c.begin.ensures
    c.send_before_wait.ensures c.loop-answered.invariant.3)) _ _ (rw c.loop-answered.invariant.6 at c.in-Err-send_before_nodes.ensures.noted))

pub returns-in-Err-tell-clause-cut_off : goal.returns-in-Err-tell-clause-cut_off
returns-in-Err-tell-clause-cut_off g c =
    rw c.in-Err-tell.ensures.fault
    (asked_cut c.requests_come_in_turn.ensures c.args.shop.now.config.now (script_rest g.R.Read.remaining c.args.script.now) (script_rest g.R.Read.remaining c.begin.new.self) (script_rest g.R.Read.remaining c.read_request.new.reader)
    (g.W.Write.contents c.args.writer.now) (g.W.Write.contents c.send_before_nodes.new.writer) (g.W.Write.contents c.tell-in-Asked.new.writer) c.loop-answered._answered (is_some c.loop-answered.notes.refused) c.loop-answered.stage.script_farm.farm
    c.answer-said.new.self.script_farm.farm c.read_request.result c.in-Asked.tenant c.in-Asked.who c.in-Asked.asked c.answer-said.result (cc (c.in-Asked.is, c.route.ensures.exact)) c.read_request.ensures.takes
    c.answer-said.ensures.told (played_sent c.args.shop.now.config.now (script_rest g.R.Read.remaining c.args.script.now) (script_rest g.R.Read.remaining c.begin.new.self) (script_rest g.R.Read.remaining c.begin.new.self)
    (g.W.Write.contents c.args.writer.now) (g.W.Write.contents c.send_before_wait.new.writer) (g.W.Write.contents c.send_before_nodes.new.writer) c.loop-answered._answered (is_some c.loop-answered.notes.refused) c.loop-answered.stage.script_farm.farm refl
    c.send_before_nodes.ensures.kept (played_sent c.args.shop.now.config.now (script_rest g.R.Read.remaining c.args.script.now) (script_rest g.R.Read.remaining c.loop-answered.script) (script_rest g.R.Read.remaining c.begin.new.self)
    (g.W.Write.contents c.args.writer.now) (g.W.Write.contents c.loop-answered.writer) (g.W.Write.contents c.send_before_wait.new.writer) c.loop-answered._answered (is_some c.loop-answered.notes.refused) c.loop-answered.stage.script_farm.farm c.begin.ensures
    c.send_before_wait.ensures c.loop-answered.invariant.3)) c.in-Err-tell.ensures.writes.err _ _ (rw (c.in_default-send_before_nodes.ensures.noted ∙ c.loop-answered.invariant.6) at c.in-Err-tell.ensures.noted))

pub loop-answered-preserved : goal.loop-answered-preserved
loop-answered-preserved g c =
    let inv = c.loop-answered.invariant in
    elim c.match-route.branch [
      | in-Answered+in_default w ↦ (
        ap (λ x. x.script_farm.farm.config) w.stage-is ∙ inv.0,
        ap (map opening_of) (ap (λ x. tills_of x.till_desks.items) w.stage-is) ∙ inv.1,
        subst (λ x. IsScriptFarm g.J.Strategy.meaning x.script_farm.farm x.script_farm.held.items) (sym w.stage-is) inv.2,
        rw (w.stage-is, w.writer-is, w.notes-is)
            (settled_on c.requests_come_in_turn.ensures c.args.shop.now.config.now (script_rest g.R.Read.remaining c.args.script.now) (script_rest g.R.Read.remaining c.begin.new.self) (script_rest g.R.Read.remaining c.read_request.new.reader)
            (g.W.Write.contents c.args.writer.now) (g.W.Write.contents c.send_before_wait.new.writer) (g.W.Write.contents w.tell.new.writer) c.loop-answered._answered (is_some c.loop-answered.notes.refused) (is_some w.add.new.self.refused) c.loop-answered.stage.script_farm.farm c.read_request.result
            w.in-Answered.who w.in-Answered.said (cc (w.in-Answered.is, c.route.ensures.exact)) c.read_request.ensures.takes (played_sent c.args.shop.now.config.now (script_rest g.R.Read.remaining c.args.script.now) (script_rest g.R.Read.remaining c.loop-answered.script) (script_rest g.R.Read.remaining c.begin.new.self)
            (g.W.Write.contents c.args.writer.now) (g.W.Write.contents c.loop-answered.writer) (g.W.Write.contents c.send_before_wait.new.writer) c.loop-answered._answered (is_some c.loop-answered.notes.refused) c.loop-answered.stage.script_farm.farm c.begin.ensures
            c.send_before_wait.ensures c.loop-answered.invariant.3) w.in_default.ensures.writes.ok w.add.ensures.any),
        leases_told c.args.shop.now.config.now (goal.M-post g c.args.shop.now.make.now) (script_rest g.R.Read.remaining c.args.script.now) (script_rest g.R.Read.remaining c.loop-answered.script) (script_rest g.R.Read.remaining c.begin.new.self)
            (script_rest g.R.Read.remaining c.read_request.new.reader) c.args.stage.now.till_desks.items c.loop-answered.stage.till_desks.items _ c.read_request.result w.in-Answered.who w.in-Answered.said
            (cc (w.in-Answered.is, c.route.ensures.exact)) c.begin.ensures c.read_request.ensures.takes (ap (λ x. x.till_desks.items) w.stage-is) inv.4,
        ap (λ v. v.reads) w.watches-inside-is
            ∙ told_well c.args.shop.now.config.now c.loop-answered.watches-inside.reads c.read_request.new.watch c.read_request.result w.in-Answered.who w.in-Answered.said (cc (w.in-Answered.is, c.route.ensures.exact)) c.read_request.ensures.kept
            ∙ inv.5,
        ap (λ v. v.writes) w.watches-inside-is ∙ w.in_default.ensures.noted ∙ inv.6,
      )
      | in-Asked+in_default-send_before_nodes+in_default-tell w ↦ (
        ap (λ x. x.script_farm.farm.config) w.stage-is ∙ w.answer-said.ensures.told.config ∙ inv.0,
        ap (map opening_of)
            (ap (λ x. tills_of x.till_desks.items) w.stage-is
            ∙ tills_kept_to _ c.args.shop.now.config.now w.in-Asked.tenant w.in-Asked.asked c.loop-answered.stage.till_desks.items w.answer-said.new.self.till_desks.items w.answer-said.ensures.leased)
            ∙ inv.1,
        subst (λ x. IsScriptFarm g.J.Strategy.meaning x.script_farm.farm x.script_farm.held.items) (sym w.stage-is) w.answer-said.ensures.script_farm,
        rw (w.stage-is, w.writer-is, w.notes-is)
            (asked_on c.requests_come_in_turn.ensures c.args.shop.now.config.now (script_rest g.R.Read.remaining c.args.script.now) (script_rest g.R.Read.remaining c.begin.new.self) (script_rest g.R.Read.remaining c.read_request.new.reader)
            (g.W.Write.contents c.args.writer.now) (g.W.Write.contents w.send_before_nodes.new.writer) (g.W.Write.contents w.tell-in-Asked.new.writer) c.loop-answered._answered (is_some c.loop-answered.notes.refused) (is_some w.add-in-Asked.new.self.refused) c.loop-answered.stage.script_farm.farm
            w.answer-said.new.self.script_farm.farm c.read_request.result w.in-Asked.tenant w.in-Asked.who w.in-Asked.asked w.answer-said.result (cc (w.in-Asked.is, c.route.ensures.exact)) c.read_request.ensures.takes
            w.answer-said.ensures.told (played_sent c.args.shop.now.config.now (script_rest g.R.Read.remaining c.args.script.now) (script_rest g.R.Read.remaining c.begin.new.self) (script_rest g.R.Read.remaining c.begin.new.self)
            (g.W.Write.contents c.args.writer.now) (g.W.Write.contents c.send_before_wait.new.writer) (g.W.Write.contents w.send_before_nodes.new.writer) c.loop-answered._answered (is_some c.loop-answered.notes.refused) c.loop-answered.stage.script_farm.farm refl
            w.send_before_nodes.ensures.kept (played_sent c.args.shop.now.config.now (script_rest g.R.Read.remaining c.args.script.now) (script_rest g.R.Read.remaining c.loop-answered.script) (script_rest g.R.Read.remaining c.begin.new.self)
            (g.W.Write.contents c.args.writer.now) (g.W.Write.contents c.loop-answered.writer) (g.W.Write.contents c.send_before_wait.new.writer) c.loop-answered._answered (is_some c.loop-answered.notes.refused) c.loop-answered.stage.script_farm.farm c.begin.ensures
            c.send_before_wait.ensures c.loop-answered.invariant.3)) w.in_default-tell.ensures.writes.ok w.add-in-Asked.ensures.any),
        subst (λ x. LeasedTo c.args.shop.now.config.now (goal.M-post g c.args.shop.now.make.now) (script_rest g.R.Read.remaining c.args.script.now) c.args.stage.now.till_desks.items (script_rest g.R.Read.remaining c.read_request.new.reader) x.till_desks.items) (sym w.stage-is)
            (leases_asked c.args.shop.now.config.now (goal.M-post g c.args.shop.now.make.now) (script_rest g.R.Read.remaining c.args.script.now) (script_rest g.R.Read.remaining c.loop-answered.script) (script_rest g.R.Read.remaining c.begin.new.self)
            (script_rest g.R.Read.remaining c.read_request.new.reader) c.args.stage.now.till_desks.items c.loop-answered.stage.till_desks.items w.answer-said.new.self.till_desks.items c.read_request.result w.in-Asked.tenant w.in-Asked.who w.in-Asked.asked
            (cc (w.in-Asked.is, c.route.ensures.exact)) c.begin.ensures c.read_request.ensures.takes
            w.answer-said.ensures.leased inv.4),
        ap (λ v. v.reads) w.watches-inside-is
            ∙ asked_well c.args.shop.now.config.now c.loop-answered.watches-inside.reads c.read_request.new.watch c.read_request.result w.in-Asked.tenant w.in-Asked.who w.in-Asked.asked (cc (w.in-Asked.is, c.route.ensures.exact)) c.read_request.ensures.kept
            ∙ inv.5,
        ap (λ v. v.writes) w.watches-inside-is ∙ w.in_default-tell.ensures.noted ∙ w.in_default-send_before_nodes.ensures.noted ∙ inv.6,
      )
    ]

pub returns-clause-written : goal.returns-clause-written
returns-clause-written g c =
    play_written c.args.shop.now.config.now (script_rest g.R.Read.remaining c.args.script.now) (script_rest g.R.Read.remaining c.loop-answered.script) (g.W.Write.contents c.args.writer.now) (g.W.Write.contents c.loop-answered.writer)
    c.loop-answered._answered (is_some c.loop-answered.notes.refused) c.loop-answered.stage.script_farm.farm c.end.result (omega arith) c.loop-answered.invariant.3 c.end.ensures.over

pub returns-clause-cut_off : goal.returns-clause-cut_off
returns-clause-cut_off g c =
    let all : c.loop-answered._answered ≡ 1000000 = omega arith in
    play_cut c.args.shop.now.config.now (script_rest g.R.Read.remaining c.args.script.now) (script_rest g.R.Read.remaining c.loop-answered.script) (g.W.Write.contents c.args.writer.now) (g.W.Write.contents c.loop-answered.writer)
    (is_some c.loop-answered.notes.refused) c.loop-answered.stage.script_farm.farm _ _ c.end.result
    (subst (λ n. Played c.args.shop.now.config.now (script_rest g.R.Read.remaining c.args.script.now) (script_rest g.R.Read.remaining c.loop-answered.script) (g.W.Write.contents c.args.writer.now) (g.W.Write.contents c.loop-answered.writer) n (is_some c.loop-answered.notes.refused) c.loop-answered.stage.script_farm.farm)
    all c.loop-answered.invariant.3) (rw c.loop-answered.invariant.5 at c.end.ensures.fault)

pub returns-in-ReadFailed-clause-cut_off : goal.returns-in-ReadFailed-clause-cut_off
returns-in-ReadFailed-clause-cut_off g c =
    play_broken c.args.shop.now.config.now (script_rest g.R.Read.remaining c.args.script.now) (script_rest g.R.Read.remaining c.begin.new.self) (g.W.Write.contents c.args.writer.now) (g.W.Write.contents c.send_before_wait.new.writer)
    c.loop-answered._answered (is_some c.loop-answered.notes.refused) c.loop-answered.stage.script_farm.farm c.read_request.result _ _ (cc (c.in-ReadFailed.is, c.route.ensures.exact)) (rw c.loop-answered.invariant.5 at c.read_request.ensures.cause)
    (played_sent c.args.shop.now.config.now (script_rest g.R.Read.remaining c.args.script.now) (script_rest g.R.Read.remaining c.loop-answered.script) (script_rest g.R.Read.remaining c.begin.new.self)
    (g.W.Write.contents c.args.writer.now) (g.W.Write.contents c.loop-answered.writer) (g.W.Write.contents c.send_before_wait.new.writer) c.loop-answered._answered (is_some c.loop-answered.notes.refused) c.loop-answered.stage.script_farm.farm c.begin.ensures
    c.send_before_wait.ensures c.loop-answered.invariant.3)

pub returns-in-End-clause-leased : goal.returns-in-End-clause-leased
returns-in-End-clause-leased g c =
    leases_of c.args.shop.now.config.now (goal.M-post g c.args.shop.now.make.now) (script_rest g.R.Read.remaining c.args.script.now) (script_rest g.R.Read.remaining c.loop-answered.script) c.args.stage.now.till_desks.items c.loop-answered.stage.till_desks.items c.loop-answered.invariant.4

pub returns-in-ReadFailed-clause-leased : goal.returns-in-ReadFailed-clause-leased
returns-in-ReadFailed-clause-leased g c =
    leases_of c.args.shop.now.config.now (goal.M-post g c.args.shop.now.make.now) (script_rest g.R.Read.remaining c.args.script.now) (script_rest g.R.Read.remaining c.loop-answered.script) c.args.stage.now.till_desks.items c.loop-answered.stage.till_desks.items c.loop-answered.invariant.4

pub returns-in-Err-clause-leased : goal.returns-in-Err-clause-leased
returns-in-Err-clause-leased g c =
    leases_of c.args.shop.now.config.now (goal.M-post g c.args.shop.now.make.now) (script_rest g.R.Read.remaining c.args.script.now) (script_rest g.R.Read.remaining c.loop-answered.script) c.args.stage.now.till_desks.items c.loop-answered.stage.till_desks.items c.loop-answered.invariant.4

pub returns-in-Err-send_before_nodes-clause-leased : goal.returns-in-Err-send_before_nodes-clause-leased
returns-in-Err-send_before_nodes-clause-leased g c =
    leases_of c.args.shop.now.config.now (goal.M-post g c.args.shop.now.make.now) (script_rest g.R.Read.remaining c.args.script.now) (script_rest g.R.Read.remaining c.loop-answered.script) c.args.stage.now.till_desks.items c.loop-answered.stage.till_desks.items c.loop-answered.invariant.4

pub returns-clause-leased : goal.returns-clause-leased
returns-clause-leased g c =
    leases_of c.args.shop.now.config.now (goal.M-post g c.args.shop.now.make.now) (script_rest g.R.Read.remaining c.args.script.now) (script_rest g.R.Read.remaining c.loop-answered.script) c.args.stage.now.till_desks.items c.loop-answered.stage.till_desks.items c.loop-answered.invariant.4

pub returns-in-Err-tell-clause-leased : goal.returns-in-Err-tell-clause-leased
returns-in-Err-tell-clause-leased g c =
    leases_of c.args.shop.now.config.now (goal.M-post g c.args.shop.now.make.now) (script_rest g.R.Read.remaining c.args.script.now) (script_rest g.R.Read.remaining c.read_request.new.reader) c.args.stage.now.till_desks.items c.answer-said.new.self.till_desks.items
    (leases_asked c.args.shop.now.config.now (goal.M-post g c.args.shop.now.make.now) (script_rest g.R.Read.remaining c.args.script.now) (script_rest g.R.Read.remaining c.loop-answered.script) (script_rest g.R.Read.remaining c.begin.new.self)
    (script_rest g.R.Read.remaining c.read_request.new.reader) c.args.stage.now.till_desks.items c.loop-answered.stage.till_desks.items c.answer-said.new.self.till_desks.items c.read_request.result c.in-Asked.tenant c.in-Asked.who c.in-Asked.asked
    (cc (c.in-Asked.is, c.route.ensures.exact)) c.begin.ensures c.read_request.ensures.takes
    c.answer-said.ensures.leased c.loop-answered.invariant.4)

pub returns-in-End-clause-noted : goal.returns-in-End-clause-noted
returns-in-End-clause-noted g c = record {
  reads = over_well c.args.shop.now.config.now c.loop-answered.watches-inside.reads c.read_request.new.watch c.read_request.result (cc (c.in-End.is, c.route.ensures.exact)) c.read_request.ensures.kept ∙ c.loop-answered.invariant.5;
  writes = c.loop-answered.invariant.6;
}

pub returns-in-ReadFailed-clause-noted : goal.returns-in-ReadFailed-clause-noted
returns-in-ReadFailed-clause-noted g c = record {
  reads = read_once c.args.watches.now.reads c.read_request.new.watch c.read_request.result (rw c.loop-answered.invariant.5 at c.read_request.ensures.kept);
  writes = c.loop-answered.invariant.6;
}

pub returns-in-Err-clause-noted : goal.returns-in-Err-clause-noted
returns-in-Err-clause-noted g c =
    noted_write _ _ _ c.in-Err.ensures.fault
    (told_well c.args.shop.now.config.now c.loop-answered.watches-inside.reads c.read_request.new.watch c.read_request.result c.in-Answered.who c.in-Answered.said (cc (c.in-Answered.is, c.route.ensures.exact)) c.read_request.ensures.kept ∙ c.loop-answered.invariant.5)
    (rw c.loop-answered.invariant.6 at c.in-Err.ensures.noted)

pub returns-in-Err-send_before_nodes-clause-noted : goal.returns-in-Err-send_before_nodes-clause-noted
returns-in-Err-send_before_nodes-clause-noted g c =
    noted_write _ _ _ c.in-Err-send_before_nodes.ensures.fault
    (asked_well c.args.shop.now.config.now c.loop-answered.watches-inside.reads c.read_request.new.watch c.read_request.result c.in-Asked.tenant c.in-Asked.who c.in-Asked.asked (cc (c.in-Asked.is, c.route.ensures.exact)) c.read_request.ensures.kept ∙ c.loop-answered.invariant.5)
    (rw c.loop-answered.invariant.6 at c.in-Err-send_before_nodes.ensures.noted)

pub returns-in-Err-tell-clause-noted : goal.returns-in-Err-tell-clause-noted
returns-in-Err-tell-clause-noted g c =
    noted_write _ _ _ c.in-Err-tell.ensures.fault
    (asked_well c.args.shop.now.config.now c.loop-answered.watches-inside.reads c.read_request.new.watch c.read_request.result c.in-Asked.tenant c.in-Asked.who c.in-Asked.asked (cc (c.in-Asked.is, c.route.ensures.exact)) c.read_request.ensures.kept ∙ c.loop-answered.invariant.5)
    (rw (c.in_default-send_before_nodes.ensures.noted ∙ c.loop-answered.invariant.6) at c.in-Err-tell.ensures.noted)

pub returns-clause-noted : goal.returns-clause-noted
returns-clause-noted g c =
    noted_from c.end.result c.args.watches.now _ _ c.loop-answered.invariant.5 c.loop-answered.invariant.6 (c.end.ensures.noted c.loop-answered.watches-inside.writes)
