use Rattle.std.proofs.Common.{Err}
use Rattle.std.specs.Prelude.{is_some}
use Rattle.std.specs.Io.Buffered.{writer_buffer, writer_contents, writer_inner}
use Rattle.farm_cli.proofs.ReplayLemmas.{gathered, sent, unsent}
use Rattle.farm_cli.proofs.replaying.replay_text.Goals as goal

pub returns-in-Ok-send_all : goal.returns-in-Ok-send_all
returns-in-Ok-send_all g c =
    let held = writer_contents g.W.Write.contents c.replay-ended.new.writer in
    let out = writer_contents g.W.Write.contents c.send_all.new.output in (
      c.in-Ok-send_all.ensures.noted,
      sent (Err c.in-Err-ended.fault) c.args.text.now c.args.log.now.watches c.replay-ended.new.watches (is_some c.replay-ended.new.notes.refused) (g.S.Read.remaining c.args.script)
          (g.W.Write.contents (writer_inner c.args.output.now)) (g.W.Write.contents (writer_inner c.send_all.new.output)) (writer_buffer c.send_all.new.output)
          c.in-Ok-send_all.ensures.sent
          (gathered (Err c.in-Err-ended.fault) c.args.text.now c.in-Ok.config c.args.log.now.watches c.replay-ended.new.watches (is_some c.replay-ended.new.notes.refused) (g.S.Read.remaining c.args.script)
          (g.W.Write.contents (writer_inner c.args.output.now)) held out (writer_buffer c.args.output.now)
          c.in-Err-ended.ensures.noted c.in-Ok.ensures.ok c.requires c.in-Err-ended.ensures.written c.in-Err-ended.ensures.cut_off c.in-Ok-send_all.ensures.bytes),
    )

pub returns : goal.returns
returns g c =
    let held = writer_contents g.W.Write.contents c.replay-ended.new.writer in
    let out = writer_contents g.W.Write.contents c.send_all.new.output in (
      c.in-Err-send_all.ensures.noted,
      unsent c.replay-ended.result c.args.text.now c.args.log.now.watches c.replay-ended.new.watches (is_some c.replay-ended.new.notes.refused) (g.S.Read.remaining c.args.script)
          (g.W.Write.contents (writer_inner c.args.output.now)) (g.W.Write.contents (writer_inner c.send_all.new.output)) (writer_buffer c.send_all.new.output)
          (gathered c.replay-ended.result c.args.text.now c.in-Ok.config c.args.log.now.watches c.replay-ended.new.watches (is_some c.replay-ended.new.notes.refused) (g.S.Read.remaining c.args.script)
          (g.W.Write.contents (writer_inner c.args.output.now)) held out (writer_buffer c.args.output.now)
          c.replay-ended.ensures.noted c.in-Ok.ensures.ok c.requires c.replay-ended.ensures.written c.replay-ended.ensures.cut_off c.in-Err-send_all.ensures.bytes),
    )
