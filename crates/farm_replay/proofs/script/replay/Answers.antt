use Rattle.std.specs.Prelude.{is_some, IfSome, IfErr}
use Rattle.std.proofs.Common.{◌∙◌, map, ap, subst}
use Rattle.farm_core.specs.Tills.{opening_of}
use Rattle.farm_session.proofs.TillLemmas.{tills_new}
use Rattle.farm_replay.specs.Reader.{script_rest}
use Rattle.farm_replay.specs.Output.{IsCutOff}
use Rattle.farm_replay.proofs.HeadlineLemmas.{led_written, led_headline}
use Rattle.farm_replay.proofs.script.replay.Goals as goal

pub play_out-ended-requires-clause-tills : goal.play_out-ended-requires-clause-tills
play_out-ended-requires-clause-tills g c κs within =
    ap (map opening_of) (tills_new _ _ _ c.in-Ok-till_desks.ensures.new ∙ c.deref.ensures.value)
    ∙ c.in-Ok-open_tills.ensures.tills

pub returns-clause-written : goal.returns-clause-written
returns-clause-written g c =
    led_written c.args.config.now (script_rest g.R.Read.remaining c.in-Ok.script) (g.R.Read.remaining c.args.reader) (g.W.Write.contents c.args.writer.now) (g.W.Write.contents c.play_out-ended.new.writer)
    (is_some c.play_out-ended.new.notes.refused) c.play_out-ended.result.0 c.play_out-ended.result.1 c.in-Ok.ensures c.play_out-ended.ensures.written

pub returns-clause-headline : goal.returns-clause-headline
returns-clause-headline g c =
    led_headline c.outputs_are_isolated.ensures c.each_output_is_alone.ensures c.each_line_is_true.ensures c.args.config.now (script_rest g.R.Read.remaining c.in-Ok.script) (g.R.Read.remaining c.args.reader)
    (g.W.Write.contents c.args.writer.now) (g.W.Write.contents c.play_out-ended.new.writer) (is_some c.play_out-ended.new.notes.refused) c.play_out-ended.result.0 c.play_out-ended.result.1
    c.in-Ok.ensures c.play_out-ended.ensures.written

pub returns-clause-cut_off : goal.returns-clause-cut_off
returns-clause-cut_off g c =
    subst (λ a. IfErr c.play_out-ended.result.0 (λ fault. IfSome a (λ bytes. IsCutOff c.args.config.now fault c.args.watches.now c.play_out-ended.new.watches bytes (g.W.Write.contents c.args.writer.now) (g.W.Write.contents c.play_out-ended.new.writer))))
    c.in-Ok.ensures c.play_out-ended.ensures.cut_off
