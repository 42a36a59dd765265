use Rattle.std.specs.Prelude.{is_some}
use Rattle.farm_replay.specs.Reader.{script_rest}
use Rattle.farm_replay.proofs.HeadlineLemmas.{led_to_the_end}
use Rattle.farm_replay.proofs.script.play_out.Goals as goal

pub returns-clause-written : goal.returns-clause-written
returns-clause-written g c =
    led_to_the_end c.args.shop.now.config.now (script_rest g.R.Read.remaining c.args.script.now) (g.W.Write.contents c.args.writer.now) (g.W.Write.contents c.play-ended.new.writer)
    (is_some c.play-ended.new.notes.refused) c.play-ended.result c.play-ended.new.stage.script_farm.farm c.close.result c.close.ensures.parts c.play-ended.ensures.written
