use Rattle.file_commands.proofs.RunLemmas.{unread}
use Rattle.file_commands.proofs.runner.write_answer.Goals as goal

pub returns-in-Err : goal.returns-in-Err
returns-in-Err g c = unread _ _ c.in-Err.fault _ _ _ _ (c.in-Err.ensures.fault (g.W.Write.contents c.args.writer.now))
