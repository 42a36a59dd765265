use Rattle.std.proofs.Common.{◌≡◌, [], rules}
use Rattle.session_lines.proofs.PartLemmas.{gathers_written}
use Rattle.session_lines.proofs.put.gather.Goals as goal

pub returns-clause-gathers : goal.returns-clause-gathers
returns-clause-gathers g c =
    let same : c.as_slice.result.now ≡ c.args.gathered.now.items = search rules in
    let none : c.clear.new.self.items ≡ [] = search rules in
    rw (none, ← same) (gathers_written c.put-2.result (g.W.Write.contents c.args.writer.now) (g.W.Write.contents c.put.new.writer) (g.W.Write.contents c.put-2.new.writer) c.as_slice.result.now c.args.bytes.now (rw c.in_default.is at c.put.ensures.writes).ok c.put-2.ensures.writes)
