use Rattle.std.proofs.Common.{append_assoc}
use Rattle.prove_cli.proofs.output.put_seconds.Goals as goal

pub returns : goal.returns
returns c = rw c.in_ok-write.ensures.bytes (simp append_assoc)
