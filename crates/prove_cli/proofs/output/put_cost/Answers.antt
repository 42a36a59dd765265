use Rattle.std.proofs.Common.{append_assoc}
use Rattle.prove_cli.proofs.output.put_cost.Goals as goal

pub returns : goal.returns
returns c = rw (c.in_ok-put_number_json.ensures, c.in_ok-write.ensures.bytes, c.in_ok-put_seconds.ensures) (simp append_assoc)
