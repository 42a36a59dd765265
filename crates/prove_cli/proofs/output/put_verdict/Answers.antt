use Rattle.std.proofs.Common.{append_assoc}
use Rattle.prove_cli.proofs.output.put_verdict.Goals as goal

pub returns : goal.returns
returns c = rw (c.in_ok-put_number_json-2.ensures, c.in_ok-push_str.ensures.bytes, c.in_ok-put_number_json.ensures, c.in_ok-write.ensures.bytes) (simp append_assoc)
