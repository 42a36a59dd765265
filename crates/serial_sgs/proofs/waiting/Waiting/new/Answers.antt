use Rattle.std.proofs.Common.{length, ap, ◌∙◌}
use Rattle.std.proofs.lemmas.List.{length-replicate}
use Rattle.serial_sgs.proofs.WaitingLemmas.{marked_all}
use Rattle.serial_sgs.proofs.waiting.Waiting.new.Goals as goal

pub invariant_of-waiting : goal.invariant_of-waiting
invariant_of-waiting c =
    rw c.in_ok-placed.ensures (marked_all (length c.args.before.now) c.in_ok-missing.missing.items c.requires.few (ap length c.in_ok-missing.ensures ∙ length-replicate (length c.args.before.now) 0))
