use Rattle.std.proofs.Common.{◌≡◌}
use Rattle.std.specs.Io.KnownBytes.{Keeps}
use Rattle.watched_io.proofs.watch.Watch.write.Given as goal

-- nothing was taken, and nothing is noted
abbrev pub invariant-loop : goal.invariant-loop
invariant-loop g l = record {
  bytes : Keeps (g.W.Write.contents l.initial.writer) (g.W.Write.contents l.writer);
  kept : l.self ≡ l.initial.self;
}
