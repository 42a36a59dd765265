use Rattle.std.proofs.Common.{length}
use Rattle.farm_service.proofs.batch.+tell_all.Given as goal

abbrev pub decreases-tell_all : goal.decreases-tell_all
decreases-tell_all g l = length l.batch.now.names.items
