use Rattle.farm_service.proofs.batch.+gather.Given as goal

abbrev pub decreases-gather : goal.decreases-gather
decreases-gather g l = l.most
