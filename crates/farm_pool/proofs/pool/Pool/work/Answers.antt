use Rattle.farm_pool.proofs.WorkLemmas.{turned_more, strayed_more, waited_more, ended}
use Rattle.farm_pool.proofs.pool.Pool.work.Goals as goal

pub loop-preserved-in-Turned : goal.loop-preserved-in-Turned
loop-preserved-in-Turned g c = record {
  own = c.work_once.ensures.own;
  worked =
      turned_more c.args.self.now.slice c.args.pass.now.view c.loop.pass.view c.work_once.new.pass.view c.loop.turns c.loop.strangers
      c.saturating_add-turns.result c.loop.invariant.worked c.in-Turned.ensures.did c.saturating_add-turns.ensures;
}

pub loop-preserved-in-Strayed : goal.loop-preserved-in-Strayed
loop-preserved-in-Strayed g c = record {
  own = c.work_once.ensures.own;
  worked =
      strayed_more c.args.self.now.slice c.args.pass.now.view c.loop.pass.view c.work_once.new.pass.view c.loop.turns c.loop.strangers
      c.saturating_add-strangers.result c.loop.invariant.worked c.in-Strayed.ensures.did c.saturating_add-strangers.ensures;
}

pub loop-preserved : goal.loop-preserved
loop-preserved g c = record {
  own = c.work_once.ensures.own;
  worked =
      waited_more c.args.self.now.slice c.args.pass.now.view c.loop.pass.view c.work_once.new.pass.view c.loop.turns c.loop.strangers
      c.loop.invariant.worked c.in-Waited.ensures.did;
}

pub returns-then-not-idle-clause-worked : goal.returns-then-not-idle-clause-worked
returns-then-not-idle-clause-worked g c =
    ended c.args.self.now.slice c.args.pass.now.view c.loop.pass.view c.work_once.new.pass.view c.loop.turns c.loop.strangers
    c.loop.invariant.worked c.in-Waited.ensures.did
