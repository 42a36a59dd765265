use Rattle.std.proofs.Common.{◌≡◌, Some, option_map, arith, ap, ◌∙◌}
use Rattle.job_table.specs.Table.{find_row}
use Rattle.job_table.specs.Lent.{with_work, change_found}
use Rattle.job_table.specs.declared.phase.Phase.TheVariants.{Waiting}
use Rattle.job_table.proofs.LentLemmas.{own_work}
use Rattle.farm_core.proofs.JobsLemmas.{sent_out}
use Rattle.farm_core.proofs.farm.jobs.send.Goals as goal

pub returns-in_default-send-clause-kept : goal.returns-in_default-send-clause-kept
returns-in_default-send-clause-kept g c =
    let t = c.args.tenant in
    let s = c.args.seq in
    let old = c.args.jobs.now in
    let wrote : c.find_mut.follows.lender c.send.new.self ≡ change_found t s (with_work c.send.new.self) old = rw c.in-Some.is at (c.find_mut.follows.holds c.send.new.self) in
    wrote ∙ ap (λ w. change_found t s (with_work w) old) c.in_default-send.ensures.kept ∙ own_work t s old c.in-Some.work.now c.in-Some.ensures.lent

pub returns-clause-sent : goal.returns-clause-sent
returns-clause-sent g c =
    let t = c.args.tenant in
    let s = c.args.seq in
    let old = c.args.jobs.now in
    let wrote : c.find_mut.follows.lender c.send.new.self ≡ change_found t s (with_work c.send.new.self) old = rw c.in-Some.is at (c.find_mut.follows.holds c.send.new.self) in
    let waits : Some Waiting ≡ option_map (λ j. j.phase) (find_row t s old.rows) = grind (arith, c.if-ne.false, c.ne.ensures, c.phase_of.ensures) in
    sent_out old (c.find_mut.follows.lender c.send.new.self) c.set_phase.new.self t s c.args.slice (g.J.Strategy.meaning c.in-Some-send.search) c.in-Some.work.now c.send.new.self c.in-Some.ensures.lent waits
    c.in-Some-send.ensures.search c.in-Some-send.ensures.going c.in-Some-send.ensures.sent wrote c.set_phase.ensures.put
