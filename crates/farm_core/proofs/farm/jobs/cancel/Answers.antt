use Rattle.std.proofs.Common.{◌≡◌, true, arith, sym, ◌∙◌}
use Rattle.job_table.specs.Job.{is_here}
use Rattle.job_table.specs.Lent.{with_work, change_found}
use Rattle.farm_core.proofs.JobsLemmas.{dropped_so, is_put}
use Rattle.farm_core.proofs.farm.jobs.cancel.Goals as goal

pub returns-in-Some-find_mut-clause-given_up : goal.returns-in-Some-find_mut-clause-given_up
returns-in-Some-find_mut-clause-given_up g c did =
    let t = c.args.tenant in
    let s = c.args.seq in
    let old = c.args.jobs.now in
    let wrote : c.find_mut.follows.lender c.give_up.new.self ≡ change_found t s (with_work c.give_up.new.self) old = rw c.in-Some-find_mut.is at (c.find_mut.follows.holds c.give_up.new.self) in
    let here : is_here c.in-Some.phase ≡ true = grind (arith, c.in-Waiting.is) in
    dropped_so old (c.find_mut.follows.lender c.give_up.new.self) c.set_phase.new.self t s c.in-Some.phase c.in-Some-find_mut.work.now c.give_up.new.self c.in-Some-find_mut.ensures.lent (sym c.in-Some.is ∙ c.phase_of.ensures) here c.give_up.ensures wrote c.set_phase.ensures.put

pub returns-in-Some-find_mut-clause-refused : goal.returns-in-Some-find_mut-clause-refused
returns-in-Some-find_mut-clause-refused g c not =
    let t = c.args.tenant in
    let s = c.args.seq in
    let old = c.args.jobs.now in
    let wrote : c.find_mut.follows.lender c.give_up.new.self ≡ change_found t s (with_work c.give_up.new.self) old = rw c.in-Some-find_mut.is at (c.find_mut.follows.holds c.give_up.new.self) in
    let put = is_put old (c.find_mut.follows.lender c.give_up.new.self) t s c.in-Some-find_mut.work.now c.give_up.new.self c.set_phase.result c.in-Some-find_mut.ensures.lent wrote c.set_phase.ensures.found in
    absurd (cc)

pub returns-in-Some-find_mut-clause-kept : goal.returns-in-Some-find_mut-clause-kept
returns-in-Some-find_mut-clause-kept g c not =
    let t = c.args.tenant in
    let s = c.args.seq in
    let old = c.args.jobs.now in
    let wrote : c.find_mut.follows.lender c.give_up.new.self ≡ change_found t s (with_work c.give_up.new.self) old = rw c.in-Some-find_mut.is at (c.find_mut.follows.holds c.give_up.new.self) in
    let put = is_put old (c.find_mut.follows.lender c.give_up.new.self) t s c.in-Some-find_mut.work.now c.give_up.new.self c.set_phase.result c.in-Some-find_mut.ensures.lent wrote c.set_phase.ensures.found in
    absurd (cc)
