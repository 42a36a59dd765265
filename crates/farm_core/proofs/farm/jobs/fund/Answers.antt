use Rattle.std.proofs.Common.{◌≡◌, sym, ap, ◌∙◌}
use Rattle.job_table.specs.Lent.{with_work, change_found}
use Rattle.job_table.proofs.LentLemmas.{own_work, drawn_here}
use Rattle.farm_core.proofs.JobsLemmas.{funded_so, is_put}
use Rattle.farm_core.proofs.farm.jobs.fund.Goals as goal

pub returns-then-not-fund-clause-kept : goal.returns-then-not-fund-clause-kept
returns-then-not-fund-clause-kept g c did =
    let t = c.args.tenant in
    let s = c.args.seq in
    let old = c.args.jobs.now in
    let wrote : c.find_mut.follows.lender c.fund.new.self ≡ change_found t s (with_work c.fund.new.self) old = rw c.in-Some-find_mut.is at (c.find_mut.follows.holds c.fund.new.self) in
    wrote ∙ ap (λ w. change_found t s (with_work w) old) (c.fund.ensures.kept c.if-not-fund.true) ∙ own_work t s old c.in-Some-find_mut.work.now c.in-Some-find_mut.ensures.lent

pub returns-clause-funded : goal.returns-clause-funded
returns-clause-funded g c did =
    let t = c.args.tenant in
    let s = c.args.seq in
    let old = c.args.jobs.now in
    let wrote : c.find_mut.follows.lender c.fund.new.self ≡ change_found t s (with_work c.fund.new.self) old = rw c.in-Some-find_mut.is at (c.find_mut.follows.holds c.fund.new.self) in
    funded_so old (c.find_mut.follows.lender c.fund.new.self) c.set_phase.new.self t s c.args.quanta c.in-Some.phase c.in-Some-find_mut.work.now c.fund.new.self c.in-Some-find_mut.ensures.lent (sym c.in-Some.is ∙ c.phase_of.ensures)
    (sym c.is_here.ensures ∙ c.if-not-is_here.false) (c.fund.ensures.funded c.if-not-fund.false)
    (drawn_here g.J.Strategy.meaning g.J.Strategy.lease c.args.quanta c.in-Some-find_mut.work.now.search c.fund.new.self.search (c.fund.ensures.drawn c.if-not-fund.false)) wrote c.set_phase.ensures.put

pub returns-clause-kept : goal.returns-clause-kept
returns-clause-kept g c not =
    let t = c.args.tenant in
    let s = c.args.seq in
    let old = c.args.jobs.now in
    let wrote : c.find_mut.follows.lender c.fund.new.self ≡ change_found t s (with_work c.fund.new.self) old = rw c.in-Some-find_mut.is at (c.find_mut.follows.holds c.fund.new.self) in
    let put = is_put old (c.find_mut.follows.lender c.fund.new.self) t s c.in-Some-find_mut.work.now c.fund.new.self c.set_phase.result c.in-Some-find_mut.ensures.lent wrote c.set_phase.ensures.found in
    absurd (cc)
