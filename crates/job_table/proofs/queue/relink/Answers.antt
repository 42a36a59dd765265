use Rattle.std.proofs.Common.{◌≡◌, Some, is_some, refl, sym, ap}
use Rattle.std.specs.Map.{lookup}
use Rattle.job_table.specs.Table.{is_key}
use Rattle.job_table.proofs.EntryLemmas.{relinked, jobs_stay}
use Rattle.job_table.proofs.queue.relink.Goals as goal

pub returns-in-Some-clause-links : goal.returns-in-Some-clause-links
returns-in-Some-clause-links g c =
    let t = c.args.tenant in
    let s = c.args.seq in
    let es = c.args.jobs.now.entries in
    let old = c.in-Some.linked.now in
    let there : lookup (is_key t s) es ≡ Some old = sym c.in-Some.ensures.value in
    let holds = c.get_mut.follows.holds (record old { links = c.replace.new.dest }) in
    let up = holds.3 (ap is_some there) in
    relinked t s (λ l. c.args.to) es (c.get_mut.follows.lender (record old { links = c.replace.new.dest })).entries old (record old { links = c.replace.new.dest }) there c.replace.ensures.after (λ u n. up.0 (u, n))

pub returns-in-Some-clause-jobs : goal.returns-in-Some-clause-jobs
returns-in-Some-clause-jobs g c =
    let t = c.args.tenant in
    let s = c.args.seq in
    let es = c.args.jobs.now.entries in
    let old = c.in-Some.linked.now in
    let there : lookup (is_key t s) es ≡ Some old = sym c.in-Some.ensures.value in
    let holds = c.get_mut.follows.holds (record old { links = c.replace.new.dest }) in
    jobs_stay (is_key t s) es (c.get_mut.follows.lender (record old { links = c.replace.new.dest })).entries old (record old { links = c.replace.new.dest }) there refl holds.0
