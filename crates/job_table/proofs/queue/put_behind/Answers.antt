use Rattle.std.proofs.Common.{◌≡◌, Some, is_some, refl, sym, ap}
use Rattle.std.specs.Map.{lookup}
use Rattle.job_table.specs.Table.{is_key}
use Rattle.job_table.specs.declared.queue.Links.{Links}
use Rattle.job_table.proofs.EntryLemmas.{relinked, jobs_stay, relinked_at}
use Rattle.job_table.proofs.queue.put_behind.Goals as goal

pub returns-in-Some-get_mut-clause-links : goal.returns-in-Some-get_mut-clause-links
returns-in-Some-get_mut-clause-links g c =
    let key = c.in-Some.key in
    let es = c.args.jobs.now.entries in
    let old = c.in-Some-get_mut.linked.now in
    let there : lookup (is_key key.0 key.1) es ≡ Some old = sym c.in-Some-get_mut.ensures.value in
    let change : Links → Links = λ l. record l { behind = c.args.to } in
    let holds = c.get_mut.follows.holds (record old { links = change old.links }) in
    let up = holds.3 (ap is_some there) in
    relinked_at key c.args.key change es (c.get_mut.follows.lender (record old { links = change old.links })).entries c.in-Some.is
    (relinked key.0 key.1 change es (c.get_mut.follows.lender (record old { links = change old.links })).entries old (record old { links = change old.links }) there refl (λ u n. up.0 (u, n)))

pub returns-in-Some-get_mut-clause-jobs : goal.returns-in-Some-get_mut-clause-jobs
returns-in-Some-get_mut-clause-jobs g c =
    let key = c.in-Some.key in
    let es = c.args.jobs.now.entries in
    let old = c.in-Some-get_mut.linked.now in
    let there : lookup (is_key key.0 key.1) es ≡ Some old = sym c.in-Some-get_mut.ensures.value in
    let change : Links → Links = λ l. record l { behind = c.args.to } in
    let holds = c.get_mut.follows.holds (record old { links = change old.links }) in
    jobs_stay (is_key key.0 key.1) es (c.get_mut.follows.lender (record old { links = change old.links })).entries old (record old { links = change old.links }) there refl holds.0
