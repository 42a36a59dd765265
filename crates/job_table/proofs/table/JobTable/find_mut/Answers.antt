use Rattle.std.proofs.Common.{◌≡◌, Some, is_some, refl, sym, ap, ◌∙◌}
use Rattle.job_table.specs.Table.{find_row}
use Rattle.job_table.specs.Lent.{with_work, change_found}
use Rattle.job_table.specs.Kept.{whole}
use Rattle.job_table.proofs.WholeLemmas.{seen}
use Rattle.job_table.proofs.LentLemmas.{lent_whole}
use Rattle.job_table.proofs.table.JobTable.find_mut.Goals as goal

pub returns-in_default : goal.returns-in_default
returns-in_default g c =
    ((refl, (λ w. tt), ap (λ m. whole m.entries c.self.inside.queue) c.get_mut.follows.holds-at-none ∙ c.self.view_is), record { writes_back = tt; lent = tt; none = seen c.args.tenant c.args.seq c.self.invariant c.self.view_is c.in_default.ensures.value })

pub invariant_of-self-lent : goal.invariant_of-self-lent
invariant_of-self-lent g c w = (lent_whole c.args.tenant c.args.seq c.in-Some.linked.now w c.self.invariant c.in-Some.ensures.value (λ u n. ((c.get_mut.follows.holds _).3 (ap is_some (sym c.in-Some.ensures.value))).0 (u, n))).table

pub returns : goal.returns
returns g c =
    let found : find_row c.args.tenant c.args.seq c.args.self.now.rows ≡ Some c.in-Some.linked.now.job = seen c.args.tenant c.args.seq c.self.invariant c.self.view_is c.in-Some.ensures.value in
    ((refl, (λ w. (lent_whole c.args.tenant c.args.seq c.in-Some.linked.now w c.self.invariant c.in-Some.ensures.value (λ u n. ((c.get_mut.follows.holds _).3 (ap is_some (sym c.in-Some.ensures.value))).0 (u, n))).is ∙ ap (change_found c.args.tenant c.args.seq (with_work w)) c.self.view_is), refl), record { writes_back = tt; lent = record { job = c.in-Some.linked.now.job; found = found; lent = c.work_mut.ensures.value }; none = tt })
