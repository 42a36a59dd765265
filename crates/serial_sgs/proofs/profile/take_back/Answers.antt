use Rattle.std.proofs.Common.{◌<◌, ℕ, ◌≤◌, length, arith, sym, subst}
use Rattle.serial_sgs.specs.Profile.{IsRaised, time_at}
use Rattle.serial_sgs.proofs.ProfileLemmas.{used_demand, lowered_profile, times_ends, cut_here}
use Rattle.serial_sgs.proofs.profile.take_back.Goals as goal

pub lower-requires-clause-cut : goal.lower-requires-clause-cut
lower-requires-clause-cut c = c.open-to.ensures.cuts c.args.early c.requires.cut

pub lower-requires-clause-enough : goal.lower-requires-clause-enough
lower-requires-clause-enough c k r inside among from to =
    let demand = c.requires.profile.1 in
    let grows = c.requires.profile.2 in
    let opened = c.open-to.new.points.items in
    let profile = c.open-to.ensures.kept 8 demand c.requires.profile.3 in
    let l : k < length opened = inside in
    let begun : c.args.early ≤ time_at opened k = from in
    let ends : time_at opened k < time_at opened c.open-to.result = to in
    omega (arith, used_demand 8 demand opened profile k r l among, grows.within r (time_at opened k) among begun (omega (arith, ends, c.open-to.ensures.time)))

pub returns-clause-kept : goal.returns-clause-kept
returns-clause-kept c less demand grows was =
    let opened = c.open-to.new.points.items in
    let lowered = c.lower.new.points.items in
    let raised : IsRaised 8 c.args.early c.args.start c.args.request.now lowered opened = subst (λ (t : ℕ). IsRaised 8 c.args.early t c.args.request.now lowered opened) c.open-to.ensures.time c.lower.ensures.raised in
    let profile = c.open-to.ensures.kept 8 demand was in
    let begins = c.open-to.ensures.cuts c.args.early c.requires.cut in
    let ends = cut_here opened c.open-to.result c.args.start c.open-to.ensures.steps c.open-to.ensures.inside c.open-to.ensures.time in
    lowered_profile 8 c.args.early c.args.start c.args.request.now less demand opened lowered profile begins ends raised grows

pub returns-clause-ends : goal.returns-clause-ends
returns-clause-ends c is_end at was =
    let raised = c.lower.ensures.raised in
    times_ends c.open-to.new.points.items c.lower.new.points.items is_end (sym raised.count) (λ k. sym (raised.times k)) (c.open-to.ensures.ends is_end at was)
