use Rattle.std.proofs.Common.{◌≡◌, ℕ, ◌+◌, ◌-◌, ◌<◌, ◌≤◌, max, length, arith, subst, ⊎_elim}
use Rattle.std.proofs.lemmas.Bool.{both_ways, cases_lt}
use Rattle.serial_sgs.specs.Profile.{FitsAt, time_at}
use Rattle.serial_sgs.proofs.ProfileLemmas.{rising_to}
use Rattle.serial_sgs.proofs.walk.first_stretch.Goals as goal

pub loop-at-init : goal.loop-at-init
loop-at-init c =
    let points = c.args.points.now in
    let at : ℕ = c.segment-at.result in
    record {
      above = omega arith;
      soon = c.requires.ready;
      inside = omega (arith, c.segment-at.ensures.inside);
      room = λ k before late. absurd (omega (arith, c.segment-at.ensures.inside, c.segment-at.ensures.before, before, late (omega (arith, before, c.segment-at.ensures.inside)), rising_to points (k + 1) at c.requires.steps (omega (arith, before)) c.segment-at.ensures.inside));
      first = λ t above before fit. absurd (omega (arith, above, before));
    }

pub returns-then-start-row : goal.returns-then-start-row
returns-then-start-row c =
    let points = c.args.points.now in
    let at : ℕ = c.loop-at.at in
    let so_far = c.loop-at.invariant in
    record {
      above = so_far.above;
      room = λ k u inside here l h.
          ⊎_elim
          (λ (before : k < at). so_far.room k before (λ more. omega (arith, l, here.1 more)))
          (λ (past : at ≤ k). absurd (omega (arith, c.if-start-row.true, here.0, h, rising_to points at k c.requires.steps past inside)))
          (cases_lt k at);
      first = so_far.first;
    }

pub loop-at-preserved-then-not-fits : goal.loop-at-preserved-then-not-fits
loop-at-preserved-then-not-fits c =
    let points = c.args.points.now in
    let row = c.args.row.now in
    let at : ℕ = c.loop-at.at in
    let start : ℕ = c.loop-at.start in
    let so_far = c.loop-at.invariant in
    let full : FitsAt points at row.request c.args.capacities.now → ⊥ = λ fit. both_ways c.fits.result c.if-not-fits.true (c.fits.ensures.1 fit) in
    let next : at + 1 < length points =
    ⊎_elim
    (λ (l : at + 1 < length points). l)
    (λ (last : length points ≤ at + 1).
    let e : length points - 1 ≡ at = omega (arith, last, c.loop-at-test.true) in
    absurd (full (subst (λ (k : ℕ). FitsAt points k row.request c.args.capacities.now) e c.requires.last)))
    (cases_lt (at + 1) (length points)) in
    let later : c.max-start.result ≡ max start (time_at points (at + 1)) = c.max-start.ensures in
    let near : time_at points at < start + row.duration = omega (arith, c.if-start-row.false) in
    let rises : time_at points at < time_at points (at + 1) = c.requires.steps.rising at next in
    record {
      above = omega (arith, so_far.above, later);
      soon = omega (arith, so_far.soon, later, c.requires.soon (at + 1) next);
      inside = omega (arith, next);
      room = λ k before late. absurd (omega (arith, later, late (omega (arith, before, next)), rising_to points (k + 1) (at + 1) c.requires.steps (omega (arith, before)) next));
      first = λ t above before fit.
          ⊎_elim
          (λ (early : t < start). so_far.first t above early fit)
          (λ (here : start ≤ t).
          let u : ℕ = max t (time_at points at) in
          full (fit at u (omega (arith, next)) (omega arith, λ _. omega (arith, later, before, here, rises)) (omega arith) (omega (arith, near, here, c.requires.some))))
          (cases_lt t start);
    }

pub loop-at-preserved : goal.loop-at-preserved
loop-at-preserved c =
    let points = c.args.points.now in
    let row = c.args.row.now in
    let at : ℕ = c.loop-at.at in
    let so_far = c.loop-at.invariant in
    record {
      above = so_far.above;
      soon = so_far.soon;
      inside = omega (arith, c.loop-at-test.true);
      room = λ k before late.
          ⊎_elim
          (λ (earlier : k < at). so_far.room k earlier late)
          (λ (here : at ≤ k).
          let e : at ≡ k = omega (arith, before, here) in
          subst (λ (i : ℕ). FitsAt points i row.request c.args.capacities.now) e (c.fits.ensures.0 c.if-not-fits.false))
          (cases_lt k at);
      first = so_far.first;
    }

pub returns : goal.returns
returns c =
    let so_far = c.loop-at.invariant in
    record {
      above = so_far.above;
      room = λ k u inside here l h. so_far.room k (omega (arith, inside, c.loop-at-test.false)) (λ more. omega (arith, l, here.1 more));
      first = so_far.first;
    }
