use Rattle.std.proofs.Common.{◌≡◌, ◌+◌, ◌-◌, ◌<◌, ◌≤◌, inl, inr, refl, ap, arith, ⊎_elim}
use Rattle.std.proofs.lemmas.Bool.{both_ways, cases_lt}
use Rattle.serial_sgs.specs.Profile.{time_at}
use Rattle.serial_sgs.proofs.ProfileLemmas.{rising_to}
use Rattle.serial_sgs.proofs.walk.first_fit.Goals as goal

pub returns-then-not-fits : goal.returns-then-not-fits
returns-then-not-fits c =
    let points = c.args.points.now in
    let at = c.loop-at.at in
    let so_far = c.loop-at.invariant in
    let late : c.args.ready < time_at points at = c.loop-at-test.true in
    let some : 0 < at =
    ⊎_elim (λ (l : 0 < at). l) (λ (none : at ≤ 0). let e : at ≡ 0 = omega arith in absurd (omega (arith, ap (time_at points) e, c.requires.steps.first, late))) (cases_lt 0 at) in
    let same : at - 1 + 1 ≡ at = omega (arith, some) in
    record {
      above = omega (arith, late);
      room = λ k inside before.
          ⊎_elim
          (λ (earlier : k < at). absurd (omega (arith, rising_to points (k + 1) at c.requires.steps (omega arith) so_far.inside, before (omega (arith, earlier, so_far.inside)))))
          (λ (later : at ≤ k). so_far.fitting k later inside)
          (cases_lt k at);
      first = inr (at - 1, rw same so_far.inside, ap (time_at points) same, λ fit. both_ways c.fits.result c.if-not-fits.true (c.fits.ensures.1 fit));
    }

pub returns : goal.returns
returns c =
    let points = c.args.points.now in
    let at = c.loop-at.at in
    let so_far = c.loop-at.invariant in
    let soon : time_at points at ≤ c.args.ready = omega (arith, c.loop-at-test.false) in
    record {
      above = omega arith;
      room = λ k inside before.
          ⊎_elim
          (λ (earlier : k < at). absurd (omega (arith, soon, rising_to points (k + 1) at c.requires.steps (omega arith) so_far.inside, before (omega (arith, earlier, so_far.inside)))))
          (λ (later : at ≤ k). so_far.fitting k later inside)
          (cases_lt k at);
      first = inl refl;
    }
