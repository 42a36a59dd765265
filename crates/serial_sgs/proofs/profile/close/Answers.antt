use Rattle.std.proofs.Common.{◌≡◌, ℕ, ◌-◌, ◌<◌, length, get_or, arith, sym, ap, ◌∙◌}
use Rattle.std.proofs.lemmas.Bool.{both_ways}
use Rattle.std.proofs.lemmas.List.{get_or_default}
use Rattle.serial_sgs.specs.declared.profile.Point.{Point}
use Rattle.serial_sgs.specs.Profile.{no_point, time_at, used_at}
use Rattle.serial_sgs.proofs.ProfileLemmas.{removed_ends, removed_steps, removed_kept, kept_ends, last_by}
use Rattle.serial_sgs.proofs.profile.close.Goals as goal
use Rattle.serial_sgs.proofs.profile.close.Goals.{else-at-gt0-via-then-at-gt0+else-are_same, else-at-gt0-via-else-at-gt0}

pub returns-then-are_same-clause-steps : goal.returns-then-are_same-clause-steps
returns-then-are_same-clause-steps c = removed_steps c.args.points.now.items c.take_away.new.points.items c.args.at c.requires.steps c.if-at-gt0.true c.requires.inside c.take_away.ensures.items

pub returns-then-are_same-clause-kept : goal.returns-then-are_same-clause-kept
returns-then-are_same-clause-kept c demand profile =
    let points = c.args.points.now.items in
    let at = c.args.at in
    let before : c.index.result.now ≡ get_or points (at - 1) no_point = c.index.ensures ∙ get_or_default points (at - 1) c.index.result.now no_point (omega (arith, c.requires.inside)) in
    let here : c.index-then-at-gt0.result.now ≡ get_or points at no_point = c.index-then-at-gt0.ensures ∙ get_or_default points at c.index-then-at-gt0.result.now no_point c.requires.inside in
    removed_kept points c.take_away.new.points.items at 8 demand profile c.if-at-gt0.true c.requires.inside c.take_away.ensures.items (λ r among. sym (ap (λ (x : Point). get_or x.used r 0) before) ∙ c.are_same.ensures.0 c.if-are_same.true r among ∙ ap (λ (x : Point). get_or x.used r 0) here)

pub returns-then-are_same-clause-ends : goal.returns-then-are_same-clause-ends
returns-then-are_same-clause-ends c demand is_end still profile was each =
    let points = c.args.points.now.items in
    let at = c.args.at in
    removed_ends points c.take_away.new.points.items at (time_at points at) 8 demand is_end still c.requires.steps (last_by points at c.requires.steps c.requires.inside) c.take_away.ensures.items was each

pub returns-else-at-gt0-clause-ends : goal.returns-else-at-gt0-clause-ends
returns-else-at-gt0-clause-ends c demand is_end still profile was each =
    let points = c.args.points.now.items in
    let at = c.args.at in
    let inside : at < length points = c.requires.inside in
    let unlike : 0 < at → ((r : ℕ) → r < 8 → used_at points (at - 1) r ≡ used_at points at r) → ⊥ = λ some same.
    elim c.else-at-gt0.branch [
      | else-at-gt0-via-then-at-gt0+else-are_same w ↦
          let before : w.index.result.now ≡ get_or points (at - 1) no_point = w.index.ensures ∙ get_or_default points (at - 1) w.index.result.now no_point (omega arith) in
          let here : w.index-then-at-gt0.result.now ≡ get_or points at no_point = w.index-then-at-gt0.ensures ∙ get_or_default points at w.index-then-at-gt0.result.now no_point inside in
          both_ways w.are_same.result w.if-are_same.false (w.are_same.ensures.1 (λ r among. ap (λ (x : Point). get_or x.used r 0) before ∙ same r among ∙ sym (ap (λ (x : Point). get_or x.used r 0) here)))
      | else-at-gt0-via-else-at-gt0 w ↦ absurd (omega (arith, w.if-at-gt0.false))
    ] in
    kept_ends points at (time_at points at) 8 demand is_end still profile (last_by points at c.requires.steps inside) unlike was each
