use Rattle.std.proofs.Common.{◌≡◌, ◌∙◌, sym, subst, arith}
use Rattle.session_lines.specs.Part.{GathersAll}
use Rattle.session_lines.proofs.PlaceLemmas.{places_more, places_split, places_whole}
use Rattle.session_lines.proofs.PartLemmas.{gathers_then, gathers_part, gathers_same, gathers_both}
use Rattle.session_lines.proofs.writer.gather_schedule.Goals as goal

pub returns-in-Err-clause-gathers : goal.returns-in-Err-clause-gathers
returns-in-Err-clause-gathers g c =
    let (rest, split) = places_split 1 c.loop-place.place c.as_slice-modes.result.now c.as_slice-starts.result.now (omega arith) (omega arith) in
    let modes : c.as_slice-modes.result.now ≡ c.args.schedule.now.modes = cc in
    let starts : c.as_slice-starts.result.now ≡ c.args.schedule.now.starts = cc in
    let all = gathers_part _ _ _ _ _ _ _ rest (gathers_then {U = Unit {0}} tt _ _ _ _ _ _ _ _ _ (record { ok = c.loop-place.invariant.1; err = tt }) (rw c.place_parts-parts.ensures at c.in-Err.ensures.gathers)) in
    rw (← modes, ← starts) (gathers_same _ _ _ _ _ _ _ all (sym split))

pub loop-place-preserved : goal.loop-place-preserved
loop-place-preserved g c =
    let more = places_more 1 c.loop-place.place c.as_slice-modes.result.now c.as_slice-starts.result.now (omega arith) (omega arith) in (
      (rw c.in_default.is at c.gather_parts.ensures.noted) ∙ c.loop-place.invariant.0,
      subst (GathersAll _ _ _ _) (sym more) (gathers_both _ _ _ _ _ _ _ _ c.loop-place.invariant.1 (rw (c.in_default.is, c.place_parts-parts.ensures) at c.gather_parts.ensures.gathers).ok),
    )

pub returns-clause-gathers : goal.returns-clause-gathers
returns-clause-gathers g c =
    let all = places_whole 1 c.loop-place.place c.as_slice-modes.result.now c.as_slice-starts.result.now (omega arith) in
    let modes : c.as_slice-modes.result.now ≡ c.args.schedule.now.modes = cc in
    let starts : c.as_slice-starts.result.now ≡ c.args.schedule.now.starts = cc in
    rw (← modes, ← starts) (record { ok = subst (GathersAll _ _ _ _) all c.loop-place.invariant.1; err = tt })
