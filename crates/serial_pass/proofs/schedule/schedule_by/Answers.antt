use Rattle.std.proofs.Common.{◌≡◌, ◌+◌, ◌++◌, [], ◌∷◌, arith, sym, ap, ◌∙◌}
use Rattle.std.proofs.lemmas.List.FromFn.{map-range_with_len_more}
use Rattle.mrcpsp.specs.Placed.{Placed, mode_in, start_in}
use Rattle.serial_pass.proofs.schedule.schedule_by.Goals as goal

pub loop-activity-preserved : goal.loop-activity-preserved
loop-activity-preserved c =
    let placed = c.args.placed.now in let j = c.loop-activity.activity in
    let so_far = c.loop-activity.invariant in
    let mode : c.place.inside.mode ≡ mode_in placed j = ap (λ (a : Placed). a.mode) c.place.view_is ∙ c.place_in-place.ensures.mode in
    let start : c.place.inside.start ≡ start_in placed j = ap (λ (a : Placed). a.start) c.place.view_is ∙ c.place_in-place.ensures.start in
    record {
      modes = c.push_reserved.ensures.items ∙ ap (λ m. c.loop-activity.modes.items ++ (m + 1) ∷ []) mode
          ∙ ap (λ xs. xs ++ (mode_in placed j + 1) ∷ []) so_far.modes ∙ sym (map-range_with_len_more (λ j. mode_in placed j + 1) 0 j j (omega arith));
      starts = c.push_reserved-in-loop-activity.ensures.items ∙ ap (λ t. c.loop-activity.starts.items ++ t ∷ []) start
          ∙ ap (λ xs. xs ++ start_in placed j ∷ []) so_far.starts ∙ sym (map-range_with_len_more (start_in placed) 0 j j (omega arith));
      mode_len = omega (arith, so_far.mode_len, c.push_reserved.ensures.len);
      start_len = omega (arith, so_far.start_len, c.push_reserved-in-loop-activity.ensures.len);
      mode_room = omega (arith, so_far.mode_room, c.push_reserved.ensures.capacity);
      start_room = omega (arith, so_far.start_room, c.push_reserved-in-loop-activity.ensures.capacity);
    }
