use Rattle.std.proofs.Common.{◌≡◌, ◌≤◌, ◌+◌, map, vec_capacity, vec_len}
use Rattle.std.specs.List.{range_with_len}
use Rattle.mrcpsp.specs.Placed.{mode_in, start_in}
use Rattle.serial_pass.proofs.schedule.schedule_by.Given as goal

abbrev pub invariant-loop-activity : goal.invariant-loop-activity
invariant-loop-activity l = record {
  modes : l.modes.items ≡ map (λ j. mode_in l.placed j + 1) (range_with_len 0 l.activity);
  starts : l.starts.items ≡ map (start_in l.placed) (range_with_len 0 l.activity);
  mode_len : vec_len l.modes ≡ l.activity;
  start_len : vec_len l.starts ≡ l.activity;
  mode_room : l.size ≤ vec_capacity l.modes;
  start_room : l.size ≤ vec_capacity l.starts;
}
