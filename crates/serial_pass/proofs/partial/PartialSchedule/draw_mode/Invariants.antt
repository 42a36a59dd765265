use Rattle.std.proofs.Common.{◌≡◌, ◌≤◌, filter, length, take}
use Rattle.std.specs.List.{range_with_len}
use Rattle.strategy.specs.Candidate.{is_allowed_mode}
use Rattle.serial_pass.proofs.partial.PartialSchedule.draw_mode.Given as goal

abbrev pub invariant-loop-mode : goal.invariant-loop-mode
invariant-loop-mode l = record {
  listed : take l.count l.places ≡ filter (is_allowed_mode l.self-inside.project l.self-inside.state.placed.items l.activity) (range_with_len 0 l.mode);
  few : l.count ≤ l.mode;
  fit : length l.places ≡ 10;
}
