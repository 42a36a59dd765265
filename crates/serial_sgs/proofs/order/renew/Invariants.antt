use Rattle.std.proofs.Common.{◌≡◌, ℕ, ◌<◌, ◌==◌, false, [], length, get_or}
use Rattle.std.specs.List.{list_any}
use Rattle.serial_sgs.specs.Order.{IsLatest}
use Rattle.serial_sgs.proofs.order.renew.Given as goal

abbrev pub invariant-loop-other : goal.invariant-loop-other
invariant-loop-other l = record {
  count : length l.readies.items ≡ length l.initial.readies.items;
  own : (k : ℕ) → k < l.other-index → get_or l.waiting.missing (get_or l.after k 0) 0 ≡ 0 → IsLatest (get_or l.before (get_or l.after k 0) []) l.finishes (get_or l.readies.items (get_or l.after k 0) 0);
  rest : (j : ℕ) → list_any (λ s. s == j) l.after ≡ false → get_or l.readies.items j 0 ≡ get_or l.initial.readies.items j 0;
}
