use Rattle.std.proofs.Common.{◌≡◌, ℕ, ◌<◌, ◌≤◌, ◌+◌, get_or, length}
use Rattle.schedule_files.proofs.objects.last_line.Given as goal

-- the line begins the text, or behind a line feed of it, and no line feed is behind that so far
abbrev pub invariant-loop-place : goal.invariant-loop-place
invariant-loop-place l = record {
  inside : l.start < l.place;
  within : l.start ≤ length l.text;
  behind : (before : ℕ) → l.start ≡ before + 1 → get_or l.text before 0 ≡ 10;
  last : (k : ℕ) → l.start ≤ k → k + 1 < l.place → get_or l.text k 0 ≡ 10 → ⊥;
}
