use Rattle.std.proofs.Common.{◌≡◌, ◌⊎◌, ℕ, ◌<◌, slice_index}
use Rattle.clause_kernel.specs.Marks.{fixed_of}
use Rattle.clause_kernel.proofs.marks.clear.Given as goal

abbrev pub invariant-loop-value : goal.invariant-loop-value
invariant-loop-value l = record {
  fixed : fixed_of l.values ≡ fixed_of l.fn.values;
  each : (k : ℕ) → k < l.value-index → (slice_index l.values k ≡ 0) ⊎ (slice_index l.values k ≡ 4294967295);
}
