use Rattle.std.proofs.Common.{◌≤◌, ◌≡◌, vec_len}
use Rattle.clause_store.proofs.watches.Watches.visit_all.Given as goal

abbrev pub invariant-loop-place : goal.invariant-loop-place
invariant-loop-place l = record {
  kept : l.kept ≤ l.place;
  same : vec_len l.list ≡ vec_len l.initial.list;
}
