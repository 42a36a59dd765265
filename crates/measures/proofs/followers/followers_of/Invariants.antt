use Rattle.std.proofs.Common.{◌≡◌, ℕ, ◌<◌, ◌||◌, false, length, get_or, drop}
use Rattle.mrcpsp.specs.Project.{size}
use Rattle.mrcpsp.specs.Values.{follows}
use Rattle.measures.proofs.ValueLemmas.{any_leads}
use Rattle.measures.proofs.followers.followers_of.Given as goal

abbrev pub invariant-loop-successor : goal.invariant-loop-successor
invariant-loop-successor l = record {
  fit : length l.row ≡ 202;
  rest : (k : ℕ) → k < size l.project → (get_or l.row k false || any_leads l.project k (drop l.successor-index l.successor-items)) ≡ follows l.project (size l.project) l.activity k;
}
