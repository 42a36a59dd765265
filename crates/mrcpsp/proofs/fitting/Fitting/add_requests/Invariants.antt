use Rattle.std.proofs.Common.{◌≡◌, ℕ, ◌+◌, ◌<◌, ◌≤◌, length, get_or}
use Rattle.mrcpsp.specs.Project.{request}
use Rattle.mrcpsp.specs.Schedule.{mode_of}
use Rattle.mrcpsp.proofs.fitting.Fitting.add_requests.Given as goal

abbrev pub invariant-loop-resource : goal.invariant-loop-resource
invariant-loop-resource l = record {
  fit : length l.uses ≡ 8;
  done : (r : ℕ) → r < l.resource → get_or l.uses r 0 ≡ get_or l.initial.uses r 0 + request l.self.project.now l.activity (mode_of l.self.schedule.now l.activity) r;
  few : (r : ℕ) → get_or l.uses r 0 ≤ get_or l.initial.uses r 0 + 1000000;
  rest : (r : ℕ) → l.resource ≤ r → get_or l.uses r 0 ≡ get_or l.initial.uses r 0;
}
