-- The result of several searches of one project, one after another: the shortest best schedule, and
-- the strongest verdict.
use Rattle.std.specs.Prelude.{◌≡◌, ℕ, ◌+◌, ◌≤◌, ◌⊎◌, Bool, true, false, min, nat_lt, List, [], ◌∷◌, fold, IfSome, IsSomeAnd, Option, Some, None, option_map}
use Rattle.mrcpsp.specs.Project.{ProjectData}
use Rattle.mrcpsp.specs.Schedule.{IsFeasible, IsOptimal, IsInfeasible, makespan}
use Rattle.strategy.specs.Outcome.{better}
use Rattle.strategy.specs.declared.verdict.Verdict.{Verdict}
use Rattle.strategy.specs.declared.verdict.Verdict.TheVariants.{Going, Optimal, Infeasible, Ended}
use Rattle.solve_cli.specs.Found.{IsFound}
use Rattle.solve_cli.specs.Improved.{IsImproved}
use Rattle.solve_cli.specs.declared.search_kinds.SearchKind.{SearchKind}
use Rattle.solve_cli.specs.declared.search_kinds.SearchKind.TheVariants.{Planned, Improve, Prove}
use Rattle.solve_cli.specs.declared.search_result.SearchResult.{SearchResult}

-- whether a verdict decides the project
abbrev pub is_decided : Verdict → Bool
is_decided Going = false
is_decided Optimal = true
is_decided Infeasible = true
is_decided Ended = false

-- the verdict of two searches: the one that decides, else 'open' if either is not over
abbrev pub stronger : Verdict → Verdict → Verdict
stronger Optimal other = Optimal
stronger Infeasible other = Infeasible
stronger Going Going = Going
stronger Going Optimal = Optimal
stronger Going Infeasible = Infeasible
stronger Going Ended = Going
stronger Ended other = other

-- whether there is another makespan, and it is less
abbrev pub is_shorter : Option ℕ → Option ℕ → Bool
is_shorter one None = false
is_shorter None (Some other) = true
is_shorter (Some one) (Some other) = nat_lt other one

-- the result of two searches; of equal best schedules it has the first one's
abbrev pub joined : ProjectData → SearchResult → SearchResult → SearchResult
joined p one other =
    record {
      nodes = one.nodes + other.nodes;
      best = better p one.best other.best;
      makespan = option_map (makespan p) (better p one.best other.best);
      verdict = stronger one.verdict other.verdict;
    }

-- the result of no search
abbrev pub nothing : SearchResult
nothing = record { nodes = 0; best = None; makespan = None; verdict = Ended }

-- the best schedule is feasible and has the result's makespan, and a verdict that decides the
-- project is true
pub record IsTrueOf (p : ProjectData) (found : SearchResult) : Type 0 where
  pub feasible : IfSome found.best (IsFeasible p)
  pub makespan : found.makespan ≡ option_map (makespan p) found.best
  pub optimal : found.verdict ≡ Optimal → IsSomeAnd found.best (IsOptimal p)
  pub infeasible : found.verdict ≡ Infeasible → IsInfeasible p

-- the result is true, has at most `most` nodes, and is of a search that shows something or is not over
pub record IsTrueWithin (p : ProjectData) (most : ℕ) (found : SearchResult) : Type 0 where
  pub nodes : found.nodes ≤ most
  pub holds : IsTrueOf p found
  pub shows : found.verdict ≡ Ended → ⊥

-- the result of a search of this kind
abbrev pub IsFoundBy : ProjectData → SearchKind → ℕ → SearchResult → Type 0
IsFoundBy p (Planned kind) most f = IsFound (record { project = p; kind = kind }) most f
IsFoundBy p (Improve seed) most f = IsImproved p most f
IsFoundBy p (Prove conflicts) most f = IsTrueWithin p (min conflicts most) f

-- the results of a search of each kind, in order, up to the first that decides the project
abbrev pub AreFound : ProjectData → List SearchKind → ℕ → List SearchResult → Type 0
AreFound p [] most each = each ≡ []
AreFound p (kind ∷ kinds) most [] = ⊥
AreFound p (kind ∷ kinds) most (found ∷ rest) =
    IsFoundBy p kind most found
    × (((is_decided found.verdict ≡ true) × (rest ≡ [])) ⊎ ((is_decided found.verdict ≡ false) × AreFound p kinds most rest))

-- the result of these searches together
pub record IsFoundByEach (p : ProjectData) (kinds : List SearchKind) (most : ℕ) (found : SearchResult) : Type 0 where
  pub each : List SearchResult
  pub run : AreFound p kinds most each
  pub whole : found ≡ fold (joined p) nothing each
