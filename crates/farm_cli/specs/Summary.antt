-- The summary of a project that `farm check` writes, and its line.
use Rattle.std.specs.Prelude.{ℕ, List, ◌++◌, codes, decimal}
use Rattle.mrcpsp.specs.Numbers.{sum_below}
use Rattle.mrcpsp.specs.Project.{ProjectData, size, renewables, nonrenewables, mode_count, horizon}
use Rattle.farm_cli.specs.declared.summary.Summary.{Summary}

-- the numbers of activities, of all modes and of resources, and the horizon
abbrev pub summary_of : ProjectData → Summary
summary_of p = record {
  activities = size p;
  modes = sum_below (mode_count p) (size p);
  renewable = renewables p;
  nonrenewable = nonrenewables p;
  horizon = horizon p.activities;
}

-- the text of a summary
abbrev pub summary_text : Summary → List ℕ
summary_text s = codes "activities " ++ (decimal s.activities ++ (codes " modes " ++ (decimal s.modes
    ++ (codes " renewable " ++ (decimal s.renewable ++ (codes " nonrenewable " ++ (decimal s.nonrenewable
    ++ (codes " horizon " ++ decimal s.horizon))))))))
