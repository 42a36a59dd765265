-- Multi-mode projects, as numbers, lists and records, and which of them are within the limits
-- (Sprecher and Drexl 1998; the limits are this project's own). A list of successors counts
-- activities from 1.
use Rattle.std.specs.Prelude.{ℕ, ◌+◌, Bool, true, not, ◌&&◌, List, [], ◌∷◌, ◌++◌, length, get_or, max, nat_le, nat_lt, ◌==◌}
use Rattle.std.specs.List.{list_all, list_any}
use Rattle.mrcpsp.specs.declared.limits.TheConstants.{MOST_ACTIVITIES, MOST_MODES, MOST_RESOURCES, MOST_AMOUNT, MOST_DURATION, MOST_HORIZON}

-- a mode: its duration in periods, its request of each renewable resource per period, and its
-- consumption of each nonrenewable one
pub record ModeData : Type 0 where
  pub duration : ℕ
  pub renewable : List ℕ
  pub nonrenewable : List ℕ

-- an activity: its modes, and the numbers of its direct successors
pub record ActivityData : Type 0 where
  pub modes : List ModeData
  pub successors : List ℕ

-- a project: its activities, the capacity of each renewable resource per period, and of each
-- nonrenewable one in all
pub record ProjectData : Type 0 where
  pub activities : List ActivityData
  pub renewable : List ℕ
  pub nonrenewable : List ℕ

-- whether n is low to high
abbrev pub is_between : ℕ → ℕ → ℕ → Bool
is_between low high n = nat_le low n && nat_le n high

-- the longest duration of a list of modes
abbrev pub longest : List ModeData → ℕ
longest [] = 0
longest (m ∷ ms) = max m.duration (longest ms)

-- the horizon: the sum of the longest durations
abbrev pub horizon : List ActivityData → ℕ
horizon [] = 0
horizon (a ∷ more) = longest a.modes + horizon more

-- whether there are `count` numbers, none above the limit of amounts
abbrev pub are_amounts : ℕ → List ℕ → Bool
are_amounts count amounts = (length amounts == count) && list_all (λ a. nat_le a MOST_AMOUNT) amounts

-- whether m is a mode for r renewable and v nonrenewable resources
abbrev pub is_mode : ℕ → ℕ → ModeData → Bool
is_mode r v m = nat_le m.duration MOST_DURATION && are_amounts r m.renewable && are_amounts v m.nonrenewable

-- whether a list may be the successors of activity j of n: each is above j, at most n, and not
-- named before
abbrev pub are_successors : ℕ → ℕ → List ℕ → List ℕ → Bool
are_successors n j before [] = true
are_successors n j before (s ∷ more) =
    nat_lt j s && nat_le s n && not (list_any (λ t. t == s) before) && are_successors n j (before ++ s ∷ []) more

-- whether a list may be the activities from number j on, of n in all
abbrev pub are_activities : ℕ → ℕ → ℕ → ℕ → List ActivityData → Bool
are_activities r v n j [] = true
are_activities r v n j (a ∷ more) =
    is_between 1 MOST_MODES (length a.modes) && list_all (is_mode r v) a.modes && are_successors n j [] a.successors
    && are_activities r v n (j + 1) more

-- whether a project keeps the limits of activities, modes, resources, durations, amounts and the
-- horizon, and the rule on successors
abbrev pub is_project : ProjectData → Bool
is_project p = is_between 1 MOST_ACTIVITIES (length p.activities)
    && nat_le (length p.renewable) MOST_RESOURCES && nat_le (length p.nonrenewable) MOST_RESOURCES
    && list_all (λ a. nat_le a MOST_AMOUNT) p.renewable && list_all (λ a. nat_le a MOST_AMOUNT) p.nonrenewable
    && are_activities (length p.renewable) (length p.nonrenewable) (length p.activities) 1 p.activities
    && nat_le (horizon p.activities) MOST_HORIZON

-- What follows names activities, modes and resources by their places in the lists, from 0.

-- the default for a missing mode
abbrev pub no_mode : ModeData
no_mode = record { duration = 0; renewable = []; nonrenewable = [] }

-- the default for a missing activity
abbrev pub no_activity : ActivityData
no_activity = record { modes = []; successors = [] }

-- the number of activities
unfoldable pub size : ProjectData → ℕ
size p = length p.activities

-- the number of renewable resources
unfoldable pub renewables : ProjectData → ℕ
renewables p = length p.renewable

-- the number of nonrenewable resources
unfoldable pub nonrenewables : ProjectData → ℕ
nonrenewables p = length p.nonrenewable

-- the modes of activity j
unfoldable pub modes : ProjectData → ℕ → List ModeData
modes p j = (get_or p.activities j no_activity).modes

-- the number of modes of activity j
unfoldable pub mode_count : ProjectData → ℕ → ℕ
mode_count p j = length (modes p j)

-- the direct successors of activity j, by numbers from 1
unfoldable pub successors : ProjectData → ℕ → List ℕ
successors p j = (get_or p.activities j no_activity).successors

-- the duration of activity j in mode m, in periods
unfoldable pub duration : ProjectData → ℕ → ℕ → ℕ
duration p j m = (get_or (modes p j) m no_mode).duration

-- the use of renewable resource r in each period of activity j in mode m
unfoldable pub request : ProjectData → ℕ → ℕ → ℕ → ℕ
request p j m r = get_or (get_or (modes p j) m no_mode).renewable r 0

-- the consumption of nonrenewable resource r by activity j in mode m
unfoldable pub consumption : ProjectData → ℕ → ℕ → ℕ → ℕ
consumption p j m r = get_or (get_or (modes p j) m no_mode).nonrenewable r 0

-- the capacity of renewable resource r in each period
unfoldable pub capacity : ProjectData → ℕ → ℕ
capacity p r = get_or p.renewable r 0

-- the capacity of nonrenewable resource r in all
unfoldable pub stock : ProjectData → ℕ → ℕ
stock p r = get_or p.nonrenewable r 0

-- whether activity j is a direct successor of activity i
unfoldable pub precedes : ProjectData → ℕ → ℕ → Bool
precedes p i j = list_any (λ s. s == j + 1) (successors p i)
