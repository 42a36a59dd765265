-- Values of an activity, by the recursions of the field (Kolisch 1996; Sprecher and Drexl 1998).
-- Successors come after their predecessors, so `size` steps reach the end of every chain.
use Rattle.std.specs.Prelude.{ℕ, zero, suc, ◌+◌, ◌-◌, Bool, false, ◌||◌, ◌==◌, map, get_or, cond, length}
use Rattle.std.specs.List.{list_any}
use Rattle.mrcpsp.specs.Numbers.{smallest, largest, count_below, max_below}
use Rattle.mrcpsp.specs.Project.{ProjectData, size, modes, successors, horizon}

-- the shortest duration of activity j
unfoldable pub shortest : ProjectData → ℕ → ℕ
shortest p j = smallest (map (λ m. m.duration) (modes p j))

-- the least consumption of nonrenewable resource r by activity j
unfoldable pub least : ProjectData → ℕ → ℕ → ℕ
least p j r = smallest (map (λ m. get_or m.nonrenewable r 0) (modes p j))

-- the longest chain of at most k successors of activity j, by shortest durations: 0 without
-- successors, else the greatest, over successors s, of shortest duration and chain of s
abbrev pub chain : ProjectData → ℕ → ℕ → ℕ
chain p zero j = 0
chain p (suc k) j = largest (map (λ s. shortest p (s - 1) + chain p k (s - 1)) (successors p j))

-- the tail: the longest chain of successors of activity j
unfoldable pub tail : ProjectData → ℕ → ℕ
tail p j = chain p (size p) j

-- the bound: the critical path by shortest durations, with the activity that it begins with (Kelley
-- and Walker 1959)
unfoldable pub bound : ProjectData → ℕ
bound p = max_below (λ j. shortest p j + tail p j) (size p)

-- the latest finish time along chains of at most k successors: the horizon without successors, else
-- the least, over successors s, of its latest finish time less its shortest duration
abbrev pub latest_finish : ProjectData → ℕ → ℕ → ℕ
latest_finish p zero j = horizon p.activities
latest_finish p (suc k) j =
    cond (length (successors p j) == 0) (horizon p.activities)
    (smallest (map (λ s. latest_finish p k (s - 1) - shortest p (s - 1)) (successors p j)))

-- the latest finish time of activity j, for a project that ends at its horizon
unfoldable pub lft : ProjectData → ℕ → ℕ
lft p j = latest_finish p (size p) j

-- whether activity j follows activity i in at most k steps
abbrev pub follows : ProjectData → ℕ → ℕ → ℕ → Bool
follows p zero i j = false
follows p (suc k) i j = list_any (λ s. (s == j + 1) || follows p k (s - 1) j) (successors p i)

-- the number of total successors: how many activities follow activity j, each counted once
unfoldable pub mts : ProjectData → ℕ → ℕ
mts p j = count_below (follows p (size p) j) (size p)
