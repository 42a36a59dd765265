-- About how many clauses on starts a bound makes: clauses of rows, which may be fewer, are not
-- counted.
use Rattle.std.specs.Prelude.{ℕ, zero, suc, ◌+◌, ◌-◌, ◌*◌, cond}
use Rattle.mrcpsp.specs.Numbers.{sum_below, max_below}
use Rattle.mrcpsp.specs.Project.{ProjectData, size, mode_count, precedes}
use Rattle.mrcpsp.specs.Values.{shortest, tail}

-- the longest chain of at most k activities before activity j, by shortest durations
abbrev pub chain_before : ProjectData → ℕ → ℕ → ℕ
chain_before p zero j = 0
chain_before p (suc k) j = max_below (λ i. cond (precedes p i j) (chain_before p k i + shortest p i) 0) j

-- the head: the longest chain before activity j. Numbers rise along a chain, so at most j
-- activities are before it
unfoldable pub head : ProjectData → ℕ → ℕ
head p j = chain_before p j j

-- the starts of activity j within the bound that the chains before and behind it leave
unfoldable pub starts_of : ProjectData → ℕ → ℕ → ℕ
starts_of p bound j = (bound + 1) - (head p j + shortest p j + tail p j)

-- the number of modes of the activities right before activity j
unfoldable pub modes_before : ProjectData → ℕ → ℕ
modes_before p j = sum_below (λ i. cond (precedes p i j) (mode_count p i) 0) j

-- each start of an activity, counted once for each of its modes and of the modes right before it
unfoldable pub start_clauses : ProjectData → ℕ → ℕ
start_clauses p bound = sum_below (λ j. starts_of p bound j * (mode_count p j + modes_before p j)) (size p)
