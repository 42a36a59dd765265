-- At most how many entries of the journal a tenant uses.
use Rattle.std.specs.Prelude.{ℕ, ◌+◌, ◌*◌}

-- two for each slice of nodes, three for each submit or fund, and one for each other request
abbrev pub entries_for : ℕ → ℕ → ℕ → ℕ
entries_for slices submits others = 2 * slices + 3 * submits + others
