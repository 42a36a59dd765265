-- Clauses as spans of one list of words.
use Rattle.std.specs.Prelude.{ℕ, ◌≤◌, List, Option, Some, None, length, slice_range}
use Rattle.clause_kernel.specs.declared.store.Span.{Span}

-- the literals of a place
abbrev pub literals_of : List ℕ → Option Span → Option (List ℕ)
literals_of words None = None
literals_of words (Some span) = Some (slice_range words span.start span.end)

-- the span of a place lies within the words
abbrev pub IsWithin : List ℕ → Option Span → Type 0
IsWithin words None = Unit {0}
IsWithin words (Some span) = (span.start ≤ span.end) × (span.end ≤ length words)
