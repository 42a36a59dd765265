-- The words that name searches of this command.
use Rattle.std.specs.Prelude.{ℕ, List, Option, Some, None, option_map, codes}
use Rattle.strategy.specs.declared.kind.Kind.{Kind}
use Rattle.strategy.specs.KindWord.{kind_in, seed_in}
use Rattle.solve_cli.specs.declared.search_kinds.SearchKind.{SearchKind}
use Rattle.solve_cli.specs.declared.search_kinds.SearchKind.TheVariants.{Planned, Improve, Prove}

-- the first of three searches that there is: of a kind, by local search with a seed, or by a proof
-- within a number of conflicts
abbrev pub search_of : Option Kind → Option ℕ → Option ℕ → Option SearchKind
search_of None None conflicts = option_map Prove conflicts
search_of None (Some seed) conflicts = Some (Improve seed)
search_of (Some kind) seed conflicts = Some (Planned kind)

-- the search that a word names: the kind's, `improve:` and a seed, or `prove:` and a number of
-- conflicts
abbrev pub search_in : List ℕ → Option SearchKind
search_in word = search_of (kind_in word) (seed_in (codes "improve:") word) (seed_in (codes "prove:") word)
