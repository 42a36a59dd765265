-- The cells of a table's lines, and its titles.
use Rattle.std.specs.Prelude.{ℕ, ◌^◌, ◌-◌, List, ◌∷◌, ◌++◌, codes, decimal}
use Rattle.std.specs.Fmt.{format_spec, styled_decimal}
use Rattle.std.proofs.Math.Utf8.{encode}
use Rattle.plan_cli.specs.declared.layout.Layout.{Layout}
use Rattle.plan_cli.specs.declared.layout.Layout.TheVariants.{Columns, Csv}

-- a number, right-aligned in a column of this width
abbrev pub aligned : ℕ → ℕ → List ℕ
aligned width n = styled_decimal (format_spec 32 3 0 width (2 ^ 64 - 1)) n

-- the first cell of a line
abbrev pub first_cell : Layout → ℕ → List ℕ
first_cell Columns n = aligned 8 n
first_cell Csv n = decimal n

-- a cell behind another one
abbrev pub cell : Layout → ℕ → List ℕ
cell Columns n = 32 ∷ aligned 6 n
cell Csv n = 44 ∷ decimal n

-- the title of a resource's column: the letter of its kind, and its number
abbrev pub title : Layout → ℕ → ℕ → List ℕ
title Columns kind n = codes "     " ++ encode kind ++ decimal n
title Csv kind n = 44 ∷ encode kind ++ decimal n
