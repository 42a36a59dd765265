-- The texts of breaches.
use Rattle.std.specs.Prelude.{ℕ, List, ◌++◌, codes, decimal}
use Rattle.mrcpsp.specs.declared.breach.Breach.{Breach}
use Rattle.mrcpsp.specs.declared.breach.Breach.TheVariants.{Shape, Mode, Precedence, Renewable, Nonrenewable}

-- the kind of a breach, with its numbers in brackets
abbrev pub breach_text : Breach → List ℕ
breach_text Shape = codes "Shape"
breach_text (Mode j) = codes "Mode(" ++ decimal j ++ codes ")"
breach_text (Precedence i j) = codes "Precedence(" ++ decimal i ++ codes ", " ++ decimal j ++ codes ")"
breach_text (Renewable r t) = codes "Renewable(" ++ decimal r ++ codes ", " ++ decimal t ++ codes ")"
breach_text (Nonrenewable r) = codes "Nonrenewable(" ++ decimal r ++ codes ")"
