-- The line of a project stands for the bytes that were read of a reader.
use Rattle.std.proofs.Common.{◌≡◌, ℕ, List, [], ◌∷◌, ◌++◌, take, Option, Some, None, Ok, IfSome, ap, sym, subst, ◌∙◌}
use Rattle.std.specs.Io.KnownBytes.{Appends}
use Rattle.mrcpsp.specs.Project.{ProjectData}
use Rattle.psplib_mm.specs.Reading.{reading}
use Rattle.farm_cli.specs.Checked.{IsSummed}
use Rattle.farm_cli.specs.Summary.{summary_of, summary_text}
use Rattle.farm_cli.specs.declared.summary.Summary.{Summary}

pub summed : (limit : ℕ) (known : Option (List ℕ)) (items : List ℕ) (p : ProjectData) (s : Summary) (before after : Option (List ℕ)) →
    IfSome known (λ all. items ≡ take limit all) → reading items ≡ Ok p → s ≡ summary_of p → Appends before after (summary_text s ++ 10 ∷ []) →
    IfSome known (λ all. IsSummed (take limit all) before after)
summed limit None items p s before after front is sums wrote = front
summed limit (Some all) items p s before after front is sums wrote =
    let line : Summary → Type 0 = λ it. Appends before after (summary_text it ++ 10 ∷ []) in
    record { project = p; read = ap reading (sym front) ∙ is; wrote = subst line sums wrote }
