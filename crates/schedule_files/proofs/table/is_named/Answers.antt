use Rattle.std.proofs.Common.{◌≡◌, refl, ap, ◌∙◌, List, ℕ, map}
use Rattle.std.specs.Char.{to_ascii_lowercase}
use Rattle.std.specs.Str.{bytes_eq}
use Rattle.std.proofs.lemmas.Slice.Eq.{bytes_eq-Decides}
use Rattle.std.proofs.lemmas.Str.Ascii.{trim_ascii_is}
use Rattle.schedule_files.specs.ScheduleRows.{without_front, trimmed}
use Rattle.schedule_files.proofs.CellLemmas.{same_test}
use Rattle.schedule_files.proofs.table.is_named.Goals as goal

pub returns : goal.returns
returns c =
    let cell = c.args.cell.now in
    let name = c.args.name.now in
    let cut = c.trim_ascii.result.now in
    let same : cut ≡ trimmed cell = trim_ascii_is cell cut (without_front cell) refl c.trim_ascii.ensures.value in
    let test = c.eq_ignore_ascii_case.ensures.test in
    let decides = bytes_eq-Decides (map to_ascii_lowercase cut) (map to_ascii_lowercase name) in
    same_test c.eq_ignore_ascii_case.result (bytes_eq (map to_ascii_lowercase cut) (map to_ascii_lowercase name)) (map to_ascii_lowercase cut ≡ map to_ascii_lowercase name) test.0 test.1 decides.0 decides.1
    ∙ ap (λ (l : List ℕ). bytes_eq (map to_ascii_lowercase l) (map to_ascii_lowercase name)) same
    ∙ ap (bytes_eq (map to_ascii_lowercase (trimmed cell))) c.requires
