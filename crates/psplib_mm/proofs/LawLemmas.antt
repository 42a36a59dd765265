-- What passes the reading is a project.
use Rattle.std.proofs.Common.{◌≡◌, ℕ, ◌+◌, ◌≤◌, true, false, cond, ltb, List, length, take, drop, Option, Some, None, Result, Ok, Err, refl, sym, ◌∙◌, ap}
use Rattle.std.specs.List.{before_first}
use Rattle.std.proofs.lemmas.Bool.{ltb-false}
use Rattle.mrcpsp.specs.Project.{ProjectData, is_project}
use Rattle.psplib_mm.specs.declared.cell.Cell.{Cell}
use Rattle.psplib_mm.specs.declared.fault.MmFault.{MmFault}
use Rattle.psplib_mm.specs.declared.fault.MmFault.TheVariants as fault
use Rattle.psplib_mm.specs.declared.fault.LimitName.{LimitName}
use Rattle.psplib_mm.specs.declared.fault.SectionName.TheVariants.{PrecedenceRelations, RequestsDurations, ResourceAvailabilities}
use Rattle.psplib_mm.specs.Text.{Piece, lines_of}
use Rattle.psplib_mm.specs.Contents.{◌>>=◌, Job, Group, jobs_of, groups_of, are_enough, each, job_in_place, group_in_place, job_follows, activities_of, numbers_of, broken, unless_broken, limited, contents}
use Rattle.psplib_mm.specs.Reading.{Sizes, sizes_of, begins, is_section_line, lines_after, words_below, cells_of, meaning, reading}
use Rattle.psplib_mm.specs.Laws.{ReadingGivesProjects}
use Rattle.psplib_mm.proofs.Sound.{bind_ok, guard_ok, guard_then, ok_is, contents_sound}
use Rattle.psplib_mm.proofs.Wholes.{project_of}

-- where no limit is broken, the project is the one that was given
unbroken : (found : Option LimitName) (p q : ProjectData) → unless_broken found p ≡ Ok q → (found ≡ None) × (p ≡ q)
unbroken None p q e = (refl, ok_is p q e)
unbroken (Some name) p q e = absurd cc

-- the steps of the contents, one continuation in the next
abbrev at_limits : ℕ → ℕ → List Cell → List Job → List Group → Result ProjectData MmFault
at_limits r v s jobs groups = limited (project_of r v jobs groups s)

contents-sound : (n r v : ℕ) (p q s : List Cell) (x : ProjectData) → contents n r v p q s ≡ Ok x → is_project x ≡ true
contents-sound n r v p q s x e =
    let follows : List Job → List Group → Result ProjectData MmFault = λ jobs groups. each (job_follows n) 1 jobs >>= λ _. at_limits r v s jobs groups in
    let groups_placed : List Job → List Group → Result ProjectData MmFault = λ jobs groups. each group_in_place 1 groups >>= λ _. follows jobs groups in
    let jobs_placed : List Job → List Group → Result ProjectData MmFault = λ jobs groups. each job_in_place 1 jobs >>= λ _. groups_placed jobs groups in
    let enough : List Job → List Group → Result ProjectData MmFault = λ jobs groups. are_enough (r + v) s >>= λ _. jobs_placed jobs groups in
    let a = bind_ok (jobs_of n p) (λ jobs. groups_of r v jobs q >>= λ groups. enough jobs groups) x e in
    let jobs : List Job = a.0 in
    let b = bind_ok (groups_of r v jobs q) (λ groups. enough jobs groups) x a.2 in
    let groups : List Group = b.0 in
    let c = bind_ok (are_enough (r + v) s) (λ _. jobs_placed jobs groups) x b.2 in
    let d = bind_ok (each job_in_place 1 jobs) (λ _. groups_placed jobs groups) x c.2 in
    let f = bind_ok (each group_in_place 1 groups) (λ _. follows jobs groups) x d.2 in
    let g = bind_ok (each (job_follows n) 1 jobs) (λ _. at_limits r v s jobs groups) x f.2 in
    let whole = unbroken (broken (project_of r v jobs groups s)) (project_of r v jobs groups s) x g.2 in
    let count : r + v ≤ length s = ltb-false _ _ (guard_ok (ltb (length s) (r + v)) (fault.Count ResourceAvailabilities) tt c.0 c.1).0 in
    let sound = contents_sound n r v p q s jobs groups (project_of r v jobs groups s) a.1 b.1 count g.1 refl whole.0 in
    sym (ap is_project whole.1) ∙ sound

meaning-sound : (lines : List Piece) (x : ProjectData) → meaning lines ≡ Ok x → is_project x ≡ true
meaning-sound lines x e =
    let at_numbers : Sizes → List Cell → List Cell → List Cell → Result ProjectData MmFault = λ sizes p q s. contents sizes.jobs sizes.renewable sizes.nonrenewable p q s in
    let at_cells : Sizes → List Piece → List Piece → List Piece → Result ProjectData MmFault = λ sizes below_precedence below_requests below_availabilities.
    cells_of (words_below (before_first (begins RequestsDurations) below_precedence)) >>= λ p.
    cells_of (words_below (before_first (begins ResourceAvailabilities) below_requests)) >>= λ q.
    cells_of (take (sizes.renewable + sizes.nonrenewable) (words_below below_availabilities)) >>= λ s. at_numbers sizes p q s in
    let a = bind_ok (sizes_of (before_first is_section_line lines)) (λ sizes. lines_after PrecedenceRelations lines >>= λ l. lines_after RequestsDurations l >>= λ m. lines_after ResourceAvailabilities m >>= λ n. at_cells sizes l m n) x e in
    let sizes : Sizes = a.0 in
    let b = bind_ok (lines_after PrecedenceRelations lines) (λ l. lines_after RequestsDurations l >>= λ m. lines_after ResourceAvailabilities m >>= λ n. at_cells sizes l m n) x a.2 in
    let l : List Piece = b.0 in
    let c = bind_ok (lines_after RequestsDurations l) (λ m. lines_after ResourceAvailabilities m >>= λ n. at_cells sizes l m n) x b.2 in
    let m : List Piece = c.0 in
    let d = bind_ok (lines_after ResourceAvailabilities m) (λ n. at_cells sizes l m n) x c.2 in
    let n : List Piece = d.0 in
    let f = bind_ok (cells_of (words_below (before_first (begins RequestsDurations) l))) (λ p. cells_of (words_below (before_first (begins ResourceAvailabilities) m)) >>= λ q. cells_of (take (sizes.renewable + sizes.nonrenewable) (words_below n)) >>= λ s. at_numbers sizes p q s) x d.2 in
    let p : List Cell = f.0 in
    let g = bind_ok (cells_of (words_below (before_first (begins ResourceAvailabilities) m))) (λ q. cells_of (take (sizes.renewable + sizes.nonrenewable) (words_below n)) >>= λ s. at_numbers sizes p q s) x f.2 in
    let q : List Cell = g.0 in
    let h = bind_ok (cells_of (take (sizes.renewable + sizes.nonrenewable) (words_below n))) (λ s. at_numbers sizes p q s) x g.2 in
    contents-sound sizes.jobs sizes.renewable sizes.nonrenewable p q h.0 x h.2

pub reading_gives_projects : ReadingGivesProjects
reading_gives_projects text x e = meaning-sound (lines_of text) x (guard_then (ltb 1048576 (length text)) fault.TooLong (meaning (lines_of text)) x e).1
