-- The lines of a result tell its best schedule.
use Rattle.std.proofs.Common.{◌≡◌, ℕ, ◌≤◌, List, [], ◌∷◌, ◌++◌, length, sym, ap, ◌∙◌, subst, append_assoc, codes, decimal, Option, Some}
use Rattle.mrcpsp.specs.Schedule.{ScheduleData}
use Rattle.schedule_files.specs.Laws.{IsWritable}
use Rattle.schedule_files.specs.ScheduleText.{Tells, schedule_text}
use Rattle.schedule_files.specs.declared.reading.TheConstants.{MOST_BYTES}
use Rattle.schedule_files.proofs.WrittenLemmas.{words_are_told}
use Rattle.solve_cli.specs.FoundText.{places_of, shown_text, nodes_line, found_text, better_line}
use Rattle.solve_cli.specs.Laws.{LinesTellTheBest, BetterLineTells}
use Rattle.solve_cli.specs.declared.search_result.SearchResult.{SearchResult}

-- the schedule at the end of a text of two parts
at_the_end : (text front : List ℕ) (s : ScheduleData) → text ≡ front ++ (schedule_text s ++ 10 ∷ []) → IsWritable s → length text ≤ MOST_BYTES → Tells text s
at_the_end text front s is can short =
    subst (λ (l : List ℕ). Tells l s) (sym is) (words_are_told front s can (subst (λ (l : List ℕ). length l ≤ MOST_BYTES) is short))

regroup : (a b c d : List ℕ) → a ++ (((b ++ c) ++ d) ++ 10 ∷ []) ≡ (a ++ (b ++ c)) ++ (d ++ 10 ∷ [])
regroup a b c d = ap (λ l. a ++ l) (append_assoc (b ++ c) d (10 ∷ [])) ∙ sym (append_assoc a (b ++ c) (d ++ 10 ∷ []))

lines_are : (found : SearchResult) (best : ScheduleData) → found.best ≡ Some best
    → found_text found ≡ (nodes_line found ++ (codes "makespan " ++ shown_text found)) ++ (schedule_text best ++ 10 ∷ [])
lines_are found best is =
    ap (λ (o : Option ScheduleData). nodes_line found ++ (codes "makespan " ++ shown_text found ++ places_of o ++ 10 ∷ [])) is
    ∙ regroup (nodes_line found) (codes "makespan ") (shown_text found) (schedule_text best)

pub lines_tell : LinesTellTheBest
lines_tell found best is can short = at_the_end (found_text found) (nodes_line found ++ (codes "makespan " ++ shown_text found)) best (lines_are found best is) can short

pub better_tells : BetterLineTells
better_tells makespan best can short =
    at_the_end (better_line makespan best) (codes "makespan " ++ decimal makespan ++ codes " open") best (append_assoc (codes "makespan " ++ decimal makespan ++ codes " open") (schedule_text best) (10 ∷ [])) can short
