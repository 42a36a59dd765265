-- Clauses on runs of barred starts, each of which every schedule within the bound satisfies.
use Rattle.std.proofs.Common.{◌≡◌, ℕ, ◌-◌, ◌<◌, ◌≤◌, ◌==◌, Bool, true, false, not, ◌||◌, nat_le, [], ◌∷◌, Some, arith, refl, sym, ◌∙◌, ⊎_elim}
use Rattle.std.proofs.lemmas.Bool.{cases_lt, eqb-true, le-leb, leb-true, true≢false}
use Rattle.mrcpsp.specs.Project.{ProjectData, size}
use Rattle.mrcpsp.specs.Schedule.{ScheduleData, mode_of, start_of}
use Rattle.schedule_prices.specs.Choices.{AreBarred}
use Rattle.schedule_prices.proofs.ChoiceLemmas.{start-le}
use Rattle.schedule_clauses.specs.Meaning.{IsWithin, IsValid}
use Rattle.schedule_clauses.specs.BarredRun.{IsBarredRun}
use Rattle.schedule_clauses.specs.declared.meaning.Fact.TheVariants.{StartsBy, InMode}
use Rattle.schedule_clauses.proofs.FormLemmas.{yes_of, not_of, skip_not, last_not, last}

-- a schedule within the bound takes no start of the run
not-taken : (p : ProjectData) (s : ScheduleData) (bound : ℕ) (barred : ℕ → ℕ → ℕ → Bool) (j m from to : ℕ) → AreBarred p bound barred → IsWithin p (Some bound) s → j < size p → IsBarredRun barred j m from to → (mode_of s j == m) ≡ true → from ≤ start_of s j → start_of s j ≤ to → ⊥
not-taken p s bound barred j m from to sound short inside run e a b =
    let chosen : mode_of s j ≡ m = eqb-true (mode_of s j) m e in
    let free : barred j (mode_of s j) (start_of s j) ≡ false = sound s short.feasible (short.short bound refl) j inside in
    true≢false (sym (run.each (start_of s j) a b) ∙ (rw chosen at free))

-- it starts before a run from which on all starts are barred up to the bound
begins-before : (p : ProjectData) (s : ScheduleData) (bound : ℕ) (barred : ℕ → ℕ → ℕ → Bool) (j m from to : ℕ) → AreBarred p bound barred → IsWithin p (Some bound) s → j < size p → IsBarredRun barred j m from to → (mode_of s j == m) ≡ true → start_of s j ≤ to → start_of s j < from
begins-before p s bound barred j m from to sound short inside run e b =
    ⊎_elim (λ (h : start_of s j < from). h) (λ (h : from ≤ start_of s j). absurd (not-taken p s bound barred j m from to sound short inside run e h b)) (cases_lt (start_of s j) from)

pub valid-run : (p : ProjectData) (bound : ℕ) (barred : ℕ → ℕ → ℕ → Bool) (j m from to : ℕ) → AreBarred p bound barred → j < size p → IsBarredRun barred j m from to → 0 < from → IsValid p (Some bound) (not_of (InMode j m) ∷ not_of (StartsBy j to) ∷ yes_of (StartsBy j (from - 1)) ∷ [])
valid-run p bound barred j m from to sound inside run some = record {
  sure = λ s short.
      skip_not (mode_of s j == m) (not (nat_le (start_of s j) to) || (nat_le (start_of s j) (from - 1) || false)) (λ e.
      skip_not (nat_le (start_of s j) to) (nat_le (start_of s j) (from - 1) || false) (λ f.
      last (nat_le (start_of s j) (from - 1)) (le-leb (start_of s j) (from - 1) (
      let h = begins-before p s bound barred j m from to sound short inside run e (leb-true (start_of s j) to f) in omega arith))));
}

pub valid-run-to-bound : (p : ProjectData) (bound : ℕ) (barred : ℕ → ℕ → ℕ → Bool) (j m from to : ℕ) → AreBarred p bound barred → j < size p → IsBarredRun barred j m from to → 0 < from → bound ≤ to → IsValid p (Some bound) (not_of (InMode j m) ∷ yes_of (StartsBy j (from - 1)) ∷ [])
valid-run-to-bound p bound barred j m from to sound inside run some l = record {
  sure = λ s short.
      skip_not (mode_of s j == m) (nat_le (start_of s j) (from - 1) || false) (λ e.
      last (nat_le (start_of s j) (from - 1)) (le-leb (start_of s j) (from - 1) (
      let k = start-le p s bound j (short.short bound refl) inside in
      let h = begins-before p s bound barred j m from to sound short inside run e (omega arith) in omega arith)));
}

pub valid-run-from-zero : (p : ProjectData) (bound : ℕ) (barred : ℕ → ℕ → ℕ → Bool) (j m from to : ℕ) → AreBarred p bound barred → j < size p → IsBarredRun barred j m from to → from ≡ 0 → IsValid p (Some bound) (not_of (InMode j m) ∷ not_of (StartsBy j to) ∷ [])
valid-run-from-zero p bound barred j m from to sound inside run none = record {
  sure = λ s short.
      skip_not (mode_of s j == m) (not (nat_le (start_of s j) to) || false) (λ e.
      last_not (nat_le (start_of s j) to) (λ f.
      let h = begins-before p s bound barred j m from to sound short inside run e (leb-true (start_of s j) to f) in omega arith));
}

pub valid-run-of-all : (p : ProjectData) (bound : ℕ) (barred : ℕ → ℕ → ℕ → Bool) (j m from to : ℕ) → AreBarred p bound barred → j < size p → IsBarredRun barred j m from to → from ≡ 0 → bound ≤ to → IsValid p (Some bound) (not_of (InMode j m) ∷ [])
valid-run-of-all p bound barred j m from to sound inside run none l = record {
  sure = λ s short.
      last_not (mode_of s j == m) (λ e.
      let k = start-le p s bound j (short.short bound refl) inside in
      let h = begins-before p s bound barred j m from to sound short inside run e (omega arith) in omega arith);
}

pub ruleset barred_rules = (valid-run, valid-run-to-bound, valid-run-from-zero, valid-run-of-all)
