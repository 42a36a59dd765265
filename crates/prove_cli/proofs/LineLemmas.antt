-- The words of a schedule begin with a blank.
use Rattle.std.proofs.Common.{◌≡◌, ℕ, List, [], ◌∷◌, drop, refl, sym, ap, inl, inr, ⊎_elim}
use Rattle.mrcpsp.specs.Schedule.{ScheduleData}
use Rattle.schedule_files.specs.ScheduleText.{places_text, schedule_text}
use Rattle.prove_cli.specs.Proved.{IsLedByBlank}

led-places : (j : ℕ) (modes starts : List ℕ) → IsLedByBlank (places_text j modes starts)
led-places j [] starts = inl refl
led-places j (mode ∷ modes) [] = inl refl
led-places j (mode ∷ modes) (start ∷ starts) = inr (drop 1 (places_text j (mode ∷ modes) (start ∷ starts)), refl)

pub led-schedule : (s : ScheduleData) → IsLedByBlank (schedule_text s)
led-schedule s = led-places 1 s.modes s.starts

pub led-words : (bs : List ℕ) (s : ScheduleData) → bs ≡ schedule_text s → IsLedByBlank bs
led-words bs s e = rw e (led-schedule s)

pub behind-some : (bs rest : List ℕ) → bs ≡ 32 ∷ rest → rest ≡ drop 1 bs
behind-some bs rest e = sym (ap (drop 1) e)

pub behind-none : (bs : List ℕ) → IsLedByBlank bs → ((rest : List ℕ) → bs ≡ 32 ∷ rest → ⊥) → bs ≡ drop 1 bs
behind-none bs led none = ⊎_elim (λ (e : bs ≡ []). rw e refl) (λ (p : (rest : List ℕ) × (bs ≡ 32 ∷ rest)). absurd (none p.0 p.1)) led

pub ruleset blank_rules = (behind-some, behind-none)

pub ruleset line_rules = (led-words)
