-- The places of a schedule as JSON, and the lines of a text.
use Rattle.std.proofs.Common.{◌≡◌, ⊎_elim, inl, inr, ℕ, ◌+◌, ◌-◌, ◌<◌, ◌≤◌, List, [], ◌∷◌, ◌++◌, length, take, drop, get_or, refl, sym, ap, ◌∙◌, arith, subst, Option, Some, None, Result, Ok, Err, IfOk, IfSome, IfNone}
use Rattle.std.proofs.lemmas.List.{take_more}
use Rattle.schedule_files.specs.Places.{placed_from, IsUntold}
use Rattle.schedule_files.proofs.OrderLemmas.{split}
use Rattle.mrcpsp.specs.Schedule.{ScheduleData}
use Rattle.schedule_files.specs.ScheduleJson.{BeginsLastLine, IsJsonOf, TellsJson}
use Rattle.schedule_files.specs.declared.places.ScheduleEntry.{ScheduleEntry}

-- one more activity
pub placed_more : (j : ℕ) (modes starts : List ℕ) (place : ScheduleEntry) → length modes ≡ length starts → place.activity ≡ j + length modes
    → placed_from j modes starts ++ place ∷ [] ≡ placed_from j (modes ++ place.mode ∷ []) (starts ++ place.start ∷ [])
placed_more j [] [] place e a = let n : place.activity ≡ j = omega (arith, a) in rw (sym n) refl
placed_more j [] (s ∷ starts) place e a = absurd (omega (arith, e))
placed_more j (m ∷ modes) [] place e a = absurd (omega (arith, e))
placed_more j (m ∷ modes) (s ∷ starts) place e a =
    ap (λ l. record { activity = j; mode = m; start = s } ∷ l) (placed_more (j + 1) modes starts place (omega (arith, e)) (omega (arith, a)))

-- the next place of a list that is in order so far
pub placed_step : (places : List ScheduleEntry) (i : ℕ) (d : ScheduleEntry) (modes starts modes' starts' : List ℕ) → i < length places → take i places ≡ placed_from 1 modes starts
    → length modes ≡ i → length starts ≡ i → (get_or places i d).activity ≡ i + 1 → modes' ≡ modes ++ (get_or places i d).mode ∷ [] → starts' ≡ starts ++ (get_or places i d).start ∷ []
    → take (i + 1) places ≡ placed_from 1 modes' starts'
placed_step places i d modes starts modes' starts' h e m s a em es =
    let more : take (i + 1) places ≡ take i places ++ get_or places i d ∷ [] = take_more places i d h in
    let next = placed_more 1 modes starts (get_or places i d) (m ∙ sym s) (omega (arith, a, m)) in
    more ∙ ap (λ l. l ++ get_or places i d ∷ []) e ∙ next ∙ sym (ap (λ l. placed_from 1 l starts') em ∙ ap (λ l. placed_from 1 (modes ++ (get_or places i d).mode ∷ []) l) es)

none_before : (text : List ℕ) (a b : ℕ) → BeginsLastLine text a → BeginsLastLine text b → a < b → ⊥
none_before text a b one other h = one.last (b - 1) (omega arith) (omega (arith, other.inside)) (other.behind (b - 1) (omega arith))

-- there is one last line
pub one_last_line : (text : List ℕ) (a b : ℕ) → BeginsLastLine text a → BeginsLastLine text b → a ≡ b
one_last_line text a b one other =
    ⊎_elim
    (λ (h : a ≤ b). ⊎_elim (λ (k : b ≤ a). omega arith) (λ (k : a < b). absurd (none_before text a b one other k)) (split b a))
    (λ (h : b < a). absurd (none_before text b a other one h))
    (split a b)

-- what a text or its last line holds
pub json_told : {E : Type 0} (text line : List ℕ) (r : Result (Option ScheduleData) E) → IsUntold (IsJsonOf text) → IfOk r (λ found. IfSome found (λ s. IsJsonOf line s))
    → (0 < length text → (start : ℕ) × BeginsLastLine text start × (line ≡ drop start text)) → (length text ≡ 0 → line ≡ text) → IfOk r (λ found. IfSome found (λ s. TellsJson text s))
json_told [] line (Ok (Some s)) whole told at empty = inl (subst (λ l. IsJsonOf l s) (empty refl) told)
json_told (x ∷ text) line (Ok (Some s)) whole told at empty =
    let (start, begins, is) = at (omega arith) in
    inr (whole, (start, begins, subst (λ l. IsJsonOf l s) is told))
json_told text line (Ok None) whole told at empty = tt
json_told text line (Err e) whole told at empty = tt

pub json_none : {E : Type 0} (text line : List ℕ) (r : Result (Option ScheduleData) E) → IsUntold (IsJsonOf text)
    → IfOk r (λ found. IfNone found (IsUntold (IsJsonOf line))) → (0 < length text → (start : ℕ) × BeginsLastLine text start × (line ≡ drop start text))
    → IfOk r (λ found. IfNone found (IsUntold (TellsJson text)))
json_none text line (Ok (Some s)) whole last at = tt
json_none text line (Ok None) whole last at = λ s t.
    ⊎_elim (λ (j : IsJsonOf text s). whole s j)
    (λ (untold, (start, begins, json)).
    let (first, other, is) = at (omega (arith, begins.inside)) in
    let same = one_last_line text start first begins other in
    last s (subst (λ l. IsJsonOf l s) (ap (λ n. drop n text) same ∙ sym is) json))
    t
json_none text line (Err e) whole last at = tt
