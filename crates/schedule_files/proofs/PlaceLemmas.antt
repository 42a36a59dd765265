-- The places of a schedule's activities, one after the other.
use Rattle.std.proofs.Common.{◌≡◌, ℕ, zero, suc, ◌+◌, ◌<◌, List, [], ◌∷◌, ◌++◌, length, take, get_or, refl, sym, ap, ◌∙◌, append_assoc, add-one, arith, min}
use Rattle.std.proofs.lemmas.List.{append-nil}
use Rattle.schedule_files.specs.ScheduleText.{place_text, places_text}

places_more_suc : (j i : ℕ) (modes starts : List ℕ) → i < length modes → i < length starts
    → places_text j (take (suc i) modes) (take (suc i) starts) ≡ places_text j (take i modes) (take i starts) ++ place_text (i + j) (get_or modes i 0) (get_or starts i 0)
places_more_suc j i [] starts h k = absurd (omega arith)
places_more_suc j i (m ∷ modes) [] h k = absurd (omega arith)
places_more_suc j zero (m ∷ modes) (s ∷ starts) h k = let e : 0 + j ≡ j = omega arith in rw e (append-nil (place_text j m s))
places_more_suc j (suc i) (m ∷ modes) (s ∷ starts) h k =
    let e : suc i + j ≡ i + (j + 1) = omega arith in
    ap (λ l. place_text j m s ++ l) (places_more_suc (j + 1) i modes starts (omega arith) (omega arith))
    ∙ sym (append_assoc (place_text j m s) (places_text (j + 1) (take i modes) (take i starts)) (place_text (i + (j + 1)) (get_or modes i 0) (get_or starts i 0)))
    ∙ rw e refl

-- one more activity
pub places_more : (j i : ℕ) (modes starts : List ℕ) → i < length modes → i < length starts
    → places_text j (take (i + 1) modes) (take (i + 1) starts) ≡ places_text j (take i modes) (take i starts) ++ place_text (i + j) (get_or modes i 0) (get_or starts i 0)
places_more j i modes starts h k = rw add-one (places_more_suc j i modes starts h k)

-- as many activities as both lists have
pub places_whole : (j n : ℕ) (modes starts : List ℕ) → n ≡ min (length modes) (length starts) → places_text j (take n modes) (take n starts) ≡ places_text j modes starts
places_whole j n [] starts e = let k : n ≡ 0 = omega arith in rw k refl
places_whole j n (m ∷ modes) [] e = let k : n ≡ 0 = omega arith in rw k refl
places_whole j zero (m ∷ modes) (s ∷ starts) e = absurd (omega arith)
places_whole j (suc n) (m ∷ modes) (s ∷ starts) e = ap (λ l. place_text j m s ++ l) (places_whole (j + 1) n modes starts (omega arith))

pub ruleset place_rules = (places_more, places_whole)
