-- The places of a schedule's activities as JSON, one after the other.
use Rattle.std.proofs.Common.{◌≡◌, ℕ, zero, suc, ◌+◌, ◌<◌, List, [], ◌∷◌, ◌++◌, length, take, get_or, refl, sym, ap, ◌∙◌, append_assoc, subst, arith, min}
use Rattle.std.proofs.lemmas.List.{append-nil}
use Rattle.schedule_json.specs.ScheduleJson.{next_json, places_json}

json_more_suc : (k i : ℕ) (modes starts : List ℕ) → i < length modes → i < length starts
    → places_json k (take (suc i) modes) (take (suc i) starts) ≡ places_json k (take i modes) (take i starts) ++ next_json (i + k) (get_or modes i 0) (get_or starts i 0)
json_more_suc k i [] starts h m = absurd (omega arith)
json_more_suc k i (x ∷ modes) [] h m = absurd (omega arith)
json_more_suc k zero (x ∷ modes) (s ∷ starts) h m = let e : 0 + k ≡ k = omega arith in rw e (append-nil (next_json k x s))
json_more_suc k (suc i) (x ∷ modes) (s ∷ starts) h m =
    let e : suc i + k ≡ i + (k + 1) = omega arith in
    ap (λ l. next_json k x s ++ l) (json_more_suc (k + 1) i modes starts (omega arith) (omega arith))
    ∙ sym (append_assoc (next_json k x s) (places_json (k + 1) (take i modes) (take i starts)) (next_json (i + (k + 1)) (get_or modes i 0) (get_or starts i 0)))
    ∙ rw e refl

-- one more activity
pub json_more : (i : ℕ) (modes starts : List ℕ) → i < length modes → i < length starts
    → places_json 0 (take (i + 1) modes) (take (i + 1) starts) ≡ places_json 0 (take i modes) (take i starts) ++ next_json i (get_or modes i 0) (get_or starts i 0)
json_more i modes starts h m =
    let e : i + 0 ≡ i = omega arith in
    let next : suc i ≡ i + 1 = omega arith in
    let P : ℕ → Type 0 = λ n. places_json 0 (take (suc i) modes) (take (suc i) starts) ≡ places_json 0 (take i modes) (take i starts) ++ next_json n (get_or modes i 0) (get_or starts i 0) in
    let Q : ℕ → Type 0 = λ n. places_json 0 (take n modes) (take n starts) ≡ places_json 0 (take i modes) (take i starts) ++ next_json i (get_or modes i 0) (get_or starts i 0) in
    subst Q next (subst P e (json_more_suc 0 i modes starts h m))

json_whole_from : (k n : ℕ) (modes starts : List ℕ) → n ≡ min (length modes) (length starts) → places_json k (take n modes) (take n starts) ≡ places_json k modes starts
json_whole_from k n [] starts e = let m : n ≡ 0 = omega arith in rw m refl
json_whole_from k n (x ∷ modes) [] e = let m : n ≡ 0 = omega arith in rw m refl
json_whole_from k zero (x ∷ modes) (s ∷ starts) e = absurd (omega arith)
json_whole_from k (suc n) (x ∷ modes) (s ∷ starts) e = ap (λ l. next_json k x s ++ l) (json_whole_from (k + 1) n modes starts (omega arith))

-- as many activities as both lists have
pub json_whole : (n : ℕ) (modes starts : List ℕ) → n ≡ min (length modes) (length starts) → places_json 0 (take n modes) (take n starts) ≡ places_json 0 modes starts
json_whole n modes starts e = json_whole_from 0 n modes starts e

pub ruleset json_rules = (json_more, json_whole)
