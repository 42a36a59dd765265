-- Where the placed ones start and finish: nowhere else does the use change, and there are two such periods for each.
use Rattle.std.proofs.Common.{◌≡◌, ℕ, zero, suc, ◌+◌, ◌-◌, ◌*◌, ◌<◌, ◌≤◌, max, true, false, ◌||◌, ◌==◌, List, [], ◌∷◌, ◌++◌, length, add-one, arith, refl, sym, ap, ◌∙◌, ⊎_elim}
use Rattle.std.proofs.lemmas.Bool.{both_ways, cases_lt, cases_eq, or_cases, or_left, or_right, or_parts, eqb-true, eq-eqb, false≢true}
use Rattle.std.proofs.lemmas.List.Recursion.{or_push}
use Rattle.std.proofs.lemmas.List.Sums.{sum_by-cons}
use Rattle.mrcpsp.specs.Project.{ProjectData, duration}
use Rattle.mrcpsp.specs.Schedule.{load}
use Rattle.mrcpsp.specs.Placed.{Placed, placed_use, finish_of, latest}
use Rattle.mrcpsp.proofs.ProjectLemmas.{load-before, load-over}
use Rattle.serial_sgs.specs.declared.profile.Point.{Point}
use Rattle.serial_sgs.specs.Profile.{IsSteps, IsAtEnds, IsLevel, time_at}
use Rattle.serial_sgs.specs.Board.{is_end}
use Rattle.serial_sgs.proofs.SumLemmas.{load_during}

-- ---- one more is placed

is_end_push : (p : ProjectData) (placed : List Placed) (a : Placed) (t : ℕ) → is_end p (placed ++ a ∷ []) t ≡ (is_end p placed t || ((a.start == t) || (finish_of p a == t)))
is_end_push p placed a t = or_push (λ xs. is_end p xs t) (λ (b : Placed). (b.start == t) || (finish_of p b == t)) refl (λ _ _. refl) placed a

pub ends_push : (p : ProjectData) (placed : List Placed) (a : Placed) (points : List Point) → IsAtEnds (is_end p placed) points → IsAtEnds (is_end p (placed ++ a ∷ [])) points
ends_push p placed a points was k some inside =
    let t = time_at points k in
    is_end_push p placed a t ∙ or_left (is_end p placed t) ((a.start == t) || (finish_of p a == t)) (was k some inside)

pub own_start : (p : ProjectData) (placed : List Placed) (a : Placed) → is_end p (placed ++ a ∷ []) a.start ≡ true
own_start p placed a =
    is_end_push p placed a a.start
    ∙ or_right (is_end p placed a.start) _ (or_left (a.start == a.start) _ (eq-eqb a.start a.start refl))

pub own_finish : (p : ProjectData) (placed : List Placed) (a : Placed) (finish : ℕ) → finish ≡ finish_of p a → is_end p (placed ++ a ∷ []) finish ≡ true
own_finish p placed a finish ends =
    is_end_push p placed a finish
    ∙ or_right (is_end p placed finish) _ (or_right (a.start == finish) _ (eq-eqb (finish_of p a) finish (sym ends)))

pub ends_pop : (p : ProjectData) (rest : List Placed) (a : Placed) (finish : ℕ) (points : List Point) → finish ≡ finish_of p a → IsAtEnds (is_end p (rest ++ a ∷ [])) points → IsAtEnds (λ t. is_end p rest t || ((a.start == t) || (finish == t))) points
ends_pop p rest a finish points ends was k some inside =
    let t = time_at points k in
    ap (λ (f : ℕ). is_end p rest t || ((a.start == t) || (f == t))) ends ∙ sym (is_end_push p rest a t) ∙ was k some inside

-- ---- the use stays elsewhere

load_level : (p : ProjectData) (r u t j m start : ℕ) → (start == t) ≡ false → (start + duration p j m == t) ≡ false → u + 1 ≡ t → load p r u j m start ≡ load p r t j m start
load_level p r u t j m start other past next =
    let finish = start + duration p j m in
    let apart : start ≡ t → ⊥ = λ e. both_ways (start == t) other (eq-eqb start t e) in
    let over : finish ≡ t → ⊥ = λ e. both_ways (finish == t) past (eq-eqb finish t e) in
    ⊎_elim
    (λ (early : t < start). load-before p r u j m start (omega arith) ∙ sym (load-before p r t j m start early))
    (λ (begun : start ≤ t).
    ⊎_elim
    (λ (same : start ≡ t). absurd (apart same))
    (λ (ne : start ≡ t → ⊥).
    ⊎_elim
    (λ (within : t < finish). load_during p r u j m start (omega arith) (omega arith) ∙ sym (load_during p r t j m start begun within))
    (λ (late : finish ≤ t).
    ⊎_elim
    (λ (same : finish ≡ t). absurd (over same))
    (λ (ne2 : finish ≡ t → ⊥). load-over p r u j m start (omega arith) ∙ sym (load-over p r t j m start late))
    (cases_eq finish t))
    (cases_lt t finish))
    (cases_eq start t))
    (cases_lt t start)

pub use_level : (p : ProjectData) (placed : List Placed) (kinds t : ℕ) → is_end p placed t ≡ false → IsLevel kinds (placed_use p placed) t
unfolding placed_use
use_level p [] kinds t apart r u among next = refl
use_level p (a ∷ placed) kinds t apart r u among next =
    let parts = or_parts ((a.start == t) || (finish_of p a == t)) (is_end p placed t) apart in
    let own = or_parts (a.start == t) (finish_of p a == t) parts.0 in
    let before : Placed → ℕ = λ (b : Placed). load p r u b.activity b.mode b.start in
    let here : Placed → ℕ = λ (b : Placed). load p r t b.activity b.mode b.start in
    omega (arith, sum_by-cons before a placed, sum_by-cons here a placed, use_level p placed kinds t parts.1 r u among next, load_level p r u t a.activity a.mode a.start own.0 own.1 next)

-- ---- how many there are

-- how many starts and finishes of placed ones are before period t
abbrev earlier_ends : ProjectData → List Placed → ℕ → ℕ
earlier_ends p [] t = 0
earlier_ends p (a ∷ placed) t = (1 - (a.start + 1 - t)) + (1 - (finish_of p a + 1 - t)) + earlier_ends p placed t

none_earlier : (p : ProjectData) (t : ℕ) → earlier_ends p [] t ≡ 0
none_earlier p t = refl

one_earlier : (p : ProjectData) (a : Placed) (placed : List Placed) (t : ℕ) → earlier_ends p (a ∷ placed) t ≡ (1 - (a.start + 1 - t)) + (1 - (finish_of p a + 1 - t)) + earlier_ends p placed t
one_earlier p a placed t = refl

earlier_most : (p : ProjectData) (placed : List Placed) (t : ℕ) → earlier_ends p placed t ≤ 2 * length placed
earlier_most p [] t = omega (arith, none_earlier p t)
earlier_most p (a ∷ placed) t = omega (arith, one_earlier p a placed t, earlier_most p placed t)

earlier_rise : (p : ProjectData) (placed : List Placed) (t u : ℕ) → t ≤ u → earlier_ends p placed t ≤ earlier_ends p placed u
earlier_rise p [] t u l = omega (arith, none_earlier p t, none_earlier p u)
earlier_rise p (a ∷ placed) t u l =
    omega (arith, one_earlier p a placed t, one_earlier p a placed u, earlier_rise p placed t u l)

earlier_more : (p : ProjectData) (placed : List Placed) (t u : ℕ) → is_end p placed t ≡ true → t < u → earlier_ends p placed t + 1 ≤ earlier_ends p placed u
earlier_more p [] t u ends l = absurd (false≢true ends)
earlier_more p (a ∷ placed) t u ends l =
    let rise : earlier_ends p placed t ≤ earlier_ends p placed u = earlier_rise p placed t u (omega arith) in
    let now = one_earlier p a placed t in
    let later = one_earlier p a placed u in
    ⊎_elim
    (λ own.
    ⊎_elim
    (λ starts. omega (arith, now, later, eqb-true a.start t starts, rise))
    (λ finishes. omega (arith, now, later, eqb-true (finish_of p a) t finishes, rise))
    (or_cases (a.start == t) (finish_of p a == t) own))
    (λ rest. omega (arith, now, later, earlier_more p placed t u rest l))
    (or_cases ((a.start == t) || (finish_of p a == t)) (is_end p placed t) ends)

-- the points but the first are at different ones
up_to : (p : ProjectData) (placed : List Placed) (points : List Point) → IsSteps points → IsAtEnds (is_end p placed) points → (k : ℕ) → k < length points → k ≤ earlier_ends p placed (time_at points k) + 1
up_to p placed points steps ends zero inside = omega arith
up_to p placed points steps ends (suc k) inside =
    ⊎_elim
    (λ (e : k ≡ 0). omega arith)
    (λ (ne : k ≡ 0 → ⊥).
    let rise : time_at points k < time_at points (suc k) = rw add-one at (steps.rising k (omega arith)) in
    omega (arith, up_to p placed points steps ends k (omega arith), earlier_more p placed (time_at points k) (time_at points (suc k)) (ends k (omega arith) (omega arith)) rise))
    (cases_eq k 0)

-- no more than two points for each placed one, and the first
pub few_points : (p : ProjectData) (placed : List Placed) (points : List Point) → IsSteps points → IsAtEnds (is_end p placed) points → length points ≤ 2 * length placed + 1
few_points p placed points steps ends =
    let k = length points - 1 in
    let t = time_at points k in
    ⊎_elim
    (λ (one : length points < 2). omega arith)
    (λ (more : 2 ≤ length points).
    omega (arith, up_to p placed points steps ends k (omega arith), earlier_more p placed t (t + 1) (ends k (omega arith) (omega arith)) (omega arith), earlier_most p placed (t + 1)))
    (cases_lt (length points) 2)

-- ---- when they are

-- no placed one starts or finishes after the latest finish
end_soon : (p : ProjectData) (placed : List Placed) (t : ℕ) → is_end p placed t ≡ true → t ≤ latest p placed
end_soon p [] t ends = absurd (false≢true ends)
end_soon p (a ∷ placed) t ends =
    let now : latest p (a ∷ placed) ≡ max (finish_of p a) (latest p placed) = refl in
    ⊎_elim
    (λ own.
    ⊎_elim
    (λ starts. omega (arith, now, eqb-true a.start t starts))
    (λ finishes. omega (arith, now, eqb-true (finish_of p a) t finishes))
    (or_cases (a.start == t) (finish_of p a == t) own))
    (λ rest. omega (arith, now, end_soon p placed t rest))
    (or_cases ((a.start == t) || (finish_of p a == t)) (is_end p placed t) ends)

-- no point is after the latest finish
pub points_soon : (p : ProjectData) (placed : List Placed) (points : List Point) → IsSteps points → IsAtEnds (is_end p placed) points → (k : ℕ) → k < length points → time_at points k ≤ latest p placed
points_soon p placed points steps ends zero inside = omega (arith, steps.first)
points_soon p placed points steps ends (suc k) inside = end_soon p placed (time_at points (suc k)) (ends (suc k) (omega arith) inside)
