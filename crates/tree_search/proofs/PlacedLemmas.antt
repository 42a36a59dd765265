-- What is free after the placements of a path, and the earliest start by it.
use Rattle.std.proofs.Common.{◌≡◌, ℕ, ◌+◌, ◌<◌, ◌≤◌, max, cond, true, nat_le, nat_lt, List, [], ◌∷◌, ◌++◌, get_or, arith, ◌∙◌, ⊎_elim}
use Rattle.std.proofs.lemmas.Bool.{le-leb, cases_lt, cases_eq, and_parts}
use Rattle.std.proofs.lemmas.List.Sums.{sum_by_push, sum_by-le-sum_by}
use Rattle.mrcpsp.specs.Project.{ProjectData, size, renewables, mode_count, duration, request, capacity}
use Rattle.mrcpsp.specs.Limits.{IsProject}
use Rattle.mrcpsp.specs.Schedule.{load}
use Rattle.mrcpsp.specs.Placed.{Placed, finish_of, placed_use, are_ready, fits, is_allowed, earliest, is_executable}
use Rattle.mrcpsp.proofs.ProjectLemmas.{load-over}
use Rattle.mrcpsp.proofs.EarliestLemmas.{fits-at, earliest-allowed}
use Rattle.serial_sgs.proofs.SumLemmas.{use_nil, ready_before, earliest_here, load_during}
use Rattle.serial_sgs.proofs.RowLemmas.{request_past}
use Rattle.tree_search.specs.declared.front.Running.{Running}
use Rattle.tree_search.specs.Front.{AsksFor, IsFirstRoom, IsFrontOf, IsRising, left_at, returned, returned_by}
use Rattle.tree_search.proofs.FrontLemmas.{back_by, not_back, nothing_back, taken_or_back}

-- at first all capacities are free, and nothing runs
pub front_first : (p : ProjectData) (free : List ℕ) → ((r : ℕ) → r < 8 → get_or free r 0 ≡ capacity p r) → IsFrontOf p [] 0 free []
front_first p free all =
    record {
      rising = λ i k l inside. absurd (omega arith);
      exact = λ r t among late. omega (arith, use_nil p r t, nothing_back r t, all r among);
    }

-- what is given back is not taken again
back_rises : (running : List Running) (r t u : ℕ) → t ≤ u → returned running r t ≤ returned running r u
unfolding returned
back_rises running r t u l =
    sum_by-le-sum_by (returned_by r t) (returned_by r u) running (λ a.
    ⊎_elim
    (λ (runs : t < a.finish). omega (arith, not_back r t a runs))
    (λ (over : a.finish ≤ t). omega (arith, back_by r t a over, back_by r u a (omega (arith, over, l))))
    (cases_lt t a.finish))

-- no more is left than the capacity
pub front_most : (p : ProjectData) (placed : List Placed) (from : ℕ) (free : List ℕ) (running : List Running) → IsFrontOf p placed from free running → (r t : ℕ) → r < 8 → left_at free running r t ≤ capacity p r
front_most p placed from free running front r t among =
    let u : ℕ = max from t in
    omega (arith, back_rises running r t u (omega arith), front.exact r u among (omega arith))

-- no more is asked for than the mode requests
pub asks_most : (p : ProjectData) (j m : ℕ) (asked : List ℕ) → AsksFor p j m asked → (r : ℕ) → r < 8 → get_or asked r 0 ≤ request p j m r
asks_most p j m asked own r among =
    ⊎_elim
    (λ (idle : duration p j m ≡ 0). omega (arith, own.none idle r (omega arith) among))
    (λ (some : duration p j m ≡ 0 → ⊥). omega (arith, own.some (omega arith) r among))
    (cases_eq (duration p j m) 0)

-- where a mode is allowed, what it asks for is left
pub front_enough : (p : ProjectData) (placed : List Placed) (j m from : ℕ) (free : List ℕ) (running : List Running) (asked : List ℕ) → IsProject p → j < size p → m < mode_count p j → IsFrontOf p placed from free running → AsksFor p j m asked → (e : ℕ) → from ≤ e → is_allowed p placed j m e ≡ true → (r : ℕ) → r < 8 → get_or asked r 0 ≤ left_at free running r e
unfolding is_allowed
front_enough p placed j m from free running asked project inside known front own e above may r among =
    ⊎_elim
    (λ (idle : duration p j m ≡ 0). omega (arith, own.none idle r (omega arith) among))
    (λ (some : duration p j m ≡ 0 → ⊥).
    let asks : get_or asked r 0 ≡ request p j m r = own.some (omega arith) r among in
    ⊎_elim
    (λ (there : r < renewables p). omega (arith, asks, front.exact r e among above, fits-at p placed j m e (and_parts (are_ready p placed j e) (fits p placed j m e) may).1 r e there (omega arith) (omega (arith, some))))
    (λ (past : renewables p ≤ r). omega (arith, asks, request_past p j m r project inside known past))
    (cases_lt r (renewables p)))
    (cases_eq (duration p j m) 0)

-- the first room is the earliest start
pub front_earliest : (p : ProjectData) (placed : List Placed) (j m from ready start : ℕ) (free : List ℕ) (running : List Running) (asked : List ℕ) → IsProject p → j < size p → m < mode_count p j → IsFrontOf p placed from free running → AsksFor p j m asked → is_executable p j m ≡ true → from ≤ ready → ((t : ℕ) → from ≤ t → are_ready p placed j t ≡ nat_le ready t) → IsFirstRoom 8 free running asked ready start → start ≡ earliest p placed j m from
front_earliest p placed j m from ready start free running asked project inside known front own can above exact found =
    let e : ℕ = earliest p placed j m from in
    let by : ready ≤ e = ready_before p placed j m from ready can exact in
    let no_sooner : start ≤ e =
    ⊎_elim
    (λ (same : start ≡ ready). omega arith)
    (λ (short : (r : ℕ) × (r < 8) × ((t : ℕ) → t < start → left_at free running r t < get_or asked r 0)).
    let (r, among, never) = short in
    ⊎_elim
    (λ (sooner : e < start). absurd (omega (arith, never e sooner, front_enough p placed j m from free running asked project inside known front own e (omega (arith, above, by)) (earliest-allowed p placed j m from can) r among)))
    (λ (l : start ≤ e). l)
    (cases_lt e start))
    found.first in
    earliest_here p placed j m from start (omega (arith, above, found.above)) no_sooner (exact start (omega (arith, above, found.above)) ∙ le-leb ready start found.above)
    (λ u l h r there.
    let among : r < 8 = omega (arith, project.few_renewable) in
    omega (arith, found.room r u among l, front.exact r u among (omega (arith, above, found.above, l)), own.some (omega (arith, l, h)) r among))

-- with one more, what is free from its start on
pub front_push : (p : ProjectData) (placed : List Placed) (a : Placed) (from : ℕ) (free later : List ℕ) (running runs : List Running) (new : Running) → IsFrontOf p placed from free running → AsksFor p a.activity a.mode new.request → from ≤ a.start → new.finish ≡ finish_of p a → IsRising runs → ((r t : ℕ) → r < 8 → a.start ≤ t → left_at later runs r t + cond (nat_lt t new.finish) (get_or new.request r 0) 0 ≡ left_at free running r t) → IsFrontOf p (placed ++ a ∷ []) a.start later runs
unfolding placed_use
front_push p placed a from free later running runs new front own above ends rising kept =
    record {
      rising = rising;
      exact = λ r t among late.
          let used : placed_use p (placed ++ a ∷ []) r t ≡ placed_use p placed r t + load p r t a.activity a.mode a.start = sum_by_push (λ (b : Placed). load p r t b.activity b.mode b.start) placed a in
          let taken = taken_or_back r t new in
          ⊎_elim
          (λ (during : t < new.finish). omega (arith, used, kept r t among late, front.exact r t among (omega (arith, above, late)), load_during p r t a.activity a.mode a.start late (omega (arith, during, ends)), own.some (omega (arith, during, ends, late)) r among, taken, not_back r t new during))
          (λ (over : new.finish ≤ t). omega (arith, used, kept r t among late, front.exact r t among (omega (arith, above, late)), load-over p r t a.activity a.mode a.start (omega (arith, over, ends)), taken, back_by r t new over))
          (cases_lt t new.finish);
    }
