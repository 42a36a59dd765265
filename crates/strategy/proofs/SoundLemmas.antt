-- Each incumbent of the tree is feasible.
use Rattle.std.proofs.Common.{◌≡◌, ℕ, zero, suc, ◌+◌, ◌<◌, ◌≤◌, true, false, cond, ◌==◌, nat_le, List, [], ◌∷◌, ◌++◌, length, map, get_or, All, sum_by, arith, refl, ap, zero-le, max, fold, ◌*◌, ◌∙◌, ⊎_elim}
use Rattle.std.specs.List.{range_with_len}
use Rattle.std.proofs.lemmas.Bool.{or_left, cond-true, cond_both, cases_lt, both_ways, leb-true, and_parts}
use Rattle.std.proofs.lemmas.List.{length_push}
use Rattle.std.proofs.lemmas.List.Elements.{All-push, All-nil, All-cons, All-head, All-tail}
use Rattle.std.proofs.lemmas.List.Sums.{sum_by_push}
use Rattle.std.proofs.lemmas.List.FromFn.{length-map-range_with_len, get_or-map-range_with_len}
use Rattle.mrcpsp.specs.Numbers.{sum_below}
use Rattle.mrcpsp.specs.Project.{ProjectData, size, renewables, nonrenewables, mode_count, duration, request, consumption, capacity, stock, precedes}
use Rattle.mrcpsp.specs.Limits.{IsProject}
use Rattle.mrcpsp.specs.Schedule.{IsFeasible, mode_of, start_of, finish, load, use_of, consumed}
use Rattle.mrcpsp.specs.Placed.{IsDistinct, Placed, is_placed, finish_of, placed_use, placed_consumption, are_ready, fits, is_allowed, is_eligible, is_executable, is_affordable, reserve, mode_in, start_in, schedule_of, latest, last_start}
use Rattle.strategy.specs.Candidate.{Candidate, placed_from}
use Rattle.mrcpsp.proofs.NumbersLemmas.{sum_below-same, sum_by-same-all, all_below-at}
use Rattle.mrcpsp.proofs.ProjectLemmas.{precedes-rising, load-running, load-before, load-over}
use Rattle.mrcpsp.proofs.PlacedLemmas.{IsDistinct-push, is_placed_push, sum_split, all_placed, looked_up, looks_itself_up}
use Rattle.mrcpsp.proofs.EarliestLemmas.{eligible-unplaced, eligible-after, ready-at, fits-at, earliest-allowed}
use Rattle.strategy.proofs.FollowLemmas.{mode_of-schedule_of, start_of-schedule_of}
use Rattle.mrcpsp.specs.Breach.{HasShape}
use Rattle.mrcpsp.proofs.BoundLemmas.{earliest-le-latest, latest_push}

-- the placed ones keep precedence and capacities, and so do their predecessors
pub record IsSound (p : ProjectData) (placed : List Placed) : Type 0 where
  pub inside : All (λ a. a.activity < size p) placed
  pub modes : All (λ a. a.mode < mode_count p a.activity) placed
  pub distinct : IsDistinct placed
  pub preceded : All (λ b. (i : ℕ) → i < size p → precedes p i b.activity ≡ true → is_placed placed i ≡ true) placed
  pub ordered : All (λ b. All (λ a. precedes p a.activity b.activity ≡ true → finish_of p a ≤ b.start) placed) placed
  pub renewable : (r t : ℕ) → r < renewables p → placed_use p placed r t ≤ capacity p r
  pub nonrenewable : (r : ℕ) → r < nonrenewables p → placed_consumption p placed r ≤ stock p r
  pub short : latest p placed ≤ 1000 * length placed

pub sound-nil : (p : ProjectData) → IsSound p []
unfolding placed_use placed_consumption
sound-nil p = record {
  inside = All-nil (λ (a : Placed). a.activity < size p);
  modes = All-nil (λ (a : Placed). a.mode < mode_count p a.activity);
  distinct = tt;
  preceded = All-nil (λ (b : Placed). (i : ℕ) → i < size p → precedes p i b.activity ≡ true → is_placed [] i ≡ true);
  ordered = All-nil (λ (b : Placed). All (λ a. precedes p a.activity b.activity ≡ true → finish_of p a ≤ b.start) []);
  renewable = λ r t inside. zero-le;
  nonrenewable = λ r inside. zero-le;
  short = omega arith;
}

start-le : (p : ProjectData) (placed : List Placed) (s : ℕ) → fold (λ _ (a : Placed). a.start) s placed ≤ max s (latest p placed)
start-le p [] s = omega arith
start-le p (a ∷ placed) s = omega (arith, start-le p placed a.start)

pub last_start-le-latest : (p : ProjectData) (placed : List Placed) → last_start placed ≤ latest p placed
unfolding last_start
last_start-le-latest p placed = omega (arith, start-le p placed 0)

duration-le : (p : ProjectData) (j m : ℕ) → IsProject p → j < size p → m < mode_count p j → duration p j m ≤ 1000
unfolding duration
duration-le p j m ok inside known = (ok.limited j m inside known).duration

-- a candidate that is not pruned
pub record IsOpen (p : ProjectData) (placed : List Placed) (c : Candidate) : Type 0 where
  pub inside : c.activity < size p
  pub mode : c.mode < mode_count p c.activity
  pub eligible : is_eligible p placed c.activity ≡ true

module _ (p : ProjectData) (placed : List Placed) (from : ℕ) (c : Candidate) (ok : IsProject p) (sound : IsSound p placed) (able : IsOpen p placed c) (executable : is_executable p c.activity c.mode ≡ true) (affordable : is_affordable p placed c.activity c.mode ≡ true) (sooner : from ≤ latest p placed) where
  allowed : is_allowed p placed c.activity c.mode (placed_from p placed from c).start ≡ true
  unfolding placed_from
  allowed = earliest-allowed p placed c.activity c.mode from executable

  use-push : (r t : ℕ) → r < renewables p → placed_use p (placed ++ placed_from p placed from c ∷ []) r t ≤ capacity p r
  unfolding placed_use placed_from is_allowed
  use-push r t inside =
      let a = placed_from p placed from c in
      let room : a.start ≤ t → t < a.start + duration p c.activity c.mode → placed_use p placed r t + request p c.activity c.mode r ≤ capacity p r = λ begun until. fits-at p placed c.activity c.mode a.start (and_parts (are_ready p placed c.activity a.start) (fits p placed c.activity c.mode a.start) allowed).1 r t inside begun until in
      rw (sum_by_push (λ (b : Placed). load p r t b.activity b.mode b.start) placed a)
      (⊎_elim (λ (early : t < a.start). omega (arith, load-before p r t c.activity c.mode a.start early, sound.renewable r t inside))
      (λ (begun : a.start ≤ t). ⊎_elim
      (λ (until : t < a.start + duration p c.activity c.mode). omega (arith, load-running p r t c.activity c.mode a.start begun until, room begun until))
      (λ (over : a.start + duration p c.activity c.mode ≤ t). omega (arith, load-over p r t c.activity c.mode a.start over, sound.renewable r t inside))
      (cases_lt t (a.start + duration p c.activity c.mode)))
      (cases_lt t a.start))

  consumption-push : (r : ℕ) → r < nonrenewables p → placed_consumption p (placed ++ placed_from p placed from c ∷ []) r ≤ stock p r
  unfolding placed_consumption placed_from is_affordable
  consumption-push r inside =
      let a = placed_from p placed from c in
      rw (sum_by_push (λ (b : Placed). consumption p b.activity b.mode r) placed a)
      (omega (arith, leb-true (placed_consumption p placed r + consumption p c.activity c.mode r + reserve p placed c.activity r) (stock p r) (all_below-at (λ r. nat_le (placed_consumption p placed r + consumption p c.activity c.mode r + reserve p placed c.activity r) (stock p r)) (nonrenewables p) r affordable inside)))

  pub sound-push : IsSound p (placed ++ placed_from p placed from c ∷ [])
  unfolding placed_from is_allowed
  sound-push =
      let new : Placed = placed_from p placed from c in
      let j : ℕ = c.activity in
      let unplaced : is_placed placed j ≡ false = eligible-unplaced p placed j able.eligible in
      let grown : (i : ℕ) → is_placed placed i ≡ true → is_placed (placed ++ new ∷ []) i ≡ true = λ i h. is_placed_push placed new i ∙ or_left (is_placed placed i) (j == i) h in
      record {
        inside = All-push (λ (a : Placed). a.activity < size p) placed new sound.inside able.inside;
        modes = All-push (λ (a : Placed). a.mode < mode_count p a.activity) placed new sound.modes able.mode;
        distinct = IsDistinct-push placed new sound.distinct unplaced;
        preceded = All-push (λ (b : Placed). (i : ℕ) → i < size p → precedes p i b.activity ≡ true → is_placed (placed ++ new ∷ []) i ≡ true) placed new
            (λ k d l i inside before. grown i (sound.preceded k d l i inside before))
            (λ i inside before. grown i (eligible-after p placed i j able.eligible inside before));
        ordered = All-push (λ (b : Placed). All (λ a. precedes p a.activity b.activity ≡ true → finish_of p a ≤ b.start) (placed ++ new ∷ [])) placed new
            (λ k d l.
            let b = get_or placed k d in
            All-push (λ (a : Placed). precedes p a.activity b.activity ≡ true → finish_of p a ≤ b.start) placed new (sound.ordered k d l)
            (λ before. absurd (both_ways (is_placed placed j) unplaced (sound.preceded k d l j able.inside before))))
            (All-push (λ (a : Placed). precedes p a.activity j ≡ true → finish_of p a ≤ new.start) placed new
            (ready-at p placed j new.start (and_parts (are_ready p placed j new.start) (fits p placed j c.mode new.start) allowed).0)
            (λ before. absurd (let h : j < j = (precedes-rising p j j ok before).0 in omega arith)));
        renewable = use-push;
        nonrenewable = consumption-push;
        short = omega (arith, sound.short, sooner, latest_push p placed new, length_push placed new, earliest-le-latest p placed j c.mode from executable, duration-le p j c.mode ok able.inside able.mode);
      }

-- where all are placed, a sum over all is one over the placed ones
sum_placed : (f : ℕ → ℕ) (n : ℕ) (placed : List Placed) → IsDistinct placed → All (λ a. a.activity < n) placed → length placed ≡ n → sum_below f n ≡ sum_by (λ a. f a.activity) placed
sum_placed f n placed distinct inside full =
    let none : sum_below (λ j. cond (is_placed placed j) 0 (f j)) n ≡ sum_below (λ _. 0) n = sum_below-same (λ j. cond (is_placed placed j) 0 (f j)) (λ _. 0) n (λ j l. cond-true (is_placed placed j) 0 (f j) (all_placed n placed distinct inside full j l)) in
    omega (arith, sum_split f n placed distinct inside, zero_sum n)
  where
    zero_sum : (n : ℕ) → sum_below (λ _. 0) n ≡ 0
    zero_sum zero = refl
    zero_sum (suc n) = omega (arith, zero_sum n)

module _ (p : ProjectData) (placed : List Placed) (sound : IsSound p placed) (full : length placed ≡ size p) where
  here : (j : ℕ) → j < size p → is_placed placed j ≡ true
  here j l = all_placed (size p) placed sound.distinct sound.inside full j l

  use-full : (r t : ℕ) → use_of p (schedule_of (size p) placed) r t ≡ placed_use p placed r t
  unfolding use_of placed_use
  use-full r t =
      let s = schedule_of (size p) placed in
      let f : ℕ → ℕ = λ j. load p r t j (mode_in placed j) (start_in placed j) in
      let looked : sum_below (λ j. load p r t j (mode_of s j) (start_of s j)) (size p) ≡ sum_below f (size p) = sum_below-same (λ j. load p r t j (mode_of s j) (start_of s j)) f (size p) (λ j l. rw (mode_of-schedule_of (size p) placed j l, start_of-schedule_of (size p) placed j l) refl) in
      let same : sum_by (λ (a : Placed). f a.activity) placed ≡ sum_by (λ (a : Placed). load p r t a.activity a.mode a.start) placed = sum_by-same-all (λ (a : Placed). f a.activity) (λ (a : Placed). load p r t a.activity a.mode a.start) placed (λ k d l. let e = looks_itself_up placed sound.distinct k d l in rw (e.0, e.1) refl) in
      looked ∙ sum_placed f (size p) placed sound.distinct sound.inside full ∙ same

  consumed-full : (r : ℕ) → consumed p (schedule_of (size p) placed) r ≡ placed_consumption p placed r
  unfolding consumed placed_consumption
  consumed-full r =
      let s = schedule_of (size p) placed in
      let f : ℕ → ℕ = λ j. consumption p j (mode_in placed j) r in
      let looked : sum_below (λ j. consumption p j (mode_of s j) r) (size p) ≡ sum_below f (size p) = sum_below-same (λ j. consumption p j (mode_of s j) r) f (size p) (λ j l. ap (λ m. consumption p j m r) (mode_of-schedule_of (size p) placed j l)) in
      let same : sum_by (λ (a : Placed). f a.activity) placed ≡ sum_by (λ (a : Placed). consumption p a.activity a.mode r) placed = sum_by-same-all (λ (a : Placed). f a.activity) (λ (a : Placed). consumption p a.activity a.mode r) placed (λ k d l. ap (λ m. consumption p (get_or placed k d).activity m r) (looks_itself_up placed sound.distinct k d l).0) in
      looked ∙ sum_placed f (size p) placed sound.distinct sound.inside full ∙ same

  pub feasible-full : IsFeasible p (schedule_of (size p) placed)
  unfolding schedule_of finish
  feasible-full =
      let n : ℕ = size p in
      record {
        modes_fit = length-map-range_with_len (λ j. mode_in placed j + 1) 0 n;
        starts_fit = length-map-range_with_len (start_in placed) 0 n;
        modes_exist = λ j l. (let e : get_or (map (λ j. mode_in placed j + 1) (range_with_len 0 n)) j 0 ≡ mode_in placed j + 1 = get_or-map-range_with_len (λ j. mode_in placed j + 1) 0 n j j 0 l (omega arith) in omega arith, rw (mode_of-schedule_of n placed j l) (looked_up (λ i m t. m < mode_count p i) placed j sound.modes (here j l)));
        precedence = λ i j k l before.
            let later : All (λ a. precedes p a.activity j ≡ true → finish_of p a ≤ start_in placed j) placed = looked_up (λ b m t. All (λ a. precedes p a.activity b ≡ true → finish_of p a ≤ t) placed) placed j sound.ordered (here j l) in
            rw (mode_of-schedule_of n placed i k, start_of-schedule_of n placed i k, start_of-schedule_of n placed j l)
            (looked_up (λ b m t. precedes p b j ≡ true → t + duration p b m ≤ start_in placed j) placed i later (here i k) before);
        renewable = λ r t inside. rw (use-full r t) (sound.renewable r t inside);
        nonrenewable = λ r inside. rw (consumed-full r) (sound.nonrenewable r inside);
      }

-- each starts by period 1,000,000,000
start_in-le : (placed : List Placed) (j n : ℕ) → All (λ a. a.start ≤ n) placed → start_in placed j ≤ n
start_in-le [] j n h = omega arith
start_in-le (a ∷ placed) j n h =
    cond_both (a.activity == j) a.start (start_in placed j) (λ x. x ≤ n)
    (λ _. All-head (λ (b : Placed). b.start ≤ n) a placed h)
    (λ _. start_in-le placed j n (All-tail (λ (b : Placed). b.start ≤ n) a placed h))

starts-le : (p : ProjectData) (placed : List Placed) (n : ℕ) → latest p placed ≤ n → All (λ a. a.start ≤ n) placed
starts-le p [] n h = All-nil (λ (a : Placed). a.start ≤ n)
starts-le p (a ∷ placed) n h = All-cons (λ (b : Placed). b.start ≤ n) a placed (omega arith) (starts-le p placed n (omega arith))

pub shaped-full : (p : ProjectData) (placed : List Placed) → IsProject p → IsSound p placed → length placed ≡ size p → HasShape p (schedule_of (size p) placed)
unfolding schedule_of
shaped-full p placed ok sound full =
    record {
      modes = length-map-range_with_len (λ j. mode_in placed j + 1) 0 (size p);
      starts = length-map-range_with_len (start_in placed) 0 (size p);
      early = λ k d l.
          let inside : k < size p = omega (arith, length-map-range_with_len (start_in placed) 0 (size p)) in
          rw (get_or-map-range_with_len (start_in placed) 0 (size p) k k d inside (omega arith))
          (start_in-le placed k 1000000000 (starts-le p placed 1000000000 (omega (arith, sound.short, full, ok.few))));
    }
