-- The forms of clauses, each of which every schedule within the limit satisfies.
use Rattle.std.proofs.Common.{◌≡◌, ℕ, zero, suc, ◌+◌, ◌<◌, ◌≤◌, ◌==◌, Bool, true, false, not, ◌||◌, ◌&&◌, nat_le, nat_lt, List, [], ◌∷◌, Option, Some, length, get_or, arith, refl, sym, ap, ◌∙◌, ⊎_elim, add-one}
use Rattle.std.proofs.lemmas.Bool.{cases_lt, eqb-true, le-leb, leb-true, true≢false, and_parts}
use Rattle.std.proofs.lemmas.Bool.Decides.{nat_tests}
use Rattle.std.proofs.lemmas.List.Folds.{list_any_at}
use Rattle.mrcpsp.specs.Numbers.{sum_below}
use Rattle.mrcpsp.specs.Project.{ProjectData, is_project, size, renewables, nonrenewables, mode_count, duration, request, consumption, capacity, stock, precedes}
use Rattle.mrcpsp.specs.Schedule.{ScheduleData, IsFeasible, finish, mode_of, start_of, load, use_of, consumed}
use Rattle.mrcpsp.specs.Limits.{IsProject}
use Rattle.mrcpsp.specs.Values.{shortest, tail}
use Rattle.mrcpsp.proofs.LimitLemmas.{kept}
use Rattle.mrcpsp.proofs.ProjectLemmas.{load-running, shortest-le, tail-le}
use Rattle.schedule_clauses.specs.Activities.{is_among, IsPart, Leaves}
use Rattle.schedule_clauses.specs.Meaning.{IsWithin, IsValid, term_true, use_among, consumed_among, runs}
use Rattle.schedule_clauses.proofs.ActivityLemmas.{part-le, all-le, one-le, part-and-one}
use Rattle.schedule_clauses.specs.declared.meaning.Fact.{Fact}
use Rattle.schedule_clauses.specs.declared.meaning.Fact.TheVariants.{StartsBy, InMode, Runs, UseWithin, ConsumptionWithin}
use Rattle.schedule_clauses.specs.declared.meaning.Term.{Term}

-- clauses of up to four tests
pub skip_not : (a b : Bool) → (a ≡ true → b ≡ true) → (not a || b) ≡ true
skip_not true b h = h refl
skip_not false b h = refl

skip : (a b : Bool) → (a ≡ false → b ≡ true) → (a || b) ≡ true
skip true b h = refl
skip false b h = h refl

pub last_not : (a : Bool) → (a ≡ true → ⊥) → (not a || false) ≡ true
last_not true h = absurd (h refl)
last_not false h = refl

pub last : (a : Bool) → a ≡ true → (a || false) ≡ true
last true h = refl
last false h = h

le_false : (a b : ℕ) → nat_le a b ≡ false → b < a
le_false a b e = ⊎_elim (λ (h : b < a). h) (λ (h : a ≤ b). absurd (true≢false (sym (le-leb a b h) ∙ e))) (cases_lt b a)

abbrev pub yes_of : Fact → Term
yes_of x = record { meaning = x; positive = true }

abbrev pub not_of : Fact → Term
not_of x = record { meaning = x; positive = false }

pub valid-exclude : (p : ProjectData) (limit : Option ℕ) (j m k : ℕ) → (m ≡ k → ⊥) → IsValid p limit (not_of (InMode j m) ∷ not_of (InMode j k) ∷ [])
valid-exclude p limit j m k ne = record {
  sure = λ s short.
      skip_not (mode_of s j == m) (not (mode_of s j == k) || false) (λ e. last_not (mode_of s j == k) (λ f. ne (sym (eqb-true (mode_of s j) m e) ∙ eqb-true (mode_of s j) k f)));
}

pub valid-later : (p : ProjectData) (limit : Option ℕ) (j t u : ℕ) → t ≤ u → IsValid p limit (not_of (StartsBy j t) ∷ yes_of (StartsBy j u) ∷ [])
valid-later p limit j t u l = record {
  sure = λ s short.
      skip_not (nat_le (start_of s j) t) (nat_le (start_of s j) u || false) (λ e. last (nat_le (start_of s j) u) (le-leb (start_of s j) u (let h = leb-true (start_of s j) t e in omega arith)));
}

-- an activity in a mode has finished before each of its successors starts
after : (p : ProjectData) (s : ScheduleData) (i m j : ℕ) → IsFeasible p s → i < size p → j < size p → precedes p i j ≡ true → mode_of s i ≡ m → start_of s i + duration p i m ≤ start_of s j
unfolding finish
after p s i m j feasible a b before e = rw (sym e) (feasible.precedence i j a b before)

pub valid-precedence : (p : ProjectData) (limit : Option ℕ) (i m j t u : ℕ) → i < size p → j < size p → precedes p i j ≡ true → t ≤ u + duration p i m → IsValid p limit (not_of (InMode i m) ∷ not_of (StartsBy j t) ∷ yes_of (StartsBy i u) ∷ [])
valid-precedence p limit i m j t u a b before l = record {
  sure = λ s short.
      skip_not (mode_of s i == m) (not (nat_le (start_of s j) t) || (nat_le (start_of s i) u || false)) (λ e.
      skip_not (nat_le (start_of s j) t) (nat_le (start_of s i) u || false) (λ f.
      last (nat_le (start_of s i) u) (le-leb (start_of s i) u (
      let g = after p s i m j short.feasible a b before (eqb-true (mode_of s i) m e) in
      let h = leb-true (start_of s j) t f in omega arith))));
}

pub valid-precedence-none : (p : ProjectData) (limit : Option ℕ) (i m j t : ℕ) → i < size p → j < size p → precedes p i j ≡ true → t < duration p i m → IsValid p limit (not_of (InMode i m) ∷ not_of (StartsBy j t) ∷ [])
valid-precedence-none p limit i m j t a b before l = record {
  sure = λ s short.
      skip_not (mode_of s i == m) (not (nat_le (start_of s j) t) || false) (λ e.
      last_not (nat_le (start_of s j) t) (λ f.
      let g = after p s i m j short.feasible a b before (eqb-true (mode_of s i) m e) in
      let h = leb-true (start_of s j) t f in omega arith));
}

-- the shortest duration is at most that in the schedule's mode
in_time : (p : ProjectData) (s : ScheduleData) (j : ℕ) → IsFeasible p s → j < size p → start_of s j + shortest p j ≤ finish p s j
unfolding finish
in_time p s j feasible inside = let h = shortest-le p j (mode_of s j) ((feasible.modes_exist j inside).1) in omega arith

pub valid-shortest : (p : ProjectData) (limit : Option ℕ) (i j t u : ℕ) → i < size p → j < size p → precedes p i j ≡ true → t ≤ u + shortest p i → IsValid p limit (not_of (StartsBy j t) ∷ yes_of (StartsBy i u) ∷ [])
valid-shortest p limit i j t u a b before l = record {
  sure = λ s short.
      skip_not (nat_le (start_of s j) t) (nat_le (start_of s i) u || false) (λ f.
      last (nat_le (start_of s i) u) (le-leb (start_of s i) u (
      let g = short.feasible.precedence i j a b before in
      let k = in_time p s i short.feasible a in
      let h = leb-true (start_of s j) t f in omega arith)));
}

pub valid-shortest-none : (p : ProjectData) (limit : Option ℕ) (i j t : ℕ) → i < size p → j < size p → precedes p i j ≡ true → t < shortest p i → IsValid p limit (not_of (StartsBy j t) ∷ [])
valid-shortest-none p limit i j t a b before l = record {
  sure = λ s short.
      last_not (nat_le (start_of s j) t) (λ f.
      let g = short.feasible.precedence i j a b before in
      let k = in_time p s i short.feasible a in
      let h = leb-true (start_of s j) t f in omega arith);
}

-- what comes behind an activity ends within the bound
behind : (p : ProjectData) (s : ScheduleData) (limit : Option ℕ) (bound j m : ℕ) → limit ≡ Some bound → IsProject p → IsWithin p limit s → j < size p → mode_of s j ≡ m → start_of s j + duration p j m + tail p j ≤ bound
unfolding finish
behind p s limit bound j m some project short inside e = let h = tail-le p s project short.feasible j inside in let k = short.short bound some in rw (sym e) (omega arith)

pub valid-end : (p : ProjectData) (limit : Option ℕ) (bound j m u : ℕ) → limit ≡ Some bound → IsProject p → j < size p → bound ≤ u + duration p j m + tail p j → IsValid p limit (not_of (InMode j m) ∷ yes_of (StartsBy j u) ∷ [])
valid-end p limit bound j m u some project inside l = record {
  sure = λ s short.
      skip_not (mode_of s j == m) (nat_le (start_of s j) u || false) (λ e.
      last (nat_le (start_of s j) u) (le-leb (start_of s j) u (
      let g = behind p s limit bound j m some project short inside (eqb-true (mode_of s j) m e) in omega arith)));
}

pub valid-end-none : (p : ProjectData) (limit : Option ℕ) (bound j m : ℕ) → limit ≡ Some bound → IsProject p → j < size p → bound < duration p j m + tail p j → IsValid p limit (not_of (InMode j m) ∷ [])
valid-end-none p limit bound j m some project inside l = record {
  sure = λ s short.
      last_not (mode_of s j == m) (λ e.
      let g = behind p s limit bound j m some project short inside (eqb-true (mode_of s j) m e) in omega arith);
}

pub valid-latest : (p : ProjectData) (limit : Option ℕ) (bound j u : ℕ) → limit ≡ Some bound → IsProject p → j < size p → bound ≤ u + shortest p j + tail p j → IsValid p limit (yes_of (StartsBy j u) ∷ [])
valid-latest p limit bound j u some project inside l = record {
  sure = λ s short.
      last (nat_le (start_of s j) u) (le-leb (start_of s j) u (
      let g = tail-le p s project short.feasible j inside in
      let k = in_time p s j short.feasible inside in
      let h = short.short bound some in omega arith));
}

-- begun and not yet over
running : (p : ProjectData) (s : ScheduleData) (j m t : ℕ) → mode_of s j ≡ m → start_of s j ≤ t → t < start_of s j + duration p j m → runs p s j m t ≡ true
unfolding runs
running p s j m t e begun going = rw e (grind (arith, nat_tests))

pub valid-runs : (p : ProjectData) (limit : Option ℕ) (j m b t u : ℕ) → b ≤ t → t ≤ u + duration p j m → IsValid p limit (not_of (InMode j m) ∷ not_of (StartsBy j b) ∷ yes_of (StartsBy j u) ∷ yes_of (Runs j m t) ∷ [])
valid-runs p limit j m b t u begun l = record {
  sure = λ s short.
      skip_not (mode_of s j == m) (not (nat_le (start_of s j) b) || (nat_le (start_of s j) u || (runs p s j m t || false))) (λ e.
      skip_not (nat_le (start_of s j) b) (nat_le (start_of s j) u || (runs p s j m t || false)) (λ f.
      skip (nat_le (start_of s j) u) (runs p s j m t || false) (λ g.
      last (runs p s j m t) (running p s j m t (eqb-true (mode_of s j) m e) (let i = leb-true (start_of s j) b f in omega arith) (let h = le_false (start_of s j) u g in omega arith)))));
}

pub valid-runs-early : (p : ProjectData) (limit : Option ℕ) (j m b t : ℕ) → b ≤ t → t < duration p j m → IsValid p limit (not_of (InMode j m) ∷ not_of (StartsBy j b) ∷ yes_of (Runs j m t) ∷ [])
valid-runs-early p limit j m b t begun l = record {
  sure = λ s short.
      skip_not (mode_of s j == m) (not (nat_le (start_of s j) b) || (runs p s j m t || false)) (λ e.
      skip_not (nat_le (start_of s j) b) (runs p s j m t || false) (λ f.
      last (runs p s j m t) (running p s j m t (eqb-true (mode_of s j) m e) (let i = leb-true (start_of s j) b f in omega arith) (omega arith))));
}

-- what runs is used
runs-load : (p : ProjectData) (s : ScheduleData) (r j m t : ℕ) → runs p s j m t ≡ true → load p r t j (mode_of s j) (start_of s j) ≡ request p j m r
unfolding runs
runs-load p s r j m t h =
    let parts = and_parts (mode_of s j == m) (nat_le (start_of s j) t && nat_lt t (start_of s j + duration p j m)) h in
    let times = and_parts (nat_le (start_of s j) t) (nat_lt t (start_of s j + duration p j m)) parts.1 in
    let e : mode_of s j ≡ m = eqb-true (mode_of s j) m parts.0 in
    rw e (load-running p r t j m (start_of s j) (leb-true (start_of s j) t times.0) (grind (arith, nat_tests, times.1)))

more : (f : ℕ → ℕ) (k j : ℕ) → k ≤ j → sum_below f k ≤ sum_below f j
more f k zero l = let e : k ≡ 0 = omega arith in rw e (omega arith)
more f k (suc j) l = ⊎_elim (λ (h : k < suc j). let g = more f k j (omega arith) in omega arith) (λ (h : suc j ≤ k). let e : k ≡ suc j = omega arith in rw e (omega arith)) (cases_lt k (suc j))

next : (f : ℕ → ℕ) (j : ℕ) → sum_below f (j + 1) ≡ sum_below f j + f j
next f j = rw add-one refl

-- a mode that takes time and requests more than there is would exceed the capacity in its first period
pub valid-executable : (p : ProjectData) (limit : Option ℕ) (j m r : ℕ) → j < size p → r < renewables p → 0 < duration p j m → capacity p r < request p j m r → IsValid p limit (not_of (InMode j m) ∷ [])
unfolding use_of
valid-executable p limit j m r inside known long over = record {
  sure = λ s short.
      last_not (mode_of s j == m) (λ e.
      let t = start_of s j in
      let n = running p s j m t (eqb-true (mode_of s j) m e) (omega arith) (omega arith) in
      let w = runs-load p s r j m t n in
      let g = more (λ i. load p r t i (mode_of s i) (start_of s i)) (j + 1) (size p) (omega arith) in
      let q = next (λ i. load p r t i (mode_of s i) (start_of s i)) j in
      let f = short.feasible.renewable r t known in omega arith);
}

pub valid-use-all : (p : ProjectData) (limit : Option ℕ) (r t c : ℕ) (a : List ℕ) → r < renewables p → capacity p r ≤ c → IsValid p limit (yes_of (UseWithin r t a c) ∷ [])
unfolding use_among use_of
valid-use-all p limit r t c a inside l = record {
  sure = λ s short.
      last (nat_le (use_among p s r t a) c) (le-leb (use_among p s r t a) c (
      let g = all-le (λ i. load p r t i (mode_of s i) (start_of s i)) a (size p) in
      let h = short.feasible.renewable r t inside in omega arith));
}

pub valid-use-fewer : (p : ProjectData) (limit : Option ℕ) (r t c e : ℕ) (a b : List ℕ) → IsPart b a → c ≤ e → IsValid p limit (not_of (UseWithin r t a c) ∷ yes_of (UseWithin r t b e) ∷ [])
unfolding use_among
valid-use-fewer p limit r t c e a b part l = record {
  sure = λ s short.
      skip_not (nat_le (use_among p s r t a) c) (nat_le (use_among p s r t b) e || false) (λ f.
      last (nat_le (use_among p s r t b) e) (le-leb (use_among p s r t b) e (
      let g = part-le (λ i. load p r t i (mode_of s i) (start_of s i)) b a (size p) part in
      let i = leb-true (use_among p s r t a) c f in omega arith)));
}

pub valid-use-run : (p : ProjectData) (limit : Option ℕ) (r t j m c e : ℕ) (a b : List ℕ) → j < size p → Leaves a b c e j (request p j m r) → IsValid p limit (not_of (UseWithin r t a c) ∷ not_of (Runs j m t) ∷ yes_of (UseWithin r t b e) ∷ [])
unfolding use_among
valid-use-run p limit r t j m c e a b inside leaves = record {
  sure = λ s short.
      skip_not (nat_le (use_among p s r t a) c) (not (runs p s j m t) || (nat_le (use_among p s r t b) e || false)) (λ f.
      skip_not (runs p s j m t) (nat_le (use_among p s r t b) e || false) (λ n.
      last (nat_le (use_among p s r t b) e) (le-leb (use_among p s r t b) e (
      let g = part-and-one (λ i. load p r t i (mode_of s i) (start_of s i)) b a (size p) j leaves.nested inside leaves.inside leaves.outside in
      let w = runs-load p s r j m t n in
      let h = leaves.enough in
      let i = leb-true (use_among p s r t a) c f in omega arith))));
}

pub valid-use-over : (p : ProjectData) (limit : Option ℕ) (r t j m c : ℕ) (a : List ℕ) → j < size p → is_among a j ≡ true → c < request p j m r → IsValid p limit (not_of (UseWithin r t a c) ∷ not_of (Runs j m t) ∷ [])
unfolding use_among
valid-use-over p limit r t j m c a inside among h = record {
  sure = λ s short.
      skip_not (nat_le (use_among p s r t a) c) (not (runs p s j m t) || false) (λ f.
      last_not (runs p s j m t) (λ n.
      let g = one-le (λ i. load p r t i (mode_of s i) (start_of s i)) a (size p) j inside among in
      let w = runs-load p s r j m t n in
      let i = leb-true (use_among p s r t a) c f in omega arith));
}

-- an activity consumes what its mode does
same-consumption : (p : ProjectData) (s : ScheduleData) (r j m : ℕ) → (mode_of s j == m) ≡ true → consumption p j (mode_of s j) r ≡ consumption p j m r
same-consumption p s r j m e = ap (λ x. consumption p j x r) (eqb-true (mode_of s j) m e)

pub valid-stock-all : (p : ProjectData) (limit : Option ℕ) (r c : ℕ) (a : List ℕ) → r < nonrenewables p → stock p r ≤ c → IsValid p limit (yes_of (ConsumptionWithin r a c) ∷ [])
unfolding consumed_among consumed
valid-stock-all p limit r c a inside l = record {
  sure = λ s short.
      last (nat_le (consumed_among p s r a) c) (le-leb (consumed_among p s r a) c (
      let g = all-le (λ i. consumption p i (mode_of s i) r) a (size p) in
      let h = short.feasible.nonrenewable r inside in omega arith));
}

pub valid-stock-fewer : (p : ProjectData) (limit : Option ℕ) (r c e : ℕ) (a b : List ℕ) → IsPart b a → c ≤ e → IsValid p limit (not_of (ConsumptionWithin r a c) ∷ yes_of (ConsumptionWithin r b e) ∷ [])
unfolding consumed_among
valid-stock-fewer p limit r c e a b part l = record {
  sure = λ s short.
      skip_not (nat_le (consumed_among p s r a) c) (nat_le (consumed_among p s r b) e || false) (λ f.
      last (nat_le (consumed_among p s r b) e) (le-leb (consumed_among p s r b) e (
      let g = part-le (λ i. consumption p i (mode_of s i) r) b a (size p) part in
      let i = leb-true (consumed_among p s r a) c f in omega arith)));
}

pub valid-stock-mode : (p : ProjectData) (limit : Option ℕ) (r j m c e : ℕ) (a b : List ℕ) → j < size p → Leaves a b c e j (consumption p j m r) → IsValid p limit (not_of (ConsumptionWithin r a c) ∷ not_of (InMode j m) ∷ yes_of (ConsumptionWithin r b e) ∷ [])
unfolding consumed_among
valid-stock-mode p limit r j m c e a b inside leaves = record {
  sure = λ s short.
      skip_not (nat_le (consumed_among p s r a) c) (not (mode_of s j == m) || (nat_le (consumed_among p s r b) e || false)) (λ f.
      skip_not (mode_of s j == m) (nat_le (consumed_among p s r b) e || false) (λ n.
      last (nat_le (consumed_among p s r b) e) (le-leb (consumed_among p s r b) e (
      let g = part-and-one (λ i. consumption p i (mode_of s i) r) b a (size p) j leaves.nested inside leaves.inside leaves.outside in
      let w = same-consumption p s r j m n in
      let h = leaves.enough in
      let i = leb-true (consumed_among p s r a) c f in omega arith))));
}

pub valid-stock-over : (p : ProjectData) (limit : Option ℕ) (r j m c : ℕ) (a : List ℕ) → j < size p → is_among a j ≡ true → c < consumption p j m r → IsValid p limit (not_of (ConsumptionWithin r a c) ∷ not_of (InMode j m) ∷ [])
unfolding consumed_among
valid-stock-over p limit r j m c a inside among h = record {
  sure = λ s short.
      skip_not (nat_le (consumed_among p s r a) c) (not (mode_of s j == m) || false) (λ f.
      last_not (mode_of s j == m) (λ n.
      let g = one-le (λ i. consumption p i (mode_of s i) r) a (size p) j inside among in
      let w = same-consumption p s r j m n in
      let i = leb-true (consumed_among p s r a) c f in omega arith));
}

-- one of the modes
pub valid-modes : (p : ProjectData) (limit : Option ℕ) (j : ℕ) (terms : List Term) → j < size p → length terms ≡ mode_count p j → ((k : ℕ) (d : Term) → k < length terms → get_or terms k d ≡ yes_of (InMode j k)) → IsValid p limit terms
valid-modes p limit j terms inside long each = record {
  sure = λ s short.
      let m = mode_of s j in
      let exists : m < length terms = let h : mode_of s j < mode_count p j = (short.feasible.modes_exist j inside).1 in omega arith in
      list_any_at (term_true p s) terms m (yes_of (InMode j m)) exists (rw (each m (yes_of (InMode j m)) exists) (grind (arith, nat_tests)));
}

pub valid-end-p : (p : ProjectData) (bound j m u : ℕ) → is_project p ≡ true → j < size p → bound ≤ u + duration p j m + tail p j → IsValid p (Some bound) (not_of (InMode j m) ∷ yes_of (StartsBy j u) ∷ [])
valid-end-p p bound j m u project inside l = valid-end p (Some bound) bound j m u refl (kept p project) inside l

pub valid-end-none-p : (p : ProjectData) (bound j m : ℕ) → is_project p ≡ true → j < size p → bound < duration p j m + tail p j → IsValid p (Some bound) (not_of (InMode j m) ∷ [])
valid-end-none-p p bound j m project inside l = valid-end-none p (Some bound) bound j m refl (kept p project) inside l

pub valid-latest-p : (p : ProjectData) (bound j u : ℕ) → is_project p ≡ true → j < size p → bound ≤ u + shortest p j + tail p j → IsValid p (Some bound) (yes_of (StartsBy j u) ∷ [])
valid-latest-p p bound j u project inside l = valid-latest p (Some bound) bound j u refl (kept p project) inside l

pub ruleset form_rules = (valid-exclude, valid-executable, valid-later, valid-precedence, valid-precedence-none, valid-shortest, valid-shortest-none, valid-runs, valid-runs-early, valid-use-all, valid-use-fewer, valid-use-run, valid-use-over, valid-stock-all, valid-stock-fewer, valid-stock-mode, valid-stock-over)

pub ruleset end_rules = (valid-end-p, valid-end-none-p, valid-latest-p)
