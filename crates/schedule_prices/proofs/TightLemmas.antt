-- What precedences bar, from the least times of the choices left.
use Rattle.std.proofs.Common.{◌≡◌, ℕ, ◌+◌, ◌-◌, ◌<◌, ◌≤◌, Bool, true, false, cond, ◌&&◌, ◌==◌, arith, refl, sym, ◌∙◌, ⊎_elim, subst, Some, None}
use Rattle.std.specs.Prelude.{nat_le}
use Rattle.std.proofs.lemmas.Bool.{cases_lt, and_parts, leb-true, eqb-true, or_left}
use Rattle.mrcpsp.specs.Project.{ProjectData, size, mode_count, duration, precedes}
use Rattle.mrcpsp.specs.Schedule.{ScheduleData, IsFeasible, mode_of, start_of, finish, makespan}
use Rattle.schedule_prices.specs.declared.time.Time.{Time}
use Rattle.schedule_prices.specs.declared.time.Time.TheVariants.{End, Rest}
use Rattle.schedule_prices.specs.declared.choice_range.ChoiceRange.{ChoiceRange}
use Rattle.schedule_prices.specs.Choices.{AreBarred, EachExceeds, with_piece, is_mode_of, is_in}
use Rattle.schedule_prices.specs.Steps.{time_of, time_left, least_in, least_time}
use Rattle.schedule_prices.specs.Table.{BarredData, Keeps, is_barred}
use Rattle.schedule_prices.proofs.LeastLemmas.{IsAtMost, least-at-most}
use Rattle.schedule_prices.proofs.ChoiceLemmas.{start-le, bars}

free-at-most : (b : Bool) (x : ℕ) → b ≡ false → IsAtMost (cond b None (Some x)) x
free-at-most b x e = rw e (omega arith)

time-at-most : (time : Time) (p : ProjectData) (bound : ℕ) (barred : ℕ → ℕ → ℕ → Bool) (j m t : ℕ) → m < mode_count p j → t ≤ bound → barred j m t ≡ false → IsAtMost (least_time time p bound barred j) (time_of time p bound j m t)
unfolding least_time
time-at-most time p bound barred j m t known short free =
    least-at-most (least_in time p bound barred j) (mode_count p j) m (time_of time p bound j m t) known
    (least-at-most (time_left time p bound barred j m) (bound + 1) t (time_of time p bound j m t) (omega arith) (free-at-most (barred j m t) (time_of time p bound j m t) free))

-- the time of a schedule's own choice
own-time : (time : Time) (p : ProjectData) (bound : ℕ) (barred : ℕ → ℕ → ℕ → Bool) (s : ScheduleData) (j : ℕ) → AreBarred p bound barred → IsFeasible p s → makespan p s ≤ bound → j < size p → IsAtMost (least_time time p bound barred j) (time_of time p bound j (mode_of s j) (start_of s j))
own-time time p bound barred s j barring feasible short l =
    time-at-most time p bound barred j (mode_of s j) (start_of s j) (feasible.modes_exist j l).1 (start-le p s bound j short l) (barring s feasible short j l)

-- an activity with no choice left
pub none-left : (time : Time) (p : ProjectData) (bound : ℕ) (barred : ℕ → ℕ → ℕ → Bool) (j : ℕ) → AreBarred p bound barred → j < size p → least_time time p bound barred j ≡ None → EachExceeds p bound
none-left time p bound barred j barring l e s feasible =
    ⊎_elim (λ (longer : bound < makespan p s). longer)
    (λ (short : makespan p s ≤ bound).
    let some : IsAtMost (least_time time p bound barred j) (time_of time p bound j (mode_of s j) (start_of s j)) = own-time time p bound barred s j barring feasible short l in
    let none : ⊥ = subst (λ o. IsAtMost o (time_of time p bound j (mode_of s j) (start_of s j))) e some in
    absurd none)
    (cases_lt bound (makespan p s))

-- a schedule within the bound starts the successor after the earliest end
pub starts-after : (p : ProjectData) (bound : ℕ) (barred : ℕ → ℕ → ℕ → Bool) (i k e : ℕ) → AreBarred p bound barred → i < size p → k < size p → precedes p i k ≡ true → least_time End p bound barred i ≡ Some e
    → (s : ScheduleData) → IsFeasible p s → makespan p s ≤ bound → e ≤ start_of s k
unfolding finish
starts-after p bound barred i k e barring known there arc is s feasible short =
    let some = own-time End p bound barred s i barring feasible short known in
    let first : e ≤ start_of s i + duration p i (mode_of s i) = subst (λ o. IsAtMost o (start_of s i + duration p i (mode_of s i))) is some in
    let after : finish p s i ≤ start_of s k = feasible.precedence i k known there arc in
    omega (arith, first, after)

-- and ends the predecessor by the latest start
pub ends-before : (p : ProjectData) (bound : ℕ) (barred : ℕ → ℕ → ℕ → Bool) (i k r : ℕ) → AreBarred p bound barred → i < size p → k < size p → precedes p i k ≡ true → least_time Rest p bound barred k ≡ Some r
    → (s : ScheduleData) → IsFeasible p s → makespan p s ≤ bound → finish p s i ≤ bound - r
ends-before p bound barred i k r barring known there arc is s feasible short =
    let some = own-time Rest p bound barred s k barring feasible short there in
    let most : r ≤ bound - start_of s k = subst (λ o. IsAtMost o (bound - start_of s k)) is some in
    let after : finish p s i ≤ start_of s k = feasible.precedence i k known there arc in
    omega (arith, most, after, start-le p s bound k short there)

-- so the starts before the earliest end, and the ends behind the latest start, are barred
pub early-piece : (p : ProjectData) (bound : ℕ) (barred : ℕ → ℕ → ℕ → Bool) (x : ChoiceRange) (e : ℕ) → AreBarred p bound barred → x.to < e
    → ((s : ScheduleData) → IsFeasible p s → makespan p s ≤ bound → e ≤ start_of s x.activity) → AreBarred p bound (with_piece barred x.activity (is_in x))
early-piece p bound barred x e barring l after =
    bars p bound barred x.activity (is_in x) barring
    (λ s feasible short inside.
    let t = start_of s x.activity in
    let parts = and_parts (is_mode_of x.mode (mode_of s x.activity)) (nat_le x.from t && nat_le t x.to) inside in
    let times = and_parts (nat_le x.from t) (nat_le t x.to) parts.1 in
    absurd (omega (arith, after s feasible short, leb-true t x.to times.1)))

pub late-piece : (p : ProjectData) (bound : ℕ) (barred : ℕ → ℕ → ℕ → Bool) (x : ChoiceRange) (mode last : ℕ) → AreBarred p bound barred → x.mode ≡ Some mode → last < x.from + duration p x.activity mode
    → ((s : ScheduleData) → IsFeasible p s → makespan p s ≤ bound → finish p s x.activity ≤ last) → AreBarred p bound (with_piece barred x.activity (is_in x))
unfolding finish
late-piece p bound barred x mode last barring e l before =
    bars p bound barred x.activity (is_in x) barring
    (λ s feasible short inside.
    let t = start_of s x.activity in
    let m = mode_of s x.activity in
    let parts = and_parts (is_mode_of x.mode m) (nat_le x.from t && nat_le t x.to) inside in
    let times = and_parts (nat_le x.from t) (nat_le t x.to) parts.1 in
    let own : m ≡ mode = let test : (m == mode) ≡ true = subst (λ o. is_mode_of o m ≡ true) e parts.0 in eqb-true m mode test in
    let behind : last < x.from + duration p x.activity m = rw own l in
    absurd (omega (arith, before s feasible short, leb-true x.from t times.0, behind)))

pub keeps-piece : (old new : BarredData) (x : ℕ) (piece : ℕ → ℕ → Bool) → new.project ≡ old.project → new.bound ≡ old.bound → ((j m t : ℕ) → is_barred new j m t ≡ with_piece (is_barred old) x piece j m t) → Keeps old new
keeps-piece old new x piece p b same = record {
  project = p;
  bound = b;
  barred = λ j m t e. let whole : with_piece (is_barred old) x piece j m t ≡ true = or_left (is_barred old j m t) ((j == x) && piece m t) e in rw (same j m t) whole;
}

pub keeps-none : (b : BarredData) → Keeps b b
keeps-none b = record { project = refl; bound = refl; barred = λ j m t e. e }

pub keeps-more : (old now new : BarredData) → Keeps old now → Keeps now new → Keeps old new
keeps-more old now new a b = record { project = b.project ∙ a.project; bound = b.bound ∙ a.bound; barred = λ j m t e. b.barred j m t (a.barred j m t e) }

pub behind-piece : (old now : BarredData) (x : ChoiceRange) (mode last : ℕ) → Keeps old now → AreBarred now.project now.bound (is_barred now) → x.mode ≡ Some mode → last < x.from + duration now.project x.activity mode
    → ((s : ScheduleData) → IsFeasible old.project s → makespan old.project s ≤ old.bound → finish old.project s x.activity ≤ last) → AreBarred now.project now.bound (with_piece (is_barred now) x.activity (is_in x))
behind-piece old now x mode last keeps barring e l before =
    late-piece now.project now.bound (is_barred now) x mode last barring e l
    (subst (λ (p : ProjectData). (s : ScheduleData) → IsFeasible p s → makespan p s ≤ now.bound → finish p s x.activity ≤ last) (sym keeps.project)
    (subst (λ (b : ℕ). (s : ScheduleData) → IsFeasible old.project s → makespan old.project s ≤ b → finish old.project s x.activity ≤ last) (sym keeps.bound) before))
