use Rattle.std.proofs.Common.{◌≡◌, ℕ, ◌<◌, ◌≤◌, true, max, nat_le, get_or, arith, subst, ◌∙◌}
use Rattle.std.proofs.lemmas.List.{get_or_default}
use Rattle.mrcpsp.specs.Project.{size, mode_count}
use Rattle.mrcpsp.specs.Placed.{are_ready, is_eligible, is_executable, latest}
use Rattle.serial_sgs.specs.Board.{BoardData}
use Rattle.mrcpsp.proofs.EarliestLemmas.{earliest-allowed}
use Rattle.mrcpsp.proofs.BoundLemmas.{earliest-le-latest}
use Rattle.serial_sgs.proofs.BoardLemmas.{latest_small}
use Rattle.serial_sgs.proofs.OrderLemmas.{eligible_misses, ready_later}
use Rattle.serial_sgs.proofs.RowLemmas.{capacity_small}
use Rattle.serial_sgs.proofs.WalkLemmas.{at_once, few_at, last_fits, first_fit_earliest}
use Rattle.serial_sgs.proofs.board.Board.earliest_last.Goals as goal

-- what takes no time starts as soon as it is ready
pub returns-then-row-eq0-clause-exact : goal.returns-then-row-eq0-clause-exact
returns-then-row-eq0-clause-exact c =
    let b = c.self.inside in
    let p = b.project in
    let placed = b.placed.items in
    let j = c.args.activity in
    let m = c.args.mode in
    let known : j < size p = rw (← c.self.view_is) at c.requires.activity in
    let moded : m < mode_count p j = rw (← c.self.view_is) at c.requires.mode in
    let can : is_executable p j m ≡ true = rw (← c.self.view_is) at c.requires.executable in
    let may : is_eligible p placed j ≡ true = rw (← c.self.view_is) at c.requires.eligible in
    let row = c.row-row.ensures p c.self.invariant.tabled known moded in
    let readied = c.self.invariant.readied in
    let entry : c.index.result.now ≡ get_or b.readies.items j 0 = c.index.ensures ∙ get_or_default b.readies.items j c.index.result.now 0 (omega (arith, readied.count)) in
    let from : ℕ = c.args.from in
    let ready : ℕ = c.max-ready.result in
    let later : ready ≡ max from (get_or b.readies.items j 0) = omega (arith, c.max-ready.ensures, entry) in
    let exact : (t : ℕ) → from ≤ t → are_ready p placed j t ≡ nat_le ready t = ready_later p placed j from (get_or b.readies.items j 0) ready later (λ t. readied.each j t known (eligible_misses p placed j may)) in
    rw (← c.self.view_is) (at_once p placed j m from ready can (omega (arith, later)) exact (omega (arith, c.if-row-eq0.true, row.duration)))

pub returns-then-row-eq0-clause-allowed : goal.returns-then-row-eq0-clause-allowed
returns-then-row-eq0-clause-allowed c = rw (returns-then-row-eq0-clause-exact c) (earliest-allowed c.args.self.now.project c.args.self.now.placed c.args.activity c.args.mode c.args.from c.requires.executable)

pub returns-then-row-eq0-clause-within : goal.returns-then-row-eq0-clause-within
returns-then-row-eq0-clause-within c = rw (returns-then-row-eq0-clause-exact c) (earliest-le-latest c.args.self.now.project c.args.self.now.placed c.args.activity c.args.mode c.args.from c.requires.executable)

pub returns-then-row-eq0-clause-most : goal.returns-then-row-eq0-clause-most
returns-then-row-eq0-clause-most c =
    let small = subst (λ (x : BoardData). latest x.project x.placed ≤ 1000001000) c.self.view_is (latest_small c.self.inside.project c.self.inside.placed.items c.self.invariant.board) in
    omega (arith, returns-then-row-eq0-clause-exact c, earliest-le-latest c.args.self.now.project c.args.self.now.placed c.args.activity c.args.mode c.args.from c.requires.executable, small)

pub first_fit-requires-clause-few : goal.first_fit-requires-clause-few
first_fit-requires-clause-few c =
    let b = c.self.inside in
    let p = b.project in
    let placed = b.placed.items in
    let j = c.args.activity in
    let m = c.args.mode in
    let known : j < size p = rw (← c.self.view_is) at c.requires.activity in
    let moded : m < mode_count p j = rw (← c.self.view_is) at c.requires.mode in
    let can : is_executable p j m ≡ true = rw (← c.self.view_is) at c.requires.executable in
    let may : is_eligible p placed j ≡ true = rw (← c.self.view_is) at c.requires.eligible in
    let row = c.row-row.ensures p c.self.invariant.tabled known moded in
    rw c.deref.ensures.value (λ k r inside within. few_at p placed j m b.points.items c.row-row.result.now k c.self.invariant.board c.self.invariant.profile known moded row inside r within)

pub first_fit-requires-clause-most : goal.first_fit-requires-clause-most
first_fit-requires-clause-most c = λ r within. omega (arith, c.self.invariant.tabled.capacities r within, capacity_small c.self.inside.project r c.self.invariant.board.project)

pub first_fit-requires-clause-last : goal.first_fit-requires-clause-last
first_fit-requires-clause-last c =
    let b = c.self.inside in
    let p = b.project in
    let placed = b.placed.items in
    let j = c.args.activity in
    let m = c.args.mode in
    let known : j < size p = rw (← c.self.view_is) at c.requires.activity in
    let moded : m < mode_count p j = rw (← c.self.view_is) at c.requires.mode in
    let can : is_executable p j m ≡ true = rw (← c.self.view_is) at c.requires.executable in
    let may : is_eligible p placed j ≡ true = rw (← c.self.view_is) at c.requires.eligible in
    let row = c.row-row.ensures p c.self.invariant.tabled known moded in
    rw c.deref.ensures.value (last_fits p placed j m b.points.items c.row-row.result.now b.rows.capacities c.self.invariant.board c.self.invariant.profile known moded row c.self.invariant.tabled.capacities can (omega (arith, c.if-row-eq0.false, row.duration)))

-- else the first fit is the earliest start
pub returns-clause-exact : goal.returns-clause-exact
returns-clause-exact c =
    let b = c.self.inside in
    let p = b.project in
    let placed = b.placed.items in
    let j = c.args.activity in
    let m = c.args.mode in
    let known : j < size p = rw (← c.self.view_is) at c.requires.activity in
    let moded : m < mode_count p j = rw (← c.self.view_is) at c.requires.mode in
    let can : is_executable p j m ≡ true = rw (← c.self.view_is) at c.requires.executable in
    let may : is_eligible p placed j ≡ true = rw (← c.self.view_is) at c.requires.eligible in
    let row = c.row-row.ensures p c.self.invariant.tabled known moded in
    let readied = c.self.invariant.readied in
    let entry : c.index.result.now ≡ get_or b.readies.items j 0 = c.index.ensures ∙ get_or_default b.readies.items j c.index.result.now 0 (omega (arith, readied.count)) in
    let from : ℕ = c.args.from in
    let ready : ℕ = c.max-ready.result in
    let later : ready ≡ max from (get_or b.readies.items j 0) = omega (arith, c.max-ready.ensures, entry) in
    let exact : (t : ℕ) → from ≤ t → are_ready p placed j t ≡ nat_le ready t = ready_later p placed j from (get_or b.readies.items j 0) ready later (λ t. readied.each j t known (eligible_misses p placed j may)) in
    let late = rw (← c.self.view_is) at c.requires.late in
    let fit = rw c.deref.ensures.value at c.first_fit.ensures in
    rw (← c.self.view_is) (first_fit_earliest p placed j m b.points.items c.row-row.result.now b.rows.capacities from ready c.first_fit.result c.self.invariant.board c.self.invariant.profile known moded row c.self.invariant.tabled.capacities can (omega (arith, c.if-row-eq0.false, row.duration)) late (omega (arith, later)) exact fit)

pub returns-clause-allowed : goal.returns-clause-allowed
returns-clause-allowed c = rw (returns-clause-exact c) (earliest-allowed c.args.self.now.project c.args.self.now.placed c.args.activity c.args.mode c.args.from c.requires.executable)

pub returns-clause-within : goal.returns-clause-within
returns-clause-within c = rw (returns-clause-exact c) (earliest-le-latest c.args.self.now.project c.args.self.now.placed c.args.activity c.args.mode c.args.from c.requires.executable)

pub returns-clause-most : goal.returns-clause-most
returns-clause-most c =
    let small = subst (λ (x : BoardData). latest x.project x.placed ≤ 1000001000) c.self.view_is (latest_small c.self.inside.project c.self.inside.placed.items c.self.invariant.board) in
    omega (arith, returns-clause-exact c, earliest-le-latest c.args.self.now.project c.args.self.now.placed c.args.activity c.args.mode c.args.from c.requires.executable, small)
