-- A pass before its first node.
use Rattle.std.proofs.Common.{◌≡◌, ℕ, ◌+◌, ◌≤◌, false, All, List, [], length, get_or, vec_capacity, arith, refl, sym, subst}
use Rattle.std.proofs.lemmas.Bool.{both_ways}
use Rattle.mrcpsp.specs.Project.{ProjectData, size}
use Rattle.mrcpsp.specs.Placed.{Placed, placed_use}
use Rattle.serial_sgs.specs.Board.{IsBoard}
use Rattle.serial_pass.specs.declared.state.PassState.{PassState}
use Rattle.serial_pass.specs.declared.tables.PassTables.{PassTables}
use Rattle.serial_pass.specs.declared.waiting.Wait.{Wait}
use Rattle.serial_pass.specs.Partial.{AreTables, IsState}
use Rattle.serial_pass.specs.Points.{IsLeft, IsLinked, time_at}
use Rattle.serial_pass.specs.Waiting.{AreWaiting}
use Rattle.serial_pass.proofs.BoardLemmas.{early_empty}

-- what the fields are when nothing is placed
pub record IsFirst (p : ProjectData) (t : PassTables) (s : PassState) : Type 0 where
  pub memory : vec_capacity s.placed ≡ size p
  pub room : vec_capacity s.points ≡ size p + 2
  pub linked : IsLinked s.points.items
  pub two : length s.points.items ≡ 2
  pub begins : time_at s.points.items 0 ≡ 0
  pub left : IsLeft (λ r u. get_or t.rows.capacities r 0) s.points.items
  pub waiting : s.waiting.items ≡ t.first.items
  pub eligible : s.eligible ≡ t.sources
  pub slack : s.slack ≡ t.slack
  pub latest : s.latest ≡ 0

none_used : (p : ProjectData) (r u : ℕ) → placed_use p [] r u ≡ 0
unfolding placed_use
none_used p r u = refl

pub state_first : (p : ProjectData) (t : PassTables) (s : PassState) → AreTables p t → IsFirst p t s → IsState p [] false s
state_first p t s tables is = record {
  early = early_empty p tables.project;
  memory = is.memory;
  room = is.room;
  few = omega (arith, is.two);
  linked = is.linked;
  left = λ k r u inside among from under. omega (arith, is.left k r u inside among from under, tables.tabled.capacities r among, none_used p r u);
  entered = λ j l there. absurd (both_ways false refl there);
  waiting = subst (λ (ws : List Wait). AreWaiting p [] s.points.items ws) (sym is.waiting) (tables.first s.points.items is.linked);
  slack = rw is.slack tables.slack;
  ends = omega (arith, is.latest);
  ended = (0, omega (arith, is.two), omega (arith, is.begins));
  sums = rw is.eligible tables.sums;
  going = λ _. rw is.eligible tables.sources;
  over = λ e. absurd (both_ways false refl e);
}

-- no mode of a placed activity is past the most that there may be
pub few_modes : (p : ProjectData) (placed : List Placed) → IsBoard (record { project = p; placed = placed }) → All (λ a. a.mode ≤ 10) placed
few_modes p placed board k d l =
    let own = board.inside k d l in
    omega (arith, own.mode, (board.project.moded (get_or placed k d).activity own.activity).1)
