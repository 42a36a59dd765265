use Rattle.std.proofs.Common.{◌≡◌, ◌≤◌, ◌<◌, ◌&&◌, Bool, true, false, cond, length, length-set, arith, ap, refl, ◌∙◌, Some}
use mir.Val.{bool_byte}
use Rattle.mrcpsp.specs.Project.{mode_count}
use Rattle.mrcpsp.specs.Placed.{is_affordable}
use Rattle.mrcpsp.proofs.EarliestLemmas.{eligible-unplaced}
use Rattle.strategy.specs.Candidate.{is_allowed_mode}
use Rattle.serial_sgs.specs.Rows.{IsRow}
use Rattle.serial_pass.proofs.DrawLemmas.{IsOpenTo, allowed_is, modes_are, next_kept, none_drawn, one_drawn, open_to}
use Rattle.serial_pass.proofs.PartialLemmas.{affordable_by}
use Rattle.serial_pass.proofs.partial.PartialSchedule.draw_mode.Goals as goal

pub loop-mode-preserved : goal.loop-mode-preserved
loop-mode-preserved c =
    let s = c.self.inside in
    let p = s.project in
    let placed = s.state.placed.items in
    let j = c.args.activity in
    let m = c.loop-mode.mode in
    let so_far = c.loop-mode.invariant in
    let row = c.row-row.result.now in
    let may : IsOpenTo p placed s.void j = open_to p placed s.void j (rw (← c.self.view_is) at c.requires) in
    let board = c.self.invariant.1.early.board in
    let tabled = c.self.invariant.0.tabled in
    let known : m < mode_count p j = omega (arith, c.loop-mode-test.true, c.count-mode-end.ensures p tabled may.inside) in
    let few : m < 10 = omega (arith, known, (board.project.moded j may.inside).1) in
    let own : IsRow p j m row = c.row-row.ensures p tabled may.inside known in
    let affords : c.is_covered.result ≡ is_affordable p placed j m = affordable_by p placed j m s.state.slack row.extra c.is_covered.result board may.inside known (eligible-unplaced p placed j may.eligible) c.self.invariant.1.slack own.extra c.is_covered.ensures in
    let passes : (row.is_executable && c.is_covered.result) ≡ is_allowed_mode p placed j m = allowed_is p placed j m row.is_executable c.is_covered.result own.executable affords in
    let room : c.loop-mode.count < length c.loop-mode.places = omega (arith, so_far.few, so_far.fit, few) in
    let more : c.from-count.result ≡ cond (row.is_executable && c.is_covered.result) 1 0 = c.from-count.ensures ∙ byte_is (row.is_executable && c.is_covered.result) in
    record {
      listed = rw more (next_kept (is_allowed_mode p placed j) c.loop-mode.places c.loop-mode.count m (row.is_executable && c.is_covered.result) so_far.listed room passes);
      few = omega (arith, so_far.few, more, at_most_one (row.is_executable && c.is_covered.result));
      fit = length-set c.loop-mode.places c.loop-mode.count m ∙ so_far.fit;
    }
  where
    byte_is : (b : Bool) → bool_byte b ≡ cond b 1 0
    byte_is true = refl
    byte_is false = refl

    at_most_one : (b : Bool) → cond b 1 0 ≤ 1
    at_most_one true = omega arith
    at_most_one false = omega arith

pub returns-then-count-eq0 : goal.returns-then-count-eq0
returns-then-count-eq0 c =
    let s = c.self.inside in
    let p = s.project in
    let placed = s.state.placed.items in
    let may : IsOpenTo p placed s.void c.args.activity = open_to p placed s.void c.args.activity (rw (← c.self.view_is) at c.requires) in
    let all : c.loop-mode.mode ≡ mode_count p c.args.activity = omega (arith, c.loop-mode.auto.mode-end, c.loop-mode-test.false, c.count-mode-end.ensures p c.self.invariant.0.tabled may.inside) in
    let are = modes_are p placed s.void c.args.activity c.loop-mode.mode c.loop-mode.count c.loop-mode.places may.going all c.loop-mode.invariant.listed in
    rw (← c.self.view_is) (none_drawn c.args.word c.loop-mode.count c.loop-mode.places _ are c.if-count-eq0.true)

pub returns : goal.returns
returns c =
    let s = c.self.inside in
    let p = s.project in
    let placed = s.state.placed.items in
    let may : IsOpenTo p placed s.void c.args.activity = open_to p placed s.void c.args.activity (rw (← c.self.view_is) at c.requires) in
    let all : c.loop-mode.mode ≡ mode_count p c.args.activity = omega (arith, c.loop-mode.auto.mode-end, c.loop-mode-test.false, c.count-mode-end.ensures p c.self.invariant.0.tabled may.inside) in
    let are = modes_are p placed s.void c.args.activity c.loop-mode.mode c.loop-mode.count c.loop-mode.places may.going all c.loop-mode.invariant.listed in
    let room : c.loop-mode.count ≤ length c.loop-mode.places = omega (arith, c.loop-mode.invariant.few, c.loop-mode.invariant.fit, all, (c.self.invariant.1.early.board.project.moded c.args.activity may.inside).1) in
    rw (← c.self.view_is) (ap Some c.from.ensures ∙ one_drawn c.args.word c.loop-mode.count c.loop-mode.places _ are (omega (arith, c.if-count-eq0.false)) room)
