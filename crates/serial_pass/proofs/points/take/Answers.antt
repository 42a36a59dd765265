use Rattle.std.proofs.Common.{◌≡◌, ℕ, ◌++◌, List, length, drop, take, take_all, arith, sym, subst, ◌∙◌}
use Rattle.std.proofs.lemmas.List.{take-append-le}
use Rattle.serial_pass.specs.declared.points.FreePoint.{FreePoint}
use Rattle.serial_pass.specs.Points.{IsTaken, time_at}
use Rattle.serial_pass.proofs.points.take.Goals as goal

pub returns-clause-taken : goal.returns-clause-taken
returns-clause-taken c =
    let old : List FreePoint = c.args.points.now.items in
    let new : List FreePoint = c.take_in.new.points in
    let taken : IsTaken (time_at old c.args.start) c.args.finish c.args.request.now old new = rw c.as_mut_slice.ensures.value at c.take_in.ensures.taken in
    let len : ℕ = c.args.points.now.len in
    let all : len ≡ length old = omega (arith, c.args.points.now.ok.0) in
    let whole : take len (new ++ drop (length new) old) ≡ new = take-append-le len new (drop (length new) old) (omega (arith, all, taken.count)) ∙ take_all len new (omega (arith, all, taken.count)) in
    subst (λ (xs : List FreePoint). IsTaken (time_at old c.args.start) c.args.finish c.args.request.now old xs) (sym whole) taken
