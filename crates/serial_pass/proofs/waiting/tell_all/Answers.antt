use Rattle.std.proofs.Common.{◌≡◌, ℕ, ◌++◌, List, length, drop, take, take_all, arith, sym, subst, ◌∙◌}
use Rattle.std.proofs.lemmas.List.{take-append-le}
use Rattle.serial_pass.specs.declared.waiting.Wait.{Wait}
use Rattle.serial_pass.specs.Waiting.{AreTold, HaveEntered}
use Rattle.serial_pass.proofs.waiting.tell_all.Goals as goal

pub returns-clause-told : goal.returns-clause-told
returns-clause-told c =
    let old : List Wait = c.args.waiting.now.items in
    let new : List Wait = c.tell_in.new.waiting in
    let told : AreTold c.args.after.now c.args.finish c.args.point old new = rw c.as_mut_slice.ensures.value at c.tell_in.ensures.told in
    let len : ℕ = c.args.waiting.now.len in
    let all : len ≡ length old = omega (arith, c.args.waiting.now.ok.0) in
    let whole : take len (new ++ drop (length new) old) ≡ new = take-append-le len new (drop (length new) old) (omega (arith, all, told.count)) ∙ take_all len new (omega (arith, all, told.count)) in
    subst (λ (xs : List Wait). AreTold c.args.after.now c.args.finish c.args.point old xs) (sym whole) told

pub returns-clause-entered : goal.returns-clause-entered
returns-clause-entered c =
    let old : List Wait = c.args.waiting.now.items in
    let new : List Wait = c.tell_in.new.waiting in
    let told : AreTold c.args.after.now c.args.finish c.args.point old new = rw c.as_mut_slice.ensures.value at c.tell_in.ensures.told in
    let len : ℕ = c.args.waiting.now.len in
    let all : len ≡ length old = omega (arith, c.args.waiting.now.ok.0) in
    let whole : take len (new ++ drop (length new) old) ≡ new = take-append-le len new (drop (length new) old) (omega (arith, all, told.count)) ∙ take_all len new (omega (arith, all, told.count)) in
    subst (λ (xs : List Wait). HaveEntered c.args.after.now xs c.args.eligible.now.set c.tell_in.new.eligible.set) (sym whole) c.tell_in.ensures.entered
