use Rattle.std.proofs.Common.{◌≡◌, ◌<◌, ℕ, List, [], get_or, sym, subst, ◌∙◌, arith}
use Rattle.std.proofs.lemmas.List.{get_or_default}
use Rattle.mrcpsp.specs.Project.{size}
use Rattle.serial_sgs.specs.Order.{IsBefore}
use Rattle.serial_sgs.proofs.OrderLemmas.{ready_exact}
use Rattle.serial_sgs.proofs.board.Board.ready_from.Goals as goal

pub returns-clause-exact : goal.returns-clause-exact
returns-clause-exact c t above =
    let b = c.self.inside in
    let j = c.args.activity in
    let known : j < size b.project = rw (← c.self.view_is) at c.requires in
    let list : c.as_slice-before.result.now ≡ get_or b.before.items j [] = c.as_slice-before.ensures ∙ c.index-2.ensures ∙ get_or_default b.before.items j c.index-2.result.now [] (omega (arith, c.self.invariant.before.count)) in
    let names : IsBefore b.project j (size b.project) c.as_slice-before.result.now = subst (λ (xs : List ℕ). IsBefore b.project j (size b.project) xs) (sym list) (c.self.invariant.before.each j known) in
    let after = rw (c.marks.ensures, c.deref.ensures.value) at c.ready_after.ensures.after in
    let least = rw (c.marks.ensures, c.deref.ensures.value) at c.ready_after.ensures.least in
    rw (← c.self.view_is) (ready_exact b.project b.placed.items j c.as_slice-before.result.now b.waiting.flags b.finishes.items c.args.from c.ready_after.result c.self.invariant.board names c.self.invariant.marks c.self.invariant.finishes after least t above)
