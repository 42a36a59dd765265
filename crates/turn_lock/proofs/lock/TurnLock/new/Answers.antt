use Rattle.std.proofs.Common.{ap, sym, subst, ◌∙◌, ◌∷◌, [], ◌++◌, Some}
use Rattle.atomic_table.specs.Table.{opening}
use Rattle.turn_lock.specs.Rule.{IsKept, opened}
use Rattle.turn_lock.proofs.Keeps.{begins}
use Rattle.turn_lock.proofs.lock.TurnLock.new.Goals as goal

pub new-requires : goal.new-requires
new-requires g c =
    let k = g.T.Kept in
    let o = k.opening c.of-about.result.value in
    let items = c.push_reserved.ensures.items ∙ ap (λ l. l ++ Some c.args.value ∷ []) c.in-Ok.ensures.items in
    subst (λ xs. IsKept k.opening k.events k.relation o (opening (0 ∷ []) xs (opened o))) (sym items) (begins k.opening k.events k.relation o c.args.value c.requires (ap k.opening (sym c.of-about.ensures)))
