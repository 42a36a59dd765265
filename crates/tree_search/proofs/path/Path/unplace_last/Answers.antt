use Rattle.std.proofs.Common.{◌≡◌, ◌++◌, ◌∷◌, [], arith, sym, ap, ◌∙◌}
use Rattle.mrcpsp.specs.Placed.{Placed}
use Rattle.serial_sgs.specs.Board.{BoardData}
use Rattle.tree_search.proofs.PathLemmas.{path_last, path_pop, taken_last}
use Rattle.tree_search.proofs.path.Path.unplace_last.Goals as goal

pub returns-clause-placed : goal.returns-clause-placed
returns-clause-placed c =
    let b = c.self.inside in
    let rest = c.pop.new.self.items in (
      ap (λ (x : BoardData). x.placed) (sym c.self.view_is) ∙ c.in-Some.ensures.items,
      taken_last b.project b.placed.items rest c.in-Some.last _ b.table b.before.items b.after.items b.stages.items b.running.items b.finishes.items b.readies.items c.in-Some.ensures.items c.self.invariant,
    )

pub invariant_of-self-2 : goal.invariant_of-self-2
invariant_of-self-2 c =
    let b = c.self.inside in
    let rest = c.pop.new.self.items in
    let a : Placed = record { activity = c.last.inside.activity; mode = c.last.inside.mode; start = c.last.inside.start } in
    let e : b.placed.items ≡ rest ++ a ∷ [] = c.in-Some.ensures.items ∙ ap (λ (x : Placed). rest ++ x ∷ []) (sym c.last.view_is) in
    path_pop b.project b.placed.items rest a _ _ b.table b.before.items b.after.items b.stages.items b.running.items b.finishes.items b.readies.items e c.in-Some.ensures.capacity c.self.invariant

pub index_mut-requires : goal.index_mut-requires
index_mut-requires c =
    let b = c.self.inside in
    let rest = c.pop.new.self.items in
    let a : Placed = record { activity = c.last.inside.activity; mode = c.last.inside.mode; start = c.last.inside.start } in
    let e : b.placed.items ≡ rest ++ a ∷ [] = c.in-Some.ensures.items ∙ ap (λ (x : Placed). rest ++ x ∷ []) (sym c.last.view_is) in
    omega (arith, b.finishes.ok.0, path_last b.project b.placed.items rest a _ b.table b.before.items b.after.items b.stages.items b.running.items b.finishes.items b.readies.items e c.self.invariant)
