use Rattle.std.proofs.Common.{◌≡◌, ℕ, ◌<◌, List, Vec, Global, set, [], length, get_or, arith, ap, sym, subst, refl, ◌∙◌}
use Rattle.std.proofs.lemmas.List.{get_or_default}
use Rattle.tree_search.proofs.PathLemmas.{entered_none, entered_next, entered_later}
use Rattle.tree_search.proofs.path.enlist.Goals as goal
use Rattle.tree_search.proofs.path.enlist.Goals.{then-latest-lt-NEVER, else-latest-lt-NEVER}

pub loop-other-init : goal.loop-other-init
loop-other-init c = entered_none c.args.before.now c.args.finishes.now c.args.eligible.now c.args.readies.now.items

pub latest_done-latest-requires-clause-named : goal.latest_done-latest-requires-clause-named
latest_done-latest-requires-clause-named c =
    let i = c.loop-other.other-index in
    let s : ℕ = get_or c.args.after.now i 0 in
    let known : s < length c.args.before.now = omega (arith, c.requires.inside i 0 c.loop-other-test.true, c.requires.listed) in
    let list : c.as_slice.result.now ≡ get_or c.args.before.now s [] = c.as_slice.ensures ∙ c.index-before-activity.is ∙ get_or_default c.args.before.now s c.index-before-activity.result [] known in
    subst (λ (xs : List ℕ). (k : ℕ) → k < length xs → get_or xs k 0 < length c.args.finishes.now) (sym list) (λ k l. c.requires.named s k known l)

pub latest_done-latest-requires-clause-some : goal.latest_done-latest-requires-clause-some
latest_done-latest-requires-clause-some c =
    let i = c.loop-other.other-index in
    let s : ℕ = get_or c.args.after.now i 0 in
    let known : s < length c.args.before.now = omega (arith, c.requires.inside i 0 c.loop-other-test.true, c.requires.listed) in
    let list : c.as_slice.result.now ≡ get_or c.args.before.now s [] = c.as_slice.ensures ∙ c.index-before-activity.is ∙ get_or_default c.args.before.now s c.index-before-activity.result [] known in
    rw list (c.requires.reached i c.loop-other-test.true)

pub loop-other-preserved : goal.loop-other-preserved
loop-other-preserved c =
    let i = c.loop-other.other-index in
    let after = c.args.after.now in
    let s : ℕ = get_or after i 0 in
    let inside : i < length after = c.loop-other-test.true in
    let so_far = c.loop-other.invariant in
    let known : s < length c.args.readies.now.items = c.requires.inside i 0 inside in
    let list : c.as_slice.result.now ≡ get_or c.args.before.now s [] = c.as_slice.ensures ∙ c.index-before-activity.is ∙ get_or_default c.args.before.now s c.index-before-activity.result [] (omega (arith, known, c.requires.listed)) in
    elim c.if-latest-lt-NEVER.branch [
      | then-latest-lt-NEVER w ↦
          let set_is : c.if-latest-lt-NEVER.readies.items ≡ set c.loop-other.readies.items s c.latest_done-latest.result = ap (λ (v : Vec ℕ Global). v.items) w.readies-is in
          rw (set_is, w.eligible-is) (entered_next after c.args.before.now c.args.finishes.now c.args.eligible.now c.args.readies.now.items c.loop-other.eligible c.loop-other.readies.items w.put_in.new.words i s c.latest_done-latest.result inside refl (omega (arith, known, so_far.count)) (rw list at (c.latest_done-latest.ensures.latest w.if-latest-lt-NEVER.true)) (rw w.short.ensures at w.put_in.ensures.own) (rw w.short.ensures at w.put_in.ensures.others) (rw list at (c.latest_done-latest.ensures.done w.if-latest-lt-NEVER.true)) so_far)
      | else-latest-lt-NEVER w ↦
          let same : c.if-latest-lt-NEVER.readies.items ≡ c.loop-other.readies.items = ap (λ (v : Vec ℕ Global). v.items) w.readies-is in
          rw (same, w.eligible-is) (entered_later after c.args.before.now c.args.finishes.now c.args.eligible.now c.args.readies.now.items c.loop-other.eligible c.loop-other.readies.items i s inside refl (rw list at (c.latest_done-latest.ensures.undone w.if-latest-lt-NEVER.false)) so_far)
    ]
