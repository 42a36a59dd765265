use Rattle.std.proofs.Common.{◌≡◌, ℕ, ◌<◌, List, Vec, Global, set, ◌==◌, true, [], length, get_or, length-set, arith, ap, sym, subst, ◌∙◌, ⊎_elim}
use Rattle.std.specs.List.{list_any}
use Rattle.std.proofs.lemmas.Bool.{both_ways, cases_eq, eq-eqb}
use Rattle.std.proofs.lemmas.List.{get_or_default, get_or-set_same, get_or-set_other}
use Rattle.serial_sgs.specs.Order.{IsLatest}
use Rattle.serial_sgs.proofs.OrderLemmas.{any_at}
use Rattle.serial_sgs.proofs.order.renew.Goals as goal
use Rattle.serial_sgs.proofs.order.renew.Goals.{then-misses_none, else-misses_none}

pub latest_of-requires : goal.latest_of-requires
latest_of-requires c =
    let i = c.loop-other.other-index in
    let s : ℕ = get_or c.args.after.now i 0 in
    let known : s < length c.args.before.now = omega (arith, c.requires.inside i 0 c.loop-other-test.true, c.loop-other.invariant.count, c.requires.listed) in
    let list : c.as_slice.result.now ≡ get_or c.args.before.now s [] = c.as_slice.ensures ∙ c.index-before-activity.is ∙ get_or_default c.args.before.now s c.index-before-activity.result [] known in
    subst (λ (xs : List ℕ). (k : ℕ) → k < length xs → get_or xs k 0 < length c.args.finishes.now) (sym list) (λ k l. c.requires.named s k known l)

pub loop-other-preserved : goal.loop-other-preserved
loop-other-preserved c =
    let i = c.loop-other.other-index in
    let after = c.args.after.now in
    let s : ℕ = get_or after i 0 in
    let so_far = c.loop-other.invariant in
    let known : s < length c.args.readies.now.items = c.requires.inside i 0 c.loop-other-test.true in
    let listed : list_any (λ x. x == s) after ≡ true = any_at after i 0 c.loop-other-test.true in
    let was = c.loop-other.readies.items in
    let is = c.if-misses_none.readies.items in
    elim c.if-misses_none.branch [
      | then-misses_none w ↦
          let list : w.as_slice.result.now ≡ get_or c.args.before.now s [] = w.as_slice.ensures ∙ w.index-before-activity.is ∙ get_or_default c.args.before.now s w.index-before-activity.result [] (omega (arith, known, c.requires.listed)) in
          let fresh : IsLatest (get_or c.args.before.now s []) c.args.finishes.now w.latest_of.result = subst (λ (xs : List ℕ). IsLatest xs c.args.finishes.now w.latest_of.result) list w.latest_of.ensures in
          let set_is : is ≡ set was s w.latest_of.result = ap (λ (v : Vec ℕ Global). v.items) w.readies-is in
          record {
            count = ap length set_is ∙ length-set was s w.latest_of.result ∙ so_far.count;
            own = λ k l none.
                ⊎_elim
                (λ (e : get_or after k 0 ≡ s). rw (e, set_is, get_or-set_same was s w.latest_of.result 0 (omega (arith, known, so_far.count))) fresh)
                (λ (ne : get_or after k 0 ≡ s → ⊥).
                let earlier : k < i = ⊎_elim (λ (e : k ≡ i). absurd (ne (ap (λ (x : ℕ). get_or after x 0) e))) (λ (other : k ≡ i → ⊥). omega arith) (cases_eq k i) in
                rw (set_is, get_or-set_other was s (get_or after k 0) w.latest_of.result 0 ne) (so_far.own k earlier none))
                (cases_eq (get_or after k 0) s);
            rest = λ j apart.
                let ne : j ≡ s → ⊥ = λ e. both_ways (list_any (λ x. x == j) after) apart (ap (λ (t : ℕ). list_any (λ x. x == t) after) e ∙ listed) in
                ap (λ (xs : List ℕ). get_or xs j 0) set_is ∙ get_or-set_other was s j w.latest_of.result 0 ne ∙ so_far.rest j apart;
          }
      | else-misses_none w ↦
          let same : is ≡ was = ap (λ (v : Vec ℕ Global). v.items) w.readies-is in
          record {
            count = ap length same ∙ so_far.count;
            own = λ k l none.
                let earlier : k < i =
                ⊎_elim
                (λ (e : k ≡ i). absurd (both_ways c.misses_none.result w.if-misses_none.false (c.misses_none.ensures ∙ eq-eqb _ 0 (ap (λ (x : ℕ). get_or c.args.waiting.now.missing (get_or after x 0) 0) (sym e) ∙ none))))
                (λ (other : k ≡ i → ⊥). omega arith)
                (cases_eq k i) in
                rw same (so_far.own k earlier none);
            rest = λ j apart. ap (λ (xs : List ℕ). get_or xs j 0) same ∙ so_far.rest j apart;
          }
    ]
