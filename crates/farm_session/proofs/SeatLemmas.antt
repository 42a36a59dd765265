-- Desks stay at the tills of their numbers.
use Rattle.std.proofs.Common.{◌≡◌, ℕ, ◌<◌, List, [], ◌∷◌, ◌++◌, length, set, get_or, sym, ap, ◌∙◌, subst, arith, ⊎_elim}
use Rattle.std.proofs.lemmas.Bool.{cases_eq}
use Rattle.std.proofs.lemmas.List.{get_or-set_same, get_or-set_other, get_or_push, get_or_append_left, length-set, length-append}
use Rattle.quanta_till.specs.Desk.{DeskValue}
use Rattle.quanta_till.specs.Till.{TillValue}
use Rattle.farm_core.specs.Tills.{AreSeated}

-- a desk is changed, and stays at its till
pub seated_set : (tills : List TillValue) (desks : List DeskValue) (i : ℕ) (z e : DeskValue) → i < length tills → e.id ≡ (get_or desks i z).id
    → AreSeated tills desks → AreSeated tills (set desks i e)
seated_set tills desks i z e known same so =
    let few : i < length desks = omega (arith, so.count) in
    record {
      count = length-set desks i e ∙ so.count;
      each =
          λ k t d below. ⊎_elim
          (λ (at : k ≡ i).
          subst (λ n. (get_or (set desks i e) n d).id ≡ (get_or tills n t).id) (sym at)
          (ap (λ (x : DeskValue). x.id) (get_or-set_same desks i e d few) ∙ same ∙ so.each i t z known))
          (λ (other : k ≡ i → ⊥). ap (λ (x : DeskValue). x.id) (get_or-set_other desks i k e d other) ∙ so.each k t d below)
          (cases_eq k i);
    }

-- one till more, and its desk
pub seated_push : (tills : List TillValue) (desks : List DeskValue) (till : TillValue) (desk : DeskValue) → desk.id ≡ till.id
    → AreSeated tills desks → AreSeated (tills ++ till ∷ []) (desks ++ desk ∷ [])
seated_push tills desks till desk same so =
    let n : ℕ = length tills in
    record {
      count = omega (arith, so.count, length-append tills (till ∷ []), length-append desks (desk ∷ []));
      each =
          λ k t d below. ⊎_elim
          (λ (at : k ≡ n).
          ap (λ (x : DeskValue). x.id) (get_or_push desks desk d k (so.count ∙ sym at)) ∙ same
          ∙ sym (ap (λ (x : TillValue). x.id) (get_or_push tills till t k (sym at))))
          (λ (other : k ≡ n → ⊥).
          let few : k < n = omega (arith, below, length-append tills (till ∷ [])) in
          let also : k < length desks = omega (arith, so.count) in
          ap (λ (x : DeskValue). x.id) (get_or_append_left desks (desk ∷ []) d k also) ∙ so.each k t d few
          ∙ sym (ap (λ (x : TillValue). x.id) (get_or_append_left tills (till ∷ []) t k few)))
          (cases_eq k n);
    }
