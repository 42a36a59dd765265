-- Each step of a till leaves it balanced.
use Rattle.std.proofs.Common.{◌≡◌, ℕ, zero, suc, ◌+◌, ◌-◌, ◌%◌, ◌^◌, ◌≤◌, List, [], ◌∷◌, ◌++◌, get_or, set, sum_by, sym, refl, ap, ◌∙◌, subst, ⊎_elim, arith, length-set, get_or-set_same, get_or-set_other}
use Rattle.std.proofs.lemmas.List.{set-get_or}
use Rattle.std.proofs.lemmas.List.Sums.{sum_by-cons, sum_by-append}
use mathlib.Core.Option.{some, some-injective, some-ne-none}
use lib.ListN.{get_elem?}
use Rattle.atomic_table.specs.Table.{State, Me, keeps, stepped, Allows, Splits}
use Rattle.atomic_table.proofs.Lists.{at_set, at_snoc}
use Rattle.quanta_till.specs.declared.rule.SeatView.{SeatView}
use Rattle.quanta_till.specs.declared.rule.TheConstants.{POOL, SPENT, GRANTED}
use Rattle.quanta_till.specs.Till.{IsBalanced, IsCovered, new_view, view_after_split, view_after_draw, view_after_use, view_after_hand_back, view_after_pool_load, view_after_spent_load, view_after_granted_load}

module _ {A : Type 0} (f : A → ℕ) where
  -- the sum after a change of one member
  pub sum_by-set_at : (l : List A) (i : ℕ) (v w : A) → get_elem? l i ≡ some v → sum_by f (set l i w) + f v ≡ sum_by f l + f w
  sum_by-set_at [] i v w e = absurd (some-ne-none v (sym e))
  sum_by-set_at (x ∷ xs) zero v w e = let is : f x ≡ f v = ap f (some-injective x v e) in omega (arith, sum_by-cons f x xs, sum_by-cons f w xs)
  sum_by-set_at (x ∷ xs) (suc i) v w e = let r = sum_by-set_at xs i v w e in omega (arith, sum_by-cons f x xs, sum_by-cons f x (set xs i w))

  -- the sum with one member more
  pub sum_by-snoc : (l : List A) (v : A) → sum_by f (l ++ v ∷ []) ≡ sum_by f l + f v
  sum_by-snoc l v = omega (arith, sum_by-append f l (v ∷ []), sum_by-cons f v [])

-- each view is covered
abbrev Covered : ℕ → List SeatView → Type 0
Covered granted views = (number : ℕ) (v : SeatView) → get_elem? views number ≡ some v → IsCovered granted v

Covered-set : (granted : ℕ) (views : List SeatView) (id : ℕ) (w : SeatView) → Covered granted views → IsCovered granted w → Covered granted (set views id w)
Covered-set granted views id w all one i v e =
    ⊎_elim (λ t. subst (λ x. IsCovered granted x) t.1 one) (λ t. all i v t.1) (at_set views id i w v e)

Covered-snoc : (granted : ℕ) (views : List SeatView) (w : SeatView) → Covered granted views → IsCovered granted w → Covered granted (views ++ w ∷ [])
Covered-snoc granted views w all one i v e =
    ⊎_elim (λ t. all i v t) (λ t. subst (λ x. IsCovered granted x) t one) (at_snoc views w v i e)

module _ (granted slots id : ℕ) (me : Me (Unit {0}) SeatView) where
  abbrev Rule : State (Unit {0}) SeatView → Type 0
  Rule = IsBalanced granted

  -- the till after a step on the word i, which holds y afterwards, by a seat whose view becomes w
  stays : (s : State (Unit {0}) SeatView) → Rule s → get_elem? s.views id ≡ some me.0 → (i y : ℕ) (w : SeatView)
      → (pool : ((sums : ℕ × ℕ) → sums.0 + me.0.drawn ≡ sum_by (λ (u : SeatView). u.drawn) s.views + w.drawn → sums.1 + me.0.back ≡ sum_by (λ (u : SeatView). u.back) s.views + w.back
      → (get_or (set s.words i y) POOL 0 + sums.0) % 2 ^ 64 ≡ (granted + sums.1) % 2 ^ 64))
      → (spent : ((sum : ℕ) → sum + me.0.used ≡ sum_by (λ (u : SeatView). u.used) s.views + w.used → get_or (set s.words i y) SPENT 0 ≡ sum % 2 ^ 64))
      → get_or (set s.words i y) GRANTED 0 ≡ granted → IsCovered granted w → Rule (stepped s i y id me.1 w keeps)
  stays s k at i y w pool spent grant covered = record {
    words = length-set s.words i y ∙ k.words;
    pool = pool (_, _) (sum_by-set_at (λ (u : SeatView). u.drawn) s.views id me.0 w at) (sum_by-set_at (λ (u : SeatView). u.back) s.views id me.0 w at);
    spent = spent _ (sum_by-set_at (λ (u : SeatView). u.used) s.views id me.0 w at);
    grant = grant;
    covered = Covered-set granted s.views id w k.covered covered;
  }

  pub draws : (n : ℕ) → n ≤ 2 ^ 64 → Allows Rule slots id me POOL (λ x. (x + (2 ^ 64 - n)) % 2 ^ 64) (λ _ m. m.0 ≡ view_after_draw me.0 n)
  draws n small s k _ at _ =
      let y : ℕ = (get_or s.words POOL 0 + (2 ^ 64 - n)) % 2 ^ 64 in
      let w = view_after_draw me.0 n in
      let h = k.covered id me.0 at in
      let p = k.pool in
      let q = k.spent in
      let wide = k.words in
      let pool = get_or-set_same s.words POOL y 0 (omega arith) in
      let spent = get_or-set_other s.words POOL SPENT y 0 (omega arith) in
      let grant = get_or-set_other s.words POOL GRANTED y 0 (omega arith) in
      (w, keeps, tt, stays s k at POOL y w (λ t d b. omega arith) (λ t u. omega arith) (grant ∙ k.grant) (omega (arith, h.0), h.1), refl)

  pub hands_back : (n : ℕ) → (me.0.used + me.0.back) + n ≤ me.0.drawn → Allows Rule slots id me POOL (λ x. (x + n) % 2 ^ 64) (λ _ m. m.0 ≡ view_after_hand_back me.0 n)
  hands_back n most s k _ at _ =
      let y : ℕ = (get_or s.words POOL 0 + n) % 2 ^ 64 in
      let w = view_after_hand_back me.0 n in
      let h = k.covered id me.0 at in
      let p = k.pool in
      let q = k.spent in
      let wide = k.words in
      let pool = get_or-set_same s.words POOL y 0 (omega arith) in
      let spent = get_or-set_other s.words POOL SPENT y 0 (omega arith) in
      let grant = get_or-set_other s.words POOL GRANTED y 0 (omega arith) in
      (w, keeps, tt, stays s k at POOL y w (λ t d b. omega arith) (λ t u. omega arith) (grant ∙ k.grant) (omega (arith, most), h.1), refl)

  pub uses : (n : ℕ) → (me.0.used + me.0.back) + n ≤ me.0.drawn → Allows Rule slots id me SPENT (λ x. (x + n) % 2 ^ 64) (λ _ m. m.0 ≡ view_after_use me.0 n)
  uses n most s k _ at _ =
      let y : ℕ = (get_or s.words SPENT 0 + n) % 2 ^ 64 in
      let w = view_after_use me.0 n in
      let h = k.covered id me.0 at in
      let p = k.pool in
      let q = k.spent in
      let wide = k.words in
      let pool = get_or-set_other s.words SPENT POOL y 0 (omega arith) in
      let spent = get_or-set_same s.words SPENT y 0 (omega arith) in
      let grant = get_or-set_other s.words SPENT GRANTED y 0 (omega arith) in
      (w, keeps, tt, stays s k at SPENT y w (λ t d b. omega arith) (λ t u. omega arith) (grant ∙ k.grant) (omega (arith, most), h.1), refl)

  -- a step that leaves the words as they are, and what was drawn, used and handed back with the seat
  looks : (s : State (Unit {0}) SeatView) → Rule s → get_elem? s.views id ≡ some me.0 → (i : ℕ) (w : SeatView) → w.drawn ≡ me.0.drawn → w.used ≡ me.0.used → w.back ≡ me.0.back → w.granted ≡ me.0.granted
      → Rule (stepped s i (get_or s.words i 0) id me.1 w keeps)
  looks s k at i w drawn used back grant =
      let h = k.covered id me.0 at in
      let p = k.pool in
      let q = k.spent in
      let same = set-get_or s.words i 0 in
      let pool = ap (λ ws. get_or ws POOL 0) same in
      let spent = ap (λ ws. get_or ws SPENT 0) same in
      let granted_word = ap (λ ws. get_or ws GRANTED 0) same in
      stays s k at i (get_or s.words i 0) w (λ t d b. omega arith) (λ t u. omega arith) (granted_word ∙ k.grant) (omega (arith, h.0), grant ∙ h.1)

  pub loads_pool : Allows Rule slots id me POOL (λ x. x) (λ found m. (POOL ≡ POOL) × (m.0 ≡ view_after_pool_load me.0 found))
  loads_pool s k _ at _ = (view_after_pool_load me.0 (get_or s.words POOL 0), keeps, tt, looks s k at POOL _ refl refl refl refl, (refl, refl))

  pub loads_spent : Allows Rule slots id me SPENT (λ x. x) (λ found m. (SPENT ≡ SPENT) × (m.0 ≡ view_after_spent_load me.0 found))
  loads_spent s k _ at _ = (view_after_spent_load me.0 (get_or s.words SPENT 0), keeps, tt, looks s k at SPENT _ refl refl refl refl, (refl, refl))

  pub loads_granted : Allows Rule slots id me GRANTED (λ x. x) (λ found m. (GRANTED ≡ GRANTED) × (found ≡ me.0.granted) × (m.0 ≡ view_after_granted_load me.0))
  loads_granted s k _ at _ = (view_after_granted_load me.0, keeps, tt, looks s k at GRANTED _ refl refl refl refl, (refl, k.grant ∙ sym (k.covered id me.0 at).1, refl))

-- a seat that did nothing joins
pub splits : (granted id : ℕ) (v : SeatView) → Splits (IsBalanced granted) id v (view_after_split v) (new_view v.granted (v.depth + 1))
splits granted id v s k at =
    let a = view_after_split v in
    let w = new_view v.granted (v.depth + 1) in
    let views = set s.views id a in
    let h = k.covered id v at in
    let p = k.pool in
    let q = k.spent in
    let d = sum_by-snoc (λ (u : SeatView). u.drawn) views w in
    let u = sum_by-snoc (λ (u : SeatView). u.used) views w in
    let b = sum_by-snoc (λ (u : SeatView). u.back) views w in
    let d' = sum_by-set_at (λ (u : SeatView). u.drawn) s.views id v a at in
    let u' = sum_by-set_at (λ (u : SeatView). u.used) s.views id v a at in
    let b' = sum_by-set_at (λ (u : SeatView). u.back) s.views id v a at in
    record {
      words = k.words;
      pool = omega arith;
      spent = omega arith;
      grant = k.grant;
      covered = Covered-snoc granted views w (Covered-set granted s.views id a k.covered (h.0, h.1)) (omega arith, h.1);
    }
