-- Latest finish times of the members of a set: how many, their sum, the greatest, and weights.
use Rattle.std.proofs.Common.{◌≡◌, ℕ, ◌+◌, ◌-◌, ◌*◌, ◌%◌, ◌<◌, ◌≤◌, true, false, nat_lt, max, List, [], ◌∷◌, ◌++◌, length, get_or, map, All, sum_by, Some, None, arith, refl, sym, ap, ◌∙◌, ⊎_elim}
use Rattle.std.proofs.lemmas.Bool.{cases_eq, cases_Bool, cond-true, cond-false, eq-eqb, lt-ltb, ltb-true}
use Rattle.std.specs.Int.{bit_at}
use Rattle.std.proofs.lemmas.List.Elements.{All-head, All-tail}
use Rattle.std.proofs.lemmas.List.Sums.{sum_by-cons}
use Rattle.mrcpsp.specs.Numbers.{largest}
use Rattle.mrcpsp.specs.Limits.{IsProject}
use Rattle.mrcpsp.specs.Project.{ProjectData, size}
use Rattle.mrcpsp.specs.Values.{lft}
use Rattle.measures.proofs.ValueLemmas.{lft_below}
use Rattle.serial_sgs.specs.Members.{has}
use Rattle.strategy.specs.Pass.{weight_of, drawn_at, drawn_activity}
use Rattle.serial_pass.specs.declared.eligible.Eligible.{Eligible}
use Rattle.serial_pass.specs.Eligible.{AreFinishes, HasSums, IsLowest, from_word, in_word, members}
use Rattle.serial_pass.proofs.SetLemmas.{IsOneMore, has_at, word_next, word_none, one_more, picked_few, picked_greatest, picked_holds, sum_small}

pub lft_small : (p : ProjectData) (j : ℕ) → IsProject p → lft p j ≤ 20000
lft_small p j ok = omega (arith, lft_below p j, ok.short)

-- ---- one member more or less

members_more : (v : ℕ → ℕ) (less more : List ℕ) (a : ℕ) → a < 256 → has less a ≡ false → has more a ≡ true → ((j : ℕ) → (j ≡ a → ⊥) → has more j ≡ has less j) → IsOneMore v a (members less) (members more)
unfolding from_word
members_more v less more a inside none own rest = one_more v (has less) (has more) 0 256 a (omega arith) inside none own rest

pub members_few : (words : List ℕ) → length (members words) ≤ 256
unfolding from_word
members_few words = picked_few (has words) 0 256

pub members_hold : (P : ℕ → Type 0) (words : List ℕ) → ((j : ℕ) → j < 256 → has words j ≡ true → P j) → All P (members words)
unfolding from_word
members_hold P words h = picked_holds P (has words) 0 256 (λ j _ l e. h j l e)

pub record IsFew (e : Eligible) : Type 0 where
  pub count : e.count ≤ 256
  pub greatest : e.greatest ≤ 20000
  pub sum : e.sum ≤ 256 * 20000

largest_small : (v : ℕ → ℕ) (m : ℕ) (xs : List ℕ) → ((j : ℕ) → v j ≤ m) → largest (map v xs) ≤ m
largest_small v m [] h = omega arith
largest_small v m (x ∷ xs) h = omega (arith, largest_small v m xs h, h x)

pub sums_few : (p : ProjectData) (e : Eligible) → IsProject p → HasSums p e → IsFew e
sums_few p e ok sums =
    let few : length (members e.set) ≤ 256 = members_few e.set in
    let most : sum_by (lft p) (members e.set) ≤ length (members e.set) * 20000 = sum_small (lft p) 20000 (members e.set) (λ j. lft_small p j ok) in
    record {
      count = omega (arith, sums.count, few);
      greatest = omega (arith, sums.greatest, largest_small (lft p) 20000 (members e.set) (λ j. lft_small p j ok));
      sum = omega (arith, sums.sum, most, few);
    }

pub sums_add : (p : ProjectData) (old new : Eligible) (a own : ℕ) → IsProject p → a < size p → has old.set a ≡ false → has new.set a ≡ true → ((j : ℕ) → (j ≡ a → ⊥) → has new.set j ≡ has old.set j) → own ≡ lft p a → new.count ≡ old.count + 1 → new.sum ≡ old.sum + own → new.greatest ≡ max old.greatest own → HasSums p old → HasSums p new
sums_add p old new a own ok known none is rest mine count sum greatest was =
    let more : IsOneMore (lft p) a (members old.set) (members new.set) = members_more (lft p) old.set new.set a (omega (arith, known, ok.few)) none is rest in
    record {
      inside = λ j l e.
          ⊎_elim
          (λ (same : j ≡ a). omega (arith, same, known))
          (λ (ne : j ≡ a → ⊥). was.inside j l (sym (rest j ne) ∙ e))
          (cases_eq j a);
      count = omega (arith, count, was.count, more.count);
      sum = omega (arith, sum, was.sum, more.sum, mine);
      greatest = omega (arith, greatest, was.greatest, more.greatest, mine);
    }

pub sums_remove : (p : ProjectData) (old new : Eligible) (a own : ℕ) → IsProject p → a < size p → has old.set a ≡ true → has new.set a ≡ false → ((j : ℕ) → (j ≡ a → ⊥) → has new.set j ≡ has old.set j) → own ≡ lft p a → new.count ≡ old.count - 1 → new.sum ≡ old.sum - own → (own ≡ old.greatest → new.greatest ≡ largest (map (lft p) (members new.set))) → ((own ≡ old.greatest → ⊥) → new.greatest ≡ old.greatest) → HasSums p old → HasSums p new
sums_remove p old new a own ok known is gone rest mine count sum anew still was =
    let more : IsOneMore (lft p) a (members new.set) (members old.set) = members_more (lft p) new.set old.set a (omega (arith, known, ok.few)) gone is (λ j ne. sym (rest j ne)) in
    record {
      inside = λ j l e.
          ⊎_elim
          (λ (same : j ≡ a). omega (arith, same, known))
          (λ (ne : j ≡ a → ⊥). was.inside j l (sym (rest j ne) ∙ e))
          (cases_eq j a);
      count = omega (arith, count, was.count, more.count);
      sum = omega (arith, sum, was.sum, more.sum, mine);
      greatest =
          ⊎_elim
          (λ (e : own ≡ old.greatest). anew e)
          (λ (ne : own ≡ old.greatest → ⊥). omega (arith, still ne, was.greatest, more.greatest, mine, ne))
          (cases_eq own old.greatest);
    }

-- one that leaves is counted
pub sums_some : (p : ProjectData) (e : Eligible) (words : List ℕ) (a : ℕ) → IsProject p → a < size p → has e.set a ≡ true → has words a ≡ false → ((j : ℕ) → (j ≡ a → ⊥) → has words j ≡ has e.set j) → HasSums p e → (0 < e.count) × (lft p a ≤ e.sum)
sums_some p e words a ok known is gone rest was =
    let more : IsOneMore (lft p) a (members words) (members e.set) = members_more (lft p) words e.set a (omega (arith, known, ok.few)) gone is (λ j ne. sym (rest j ne)) in
    (omega (arith, was.count, more.count), omega (arith, was.sum, more.sum))

map_same : (f g : ℕ → ℕ) (xs : List ℕ) → All (λ j. f j ≡ g j) xs → map f xs ≡ map g xs
map_same f g [] h = refl
map_same f g (x ∷ xs) h = ap (λ (y : ℕ). y ∷ map f xs) (All-head (λ j. f j ≡ g j) x xs h) ∙ ap (λ (ys : List ℕ). g x ∷ ys) (map_same f g xs (All-tail (λ j. f j ≡ g j) x xs h))

-- the list's numbers are the latest finish times of the members
pub listed_finishes : (p : ProjectData) (words lfts : List ℕ) → AreFinishes p lfts → ((j : ℕ) → j < 256 → has words j ≡ true → j < size p) → largest (map (λ j. get_or lfts j 0) (members words)) ≡ largest (map (lft p) (members words))
listed_finishes p words lfts are inside = ap largest (map_same (λ j. get_or lfts j 0) (lft p) (members words) (members_hold (λ j. get_or lfts j 0 ≡ lft p j) words (λ j l e. are.each j (inside j l e))))

-- ---- weights

lacks : (f : ℕ → ℕ) (g : ℕ) (xs : List ℕ) → largest (map f xs) ≤ g → sum_by (λ j. g - f j + 1) xs + sum_by f xs ≡ length xs * (g + 1)
lacks f g [] l = omega arith
lacks f g (x ∷ xs) l = omega (arith, sum_by-cons (λ j. g - f j + 1) x xs, sum_by-cons f x xs, lacks f g xs (omega (arith, l)), l)

some_lack : (f : ℕ → ℕ) (g : ℕ) (xs : List ℕ) → length xs ≤ sum_by (λ j. g - f j + 1) xs
some_lack f g [] = omega arith
some_lack f g (x ∷ xs) = omega (arith, sum_by-cons (λ j. g - f j + 1) x xs, some_lack f g xs)

-- the weights and the latest finish times make as many times one more than the greatest
pub all_weights : (p : ProjectData) (e : Eligible) → HasSums p e → sum_by (weight_of p (members e.set)) (members e.set) + e.sum ≡ e.count * (e.greatest + 1)
all_weights p e sums =
    let xs : List ℕ = members e.set in
    let all : sum_by (weight_of p xs) xs + sum_by (lft p) xs ≡ length xs * (largest (map (lft p) xs) + 1) = lacks (lft p) (largest (map (lft p) xs)) xs (omega arith) in
    rw (sums.sum, sums.count, sums.greatest) all

pub weights_some : (p : ProjectData) (e : Eligible) → HasSums p e → e.count ≤ sum_by (weight_of p (members e.set)) (members e.set)
weights_some p e sums = rw sums.count (some_lack (lft p) (largest (map (lft p) (members e.set))) (members e.set))

pub drawn_same : (v w : ℕ → ℕ) (x : ℕ) (xs : List ℕ) → All (λ j. v j ≡ w j) xs → drawn_at v x xs ≡ drawn_at w x xs
drawn_same v w x [] h = refl
drawn_same v w x (j ∷ js) h =
    let here : v j ≡ w j = All-head (λ j. v j ≡ w j) j js h in
    rw (here, drawn_same v w (x - w j) js (All-tail (λ j. v j ≡ w j) j js h)) refl

-- ---- walks over the members of a word

pub without_lowest : (P : ℕ → Type 0) (bits place rest : ℕ) → IsLowest bits place rest → ((i : ℕ) → i < 64 → bit_at bits i ≡ 1 → P i) → (i : ℕ) → i < 64 → bit_at rest i ≡ 1 → P i
without_lowest P bits place rest lowest h i l e =
    ⊎_elim
    (λ (same : i ≡ place). absurd (omega (arith, e, ap (bit_at rest) same, lowest.gone)))
    (λ (ne : i ≡ place → ⊥). h i l (sym (lowest.others i ne) ∙ e))
    (cases_eq i place)

pub greatest_next : (v : ℕ → ℕ) (g now all bits w place rest : ℕ) → IsLowest bits place rest → now ≡ max g (v (w * 64 + place)) → max g (largest (map v (in_word bits w))) ≡ all → max now (largest (map v (in_word rest w))) ≡ all
greatest_next v g now all bits w place rest lowest is was =
    omega (arith, is, was, ap (λ (xs : List ℕ). largest (map v xs)) (word_next bits w place rest lowest))

pub greatest_over : (v : ℕ → ℕ) (g all bits w : ℕ) → bits ≡ 0 → max g (largest (map v (in_word bits w))) ≡ all → g ≡ all
greatest_over v g all bits w none was = omega (arith, was, ap (λ (x : ℕ). largest (map v (in_word x w))) none, ap (λ (xs : List ℕ). largest (map v xs)) (word_none w))

pub drawn_here : (v : ℕ → ℕ) (left bits w place rest : ℕ) (more : List ℕ) → IsLowest bits place rest → left < v (w * 64 + place) → drawn_at v left (in_word bits w ++ more) ≡ Some (w * 64 + place)
drawn_here v left bits w place rest more lowest under =
    rw (word_next bits w place rest lowest) (cond-true (nat_lt left (v (w * 64 + place))) _ _ (lt-ltb left (v (w * 64 + place)) under))

pub drawn_next : (v : ℕ → ℕ) (left bits w place rest : ℕ) (more : List ℕ) → IsLowest bits place rest → v (w * 64 + place) ≤ left → drawn_at v left (in_word bits w ++ more) ≡ drawn_at v (left - v (w * 64 + place)) (in_word rest w ++ more)
drawn_next v left bits w place rest more lowest over =
    rw (word_next bits w place rest lowest) (cond-false (nat_lt left (v (w * 64 + place))) _ _ (not_under left (v (w * 64 + place)) over))
  where
    not_under : (x y : ℕ) → y ≤ x → nat_lt x y ≡ false
    not_under x y l = ⊎_elim (λ (e : nat_lt x y ≡ true). absurd (omega (arith, ltb-true x y e, l))) (λ e. e) (cases_Bool (nat_lt x y))

pub drawn_over : (v : ℕ → ℕ) (left bits w : ℕ) (more : List ℕ) → bits ≡ 0 → drawn_at v left (in_word bits w ++ more) ≡ drawn_at v left more
drawn_over v left bits w more none = ap (λ (x : ℕ). drawn_at v left (in_word x w ++ more)) none ∙ ap (λ (xs : List ℕ). drawn_at v left (xs ++ more)) (word_none w)

-- a bit of a word that is set is an activity's
pub word_listed : (words : List ℕ) (w n : ℕ) → w < 4 → ((j : ℕ) → j < 256 → has words j ≡ true → j < n) → (i : ℕ) → i < 64 → bit_at (get_or words w 0) i ≡ 1 → w * 64 + i < n
word_listed words w n among inside i small set_bit =
    inside (w * 64 + i) (omega (arith, among, small)) (has_at words w i small ∙ eq-eqb (bit_at (get_or words w 0) i) 1 set_bit)

pub member_greatest : (p : ProjectData) (e : Eligible) (j : ℕ) → j < 256 → has e.set j ≡ true → HasSums p e → lft p j ≤ e.greatest
unfolding from_word
member_greatest p e j l is sums = omega (arith, picked_greatest (lft p) (has e.set) 0 256 j (omega arith) (omega arith) is, sums.greatest)

-- no member of a word finishes later than the greatest
pub word_greatest : (p : ProjectData) (e : Eligible) (lfts : List ℕ) (w : ℕ) → w < 4 → AreFinishes p lfts → HasSums p e → (i : ℕ) → i < 64 → bit_at (get_or e.set w 0) i ≡ 1 → get_or lfts (w * 64 + i) 0 ≤ e.greatest + 1
word_greatest p e lfts w among are sums i small set_bit =
    let is : has e.set (w * 64 + i) ≡ true = has_at e.set w i small ∙ eq-eqb (bit_at (get_or e.set w 0) i) 1 set_bit in
    let wide : w * 64 + i < 256 = omega (arith, among, small) in
    omega (arith, are.each (w * 64 + i) (sums.inside (w * 64 + i) wide is), member_greatest p e (w * 64 + i) wide is sums)

-- a draw by the list's numbers is the one by the weights
pub drawn_by : (p : ProjectData) (e : Eligible) (lfts : List ℕ) (word total : ℕ) → AreFinishes p lfts → HasSums p e → e.count * (e.greatest + 1) ≡ total + e.sum → drawn_at (λ j. e.greatest + 1 - get_or lfts j 0) (word % total) (members e.set) ≡ drawn_activity p word (members e.set)
drawn_by p e lfts word total are sums all =
    let xs : List ℕ = members e.set in
    let same : total ≡ sum_by (weight_of p xs) xs = omega (arith, all, all_weights p e sums) in
    let equal : All (λ j. e.greatest + 1 - get_or lfts j 0 ≡ weight_of p xs j) xs =
    members_hold (λ j. e.greatest + 1 - get_or lfts j 0 ≡ weight_of p xs j) e.set (λ j l is. omega (arith, are.each j (sums.inside j l is), member_greatest p e j l is sums, sums.greatest)) in
    drawn_same (λ j. e.greatest + 1 - get_or lfts j 0) (weight_of p xs) (word % total) xs equal ∙ ap (λ (n : ℕ). drawn_at (weight_of p xs) (word % n) xs) same

-- nothing is drawn of nobody
pub drawn_nobody : (p : ProjectData) (e : Eligible) (word : ℕ) → HasSums p e → e.count ≡ 0 → None ≡ drawn_activity p word (members e.set)
drawn_nobody p e word sums none = ap (drawn_activity p word) (sym (empty (members e.set) (omega (arith, sums.count, none))))
  where
    empty : (xs : List ℕ) → length xs ≡ 0 → xs ≡ []
    empty [] l = refl
    empty (x ∷ xs) l = absurd (omega (arith, l))
