-- The rows of all modes in one list.
use Rattle.std.proofs.Common.{◌≡◌, ℕ, zero, suc, ◌+◌, ◌*◌, ◌-◌, ◌<◌, ◌≤◌, List, [], ◌∷◌, ◌++◌, length, get_or, drop, arith, refl, sym, ap, ◌∙◌, subst, ⊎_elim, length-drop}
use Rattle.std.specs.List.{slice_range}
use Rattle.std.proofs.lemmas.Bool.{cases_lt, cases_eq}
use Rattle.std.proofs.lemmas.List.{get_or_append_left, get_or_push, length_push, get_or-take, get_or-drop, get_or_default, length-take-le}
use Rattle.mrcpsp.specs.Limits.{IsProject}
use Rattle.mrcpsp.specs.Project.{ProjectData, size, mode_count}
use Rattle.tree_search.specs.Table.{AreLines, AreModes, AreSome, IsLine, IsLines, modes_before, no_places, no_row}
use Rattle.tree_search.specs.declared.table.ModeRows.{ModeRows}
use Rattle.tree_search.specs.declared.table.Row.{Row}
use Rattle.tree_search.specs.declared.table.Table.{Table}

pub before_none : (p : ProjectData) → modes_before p 0 ≡ 0
unfolding modes_before
before_none p = refl

pub before_next : (p : ProjectData) (j : ℕ) → modes_before p (j + 1) ≡ modes_before p j + mode_count p j
unfolding modes_before
before_next p j = let next : j + 1 ≡ suc j = omega arith in rw next refl

pub before_rises : (p : ProjectData) (i k : ℕ) → i ≤ k → modes_before p i ≤ modes_before p k
before_rises p i zero l = let none : i ≡ 0 = omega arith in rw none (omega arith)
before_rises p i (suc k) l =
    ⊎_elim
    (λ (e : i ≡ suc k). rw e (omega arith))
    (λ (ne : i ≡ suc k → ⊥).
    let next : suc k ≡ k + 1 = omega arith in
    rw next (omega (arith, before_rises p i k (omega arith), before_next p k)))
    (cases_eq i (suc k))

pub before_small : (p : ProjectData) (j : ℕ) → IsProject p → j ≤ size p → modes_before p j ≤ 10 * j
before_small p zero project l = omega (arith, before_none p)
before_small p (suc j) project l =
    let next : suc j ≡ j + 1 = omega arith in
    rw next (omega (arith, before_small p j project (omega arith), before_next p j, (project.moded j (omega arith)).1))

-- the place of a mode is among the rows
pub place_inside : (p : ProjectData) (t : Table) (j m : ℕ) → IsLines p t → j < size p → m ≤ mode_count p j → modes_before p j + m ≤ length t.rows.items
place_inside p t j m lines inside within = omega (arith, lines.count, before_next p j, before_rises p (j + 1) (size p) (omega arith))

pub some_none : (p : ProjectData) (j : ℕ) (rows : List Row) → AreSome p j 0 rows rows
some_none p j rows = record { count = omega arith; kept = λ k l. refl; each = λ m l. absurd (omega arith) }

pub some_more : (p : ProjectData) (j m : ℕ) (earlier rows : List Row) (row : Row) → AreSome p j m earlier rows → IsLine p j m row → AreSome p j (m + 1) earlier (rows ++ row ∷ [])
some_more p j m earlier rows row was own = record {
  count = omega (arith, length_push rows row, was.count);
  kept = λ k l. get_or_append_left rows (row ∷ []) no_row k (omega (arith, was.count)) ∙ was.kept k l;
  each = λ i l.
      ⊎_elim
      (λ (before : i < m). rw (get_or_append_left rows (row ∷ []) no_row (length earlier + i) (omega (arith, was.count))) (was.each i before))
      (λ (here : m ≤ i). let same : i ≡ m = omega arith in rw (same, get_or_push rows row no_row (length earlier + m) (omega (arith, was.count))) own)
      (cases_lt i m);
}

pub lines_none : (p : ProjectData) (rows : List Row) (places : List ModeRows) → rows ≡ [] → places ≡ [] → AreLines p 0 rows places
lines_none p rows places none empty = record {
  count = omega (arith, before_none p, ap length none);
  all = omega (arith, ap length empty);
  first = λ j l. absurd (omega arith);
  several = λ j l. absurd (omega arith);
  each = λ j m l k. absurd (omega arith);
}

pub lines_more : (p : ProjectData) (j : ℕ) (rows later : List Row) (places : List ModeRows) (own : ModeRows) → AreLines p j rows places → own.first ≡ length rows → own.count ≡ mode_count p j → AreSome p j (mode_count p j) rows later → AreLines p (j + 1) later (places ++ own ∷ [])
lines_more p j rows later places own was is many new = record {
  count = omega (arith, new.count, was.count, before_next p j);
  all = omega (arith, length_push places own, was.all);
  first = λ i l.
      ⊎_elim
      (λ (before : i < j). ap (λ (x : ModeRows). x.first) (get_or_append_left places (own ∷ []) no_places i (omega (arith, was.all))) ∙ was.first i before)
      (λ (here : j ≤ i). let same : i ≡ j = omega arith in rw (same, get_or_push places own no_places j was.all) (omega (arith, is, was.count)))
      (cases_lt i j);
  several = λ i l.
      ⊎_elim
      (λ (before : i < j). ap (λ (x : ModeRows). x.count) (get_or_append_left places (own ∷ []) no_places i (omega (arith, was.all))) ∙ was.several i before)
      (λ (here : j ≤ i). let same : i ≡ j = omega arith in rw (same, get_or_push places own no_places j was.all) many)
      (cases_lt i j);
  each = λ i m l k.
      ⊎_elim
      (λ (before : i < j). rw (new.kept (modes_before p i + m) (omega (arith, was.count, before_next p i, before_rises p (i + 1) j (omega arith)))) (was.each i m before k))
      (λ (here : j ≤ i).
      let same : i ≡ j = omega arith in
      rw (same, sym was.count) (new.each m (omega (arith, k, ap (mode_count p) same))))
      (cases_lt i j);
}

-- the rows of some modes of one activity
pub modes_in : (p : ProjectData) (t : Table) (j from end : ℕ) → IsLines p t → j < size p → from ≤ end → end ≤ mode_count p j → AreModes p j from end (slice_range t.rows.items (modes_before p j + from) (modes_before p j + end))
modes_in p t j from end lines inside order within =
    let base : ℕ = modes_before p j in
    let rows : List Row = t.rows.items in
    let n : ℕ = base + end - (base + from) in
    let many : n + from ≡ end = omega (arith, order) in
    let long : length (slice_range rows (base + from) (base + end)) ≡ n = length-take-le n (drop (base + from) rows) (omega (arith, length-drop (base + from) rows, place_inside p t j end lines inside within)) in
    record {
      count = omega (arith, long, many);
      each = λ k l.
          let short : k < n = omega (arith, l, long) in
          let at : get_or (slice_range rows (base + from) (base + end)) k no_row ≡ get_or rows (base + from + k) no_row = get_or-take n (drop (base + from) rows) k no_row short ∙ get_or-drop (base + from) rows k no_row in
          let place : base + from + k ≡ base + (from + k) = omega arith in
          rw (at, place) (lines.each j (from + k) inside (omega (arith, short, many, within)));
    }

-- what is read of the places
pub first_is : (p : ProjectData) (t : Table) (j : ℕ) (v : ModeRows) → IsLines p t → j < size p → v ≡ get_or t.places.items j v → v.first ≡ modes_before p j
first_is p t j v lines within is = ap (λ (x : ModeRows). x.first) (is ∙ get_or_default t.places.items j v no_places (omega (arith, lines.all))) ∙ lines.first j within

pub count_is : (p : ProjectData) (t : Table) (j : ℕ) (v : ModeRows) → IsLines p t → j < size p → v ≡ get_or t.places.items j v → v.count ≡ mode_count p j
count_is p t j v lines within is = ap (λ (x : ModeRows). x.count) (is ∙ get_or_default t.places.items j v no_places (omega (arith, lines.all))) ∙ lines.several j within

-- what is read of the rows
pub row_is : (p : ProjectData) (t : Table) (j m at : ℕ) (row : Row) → IsLines p t → j < size p → m < mode_count p j → at ≡ modes_before p j + m → row ≡ get_or t.rows.items at row → IsLine p j m row
row_is p t j m at row lines inside known place is =
    let there : at < length t.rows.items = omega (arith, place, place_inside p t j (m + 1) lines inside (omega arith)) in
    let same : row ≡ get_or t.rows.items (modes_before p j + m) no_row = is ∙ get_or_default t.rows.items at row no_row there ∙ ap (λ k. get_or t.rows.items k no_row) place in
    subst (λ (x : Row). IsLine p j m x) (sym same) (lines.each j m inside known)
