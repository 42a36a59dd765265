-- The mark, the cells and the names of a table.
use Rattle.std.proofs.Common.{◌≡◌, ℕ, zero, suc, Bool, true, false, cond, nat_lt, List, [], ◌∷◌, length, get_or, refl, sym, ap, ◌∙◌, Some, None}
use Rattle.std.specs.List.{position, position_or_len}
use Rattle.std.proofs.lemmas.Bool.{ltb-true, ltb-false}
use Rattle.std.proofs.lemmas.List.{get_or_default, get_or_past}
use Rattle.csv.specs.Records.{field_at}
use Rattle.schedule_files.specs.ScheduleTable.{is_mark, mark_of}
use Rattle.schedule_files.proofs.ReadingLemmas.{some_of, some_is_not_none}

found_at : (b : Bool) (n k : ℕ) → cond b (Some n) None ≡ Some k → (b ≡ true) × (n ≡ k)
found_at true n k e = (refl, some_of 0 n k e)
found_at false n k e = absurd (some_is_not_none k (sym e))

not_found : (b : Bool) (n : ℕ) → cond b (Some n) None ≡ None → b ≡ false
not_found true n e = absurd (some_is_not_none n e)
not_found false n e = refl

pub mark_some : (text : List ℕ) (k : ℕ) → position is_mark text ≡ Some k → get_or text k 0 ≡ mark_of text
mark_some text k e =
    let n = position_or_len is_mark text in
    let r = found_at (nat_lt n (length text)) n k e in
    ap (λ i. get_or text i 0) (sym r.1) ∙ get_or_default text n 0 44 (ltb-true n (length text) r.0)

pub mark_none : (text : List ℕ) → position is_mark text ≡ None → 44 ≡ mark_of text
mark_none text e =
    let n = position_or_len is_mark text in
    sym (get_or_past text n 44 (ltb-false n (length text) (not_found (nat_lt n (length text)) n e)))

pub cell_some : (cells : List (List ℕ)) (i : ℕ) (cell : List ℕ) → Some cell ≡ field_at cells i → cell ≡ get_or cells i []
unfolding field_at
cell_some [] i cell e = absurd (some_is_not_none cell e)
cell_some (first ∷ cells) zero cell e = some_of [] cell first e
cell_some (first ∷ cells) (suc i) cell e = cell_some cells i cell e

pub cell_none : (cells : List (List ℕ)) (i : ℕ) → None ≡ field_at cells i → [] ≡ get_or cells i []
unfolding field_at
cell_none [] i e = refl
cell_none (first ∷ cells) zero e = absurd (some_is_not_none first (sym e))
cell_none (first ∷ cells) (suc i) e = cell_none cells i e

-- two tests of one statement agree
pub same_test : (b c : Bool) (P : Type 0) → (b ≡ true → P) → (P → b ≡ true) → (c ≡ true → P) → (P → c ≡ true) → b ≡ c
same_test true true P a d e f = refl
same_test true false P a d e f = sym (f (a refl))
same_test false true P a d e f = d (e refl)
same_test false false P a d e f = refl
