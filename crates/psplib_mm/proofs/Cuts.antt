-- Where bytes are cut: a line at the first line feed, a word at the first blank after it.
use Rattle.std.proofs.Common.{◌≡◌, ℕ, suc, ◌+◌, ◌<◌, ◌≤◌, Bool, true, false, not, cond, eqb, ltb, Some, None, List, [], ◌∷◌, length, map, take, drop, refl, sym, ap, subst, ◌∙◌, ◌-◌, arith}
use Rattle.std.specs.Option.{unwrap_or}
use Rattle.std.specs.List.{filter, position, position_or_len, slice_split, onto_first}
use Rattle.std.specs.Str.Lines.{strip_carriage_return}
use Rattle.std.proofs.lemmas.Bool.{ltb-false, le-ltb}
use Rattle.std.proofs.lemmas.Bool.Decides.{nat_tests}
use Rattle.std.proofs.lemmas.List.{length-take, length-drop, take_all, drop_all}
use Rattle.std.proofs.lemmas.List.Splits.{slice_split_first}
use borrow.Author.Tests.{ltb-true}
use Rattle.psplib_mm.specs.Text.{Piece, lines_from, is_line_feed, is_blank, is_other, is_word, words_of, words_in}

-- ---- a first place

some_place : (b : Bool) (n i : ℕ) → cond b (Some n) None ≡ Some i → (b ≡ true) × (n ≡ i)
some_place true n i e = (refl, cc)
some_place false n i e = absurd cc

no_place : (b : Bool) (n : ℕ) → cond b (Some n) None ≡ None → b ≡ false
no_place true n e = absurd cc
no_place false n e = refl

-- ---- lines

split_none : (p : ℕ → Bool) (xs : List ℕ) → ltb (position_or_len p xs) (length xs) ≡ false → slice_split p xs ≡ xs ∷ []
split_none p [] e = refl
split_none p (x ∷ xs) e = go (p x) (λ le. split_none p xs (le-ltb _ _ le)) e
  where
    go : (b : Bool) → (length xs ≤ position_or_len p xs → slice_split p xs ≡ xs ∷ []) → ltb (cond (not b) (1 + position_or_len p xs) 0) (suc (length xs)) ≡ false → cond b ([] ∷ slice_split p xs) (onto_first x (slice_split p xs)) ≡ (x ∷ xs) ∷ []
    go true ih h = absurd (omega (arith, ltb-false 0 (suc (length xs)) h))
    go false ih h = rw (ih (omega (arith, ltb-false (1 + position_or_len p xs) (suc (length xs)) h))) refl

-- the last line
pub lines_last : (n : ℕ) (bytes : List ℕ) → position is_line_feed bytes ≡ None → lines_from n bytes ≡ record { line = n; bytes = strip_carriage_return bytes } ∷ []
lines_last n bytes e = rw (split_none is_line_feed bytes (no_place _ _ e)) refl

-- a line, and those after it
pub lines_next : (n end : ℕ) (bytes : List ℕ) → position is_line_feed bytes ≡ Some end
    → lines_from n bytes ≡ record { line = n; bytes = strip_carriage_return (take end bytes) } ∷ lines_from (n + 1) (drop (end + 1) bytes)
lines_next n end bytes e =
    let found = some_place _ _ _ e in
    let here : position_or_len is_line_feed bytes ≡ end = found.1 in
    let lt : position_or_len is_line_feed bytes < length bytes = ltb-true _ _ found.0 in
    rw (slice_split_first is_line_feed bytes 0 lt, here) refl

-- ---- words

-- the parts that are not empty
abbrev runs : (ℕ → Bool) → List ℕ → List (List ℕ)
runs p xs = filter is_word (slice_split p xs)

-- where the first run begins
abbrev start : (ℕ → Bool) → List ℕ → ℕ
start p xs = position_or_len (λ x. not (p x)) xs

runs_skip : (p : ℕ → Bool) (xs : List ℕ) → runs p xs ≡ runs p (drop (start p xs) xs)
runs_skip p [] = refl
runs_skip p (x ∷ xs) = go (p x) refl (runs_skip p xs)
  where
    go : (b : Bool) → p x ≡ b → runs p xs ≡ runs p (drop (start p xs) xs) → runs p (x ∷ xs) ≡ runs p (drop (start p (x ∷ xs)) (x ∷ xs))
    go true e ih =
        let one : 1 + start p xs ≡ suc (start p xs) = omega arith in
        rw (e, one) ih
    go false e ih = rw (e, e) refl

-- the parts after the first
abbrev IsCut : (ℕ → Bool) → List ℕ → List (List ℕ) → Type 0
IsCut p xs parts = (slice_split p xs ≡ take (position_or_len p xs) xs ∷ parts) × (filter is_word parts ≡ runs p (drop (position_or_len p xs) xs))

cut : (p : ℕ → Bool) (xs : List ℕ) → (parts : List (List ℕ)) × IsCut p xs parts
cut p [] = ([], (refl, refl))
cut p (x ∷ xs) = go (p x) refl (cut p xs)
  where
    go : (b : Bool) → p x ≡ b → (parts : List (List ℕ)) × IsCut p xs parts → (parts : List (List ℕ)) × IsCut p (x ∷ xs) parts
    go true e ih = (slice_split p xs, (rw e refl, rw (e, e) refl))
    go false e ih =
        let one : 1 + position_or_len p xs ≡ suc (position_or_len p xs) = omega arith in
        (ih.0, (rw (e, one, ih.1.0) refl, rw (e, one) ih.1.1))

position_le : (p : ℕ → Bool) (xs : List ℕ) → position_or_len p xs ≤ length xs
position_le p [] = omega arith
position_le p (x ∷ xs) = go (p x) (position_le p xs)
  where
    go : (b : Bool) → position_or_len p xs ≤ length xs → cond (not b) (1 + position_or_len p xs) 0 ≤ suc (length xs)
    go true le = omega arith
    go false le = omega arith

keeps_word : (word : List ℕ) (parts : List (List ℕ)) → 0 < length word → filter is_word (word ∷ parts) ≡ word ∷ filter is_word parts
keeps_word [] parts lt = absurd (omega arith)
keeps_word (x ∷ word) parts lt =
    let test : eqb (suc (length word)) 0 ≡ false = grind (arith, nat_tests) in
    rw test refl

run_first : (p : ℕ → Bool) (xs : List ℕ) → 0 < position_or_len p xs → runs p xs ≡ take (position_or_len p xs) xs ∷ runs p (drop (position_or_len p xs) xs)
run_first p xs lt =
    let c = cut p xs in
    let word = take (position_or_len p xs) xs in
    let long : 0 < length word = omega (arith, length-take (position_or_len p xs) xs, position_le p xs) in
    ap (λ (parts : List (List ℕ)). filter is_word parts) c.1.0 ∙ keeps_word word c.0 long ∙ ap (λ (parts : List (List ℕ)). word ∷ parts) c.1.1

start_is : (p : ℕ → Bool) (xs : List ℕ) → start p xs < length xs → 0 < position_or_len p (drop (start p xs) xs)
start_is p [] lt = absurd (omega arith)
start_is p (x ∷ xs) lt = go (p x) refl (λ less. start_is p xs less) lt
  where
    go : (b : Bool) → p x ≡ b → (start p xs < length xs → 0 < position_or_len p (drop (start p xs) xs)) → start p (x ∷ xs) < suc (length xs) → 0 < position_or_len p (drop (start p (x ∷ xs)) (x ∷ xs))
    go true e ih less =
        let one : 1 + start p xs ≡ suc (start p xs) = omega arith in
        let least : 1 + start p xs < suc (length xs) = rw e at less in
        rw (e, one) (ih (omega arith))
    go false e ih less = rw (e, e) (omega arith)

abbrev on_line : ℕ → List (List ℕ) → List Piece
on_line n words = map (λ word. record { line = n; bytes = word }) words

-- no word is left
pub words_none : (n : ℕ) (xs : List ℕ) → position is_other xs ≡ None → words_in (record { line = n; bytes = xs }) ≡ []
words_none n xs e =
    let past : length xs ≤ start is_blank xs = ltb-false _ _ (no_place _ _ e) in
    let nothing : words_of xs ≡ [] = runs_skip is_blank xs ∙ ap (λ (ys : List ℕ). words_of ys) (drop_all (start is_blank xs) xs past) in
    ap (λ (words : List (List ℕ)). on_line n words) nothing

-- a word, and those after it
pub words_next : (n begin end : ℕ) (xs : List ℕ) → position is_other xs ≡ Some begin → end ≡ position_or_len is_blank (drop begin xs)
    → words_in (record { line = n; bytes = xs }) ≡ record { line = n; bytes = take end (drop begin xs) } ∷ words_in (record { line = n; bytes = drop end (drop begin xs) })
words_next n begin end xs e is_end =
    let found = some_place _ _ _ e in
    let here : start is_blank xs ≡ begin = found.1 in
    let lt : start is_blank xs < length xs = ltb-true _ _ found.0 in
    let long = start_is is_blank xs lt in
    let first : words_of xs ≡ take (position_or_len is_blank (drop (start is_blank xs) xs)) (drop (start is_blank xs) xs) ∷ words_of (drop (position_or_len is_blank (drop (start is_blank xs) xs)) (drop (start is_blank xs) xs)) = runs_skip is_blank xs ∙ run_first is_blank (drop (start is_blank xs) xs) long in
    let placed : words_of xs ≡ take (position_or_len is_blank (drop begin xs)) (drop begin xs) ∷ words_of (drop (position_or_len is_blank (drop begin xs)) (drop begin xs)) = subst (λ (k : ℕ). words_of xs ≡ take (position_or_len is_blank (drop k xs)) (drop k xs) ∷ words_of (drop (position_or_len is_blank (drop k xs)) (drop k xs))) here first in
    let ended : words_of xs ≡ take end (drop begin xs) ∷ words_of (drop end (drop begin xs)) = subst (λ (k : ℕ). words_of xs ≡ take k (drop begin xs) ∷ words_of (drop k (drop begin xs))) (sym is_end) placed in
    ap (λ (words : List (List ℕ)). on_line n words) ended

pub begin_le : (begin : ℕ) (xs : List ℕ) → position is_other xs ≡ Some begin → begin ≤ length xs
begin_le begin xs e =
    let found = some_place _ _ _ e in
    let lt : start is_blank xs < length xs = ltb-true _ _ found.0 in
    let here : start is_blank xs ≡ begin = found.1 in
    omega arith

pub end_le : (xs : List ℕ) → position_or_len is_blank xs ≤ length xs
end_le xs = position_le is_blank xs

pub end_or : (p : ℕ → Bool) (xs : List ℕ) → unwrap_or (position p xs) (length xs) ≡ position_or_len p xs
end_or p xs = go (ltb (position_or_len p xs) (length xs)) refl
  where
    go : (b : Bool) → ltb (position_or_len p xs) (length xs) ≡ b → unwrap_or (cond b (Some (position_or_len p xs)) None) (length xs) ≡ position_or_len p xs
    go true e = refl
    go false e = omega (arith, ltb-false (position_or_len p xs) (length xs) e, position_le p xs)

-- the end of a slice
pub tail_is : (i : ℕ) (xs : List ℕ) → take (length xs - i) (drop i xs) ≡ drop i xs
tail_is i xs = take_all (length xs - i) (drop i xs) (omega (arith, length-drop i xs))
