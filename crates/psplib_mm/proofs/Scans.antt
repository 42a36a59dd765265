-- A section's numbers, line by line and word by word.
use Rattle.std.proofs.Common.{◌≡◌, ℕ, zero, suc, ◌-◌, ◌<◌, Bool, true, false, not, Option, Some, None, min, List, [], ◌∷◌, ◌++◌, length, map, take, drop, Result, Ok, Err, refl, sym, ap, ◌∙◌, append_assoc, arith}
use Rattle.std.specs.Option.{option_map, ok_or}
use Rattle.std.specs.List.{filter, flat_map, before_first}
use Rattle.std.proofs.lemmas.List.{append-nil, length-append, length-take}
use Rattle.psplib_mm.specs.declared.cell.Cell.{Cell}
use Rattle.psplib_mm.specs.declared.fault.MmFault.{MmFault}
use Rattle.psplib_mm.specs.declared.fault.MmFault.TheVariants as fault
use Rattle.psplib_mm.specs.Text.{Piece, words_in, is_skipped, number_of}
use Rattle.psplib_mm.specs.Contents.{◌>>=◌}
use Rattle.psplib_mm.specs.Reading.{words_below, cells_of}
use Rattle.psplib_mm.specs.Scan.{kept_cells, joined, joined_up_to, capped}
use Rattle.psplib_mm.proofs.Firsts.{before_no}

-- ---- results

pub joined_nil : (read : Result (List Cell) MmFault) → joined read (Ok []) ≡ read
joined_nil (Ok cells) = ap (λ (cs : List Cell). let r : Result (List Cell) MmFault = Ok cs in r) (append-nil cells)
joined_nil (Err e) = refl

joined_empty : (read : Result (List Cell) MmFault) → joined (Ok []) read ≡ read
joined_empty (Ok cells) = refl
joined_empty (Err e) = refl

pub joined_assoc : (a b c : Result (List Cell) MmFault) → joined (joined a b) c ≡ joined a (joined b c)
joined_assoc (Err e) b c = refl
joined_assoc (Ok xs) (Err e) c = refl
joined_assoc (Ok xs) (Ok ys) (Err e) = refl
joined_assoc (Ok xs) (Ok ys) (Ok zs) = ap (λ (cs : List Cell). let r : Result (List Cell) MmFault = Ok cs in r) (append_assoc xs ys zs)

-- ---- words

abbrev pub cap_of : Option ℕ → Option ℕ
cap_of number = option_map (min 4294967295) number

pub kept_next : (w : Piece) (words : List Piece) (n : ℕ) → cap_of (number_of w.bytes) ≡ Some n
    → kept_cells (w ∷ words) ≡ joined (Ok (record { line = w.line; number = n } ∷ [])) (kept_cells words)
kept_next w words n e = go (number_of w.bytes) (cells_of words) e
  where
    go : (o : Option ℕ) (read : Result (List Cell) MmFault) → cap_of o ≡ Some n
        → ((ok_or o (fault.Number w.line) >>= λ number. read >>= λ more. let r : Result (List Cell) MmFault = Ok (record { line = w.line; number = number } ∷ more) in r) >>= λ cells. Ok (map capped cells))
        ≡ joined (Ok (record { line = w.line; number = n } ∷ [])) (read >>= λ cells. Ok (map capped cells))
    go None read h = absurd cc
    go (Some m) (Err d) h = refl
    go (Some m) (Ok more) h =
        let same : min 4294967295 m ≡ n = cc in
        ap (λ (k : ℕ). let r : Result (List Cell) MmFault = Ok (record { line = w.line; number = k } ∷ map capped more) in r) same

pub kept_stray : (w : Piece) (words : List Piece) → cap_of (number_of w.bytes) ≡ None → kept_cells (w ∷ words) ≡ Err (fault.Number w.line)
kept_stray w words e = go (number_of w.bytes) e
  where
    go : (o : Option ℕ) → cap_of o ≡ None
        → ((ok_or o (fault.Number w.line) >>= λ number. cells_of words >>= λ more. let r : Result (List Cell) MmFault = Ok (record { line = w.line; number = number } ∷ more) in r) >>= λ cells. Ok (map capped cells)) ≡ Err (fault.Number w.line)
    go None h = refl
    go (Some m) h = absurd cc

-- ---- the words of a word and of others

abbrev kept_one : Piece → Result (List Cell) MmFault
kept_one w = ok_or (number_of w.bytes) (fault.Number w.line) >>= λ n. Ok (record { line = w.line; number = min 4294967295 n } ∷ [])

kept_cons : (w : Piece) (words : List Piece) → kept_cells (w ∷ words) ≡ joined (kept_one w) (kept_cells words)
kept_cons w words = go (number_of w.bytes) (cells_of words)
  where
    go : (o : Option ℕ) (read : Result (List Cell) MmFault)
        → ((ok_or o (fault.Number w.line) >>= λ number. read >>= λ more. let r : Result (List Cell) MmFault = Ok (record { line = w.line; number = number } ∷ more) in r) >>= λ cells. Ok (map capped cells))
        ≡ joined (ok_or o (fault.Number w.line) >>= λ n. let r : Result (List Cell) MmFault = Ok (record { line = w.line; number = min 4294967295 n } ∷ []) in r) (read >>= λ cells. Ok (map capped cells))
    go None read = refl
    go (Some m) (Err d) = refl
    go (Some m) (Ok more) = refl

kept_append : (xs ys : List Piece) → kept_cells (xs ++ ys) ≡ joined (kept_cells xs) (kept_cells ys)
kept_append [] ys = sym (joined_empty (kept_cells ys))
kept_append (w ∷ xs) ys =
    kept_cons w (xs ++ ys)
    ∙ ap (λ (r : Result (List Cell) MmFault). joined (kept_one w) r) (kept_append xs ys)
    ∙ sym (joined_assoc (kept_one w) (kept_cells xs) (kept_cells ys))
    ∙ ap (λ (r : Result (List Cell) MmFault). joined r (kept_cells ys)) (sym (kept_cons w xs))

one_length : (w : Piece) (cells : List Cell) → kept_one w ≡ Ok cells → length cells ≡ 1
one_length w cells e = go (number_of w.bytes) e
  where
    go : (o : Option ℕ) → (ok_or o (fault.Number w.line) >>= λ n. let r : Result (List Cell) MmFault = Ok (record { line = w.line; number = min 4294967295 n } ∷ []) in r) ≡ Ok cells → length cells ≡ 1
    go None h = absurd cc
    go (Some m) h =
        let one : record { line = w.line; number = min 4294967295 m } ∷ [] ≡ cells = cc in
        ap (λ (cs : List Cell). length cs) (sym one)

kept_length : (words : List Piece) (cells : List Cell) → kept_cells words ≡ Ok cells → length cells ≡ length words
kept_length [] cells e =
    let nothing : [] ≡ cells = cc in
    ap (λ (cs : List Cell). length cs) (sym nothing)
kept_length (w ∷ words) cells e = go (kept_one w) (kept_cells words) (λ xs p. one_length w xs p) (λ ys q. kept_length words ys q) refl refl (sym (kept_cons w words) ∙ e)
  where
    go : (one more : Result (List Cell) MmFault) → ((xs : List Cell) → kept_one w ≡ Ok xs → length xs ≡ 1) → ((ys : List Cell) → kept_cells words ≡ Ok ys → length ys ≡ length words) → kept_one w ≡ one → kept_cells words ≡ more → joined one more ≡ Ok cells → length cells ≡ suc (length words)
    go (Err d) more f g p q h = absurd cc
    go (Ok xs) (Err d) f g p q h = absurd cc
    go (Ok xs) (Ok ys) f g p q h =
        let same : xs ++ ys ≡ cells = cc in
        ap (λ (cs : List Cell). length cs) (sym same) ∙ omega (arith, length-append xs ys, f xs p, g ys q)

-- ---- lines

abbrev is_read : Piece → Bool
is_read line = not (is_skipped line.bytes)

-- the words of the lines that are left, of which the first that is read has the column heads, if these are still to come
abbrev pub scan_left : Bool → List Piece → List Piece
scan_left true lines = flat_map words_in (filter is_read lines)
scan_left false lines = words_below lines

filter_yes : (p : Piece → Bool) (x : Piece) (xs : List Piece) → p x ≡ true → filter p (x ∷ xs) ≡ x ∷ filter p xs
filter_yes p x xs e = rw e refl

filter_no : (p : Piece → Bool) (x : Piece) (xs : List Piece) → p x ≡ false → filter p (x ∷ xs) ≡ filter p xs
filter_no p x xs e = rw e refl

pub scan_skip : (heads : Bool) (line : Piece) (lines : List Piece) → is_skipped line.bytes ≡ true → scan_left heads (line ∷ lines) ≡ scan_left heads lines
scan_skip true line lines e = ap (λ (ls : List Piece). flat_map words_in ls) (filter_no is_read line lines (ap not e))
scan_skip false line lines e = ap (λ (ls : List Piece). flat_map words_in (drop 1 ls)) (filter_no is_read line lines (ap not e))

pub scan_words : (line : Piece) (lines : List Piece) → is_skipped line.bytes ≡ false → scan_left true (line ∷ lines) ≡ words_in line ++ scan_left true lines
scan_words line lines e = ap (λ (ls : List Piece). flat_map words_in ls) (filter_yes is_read line lines (ap not e))

pub scan_heads : (line : Piece) (lines : List Piece) → is_skipped line.bytes ≡ false → scan_left false (line ∷ lines) ≡ scan_left true lines
scan_heads line lines e = ap (λ (ls : List Piece). flat_map words_in (drop 1 ls)) (filter_yes is_read line lines (ap not e))

-- a line's words are read
pub section_words : (read : Result (List Cell) MmFault) (line : Piece) (lines : List Piece) → is_skipped line.bytes ≡ false
    → joined (joined read (kept_cells (words_in line))) (kept_cells (scan_left true lines)) ≡ joined read (kept_cells (scan_left true (line ∷ lines)))
section_words read line lines e =
    joined_assoc read (kept_cells (words_in line)) (kept_cells (scan_left true lines))
    ∙ ap (λ (r : Result (List Cell) MmFault). joined read r) (sym (kept_append (words_in line) (scan_left true lines)) ∙ ap (λ (ws : List Piece). kept_cells ws) (sym (scan_words line lines e)))

-- ---- no more than a limit

take_of_append : {X : Type 0} (k : ℕ) (xs ys : List X) → take k (xs ++ ys) ≡ take k xs ++ take (k - length xs) ys
take_of_append zero xs ys =
    let nothing : zero - length xs ≡ zero = omega arith in
    rw nothing refl
take_of_append (suc k) [] ys =
    let same : suc k - 0 ≡ suc k = omega arith in
    rw same refl
take_of_append {X} (suc k) (x ∷ xs) ys =
    let less : suc k - suc (length xs) ≡ k - length xs = omega arith in
    rw less (ap (λ (zs : List X). x ∷ zs) (take_of_append k xs ys))

take_none : {X : Type 0} (k : ℕ) → take {A = X} k [] ≡ []
take_none zero = refl
take_none (suc k) = refl

pub up_to_none : (most : ℕ) (read : Result (List Cell) MmFault) → joined_up_to most read [] ≡ read
up_to_none most (Err d) = refl
up_to_none most (Ok cells) = ap (λ (ws : List Piece). joined (Ok cells) (kept_cells ws)) (take_none (most - length cells)) ∙ joined_nil (Ok cells)

pub up_to_start : (most : ℕ) (words : List Piece) → joined_up_to most (Ok []) words ≡ kept_cells (take most words)
up_to_start most words =
    let same : most - 0 ≡ most = omega arith in
    ap (λ (k : ℕ). joined (Ok []) (kept_cells (take k words))) same ∙ joined_empty (kept_cells (take most words))

up_to_more : (most : ℕ) (read : Result (List Cell) MmFault) (xs ys : List Piece) → joined_up_to most (joined_up_to most read xs) ys ≡ joined_up_to most read (xs ++ ys)
up_to_more most (Err d) xs ys = refl
up_to_more most (Ok cells) xs ys = go (kept_cells (take k xs)) refl ∙ sym whole
  where
    k : ℕ
    k = most - length cells

    whole : joined (Ok cells) (kept_cells (take k (xs ++ ys))) ≡ joined (Ok cells) (joined (kept_cells (take k xs)) (kept_cells (take (k - length xs) ys)))
    whole = ap (λ (ws : List Piece). joined (Ok cells) (kept_cells ws)) (take_of_append k xs ys) ∙ ap (λ (r : Result (List Cell) MmFault). joined (Ok cells) r) (kept_append (take k xs) (take (k - length xs) ys))

    go : (more : Result (List Cell) MmFault) → kept_cells (take k xs) ≡ more → joined_up_to most (joined (Ok cells) more) ys ≡ joined (Ok cells) (joined more (kept_cells (take (k - length xs) ys)))
    go (Err d) e = refl
    go (Ok more) e =
        let same : most - length (cells ++ more) ≡ k - length xs = omega (arith, length-append cells more, kept_length (take k xs) more e, length-take k xs) in
        ap (λ (n : ℕ). joined (Ok (cells ++ more)) (kept_cells (take n ys))) same ∙ joined_assoc (Ok cells) (Ok more) (kept_cells (take (k - length xs) ys))

pub last_words : (most : ℕ) (read : Result (List Cell) MmFault) (line : Piece) (lines : List Piece) → is_skipped line.bytes ≡ false
    → joined_up_to most (joined_up_to most read (words_in line)) (scan_left true lines) ≡ joined_up_to most read (scan_left true (line ∷ lines))
last_words most read line lines e =
    up_to_more most read (words_in line) (scan_left true lines) ∙ ap (λ (ws : List Piece). joined_up_to most read ws) (sym (scan_words line lines e))

-- a word is read
pub up_to_word : (most n : ℕ) (cells : List Cell) (w : Piece) (words : List Piece) → length cells < most → cap_of (number_of w.bytes) ≡ Some n
    → joined_up_to most (Ok (cells ++ record { line = w.line; number = n } ∷ [])) words ≡ joined_up_to most (Ok cells) (w ∷ words)
up_to_word most n cells w words lt e =
    let cell : Cell = record { line = w.line; number = n } in
    let fewer : most - length cells ≡ suc (most - length (cells ++ cell ∷ [])) = omega (arith, length-append cells (cell ∷ [])) in
    let j = most - length (cells ++ cell ∷ []) in
    joined_assoc (Ok cells) (Ok (cell ∷ [])) (kept_cells (take j words))
    ∙ ap (λ (r : Result (List Cell) MmFault). joined (Ok cells) r) (sym (kept_next w (take j words) n e))
    ∙ ap (λ (k : ℕ). joined (Ok cells) (kept_cells (take k (w ∷ words)))) (sym fewer)

-- ---- a line of a section

pub step_skip : (p : Piece → Bool) (read total : Result (List Cell) MmFault) (heads : Bool) (line : Piece) (lines : List Piece) → is_skipped line.bytes ≡ true → p line ≡ false
    → joined read (kept_cells (scan_left heads (before_first p (line ∷ lines)))) ≡ total → joined read (kept_cells (scan_left heads (before_first p lines))) ≡ total
step_skip p read total heads line lines skipped other so_far =
    ap (λ (ws : List Piece). joined read (kept_cells ws)) (sym (scan_skip heads line (before_first p lines) skipped) ∙ ap (λ (ls : List Piece). scan_left heads ls) (sym (before_no p line lines other))) ∙ so_far

pub step_heads : (p : Piece → Bool) (read total : Result (List Cell) MmFault) (heads : Bool) (line : Piece) (lines : List Piece) → heads ≡ false → is_skipped line.bytes ≡ false → p line ≡ false
    → joined read (kept_cells (scan_left heads (before_first p (line ∷ lines)))) ≡ total → joined read (kept_cells (scan_left true (before_first p lines))) ≡ total
step_heads p read total heads line lines first shown other so_far =
    ap (λ (ws : List Piece). joined read (kept_cells ws)) (sym (scan_heads line (before_first p lines) shown) ∙ ap (λ (ls : List Piece). scan_left false ls) (sym (before_no p line lines other)))
    ∙ ap (λ (b : Bool). joined read (kept_cells (scan_left b (before_first p (line ∷ lines))))) (sym first) ∙ so_far

pub step_words : (p : Piece → Bool) (read total : Result (List Cell) MmFault) (heads : Bool) (line : Piece) (lines : List Piece) → heads ≡ true → is_skipped line.bytes ≡ false → p line ≡ false
    → joined read (kept_cells (scan_left heads (before_first p (line ∷ lines)))) ≡ total → joined (joined read (kept_cells (words_in line))) (kept_cells (scan_left true (before_first p lines))) ≡ total
step_words p read total heads line lines later shown other so_far =
    section_words read line (before_first p lines) shown
    ∙ ap (λ (ls : List Piece). joined read (kept_cells (scan_left true ls))) (sym (before_no p line lines other))
    ∙ ap (λ (b : Bool). joined read (kept_cells (scan_left b (before_first p (line ∷ lines))))) (sym later) ∙ so_far

pub last_step_words : (most : ℕ) (read total : Result (List Cell) MmFault) (heads : Bool) (line : Piece) (lines : List Piece) → heads ≡ true → is_skipped line.bytes ≡ false
    → joined_up_to most read (scan_left heads (line ∷ lines)) ≡ total → joined_up_to most (joined_up_to most read (words_in line)) (scan_left true lines) ≡ total
last_step_words most read total heads line lines later shown so_far =
    last_words most read line lines shown ∙ ap (λ (b : Bool). joined_up_to most read (scan_left b (line ∷ lines))) (sym later) ∙ so_far
