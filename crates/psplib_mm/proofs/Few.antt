-- A text has few words, so the caps change nothing.
use Rattle.std.proofs.Common.{◌≡◌, ℕ, zero, suc, ◌+◌, ◌-◌, ◌<◌, ◌≤◌, Bool, true, false, not, cond, eqb, ltb, min, List, [], ◌∷◌, length, get_or, map, take, drop, Ok, Err, refl, sym, ap, subst, ◌∙◌, arith}
use Rattle.std.specs.Prelude.{is_some}
use Rattle.std.specs.Option.{ok_or}
use Rattle.std.specs.List.{filter, flat_map, position, position_or_len, before_first, after_first, slice_split, onto_first}
use Rattle.std.specs.Str.Lines.{strip_carriage_return}
use Rattle.std.proofs.lemmas.Bool.{le-ltb}
use Rattle.std.proofs.lemmas.List.{length-map, length-take, length-append, take_min}
use Rattle.psplib_mm.specs.Scan.{cap, capped, all_capped, capped_meaning}
use Rattle.psplib_mm.specs.declared.cell.Cell.{Cell}
use Rattle.psplib_mm.specs.declared.fault.MmFault.TheVariants as fault
use Rattle.psplib_mm.specs.declared.fault.SectionName.{SectionName}
use Rattle.psplib_mm.specs.declared.fault.SectionName.TheVariants.{PrecedenceRelations, RequestsDurations, ResourceAvailabilities}
use Rattle.psplib_mm.specs.Text.{Piece, lines_of, numbered, is_line_feed, is_text_end, is_blank, is_word, words_of, words_in, is_skipped, number_of}
use Rattle.psplib_mm.specs.Contents.{◌>>=◌, contents}
use Rattle.psplib_mm.specs.Reading.{Sizes, sizes_of, begins, is_section_line, lines_after, words_below, cells_of, meaning, reading}
use Rattle.psplib_mm.proofs.Sound.{bind_ok, ok_is, done}
use Rattle.psplib_mm.proofs.Capped.{IsFew}
use Rattle.psplib_mm.proofs.CappedGroups.{under, under_same, contents_capped}

-- ---- how many

abbrev pub total : List (List ℕ) → ℕ
total [] = 0
total (l ∷ ls) = length l + 1 + total ls

abbrev pub weight : List Piece → ℕ
weight [] = 0
weight (p ∷ ps) = length p.bytes + 1 + weight ps

total-onto_first : (x : ℕ) (parts : List (List ℕ)) → 0 < total parts → total (onto_first x parts) ≡ total parts + 1
total-onto_first x [] h = absurd (omega arith)
total-onto_first x (part ∷ parts) h = omega arith

total-slice_split : (p : ℕ → Bool) (xs : List ℕ) → total (slice_split p xs) ≡ length xs + 1
total-slice_split p [] = refl
total-slice_split p (x ∷ xs) =
    let rest = total-slice_split p xs in
    elim (p x) as (λ b. total (cond b ([] ∷ slice_split p xs) (onto_first x (slice_split p xs))) ≡ suc (length xs) + 1) [
      | true ↦ omega arith
      | false ↦ omega (arith, total-onto_first x (slice_split p xs) (omega arith))
    ]

length-strip : (l : List ℕ) → length (strip_carriage_return l) ≤ length l
length-strip l = elim (eqb (get_or l (length l - 1) 0) 13) as (λ b. length (cond b (take (length l - 1) l) l) ≤ length l) [
  | true ↦ omega (arith, length-take (length l - 1) l)
  | false ↦ omega arith
]

total-strip : (ls : List (List ℕ)) → total (map strip_carriage_return ls) ≤ total ls
total-strip [] = omega arith
total-strip (l ∷ ls) = omega (arith, length-strip l, total-strip ls)

weight-numbered : (n : ℕ) (ls : List (List ℕ)) → weight (numbered n ls) ≡ total ls
weight-numbered n [] = refl
weight-numbered n (l ∷ ls) = ap (λ (k : ℕ). length l + 1 + k) (weight-numbered (n + 1) ls)

pub weight-lines_of : (text : List ℕ) → weight (lines_of text) ≤ length text + 1
weight-lines_of text =
    let shown = before_first is_text_end text in
    let parts = slice_split is_line_feed shown in
    let a : weight (lines_of text) ≡ total (map strip_carriage_return parts) = weight-numbered 1 (map strip_carriage_return parts) in
    let b : total parts ≡ length shown + 1 = total-slice_split is_line_feed shown in
    let c : length shown ≤ length text = omega (arith, length-take (position_or_len is_text_end text) text) in
    omega (arith, a, b, c, total-strip parts)

weight-take : (n : ℕ) (ps : List Piece) → weight (take n ps) ≤ weight ps
weight-take zero ps = omega arith
weight-take (suc n) [] = omega arith
weight-take (suc n) (p ∷ ps) = omega (arith, weight-take n ps)

weight-drop : (n : ℕ) (ps : List Piece) → weight (drop n ps) ≤ weight ps
weight-drop zero ps = omega arith
weight-drop (suc n) [] = omega arith
weight-drop (suc n) (p ∷ ps) = omega (arith, weight-drop n ps)

weight-filter : (keeps : Piece → Bool) (ps : List Piece) → weight (filter keeps ps) ≤ weight ps
weight-filter keeps [] = omega arith
weight-filter keeps (p ∷ ps) =
    let rest = weight-filter keeps ps in
    elim (keeps p) as (λ b. weight (cond b (p ∷ filter keeps ps) (filter keeps ps)) ≤ length p.bytes + 1 + weight ps) [ true ↦ omega arith | false ↦ omega arith ]

words_few : (parts : List (List ℕ)) → length (filter is_word parts) ≤ total parts
words_few [] = omega arith
words_few (l ∷ ls) =
    let rest = words_few ls in
    elim (is_word l) as (λ b. length (cond b (l ∷ filter is_word ls) (filter is_word ls)) ≤ length l + 1 + total ls) [ true ↦ omega arith | false ↦ omega arith ]

length-words_in : (p : Piece) → length (words_in p) ≤ length p.bytes + 1
length-words_in p =
    let a = total-slice_split is_blank p.bytes in
    let b = words_few (slice_split is_blank p.bytes) in
    let c : length (words_in p) ≡ length (words_of p.bytes) = length-map (words_of p.bytes) _ in
    omega arith

length-flat : (ps : List Piece) → length (flat_map words_in ps) ≤ weight ps
length-flat [] = omega arith
length-flat (p ∷ ps) = omega (arith, length-append (words_in p) (flat_map words_in ps), length-words_in p, length-flat ps)

length-words_below : (ps : List Piece) → length (words_below ps) ≤ weight ps
length-words_below ps =
    let kept = filter (λ line. not (is_skipped line.bytes)) ps in
    omega (arith, length-flat (drop 1 kept), weight-drop 1 kept, weight-filter (λ line. not (is_skipped line.bytes)) ps)

length-cells_of : (words : List Piece) (cells : List Cell) → cells_of words ≡ Ok cells → length cells ≡ length words
length-cells_of [] cells e = ap (λ (cs : List Cell). length cs) (sym (ok_is [] cells e))
length-cells_of (w ∷ words) cells e =
    let a = bind_ok (ok_or (number_of w.bytes) (fault.Number w.line)) (λ number. cells_of words >>= λ more. Ok (record { line = w.line; number = number } ∷ more)) cells e in
    let b = bind_ok (cells_of words) (λ more. Ok (record { line = w.line; number = a.0 } ∷ more)) cells a.2 in
    let made : List Cell = record { line = w.line; number = a.0 } ∷ b.0 in
    ap (λ (cs : List Cell). length cs) (sym (ok_is made cells b.2)) ∙ ap suc (length-cells_of words b.0 b.1)

-- ---- the meaning

weight-lines_after : (name : SectionName) (lines rest : List Piece) → lines_after name lines ≡ Ok rest → weight rest ≤ weight lines
weight-lines_after name lines rest e = go (is_some (position (begins name) lines)) e
  where
    go : (b : Bool) → cond b (done (after_first (begins name) lines)) (Err (fault.Section name)) ≡ Ok rest → weight rest ≤ weight lines
    go true f = subst (λ (ps : List Piece). weight ps ≤ weight lines) (ok_is _ rest f) (weight-drop _ lines)
    go false f = absurd cc

few_cells : (lines : List Piece) (cells : List Cell) → weight lines < 4294967295 → cells_of (words_below lines) ≡ Ok cells → IsFew cells
few_cells lines cells few e = omega (arith, length-cells_of (words_below lines) cells e, length-words_below lines)

abbrev capped_size : Sizes → Sizes
capped_size s = record { jobs = cap s.jobs; renewable = cap s.renewable; nonrenewable = cap s.nonrenewable }

pub meaning_capped : (lines : List Piece) → weight lines < 4294967295 → capped_meaning lines ≡ meaning lines
meaning_capped lines few =
    under (sizes_of (before_first is_section_line lines)) capped_size _ _ (λ sizes _.
    under_same _ (lines_after PrecedenceRelations lines) _ _ refl (λ below_precedence ep.
    under_same _ (lines_after RequestsDurations below_precedence) _ _ refl (λ below_requests eq.
    under_same _ (lines_after ResourceAvailabilities below_requests) _ _ refl (λ below_availabilities es.
    let wp : weight below_precedence ≤ weight lines = weight-lines_after PrecedenceRelations lines below_precedence ep in
    let wq : weight below_requests ≤ weight below_precedence = weight-lines_after RequestsDurations below_precedence below_requests eq in
    let ws : weight below_availabilities ≤ weight below_requests = weight-lines_after ResourceAvailabilities below_requests below_availabilities es in
    let first = before_first (begins RequestsDurations) below_precedence in
    let second = before_first (begins ResourceAvailabilities) below_requests in
    let few_first : weight first < 4294967295 = omega (arith, weight-take (position_or_len (begins RequestsDurations) below_precedence) below_precedence) in
    let few_second : weight second < 4294967295 = omega (arith, weight-take (position_or_len (begins ResourceAvailabilities) below_requests) below_requests) in
    let words = words_below below_availabilities in
    let few_words : length words < 4294967295 = omega (arith, length-words_below below_availabilities) in
    let count : min (cap sizes.renewable + cap sizes.nonrenewable) (length words) ≡ min (sizes.renewable + sizes.nonrenewable) (length words) = omega arith in
    let taken : take (cap sizes.renewable + cap sizes.nonrenewable) words ≡ take (sizes.renewable + sizes.nonrenewable) words = sym (take_min (cap sizes.renewable + cap sizes.nonrenewable) words) ∙ ap (λ (k : ℕ). take k words) count ∙ take_min (sizes.renewable + sizes.nonrenewable) words in
    under (cells_of (words_below first)) (map capped) _ _ (λ p read_p.
    under (cells_of (words_below second)) (map capped) _ _ (λ q read_q.
    ap (λ (ws : List Piece). all_capped (cells_of ws) >>= λ s. contents (cap sizes.jobs) (cap sizes.renewable) (cap sizes.nonrenewable) (map capped p) (map capped q) s) taken
    ∙ under (cells_of (take (sizes.renewable + sizes.nonrenewable) words)) (map capped) _ _ (λ s read_s.
    let few_s : IsFew s = omega (arith, length-cells_of (take (sizes.renewable + sizes.nonrenewable) words) s read_s, length-take (sizes.renewable + sizes.nonrenewable) words) in
    contents_capped sizes.jobs sizes.renewable sizes.nonrenewable p q s (few_cells first p few_first read_p) (few_cells second q few_second read_q) few_s)))))))

pub reading_capped : (text : List ℕ) → length text ≤ 1048576 → capped_meaning (lines_of text) ≡ reading text
reading_capped text le =
    let short : ltb 1048576 (length text) ≡ false = le-ltb _ _ le in
    meaning_capped (lines_of text) (omega (arith, weight-lines_of text)) ∙ (rw short refl)
