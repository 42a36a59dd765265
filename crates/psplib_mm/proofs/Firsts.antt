-- Up to the first line that passes, and from there on.
use Rattle.std.proofs.Common.{◌≡◌, ℕ, suc, ◌+◌, Bool, true, false, cond, ◌||◌, ltb, Option, Some, None, List, [], ◌∷◌, length, take, drop, Result, Ok, Err, refl, sym, ap, ◌∙◌, ◌⊎◌, inl, inr, arith}
use Rattle.std.specs.Prelude.{is_some, codes}
use Rattle.std.specs.Option.{option_or}
use Rattle.std.specs.List.{find, position, position_or_len, before_first, after_first}
use Rattle.std.proofs.lemmas.Bool.Decides.{nat_tests}
use Rattle.psplib_mm.specs.declared.fault.MmFault.{MmFault}
use Rattle.psplib_mm.specs.declared.fault.MmFault.TheVariants as fault
use Rattle.psplib_mm.specs.declared.fault.SectionName.{SectionName}
use Rattle.psplib_mm.specs.declared.fault.SectionName.TheVariants.{PrecedenceRelations, RequestsDurations, ResourceAvailabilities}
use Rattle.psplib_mm.specs.Text.{Piece}
use Rattle.psplib_mm.specs.Reading.{has_label, is_titled, begins, is_section_line, lines_after}
use Rattle.psplib_mm.specs.Scan.{HeadLines, from_first, head_lines, first_lines}

-- ---- where the first line does not pass

place_no : {X : Type 0} (p : X → Bool) (x : X) (xs : List X) → p x ≡ false → position_or_len p (x ∷ xs) ≡ suc (position_or_len p xs)
place_no p x xs e =
    let one : 1 + position_or_len p xs ≡ suc (position_or_len p xs) = omega arith in
    rw e one

place_yes : {X : Type 0} (p : X → Bool) (x : X) (xs : List X) → p x ≡ true → position_or_len p (x ∷ xs) ≡ 0
place_yes p x xs e = rw e refl

pub before_no : {X : Type 0} (p : X → Bool) (x : X) (xs : List X) → p x ≡ false → before_first p (x ∷ xs) ≡ x ∷ before_first p xs
before_no {X} p x xs e = ap (λ (n : ℕ). take n (x ∷ xs)) (place_no p x xs e)

pub before_yes : {X : Type 0} (p : X → Bool) (x : X) (xs : List X) → p x ≡ true → before_first p (x ∷ xs) ≡ []
before_yes {X} p x xs e = ap (λ (n : ℕ). take n (x ∷ xs)) (place_yes p x xs e)

after_no : {X : Type 0} (p : X → Bool) (x : X) (xs : List X) → p x ≡ false → after_first p (x ∷ xs) ≡ after_first p xs
after_no {X} p x xs e =
    let next : suc (position_or_len p xs) + 1 ≡ suc (position_or_len p xs + 1) = omega arith in
    ap (λ (n : ℕ). drop (n + 1) (x ∷ xs)) (place_no p x xs e) ∙ ap (λ (n : ℕ). drop n (x ∷ xs)) next

after_yes : {X : Type 0} (p : X → Bool) (x : X) (xs : List X) → p x ≡ true → after_first p (x ∷ xs) ≡ xs
after_yes {X} p x xs e = ap (λ (n : ℕ). drop (n + 1) (x ∷ xs)) (place_yes p x xs e)

there_no : {X : Type 0} (p : X → Bool) (x : X) (xs : List X) → p x ≡ false → is_some (position p (x ∷ xs)) ≡ is_some (position p xs)
there_no {X} p x xs e =
    let test : ltb (suc (position_or_len p xs)) (suc (length xs)) ≡ ltb (position_or_len p xs) (length xs) = grind (arith, nat_tests) in
    ap (λ (n : ℕ). is_some (cond (ltb n (suc (length xs))) (Some n) None)) (place_no p x xs e)
    ∙ ap (λ (b : Bool). is_some (cond b (Some (suc (position_or_len p xs))) None)) test
    ∙ go (ltb (position_or_len p xs) (length xs))
  where
    go : (b : Bool) → is_some (cond b (Some (suc (position_or_len p xs))) None) ≡ is_some (cond b (Some (position_or_len p xs)) None)
    go true = refl
    go false = refl

there_yes : {X : Type 0} (p : X → Bool) (x : X) (xs : List X) → p x ≡ true → is_some (position p (x ∷ xs)) ≡ true
there_yes {X} p x xs e =
    let test : ltb 0 (suc (length xs)) ≡ true = grind (arith, nat_tests) in
    ap (λ (n : ℕ). is_some (cond (ltb n (suc (length xs))) (Some n) None)) (place_yes p x xs e) ∙ ap (λ (b : Bool). is_some {T = ℕ} (cond b (Some 0) None)) test

abbrev found : SectionName → Bool → List Piece → Result (List Piece) MmFault
found name there rest = cond there (Ok rest) (Err (fault.Section name))

pub lines_after_no : (name : SectionName) (line : Piece) (lines : List Piece) → begins name line ≡ false → lines_after name (line ∷ lines) ≡ lines_after name lines
lines_after_no name line lines e =
    ap (λ (there : Bool). found name there (after_first (begins name) (line ∷ lines))) (there_no (begins name) line lines e)
    ∙ ap (λ (rest : List Piece). found name (is_some (position (begins name) lines)) rest) (after_no (begins name) line lines e)

pub lines_after_yes : (name : SectionName) (line : Piece) (lines : List Piece) → begins name line ≡ true → lines_after name (line ∷ lines) ≡ Ok lines
lines_after_yes name line lines e =
    ap (λ (there : Bool). found name there (after_first (begins name) (line ∷ lines))) (there_yes (begins name) line lines e)
    ∙ ap (λ (rest : List Piece). found name true rest) (after_yes (begins name) line lines e)

pub from_no : (p : Piece → Bool) (line : Piece) (lines : List Piece) → p line ≡ false → from_first p (line ∷ lines) ≡ from_first p lines
from_no p line lines e = ap (λ (n : ℕ). drop n (line ∷ lines)) (place_no p line lines e)

pub from_yes : (p : Piece → Bool) (line : Piece) (lines : List Piece) → p line ≡ true → from_first p (line ∷ lines) ≡ line ∷ lines
from_yes p line lines e = ap (λ (n : ℕ). drop n (line ∷ lines)) (place_yes p line lines e)

or_first : (a b c d : Bool) → (a || b || c || d) ≡ false → b ≡ false
or_first a false c d e = refl
or_first true true c d e = absurd cc
or_first false true c d e = absurd cc

either_no : (b : Bool) → (b ≡ true) ⊎ (b ≡ false)
either_no true = inl refl
either_no false = inr refl

-- a line of the head begins no section
pub lines_after_from : (lines : List Piece) → lines_after PrecedenceRelations (from_first is_section_line lines) ≡ lines_after PrecedenceRelations lines
lines_after_from [] = refl
lines_after_from (line ∷ lines) = go (either_no (is_section_line line)) (lines_after_from lines)
  where
    go : (is_section_line line ≡ true) ⊎ (is_section_line line ≡ false) → lines_after PrecedenceRelations (from_first is_section_line lines) ≡ lines_after PrecedenceRelations lines → lines_after PrecedenceRelations (from_first is_section_line (line ∷ lines)) ≡ lines_after PrecedenceRelations (line ∷ lines)
    go (inl e) ih = ap (λ (ls : List Piece). lines_after PrecedenceRelations ls) (from_yes is_section_line line lines e)
    go (inr e) ih =
        let other : begins PrecedenceRelations line ≡ false = or_first (is_titled (codes "PROJECTINFORMATION:") line) (begins PrecedenceRelations line) (begins RequestsDurations line) (begins ResourceAvailabilities line) e in
        ap (λ (ls : List Piece). lines_after PrecedenceRelations ls) (from_no is_section_line line lines e) ∙ ih ∙ sym (lines_after_no PrecedenceRelations line lines other)

-- ---- the head

or_none : {A : Type 0} (o : Option A) → option_or o None ≡ o
or_none None = refl
or_none (Some x) = refl

or_assoc : {A : Type 0} (a b c : Option A) → option_or (option_or a b) c ≡ option_or a (option_or b c)
or_assoc None b c = refl
or_assoc (Some x) b c = refl

find_more : (p : Piece → Bool) (line : Piece) (lines : List Piece) → find p (line ∷ lines) ≡ option_or (find p (line ∷ [])) (find p lines)
find_more p line lines = go (p line)
  where
    go : (b : Bool) → cond b (Some line) (find p lines) ≡ option_or (cond b (Some line) None) (find p lines)
    go true = refl
    go false = refl

pub first_lines_none : (head : HeadLines) → first_lines head (head_lines []) ≡ head
first_lines_none head = rw (or_none head.projects, or_none head.jobs, or_none head.renewable, or_none head.nonrenewable, or_none head.doubly) refl

field_more : (p : Piece → Bool) (o : Option Piece) (line : Piece) (lines : List Piece) → option_or (option_or o (find p (line ∷ []))) (find p lines) ≡ option_or o (find p (line ∷ lines))
field_more p o line lines = or_assoc o (find p (line ∷ [])) (find p lines) ∙ ap (λ (q : Option Piece). option_or o q) (sym (find_more p line lines))

five : (a b c d e : Option Piece) (head : HeadLines) → a ≡ head.projects → b ≡ head.jobs → c ≡ head.renewable → d ≡ head.nonrenewable → e ≡ head.doubly
    → record { projects = a; jobs = b; renewable = c; nonrenewable = d; doubly = e } ≡ head
five a b c d e head p q r s t = rw (p, q, r, s, t) refl

-- the head's lines with one more line
pub head_more : (head : HeadLines) (line : Piece) (lines : List Piece) → is_section_line line ≡ false
    → first_lines (first_lines head (head_lines (line ∷ []))) (head_lines (before_first is_section_line lines)) ≡ first_lines head (head_lines (before_first is_section_line (line ∷ lines)))
head_more head line lines e =
    let rest = before_first is_section_line lines in
    five _ _ _ _ _ (first_lines head (head_lines (line ∷ rest)))
    (field_more (has_label (codes "projects")) head.projects line rest)
    (field_more (has_label (codes "jobs(incl.supersource/sink)")) head.jobs line rest)
    (field_more (has_label (codes "-renewable")) head.renewable line rest)
    (field_more (has_label (codes "-nonrenewable")) head.nonrenewable line rest)
    (field_more (has_label (codes "-doublyconstrained")) head.doubly line rest)
    ∙ ap (λ (ls : List Piece). first_lines head (head_lines ls)) (sym (before_no is_section_line line lines e))
