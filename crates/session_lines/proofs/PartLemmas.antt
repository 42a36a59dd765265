-- Bytes that went out in part.
use Rattle.std.proofs.Common.{◌≡◌, ℕ, ◌-◌, List, [], ◌∷◌, ◌++◌, ◌+◌, ◌<◌, get_or, Option, length, take, drop, sym, ap, ◌∙◌, append_assoc, take-append-drop, Result, Ok, Err}
use Rattle.std.proofs.lemmas.List.{take_rest, take_more, append-nil}
use Rattle.std.proofs.lemmas.Grind.{flat_map-append}
use Rattle.std.specs.List.{flat_map}
use Rattle.std.specs.Io.KnownBytes.{Appends}
use Rattle.std.proofs.KnownBytes.{Appends-nil, Appends-trans}
use Rattle.session_lines.specs.Known.{AppendsPart, Writes}
use Rattle.session_lines.specs.declared.put.Part.{Part}
use Rattle.session_lines.specs.Part.{GathersAll, Gathers, part_text, text_with, parts_text}

-- a write took the first n bytes of the rest
pub moves_front : (all done rest : List ℕ) (n : ℕ) → all ≡ done ++ rest → all ≡ (done ++ take n rest) ++ take (length rest - n) (drop n rest)
moves_front all done rest n e =
    e ∙ ap (λ l. done ++ l) (sym (take-append-drop n rest)) ∙ sym (append_assoc done (take n rest) (drop n rest)) ∙ ap (λ l. (done ++ take n rest) ++ l) (sym (take_rest rest n))

-- some bytes went out whole, and then a part of others
pub part_after : (a b d : Option (List ℕ)) (xs ys : List ℕ) → Appends a b xs → AppendsPart b d ys → AppendsPart a d (xs ++ ys)
part_after a b d xs ys h p = record {
  part = xs ++ p.part;
  rest = p.rest;
  split = ap (λ l. xs ++ l) p.split ∙ sym (append_assoc xs p.part p.rest);
  written = Appends-trans a b d xs p.part h p.written;
}

-- a part of the first bytes is a part of all
pub part_before : (a b : Option (List ℕ)) (xs ys : List ℕ) → AppendsPart a b xs → AppendsPart a b (xs ++ ys)
part_before a b xs ys p = record {
  part = p.part;
  rest = p.rest ++ ys;
  split = ap (λ l. l ++ ys) p.split ∙ append_assoc p.part p.rest ys;
  written = p.written;
}

-- ---- bytes that are gathered

pub gathers_nothing : (a : Option (List ℕ)) (before : List ℕ) → GathersAll a a before before []
gathers_nothing a before = record { gone = []; split = append-nil before; written = Appends-nil a }

-- a text that fits
pub gathers_fit : (a : Option (List ℕ)) (before now text : List ℕ) → now ≡ before ++ text → GathersAll a a before now text
gathers_fit a before now text e = record { gone = []; split = sym e; written = Appends-nil a }

-- a text before which all was written
pub gathers_written : {T E : Type 0} (r : Result T E) (a b d : Option (List ℕ)) (before text : List ℕ) → Appends a b before → Writes r b d text → Gathers r a d before [] text
gathers_written (Ok x) a b d before text p q = record {
  ok = record { gone = before ++ text; split = sym (append-nil (before ++ text)); written = Appends-trans a b d before text p q.ok };
  err = tt;
}
gathers_written (Err e) a b d before text p q = record { ok = tt; err = part_after a b d before text p q.err }

-- a fault while what was gathered before was written
pub gathers_unwritten : {T E : Type 0} (e : E) (a b : Option (List ℕ)) (before now text : List ℕ) → Writes {T = T} (Err e) a b before → Gathers {T = T} (Err e) a b before now text
gathers_unwritten e a b before now text p = record { ok = tt; err = part_before a b before text p.err }

pub gathers_both : (a b d : Option (List ℕ)) (k l m xs ys : List ℕ) → GathersAll a b k l xs → GathersAll b d l m ys → GathersAll a d k m (xs ++ ys)
gathers_both a b d k l m xs ys p q = record {
  gone = p.gone ++ q.gone;
  split = sym (append_assoc k xs ys) ∙ ap (λ z. z ++ ys) p.split ∙ append_assoc p.gone l ys ∙ ap (λ z. p.gone ++ z) q.split ∙ sym (append_assoc p.gone q.gone m);
  written = Appends-trans a b d p.gone q.gone p.written q.written;
}

part_split : (a b : Option (List ℕ)) (xs ys : List ℕ) → xs ≡ ys → AppendsPart a b xs → AppendsPart a b ys
part_split a b xs ys e p = rw (← e) p

-- a text that was gathered whole, and one after it
pub gathers_then : {T U E : Type 0} (x : U) (r : Result T E) (a b d : Option (List ℕ)) (k l m xs ys : List ℕ) → Gathers {E = E} (Ok x) a b k l xs → Gathers r b d l m ys → Gathers r a d k m (xs ++ ys)
gathers_then x (Ok y) a b d k l m xs ys p q = record { ok = gathers_both a b d k l m xs ys p.ok q.ok; err = tt }
gathers_then x (Err e) a b d k l m xs ys p q = record {
  ok = tt;
  err = part_split a d (p.ok.gone ++ (l ++ ys)) (k ++ (xs ++ ys))
      (sym (append_assoc p.ok.gone l ys) ∙ ap (λ z. z ++ ys) (sym p.ok.split) ∙ append_assoc k xs ys)
      (part_after a b d p.ok.gone (l ++ ys) p.ok.written q.err);
}

-- a fault in the first bytes is one in all
pub gathers_part : {T E : Type 0} (e : E) (a b : Option (List ℕ)) (k l m xs ys : List ℕ) → Gathers {T = T} (Err e) a b k l xs → Gathers {T = T} (Err e) a b k m (xs ++ ys)
gathers_part e a b k l m xs ys p = record { ok = tt; err = part_split a b ((k ++ xs) ++ ys) (k ++ (xs ++ ys)) (append_assoc k xs ys) (part_before a b (k ++ xs) ys p.err) }

-- the same bytes, said in another way
pub gathers_same : {T E : Type 0} (r : Result T E) (a b : Option (List ℕ)) (k l xs ys : List ℕ) → Gathers r a b k l xs → xs ≡ ys → Gathers r a b k l ys
gathers_same r a b k l xs ys p e = rw (← e) p

-- a text that was gathered from none on, and what is left of it
pub writes_gathered : {T U E : Type 0} (x : U) (r : Result T E) (a b d : Option (List ℕ)) (now text : List ℕ) → Gathers {E = E} (Ok x) a b [] now text → Writes r b d now → Writes r a d text
writes_gathered x (Ok y) a b d now text p q = record { ok = rw p.ok.split (Appends-trans a b d p.ok.gone now p.ok.written q.ok); err = tt }
writes_gathered x (Err e) a b d now text p q = record { ok = tt; err = part_split a d (p.ok.gone ++ now) text (sym p.ok.split) (part_after a b d p.ok.gone now p.ok.written q.err) }

pub writes_ungathered : {T E : Type 0} (e : E) (a b : Option (List ℕ)) (now text : List ℕ) → Gathers {T = T} (Err e) a b [] now text → Writes {T = T} (Err e) a b text
writes_ungathered e a b now text p = record { ok = tt; err = p.err }

text_with_is : (front : List ℕ) (parts : List Part) → text_with front parts ≡ front ++ flat_map part_text parts
text_with_is front [] = sym (append-nil front)
text_with_is front (part ∷ parts) = text_with_is (front ++ part_text part) parts ∙ append_assoc front (part_text part) (flat_map part_text parts)

-- one more part
pub parts_more : (parts : List Part) (part : Part) → parts_text (parts ++ part ∷ []) ≡ parts_text parts ++ part_text part
parts_more parts part =
    text_with_is [] (parts ++ part ∷ []) ∙ flat_map-append part_text parts (part ∷ []) ∙ ap (λ l. flat_map part_text parts ++ l) (append-nil (part_text part))
    ∙ ap (λ l. l ++ part_text part) (sym (text_with_is [] parts))

-- the parts up to one were gathered
pub parts_to : {T E : Type 0} (y : T) (a b d : Option (List ℕ)) (k l m : List ℕ) (parts : List Part) (i : ℕ) (n : Part) → i < length parts
    → GathersAll a b k l (parts_text (take i parts)) → Gathers {E = E} (Ok y) b d l m (part_text (get_or parts i n)) → GathersAll a d k m (parts_text (take (i + 1) parts))
parts_to y a b d k l m parts i n h whole part =
    rw (take_more parts i n h, parts_more (take i parts) (get_or parts i n)) (gathers_both a b d k l m _ _ whole part.ok)

parts_split : (parts : List Part) (i : ℕ) (d : Part) → i < length parts → parts_text parts ≡ (parts_text (take i parts) ++ part_text (get_or parts i d)) ++ flat_map part_text (drop (i + 1) parts)
parts_split parts i d h =
    ap parts_text (sym (take-append-drop (i + 1) parts))
    ∙ text_with_is [] (take (i + 1) parts ++ drop (i + 1) parts)
    ∙ flat_map-append part_text (take (i + 1) parts) (drop (i + 1) parts)
    ∙ ap (λ l. l ++ flat_map part_text (drop (i + 1) parts)) (sym (text_with_is [] (take (i + 1) parts)) ∙ ap parts_text (take_more parts i d h) ∙ parts_more (take i parts) (get_or parts i d))

-- the parts before one were gathered whole, and then a part of this one
pub part_at : {T E : Type 0} (e : E) (a b d : Option (List ℕ)) (k l m : List ℕ) (parts : List Part) (i : ℕ) (n : Part) → i < length parts
    → GathersAll a b k l (parts_text (take i parts)) → Gathers {T = T} (Err e) b d l m (part_text (get_or parts i n)) → Gathers {T = T} (Err e) a d k m (parts_text parts)
part_at {T = T} {E = E} e a b d k l m parts i n h whole part =
    gathers_same (Err e) a d k m _ _
    (gathers_part {T = T} e a d k m m _ (flat_map part_text (drop (i + 1) parts)) (gathers_then {T = T} {U = Unit {0}} {E = E} tt (Err e) a b d k l m _ _ (record { ok = whole; err = tt }) part))
    (sym (parts_split parts i n h))
