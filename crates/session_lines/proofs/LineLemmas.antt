-- A line that is read byte by byte, and what its first bytes tell.
use Rattle.std.proofs.Common.{◌≡◌, ℕ, zero, suc, ◌-◌, ◌<◌, Bool, true, false, cond, not, ◌&&◌, ◌||◌, ◌==◌, nat_lt, List, [], ◌∷◌, ◌++◌, ◌≢◌, length, take, refl, sym, ap, ◌∙◌, arith, take_all, append-nil, append_assoc, ne_eqb}
use Rattle.std.proofs.lemmas.Bool.{eqb-true, lt-ltb}
use Rattle.std.proofs.lemmas.List.{length_push}
use Rattle.std.proofs.lemmas.List.Folds.{list_all-append}
use Rattle.std.proofs.lemmas.List.Elements.{All-nil, All-push}
use Rattle.std.proofs.Math.Seq.{take-append_seam, get_or-append_seam}
use Rattle.std.specs.List.{list_all}
use Rattle.std.specs.Io.BufRead.{strip_last, ends_with_byte}
use Rattle.psplib_mm.specs.Text.{is_blank}
use Rattle.session_lines.specs.Taken.{Reads, IsFront, Extends}
use Rattle.session_lines.specs.declared.bytes.GatheredLine.{GatheredLine}

-- ---- the first bytes

pub keep_room : (n : ℕ) (l : List ℕ) (x : ℕ) → length l < n → l ++ x ∷ [] ≡ take n (l ++ x ∷ [])
keep_room n l x h = sym (take_all n (l ++ x ∷ []) (simp length_push (omega arith)))

pub keep_full : (n : ℕ) (l : List ℕ) (x : ℕ) → length l ≡ n → l ≡ take n (l ++ x ∷ [])
keep_full n l x h = sym (ap (λ k. take k (l ++ x ∷ [])) (sym h) ∙ take-append_seam l (x ∷ []))

pub take_kept : (n : ℕ) (raw : List ℕ) (x : ℕ) → take n (take n raw ++ x ∷ []) ≡ take n (raw ++ x ∷ [])
take_kept zero raw x = refl
take_kept (suc n) [] x = refl
take_kept (suc n) (y ∷ ys) x = ap (λ l. y ∷ l) (take_kept n ys x)

-- ---- the last byte

length_front : (raw : List ℕ) (b : ℕ) → length (raw ++ b ∷ []) - 1 ≡ length raw
length_front raw b = simp length_push (omega arith)

ends-push : (c : ℕ) (raw : List ℕ) (b : ℕ) → ends_with_byte c (raw ++ b ∷ []) ≡ (b == c)
ends-push c raw b =
    let some : nat_lt 0 (length (raw ++ b ∷ [])) ≡ true = lt-ltb 0 (length (raw ++ b ∷ [])) (simp length_push (omega arith)) in
    rw (some, length_front raw b, get_or-append_seam raw b [] 0) refl

strip-push : (c : ℕ) (raw : List ℕ) (b : ℕ) → strip_last c (raw ++ b ∷ []) ≡ cond (b == c) raw (raw ++ b ∷ [])
strip-push c raw b =
    ap (λ t. cond t (take (length (raw ++ b ∷ []) - 1) (raw ++ b ∷ [])) (raw ++ b ∷ [])) (ends-push c raw b)
    ∙ ap (λ l. cond (b == c) l (raw ++ b ∷ [])) (ap (λ n. take n (raw ++ b ∷ [])) (length_front raw b) ∙ take-append_seam raw (b ∷ []))

strip-other : (c : ℕ) (raw : List ℕ) → ends_with_byte c raw ≡ false → strip_last c raw ≡ raw
strip-other c raw h = rw h refl

-- ---- a line so far

pub Reads-start : Reads [] true false []
Reads-start = record { front = refl; blanks = refl; wordless = refl; inside = refl }

and_true : (p : Bool) → (p && true) ≡ p
and_true true = refl
and_true false = refl

all-push : (raw : List ℕ) (b : ℕ) → list_all is_blank (raw ++ b ∷ []) ≡ (list_all is_blank raw && is_blank b)
all-push raw b = list_all-append is_blank raw (b ∷ []) ∙ ap (λ t. list_all is_blank raw && t) (and_true (is_blank b))

return_is_no_blank : (b : ℕ) → (b == 13) ≡ true → is_blank b ≡ false
return_is_no_blank b h = let e : b ≡ 13 = eqb-true b 13 h in rw e refl

and_false : (p : Bool) → (p && false) ≡ false
and_false true = refl
and_false false = refl

blanks-push : (t p w : Bool) → (t ≡ true → w ≡ false) → (p && w) ≡ ((p && (t || w)) && not t)
blanks-push true p w h = rw (h refl) (and_false p ∙ sym (and_false (p && true)))
blanks-push false p w h = sym (and_true (p && w))

wordless-push : (t p w : Bool) (raw more : List ℕ) → list_all is_blank raw ≡ p → list_all is_blank more ≡ (p && w) → (p && (t || w)) ≡ list_all is_blank (cond t raw more)
wordless-push true p w raw more h k = and_true p ∙ sym h
wordless-push false p w raw more h k = sym k

pub Reads-push : (kept : List ℕ) (blank returns : Bool) (raw : List ℕ) (b : ℕ) → (b == 10) ≡ false → Reads kept blank returns raw
    → Reads (take 4099 (kept ++ b ∷ [])) ((blank && not returns) && ((b == 13) || is_blank b)) (b == 13) (raw ++ b ∷ [])
Reads-push kept blank returns raw b other r =
    let all : list_all is_blank (raw ++ b ∷ []) ≡ ((blank && not returns) && is_blank b) = all-push raw b ∙ ap (λ t. t && is_blank b) r.blanks in
    record {
      front = ap (λ l. take 4099 (l ++ b ∷ [])) r.front ∙ take_kept 4099 raw b;
      blanks = all ∙ blanks-push (b == 13) (blank && not returns) (is_blank b) (return_is_no_blank b);
      wordless = wordless-push (b == 13) (blank && not returns) (is_blank b) raw (raw ++ b ∷ []) r.blanks all ∙ ap (list_all is_blank) (sym (strip-push 13 raw b));
      inside = ends-push 10 raw b ∙ other;
    }

-- ---- a line that has come to its end

-- by a line feed
pub Reads-feed : (kept : List ℕ) (blank returns : Bool) (raw : List ℕ) → Reads kept blank returns raw
    → IsFront (take 4099 (kept ++ 10 ∷ [])) blank (raw ++ 10 ∷ [])
Reads-feed kept blank returns raw r = record {
  front = ap (λ l. take 4099 (l ++ 10 ∷ [])) r.front ∙ take_kept 4099 raw 10;
  wordless = r.wordless ∙ ap (λ l. list_all is_blank (strip_last 13 l)) (sym (strip-push 10 raw 10));
}

-- by the end of the input
pub Reads-end : (kept : List ℕ) (blank returns : Bool) (raw : List ℕ) → Reads kept blank returns raw → IsFront kept blank raw
Reads-end kept blank returns raw r = record { front = r.front; wordless = r.wordless ∙ ap (λ l. list_all is_blank (strip_last 13 l)) (sym (strip-other 10 raw r.inside)) }

-- ---- bytes that are added

pub Extends-start : (line : GatheredLine) → Extends [] line line
Extends-start line = record { inside = All-nil (λ x. x ≢ 10); reads = λ raw r. rw (append-nil raw) r }

pub Extends-more : (bytes : List ℕ) (b : ℕ) (old mid new : GatheredLine) → b ≢ 10 → Extends bytes old mid
    → new.kept.items ≡ take 4099 (mid.kept.items ++ b ∷ []) → new.is_blank ≡ ((mid.is_blank && not mid.returns) && ((b == 13) || is_blank b)) → new.returns ≡ (b == 13)
    → Extends (bytes ++ b ∷ []) old new
Extends-more bytes b old mid new other e kept blank returns = record {
  inside = All-push (λ x. x ≢ 10) bytes b e.inside other;
  reads = λ raw r. rw (← append_assoc raw bytes (b ∷ []), kept, blank, returns) (Reads-push _ _ _ (raw ++ bytes) b (ne_eqb b 10 other) (e.reads raw r));
}
