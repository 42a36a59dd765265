-- Clauses stay as they are if words are appended, and if a place is written.
use Rattle.std.proofs.Common.{◌≡◌, ℕ, ◌≤◌, ◌-◌, true, false, cond, nat_lt, List, [], ◌∷◌, ◌++◌, length, length-append, map, refl, set, drop, All, Option, Some, None, arith, ap, slice_range}
use Rattle.std.proofs.lemmas.List.{map-set, map-append, length-map, length-drop, drop-append-le, take-append-le}
use Rattle.std.proofs.lemmas.List.Elements.{All-head, All-tail, All-cons, All-nil, All-append, All-set}
use Rattle.std.proofs.Math.Seq.{drop-append_seam, take-length}
use Rattle.clause_kernel.specs.Arena.{literals_of, IsWithin}
use Rattle.clause_kernel.specs.Kernel.{put_at}
use Rattle.clause_kernel.specs.declared.store.Span.{Span}

pub range-more : (words more : List ℕ) (a b : ℕ) → a ≤ b → b ≤ length words → slice_range (words ++ more) a b ≡ slice_range words a b
range-more words more a b l h = rw (drop-append-le a words more (omega arith), take-append-le (b - a) (drop a words) more (omega (arith, length-drop a words))) refl

literals-more : (words more : List ℕ) (place : Option Span) → IsWithin words place → literals_of (words ++ more) place ≡ literals_of words place
literals-more words more None h = refl
literals-more words more (Some span) h = ap Some (range-more words more span.start span.end h.0 h.1)

pub clauses-more : (words more : List ℕ) (places : List (Option Span)) → All (IsWithin words) places → map (literals_of (words ++ more)) places ≡ map (literals_of words) places
clauses-more words more [] h = refl
clauses-more words more (p ∷ ps) h = rw (literals-more words more p (All-head (IsWithin words) p ps h), clauses-more words more ps (All-tail (IsWithin words) p ps h)) refl

within-more : (words more : List ℕ) (place : Option Span) → IsWithin words place → IsWithin (words ++ more) place
within-more words more None h = tt
within-more words more (Some span) h = (h.0, omega (arith, length-append words more))

pub all_within-more : (words more : List ℕ) (places : List (Option Span)) → All (IsWithin words) places → All (IsWithin (words ++ more)) places
all_within-more words more [] h = All-nil (IsWithin (words ++ more))
all_within-more words more (p ∷ ps) h = All-cons (IsWithin (words ++ more)) p ps (within-more words more p (All-head (IsWithin words) p ps h)) (all_within-more words more ps (All-tail (IsWithin words) p ps h))

map-put_at : {X Y : Type 0} (f : X → Y) (xs : List X) (n : ℕ) (x : X) → map f (put_at xs n x) ≡ put_at (map f xs) n (f x)
map-put_at f xs n x =
    rw (length-map xs f) (elim (nat_lt n (length xs)) as (λ b. map f (cond b (set xs n x) (xs ++ x ∷ [])) ≡ cond b (set (map f xs) n (f x)) (map f xs ++ f x ∷ [])) [ true ↦ map-set f xs n x | false ↦ map-append f xs (x ∷ []) ])

pub new-range : (words clause : List ℕ) (b : ℕ) → b ≡ length (words ++ clause) → slice_range (words ++ clause) (length words) b ≡ clause
new-range words clause b e =
    let long : b - length words ≡ length clause = omega (arith, e, length-append words clause) in
    rw (drop-append_seam words clause, long) (take-length clause)

pub put_at-kept : (words clause : List ℕ) (places : List (Option Span)) (n : ℕ) (span : Span) → All (IsWithin words) places → span.start ≡ length words → span.end ≡ length (words ++ clause) → map (literals_of (words ++ clause)) (put_at places n (Some span)) ≡ put_at (map (literals_of words) places) n (Some clause)
put_at-kept words clause places n span within s e =
    let here : literals_of (words ++ clause) (Some span) ≡ Some clause = rw s (ap Some (new-range words clause span.end e)) in
    rw (map-put_at (literals_of (words ++ clause)) places n (Some span), here, clauses-more words clause places within) refl

pub all_within-put_at : (words : List ℕ) (places : List (Option Span)) (n : ℕ) (place : Option Span) → IsWithin words place → All (IsWithin words) places → All (IsWithin words) (put_at places n place)
all_within-put_at words places n place here within =
    elim (nat_lt n (length places)) as (λ b. All (IsWithin words) (cond b (set places n place) (places ++ place ∷ []))) [
      | true ↦ All-set (IsWithin words) places n place here within
      | false ↦ All-append (IsWithin words) places (place ∷ []) within (All-cons (IsWithin words) place [] here (All-nil (IsWithin words)))
    ]

pub removed : (words : List ℕ) (places : List (Option Span)) (n : ℕ) → map (literals_of words) (set places n None) ≡ set (map (literals_of words) places) n None
removed words places n = map-set (literals_of words) places n None

pub all_within-removed : (words : List ℕ) (places : List (Option Span)) (n : ℕ) → All (IsWithin words) places → All (IsWithin words) (set places n None)
all_within-removed words places n h = All-set (IsWithin words) places n None tt h

pub append-kept : (words clause : List ℕ) (places : List (Option Span)) (span : Span) → All (IsWithin words) places → span.start ≡ length words → span.end ≡ length (words ++ clause) → map (literals_of (words ++ clause)) (places ++ Some span ∷ []) ≡ map (literals_of words) places ++ Some clause ∷ []
append-kept words clause places span within s e =
    let here : literals_of (words ++ clause) (Some span) ≡ Some clause = rw s (ap Some (new-range words clause span.end e)) in
    rw (map-append (literals_of (words ++ clause)) places (Some span ∷ []), here, clauses-more words clause places within) refl

pub append-none : (words : List ℕ) (places : List (Option Span)) → map (literals_of words) (places ++ None ∷ []) ≡ map (literals_of words) places ++ None ∷ []
append-none words places = map-append (literals_of words) places (None ∷ [])

pub all_within-append : (words : List ℕ) (places : List (Option Span)) (place : Option Span) → IsWithin words place → All (IsWithin words) places → All (IsWithin words) (places ++ place ∷ [])
all_within-append words places place here within = All-append (IsWithin words) places (place ∷ []) within (All-cons (IsWithin words) place [] here (All-nil (IsWithin words)))

pub ruleset append_rules = (append-kept, append-none, all_within-append, all_within-more, clauses-more)

pub ruleset store_rules = (clauses-more, all_within-more, put_at-kept, all_within-put_at)

pub ruleset remove_rules = (removed, all_within-removed)
