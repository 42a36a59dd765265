-- Why a request is not read.
use Rattle.std.proofs.Common.{◌≡◌, ◌≢◌, ℕ, suc, ◌+◌, ◌<◌, ◌≤◌, inl, inr, Bool, true, false, cond, eqb, List, [], ◌∷◌, ◌++◌, All, length, take, drop, Option, Some, None, IfSome, Result, Ok, Err, OnErr, refl, sym, ap, subst, ◌∙◌, arith, append_assoc, length-append, length-take-le, take-append-drop}
use Rattle.std.specs.Io.{StartsWith}
use Rattle.std.specs.Io.KnownBytes.{Keeps}
use Rattle.std.proofs.BufReadLemmas.{take_through-append}
use Rattle.std.specs.Io.BufRead.{take_through, drop_through}
use Rattle.session_lines.specs.declared.request.Request.{Request}
use Rattle.session_lines.specs.declared.request.LineFault.{LineFault}
use Rattle.session_lines.specs.declared.request.LineFault.TheVariants.{Eof, Read, TooLong, Syntax, File, NoMemory}
use Rattle.session_lines.specs.declared.text.Text.{Text}
use Rattle.session_lines.specs.Cause.{HasCause, IsLonger, size_of, lines_after, IsPast, IsReadGivenUp}
use Rattle.session_lines.specs.Known.{Goes}
use Rattle.session_lines.specs.Script.{TextData, Item, onto, lines_of, after, first_or, first}
use Rattle.session_lines.proofs.ReadLemmas.{lines-step, GoesOn, InText}
use Rattle.session_lines.proofs.FeedLemmas.{IsFeed}
use Rattle.session_lines.proofs.ScanLemmas.{InLine, Scans}

-- ---- how many bytes lines have

size-onto : (x : ℕ) (lines : List (List ℕ)) → size_of (onto x lines) ≡ suc (size_of lines)
size-onto x [] = refl
size-onto x (line ∷ lines) = omega arith

size-lines : (xs : List ℕ) → size_of (lines_of xs) ≡ length xs
size-lines [] = refl
size-lines (x ∷ xs) = go (eqb x 10) (size-lines xs)
  where
    go : (b : Bool) → size_of (lines_of xs) ≡ length xs → size_of (cond b ((x ∷ []) ∷ lines_of xs) (onto x (lines_of xs))) ≡ suc (length xs)
    go true h = omega (arith, h)
    go false h = size-onto x (lines_of xs) ∙ ap suc h

-- ---- the first request has the first line at least

abbrev Within : List (List ℕ) → Type 0
Within lines = (text : Option TextData) → size_of (lines_after (first text lines)) ≤ size_of lines

fewer-after : (text : Option TextData) (line : List ℕ) (lines : List (List ℕ)) → Within lines → size_of (lines_after (first text (line ∷ lines))) ≤ size_of lines
fewer-after text line lines h = go (after text line).whole (after text line).text
  where
    go : (whole : Option Item) (now : Option TextData) → size_of (lines_after (first_or whole lines (first now lines))) ≤ size_of lines
    go None now = h now
    go (Some item) now = omega arith

within : (lines : List (List ℕ)) → Within lines
within [] None = omega arith
within [] (Some text) = omega arith
within (line ∷ lines) text = let h = fewer-after text line lines (within lines) in omega (arith, h)

-- bytes whose first line is too long for what is left
past : (text now : Option TextData) (most left : ℕ) (xs ys : List ℕ) → first text (lines_of xs) ≡ first now (lines_of ys) → length xs + left ≡ length ys + most → IsLonger left ys → IsPast most text (lines_of xs)
past text now most left xs [] same paid long = absurd (omega (arith, long))
past text now most left xs (y ∷ ys) same paid long =
    let rest = drop_through 10 (y ∷ ys) in
    let all : length (take_through 10 (y ∷ ys)) + size_of (lines_of rest) ≡ length (y ∷ ys) = sym (ap size_of (lines-step y ys)) ∙ size-lines (y ∷ ys) in
    let few : size_of (lines_after (first now (take_through 10 (y ∷ ys) ∷ lines_of rest))) ≤ size_of (lines_of rest) = fewer-after now (take_through 10 (y ∷ ys)) (lines_of rest) (within (lines_of rest)) in
    let is : size_of (lines_after (first text (lines_of xs))) ≡ size_of (lines_after (first now (take_through 10 (y ∷ ys) ∷ lines_of rest))) = ap (λ f. size_of (lines_after f)) (same ∙ ap (first now) (lines-step y ys)) in
    let bytes = size-lines xs in
    omega (arith, all, few, is, paid, long, bytes)

-- ---- a cause is one of all bytes before

pub on_err : {T E : Type 0} (P : Type 0) (result : Result T E) → P → OnErr result P
on_err P (Ok x) p = tt
on_err P (Err e) p = p

pub cause_before : (Failed : Type 0) (a b : Option (List ℕ)) (P : List ℕ → List ℕ → Type 0) (Q R : List ℕ → Type 0) → ((xs ys : List ℕ) → P xs ys → Q ys → R xs) → Goes a b P → HasCause Failed b Q → HasCause Failed a R
cause_before Failed a b P Q R f p (inl h) = inl h
cause_before Failed None b P Q R f p (inr q) = inr tt
cause_before Failed (Some xs) (Some ys) P Q R f p (inr q) = inr (f xs ys p q)
cause_before Failed (Some xs) None P Q R f p (inr q) = absurd p

-- bytes that are too many, after those of their line
longer : (before left : ℕ) (raw xs ys : List ℕ) → length raw + left ≡ before → InLine raw xs ys → IsLonger left ys → IsLonger before xs
longer before left raw xs ys paid line long =
    let all : length (take_through 10 xs) ≡ length raw + length (take_through 10 ys) = ap length line.through ∙ length-append raw (take_through 10 ys) in
    omega (arith, all, paid, long)

pub longer_line : (Failed : Type 0) (before left : ℕ) (raw : List ℕ) (a b : Option (List ℕ)) → length raw + left ≡ before → Scans raw a b → HasCause Failed b (IsLonger left) → HasCause Failed a (IsLonger before)
longer_line Failed before left raw a b paid = cause_before Failed a b (InLine raw) _ _ (λ xs ys. longer before left raw xs ys paid)

-- bytes that are shown, and are too many
pub shown_long : (Failed : Type 0) (a : Option (List ℕ)) (left size : ℕ) (shown : List ℕ) → IfSome a (λ xs. StartsWith xs shown) → ((zs : List ℕ) → size ≤ length (take_through 10 (shown ++ zs))) → left < size → HasCause Failed a (IsLonger left)
shown_long Failed None left size shown front long less = inr tt
shown_long Failed (Some xs) left size shown front long less =
    let parts : xs ≡ shown ++ drop (length shown) xs = sym (take-append-drop (length shown) xs) ∙ ap (λ t. t ++ drop (length shown) xs) front in
    let more = long (drop (length shown) xs) in
    let same : length (take_through 10 xs) ≡ length (take_through 10 (shown ++ drop (length shown) xs)) = ap (λ l. length (take_through 10 l)) parts in
    inr (omega (arith, more, same, less))

pub long_inside : (shown zs : List ℕ) → All (λ x. x ≢ 10) shown → length shown ≤ length (take_through 10 (shown ++ zs))
long_inside shown zs none =
    let e : length (take_through 10 (shown ++ zs)) ≡ length shown + length (take_through 10 zs) = ap length (take_through-append 10 shown zs none) ∙ length-append shown (take_through 10 zs) in
    omega (arith, e)

pub long_last : (shown : List ℕ) (place : ℕ) (zs : List ℕ) → IsFeed shown place → place + 1 ≤ length (take_through 10 (shown ++ zs))
long_last shown place zs is =
    let rest = drop (place + 1) shown ++ zs in
    let parts : shown ++ zs ≡ take place shown ++ (10 ∷ rest) =
    ap (λ l. l ++ zs) (sym (take-append-drop (place + 1) shown)) ∙ append_assoc (take (place + 1) shown) (drop (place + 1) shown) zs ∙ ap (λ l. l ++ rest) is.feed ∙ append_assoc (take place shown) (10 ∷ []) rest in
    let e : length (take_through 10 (shown ++ zs)) ≡ length (take place shown) + 1 =
    ap (λ l. length (take_through 10 l)) parts ∙ ap length (take_through-append 10 (take place shown) (10 ∷ rest) is.before) ∙ length-append (take place shown) (10 ∷ []) in
    let long : length (take place shown) ≡ place = length-take-le place shown (omega (arith, is.inside)) in
    omega (arith, e, long)

pub cause_kept : (Failed : Type 0) (a b : Option (List ℕ)) (P : List ℕ → Type 0) → Keeps a b → HasCause Failed b P → HasCause Failed a P
cause_kept Failed a b P k (inl h) = inl h
cause_kept Failed None b P k (inr p) = inr tt
cause_kept Failed (Some xs) None P k (inr p) = absurd k
cause_kept Failed (Some xs) (Some ys) P k (inr p) = inr (subst P k p)

pub past_between : (Failed : Type 0) (now : Option TextData) (most left : ℕ) (a b : Option (List ℕ)) → Goes a b (GoesOn now most left) → HasCause Failed b (IsLonger left) → HasCause Failed a (λ xs. IsPast most None (lines_of xs))
past_between Failed now most left a b = cause_before Failed a b (GoesOn now most left) _ _ (λ xs ys p. past None now most left xs ys p.same p.paid)

pub past_in_text : (Failed : Type 0) (text : Option TextData) (kept : Text) (most left : ℕ) (a b : Option (List ℕ)) → Goes a b (InText text kept most left) → HasCause Failed b (IsLonger left) → HasCause Failed a (λ xs. IsPast most text (lines_of xs))
past_in_text Failed text kept most left a b = cause_before Failed a b (InText text kept most left) _ _ (λ xs ys p. past text (Some p.said) most left xs ys p.same p.paid)

-- ---- answers

pub not_given_up : (most : ℕ) (text : Option TextData) (Failed : Type 0) (old : Option (List ℕ)) (answer : Result Request LineFault) → answer ≢ Err Read → IsReadGivenUp most text Failed old answer
not_given_up most text Failed old (Ok request) h = tt
not_given_up most text Failed old (Err Eof) h = tt
not_given_up most text Failed old (Err Read) h = absurd (h refl)
not_given_up most text Failed old (Err (TooLong who)) h = tt
not_given_up most text Failed old (Err (Syntax who)) h = tt
not_given_up most text Failed old (Err (File who f)) h = tt
not_given_up most text Failed old (Err (NoMemory who)) h = tt

past-head : (text : Option TextData) (most left : ℕ) (xs ys : List ℕ) → GoesOn text most left xs ys → IsPast left text (lines_of ys) → IsPast most None (lines_of xs)
past-head text most left xs ys p q =
    let is : size_of (lines_after (first None (lines_of xs))) ≡ size_of (lines_after (first text (lines_of ys))) = ap (λ f. size_of (lines_after f)) p.same in
    let before = size-lines xs in
    let after = size-lines ys in
    omega (arith, is, p.paid, q, before, after)

-- a submit is given up with its text
pub head_given_up : (Failed : Type 0) (text : Option TextData) (most left : ℕ) (a b : Option (List ℕ)) (answer : Result Request LineFault) → Goes a b (GoesOn text most left) → IsReadGivenUp left text Failed b answer → IsReadGivenUp most None Failed a answer
head_given_up Failed text most left a b (Ok request) p q = tt
head_given_up Failed text most left a b (Err Eof) p q = tt
head_given_up Failed text most left a b (Err Read) p q = cause_before Failed a b (GoesOn text most left) _ _ (past-head text most left) p q
head_given_up Failed text most left a b (Err (TooLong who)) p q = tt
head_given_up Failed text most left a b (Err (Syntax who)) p q = tt
head_given_up Failed text most left a b (Err (File who f)) p q = tt
head_given_up Failed text most left a b (Err (NoMemory who)) p q = tt
