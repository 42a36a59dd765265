-- A reader in the middle of a request.
use Rattle.std.proofs.Common.{◌≡◌, ℕ, ◌+◌, ◌-◌, ◌<◌, ◌≤◌, Bool, true, false, cond, ◌||◌, ◌==◌, eqb, List, [], ◌∷◌, ◌++◌, length, take, Option, Some, None, Result, Ok, Err, refl, sym, ap, ◌∙◌, arith, inl, inr, take_all, length-take}
use Rattle.std.proofs.lemmas.Bool.{cases_lt, lt-ltb, false≢true}
use Rattle.std.specs.Io.BufRead.{strip_last, ends_with_byte, take_through, drop_through}
use Rattle.session_lines.specs.declared.request.Request.{Request}
use Rattle.session_lines.specs.declared.request.LineFault.{LineFault}
use Rattle.session_lines.specs.declared.request.LineFault.TheVariants.{Eof, Read, TooLong, Syntax, File, NoMemory}
use Rattle.session_lines.specs.declared.line.SubmitLine.{SubmitLine}
use Rattle.session_lines.specs.declared.line.LineMeaning.{LineMeaning}
use Rattle.session_lines.specs.declared.line.LineMeaning.TheVariants.{Blank, Whole, Opens, Long, Bad}
use Rattle.session_lines.specs.declared.text.Text.{Text}
use Rattle.session_lines.specs.Known.{Goes}
use Rattle.session_lines.specs.Script.{lines_of, onto, shown, is_long, is_wordless, judged, TextData, opened_text, with_line, whole_text, cut_text, Found, found, plain, After, outside_text, first_or, first, IsAnswerFor, Cuts, Takes}
use Rattle.session_lines.specs.Taken.{IsFront, TakesLine, TakesNone, judged_by, IsText, Adds}
use Rattle.session_lines.proofs.ScanLemmas.{Goes-map, Goes-trans}

-- ---- what the first bytes of a line tell

length-strip : (c : ℕ) (line : List ℕ) → length line ≤ length (strip_last c line) + 1
length-strip c line = elim (ends_with_byte c line) as (λ b. length line ≤ length (cond b (take (length line - 1) line) line) + 1) [ true ↦ simp length-take (omega arith) | false ↦ omega arith ]

length-shown : (line : List ℕ) → length line ≤ length (shown line) + 2
length-shown line = let a = length-strip 10 line in let b = length-strip 13 (strip_last 10 line) in omega arith

long_far : (line : List ℕ) → 4098 < length line → is_long line ≡ true
long_far line h = let t = length-shown line in lt-ltb _ _ (omega arith)

-- whether a line is long is seen in its first bytes, and one that is not is all there
pub kept-cases : {C : Type 0} (raw : List ℕ) → ((is_long (take 4099 raw) ≡ true) → (is_long raw ≡ true) → C) → (take 4099 raw ≡ raw → C) → C
kept-cases raw far near = elim (cases_lt 4099 (length raw)) [
  | inl h ↦ let kept : 4098 < length (take 4099 raw) = simp length-take (omega arith) in far (long_far (take 4099 raw) kept) (long_far raw (omega arith))
  | inr h ↦ near (take_all 4099 raw h)
]

judged-kept : (raw : List ℕ) → judged_by (take 4099 raw) (is_wordless raw) ≡ judged raw
judged-kept raw = kept-cases raw (λ p q. rw (p, q) refl) (λ e. ap (λ k. judged_by k (is_wordless raw)) e)

-- what a line means is what its first bytes tell
pub front_judged : (kept : List ℕ) (blank : Bool) (line : List ℕ) → IsFront kept blank line → judged_by kept blank ≡ judged line
front_judged kept blank line f = ap (λ k. judged_by k blank) f.front ∙ ap (judged_by (take 4099 line)) f.wordless ∙ judged-kept line

-- ---- a line, and those after it

pub lines-step : (x : ℕ) (xs : List ℕ) → lines_of (x ∷ xs) ≡ take_through 10 (x ∷ xs) ∷ lines_of (drop_through 10 (x ∷ xs))
lines-step x [] = elim (eqb x 10) as (λ b. cond b ((x ∷ []) ∷ []) ((x ∷ []) ∷ []) ≡ cond b (x ∷ []) (x ∷ []) ∷ lines_of (cond b [] [])) [ true ↦ refl | false ↦ refl ]
lines-step x (y ∷ ys) =
    let more = lines-step y ys in
    elim (eqb x 10) as (λ b. cond b ((x ∷ []) ∷ lines_of (y ∷ ys)) (onto x (lines_of (y ∷ ys))) ≡ cond b (x ∷ []) (x ∷ take_through 10 (y ∷ ys)) ∷ lines_of (cond b (y ∷ ys) (drop_through 10 (y ∷ ys)))) [ true ↦ refl | false ↦ ap (onto x) more ]

-- ---- between requests

-- the lines before those of ys were blank or begin this text, and the bytes between were paid
pub record GoesOn (now : Option TextData) (before after : ℕ) (xs ys : List ℕ) : Type 0 where
  pub same : first None (lines_of xs) ≡ first now (lines_of ys)
  pub paid : length xs + after ≡ length ys + before

pub GoesOn-start : (a : Option (List ℕ)) (n : ℕ) → Goes a a (GoesOn None n n)
GoesOn-start None n = tt
GoesOn-start (Some xs) n = record { same = refl; paid = refl }

-- the first request where a line before these means this
abbrev began : LineMeaning → List (List ℕ) → Option Found
began meaning lines = first_or (outside_text meaning).whole lines (first (outside_text meaning).text lines)

-- the lines before those of ys were blank, and then one line meant this
pub record Begins (meaning : LineMeaning) (before after : ℕ) (xs ys : List ℕ) : Type 0 where
  pub same : first None (lines_of xs) ≡ began meaning (lines_of ys)
  pub paid : length xs + after ≡ length ys + before

line-begins : (m : LineMeaning) (before after : ℕ) (xs ys : List ℕ) → TakesLine (λ line. m ≡ judged line) before after xs ys → first None (lines_of xs) ≡ began m (lines_of ys)
line-begins m before after [] ys t = absurd (omega (arith, t.some))
line-begins m before after (x ∷ xs) ys t =
    ap (first None) (lines-step x xs)
    ∙ ap (λ k. began k (lines_of (drop_through 10 (x ∷ xs)))) (sym t.line)
    ∙ ap (λ z. began m (lines_of z)) (sym t.rest)

pub after_line : (a b d : Option (List ℕ)) (m : LineMeaning) (before mid after : ℕ) → Goes a b (GoesOn None before mid) → Goes b d (TakesLine (λ line. m ≡ judged line) mid after) → Goes a d (Begins m before after)
after_line a b d m before mid after so_far line =
    Goes-trans a b d _ _ _ (λ xs ys zs p t. record {
      same = p.same ∙ line-begins m mid after ys zs t;
      paid = let q = t.paid in let r = p.paid in omega arith;
    }) so_far line

-- a blank line, and the line before a text
pub after_blank : (a d : Option (List ℕ)) (before after : ℕ) → Goes a d (Begins Blank before after) → Goes a d (GoesOn None before after)
after_blank a d before after = Goes-map a d _ _ (λ xs ys b. record { same = b.same; paid = b.paid })

pub after_head : (a d : Option (List ℕ)) (head : SubmitLine) (before after : ℕ) → Goes a d (Begins (Opens head) before after) → Goes a d (GoesOn (Some (opened_text head)) before after)
after_head a d head before after = Goes-map a d _ _ (λ xs ys b. record { same = b.same; paid = b.paid })

-- a line that is a request, or stands in place of one
pub after_whole : (a d : Option (List ℕ)) (request : Request) (before after : ℕ) → Goes a d (Begins (Whole request) before after) → Takes before None a d (Ok request)
after_whole a d request before after = Goes-map a d _ _ (λ xs ys b. let q = b.paid in record { item = plain (Ok request); cut = b.same; answers = refl; within = omega arith })

pub after_long : (a d : Option (List ℕ)) (before after : ℕ) → Goes a d (Begins Long before after) → Takes before None a d (Err (TooLong None))
after_long a d before after = Goes-map a d _ _ (λ xs ys b. let q = b.paid in record { item = plain (Err (TooLong None)); cut = b.same; answers = refl; within = omega arith })

pub after_bad : (a d : Option (List ℕ)) (who : Option (List ℕ)) (before after : ℕ) → Goes a d (Begins (Bad who) before after) → Takes before None a d (Err (Syntax who))
after_bad a d who before after = Goes-map a d _ _ (λ xs ys b. let q = b.paid in record { item = plain (Err (Syntax who)); cut = b.same; answers = refl; within = omega arith })

-- no line is left
pub after_all : (a b d : Option (List ℕ)) (before mid : ℕ) → Goes a b (GoesOn None before mid) → Goes b d TakesNone → Takes before None a d (Err Eof)
after_all a b d before mid so_far line =
    Goes-trans a b d _ _ _ (λ xs ys zs p t.
    let short : length ys ≡ 0 = ap length t.none in
    let q = p.paid in
    record { none = p.same ∙ ap (λ l. first None (lines_of l)) t.none; over = t.over; within = omega arith }) so_far line

-- ---- in a text

-- the lines before those of ys are in the text
pub record InText (text : Option TextData) (kept : Text) (before after : ℕ) (xs ys : List ℕ) : Type 0 where
  pub said : TextData
  pub is : IsText kept said
  pub same : first text (lines_of xs) ≡ first (Some said) (lines_of ys)
  pub paid : length xs + after ≡ length ys + before

pub InText-start : (a : Option (List ℕ)) (head : SubmitLine) (kept : Text) (n : ℕ) → IsText kept (opened_text head) → Goes a a (InText (Some (opened_text head)) kept n n)
InText-start None head kept n t = tt
InText-start (Some xs) head kept n t = record { said = opened_text head; is = t; same = refl; paid = refl }

-- a text with its newest line, where it is known whether that is its last one
abbrev pub grown : TextData → Bool → After
grown text is_last = cond is_last (record { text = None; whole = Some (whole_text text) }) (record { text = Some text; whole = None })

abbrev grown_before : TextData → List ℕ → Bool → Option Found
grown_before text ys is_last = first_or (grown text is_last).whole (lines_of ys) (first (grown text is_last).text (lines_of ys))

abbrev pub went_on : TextData → List ℕ → Option Found
went_on more ys = grown_before more ys (more.left == 0)

text-line : (said : TextData) (P : List ℕ → Type 0) (before after : ℕ) (xs ys : List ℕ) → TakesLine P before after xs ys → first (Some said) (lines_of xs) ≡ went_on (with_line said (take_through 10 xs)) ys
text-line said P before after [] ys t = absurd (omega (arith, t.some))
text-line said P before after (x ∷ xs) ys t =
    ap (first (Some said)) (lines-step x xs) ∙ ap (went_on (with_line said (take_through 10 (x ∷ xs)))) (sym t.rest)

long-kept : (raw : List ℕ) → is_long (take 4099 raw) ≡ is_long raw
long-kept raw = kept-cases raw (λ p q. p ∙ sym q) (λ e. ap is_long e)

or_true : (p : Bool) → (p || true) ≡ true
or_true true = refl
or_true false = refl

or_parts : (p q : Bool) → (p || q) ≡ false → p ≡ false
or_parts true q e = absurd (false≢true (sym e))
or_parts false q e = refl

IsText-more : (old new : Text) (said : TextData) (raw : List ℕ) → IsText old said → Adds old new raw → IsText new (with_line said raw)
IsText-more old new said raw t adds = record {
  head = adds.head ∙ t.head;
  left = adds.left ∙ ap (λ n. n - 1) t.left;
  long = adds.long ∙ ap (λ b. b || is_long raw) t.long;
  bytes = λ refused short. adds.bytes said.bytes (t.bytes (adds.refused refused) (or_parts old.is_long (is_long raw) (sym adds.long ∙ short))) refused short;
}

-- the first bytes of a line add what the line does
pub Adds-front : (old new : Text) (raw : List ℕ) → Adds old new (take 4099 raw) → Adds old new raw
Adds-front old new raw adds = record {
  head = adds.head;
  left = adds.left;
  long = adds.long ∙ ap (λ b. old.is_long || b) (long-kept raw);
  refused = adds.refused;
  bytes = λ whole so_far refused short. kept-cases raw
      (λ p q. absurd (false≢true (sym short ∙ adds.long ∙ ap (λ b. old.is_long || b) p ∙ or_true old.is_long)))
      (λ e. adds.bytes whole so_far refused short ∙ ap (λ l. take 1048577 (whole ++ l)) e);
}

-- the lines before those of ys are in the text, the last of them just now
pub record Added (text : Option TextData) (kept : Text) (before after : ℕ) (xs ys : List ℕ) : Type 0 where
  pub said : TextData
  pub is : IsText kept said
  pub same : first text (lines_of xs) ≡ went_on said ys
  pub paid : length xs + after ≡ length ys + before

pub after_add : (a b d : Option (List ℕ)) (text : Option TextData) (old new : Text) (before mid after : ℕ) → Goes a b (InText text old before mid) → Goes b d (TakesLine (Adds old new) mid after) → Goes a d (Added text new before after)
after_add a b d text old new before mid after so_far line =
    Goes-trans a b d _ _ _ (λ xs ys zs p t.
    let q = t.paid in
    let r = p.paid in
    record {
      said = with_line p.said (take_through 10 ys);
      is = IsText-more old new p.said (take_through 10 ys) p.is t.line;
      same = p.same ∙ text-line p.said (Adds old new) mid after ys zs t;
      paid = omega arith;
    }) so_far line

-- the text goes on
pub after_some : (a d : Option (List ℕ)) (text : Option TextData) (kept : Text) (before after : ℕ) → (kept.left == 0) ≡ false → Goes a d (Added text kept before after) → Goes a d (InText text kept before after)
after_some a d text kept before after more = Goes-map a d _ _ (λ xs ys p.
    let stays : (p.said.left == 0) ≡ false = ap (λ n. n == 0) (sym p.is.left) ∙ more in
    record { said = p.said; is = p.is; same = p.same ∙ ap (grown_before p.said ys) stays; paid = p.paid })

-- an answer that cuts is an answer
takes_cut : (most : ℕ) (text : Option TextData) (a d : Option (List ℕ)) (answer : Result Request LineFault) → Goes a d (λ xs ys. Cuts most (first text (lines_of xs)) answer xs ys) → Takes most text a d answer
takes_cut most text a d (Ok request) p = p
takes_cut most text a d (Err Eof) p = Goes-map a d _ _ (λ xs ys c. absurd c.answers) p
takes_cut most text a d (Err Read) p = tt
takes_cut most text a d (Err (TooLong who)) p = p
takes_cut most text a d (Err (Syntax who)) p = p
takes_cut most text a d (Err (File who f)) p = p
takes_cut most text a d (Err (NoMemory who)) p = p

-- the text is whole
pub after_text : (a d : Option (List ℕ)) (text : Option TextData) (kept : Text) (before after : ℕ) (answer : Result Request LineFault) → (kept.left == 0) ≡ true → ((said : TextData) → IsText kept said → IsAnswerFor (whole_text said) answer) → Goes a d (Added text kept before after) → Takes before text a d answer
after_text a d text kept before after answer none gives p = takes_cut before text a d answer (Goes-map a d _ _ (λ xs ys p.
    let ends : (p.said.left == 0) ≡ true = ap (λ n. n == 0) (sym p.is.left) ∙ none in
    let q = p.paid in
    record {
      item = whole_text p.said;
      cut = p.same ∙ ap (grown_before p.said ys) ends;
      answers = gives p.said p.is;
      within = omega arith;
    }) p)

-- the input's end cuts the text
pub after_cut : (a b d : Option (List ℕ)) (text : Option TextData) (old : Text) (before mid : ℕ) (answer : Result Request LineFault) → ((said : TextData) → IsText old said → IsAnswerFor (cut_text said) answer)
    → Goes a b (InText text old before mid) → Goes b d TakesNone → Takes before text a d answer
after_cut a b d text old before mid answer gives so_far line = takes_cut before text a d answer (Goes-trans a b d _ _ _ (λ xs ys zs p t.
    let short : length ys ≡ 0 = ap length t.none in
    let q = p.paid in
    record {
      item = cut_text p.said;
      cut = p.same ∙ ap (λ l. first (Some p.said) (lines_of l)) t.none ∙ ap (λ l. found (cut_text p.said) (lines_of l)) (sym t.over);
      answers = gives p.said p.is;
      within = omega arith;
    }) so_far line)

-- a submit is the line before its text, and the text
pub with_head : (a b d : Option (List ℕ)) (text : Option TextData) (most left : ℕ) (answer : Result Request LineFault) → Goes a b (GoesOn text most left) → Takes left text b d answer → Takes most None a d answer
with_head a b d text most left (Err Read) p q = tt
with_head a b d text most left (Err Eof) p q = Goes-trans a b d _ _ _ (λ xs ys zs p q. let r = p.paid in let w = q.within in record { none = p.same ∙ q.none; over = q.over; within = omega arith }) p q
with_head a b d text most left (Ok request) p q = Goes-trans a b d _ _ _ (λ xs ys zs p q. let r = p.paid in let w = q.within in record { item = q.item; cut = p.same ∙ q.cut; answers = q.answers; within = omega arith }) p q
with_head a b d text most left (Err (TooLong who)) p q = Goes-trans a b d _ _ _ (λ xs ys zs p q. let r = p.paid in let w = q.within in record { item = q.item; cut = p.same ∙ q.cut; answers = q.answers; within = omega arith }) p q
with_head a b d text most left (Err (Syntax who)) p q = Goes-trans a b d _ _ _ (λ xs ys zs p q. let r = p.paid in let w = q.within in record { item = q.item; cut = p.same ∙ q.cut; answers = q.answers; within = omega arith }) p q
with_head a b d text most left (Err (File who f)) p q = Goes-trans a b d _ _ _ (λ xs ys zs p q. let r = p.paid in let w = q.within in record { item = q.item; cut = p.same ∙ q.cut; answers = q.answers; within = omega arith }) p q
with_head a b d text most left (Err (NoMemory who)) p q = Goes-trans a b d _ _ _ (λ xs ys zs p q. let r = p.paid in let w = q.within in record { item = q.item; cut = p.same ∙ q.cut; answers = q.answers; within = omega arith }) p q
