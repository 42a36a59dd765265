-- The searches of one word more, and why there are none.
use Rattle.std.proofs.Common.{◌≡◌, ℕ, ◌+◌, ◌<◌, ◌≤◌, true, false, List, [], ◌∷◌, ◌++◌, length, take, drop, get_or, map, refl, sym, ap, ◌∙◌, append_assoc, arith, subst, length-append, Bor, Option, Some, None, option_map, Result, Ok, Err, IfErr, codes}
use Rattle.std.proofs.lemmas.List.{append-nil, take_more, drop_more, take-append-drop, length-map, get_or-map}
use Rattle.std.specs.Option.{option_and_then}
use Rattle.strategy.specs.KindWord.{is_word}
use Rattle.solve_cli.specs.SearchWord.{search_in}
use Rattle.solve_cli.specs.SearchList.{all_searches, searches_in, searches_of, IsUnpushed, IsUnadded, IsUnnamed}
use Rattle.solve_cli.specs.declared.search_kinds.SearchKind.{SearchKind}
use Rattle.solve_cli.specs.declared.kinds.SearchFault.{SearchFault}
use Rattle.solve_cli.specs.declared.portfolio.TheConstants.{MOST_SEARCHES}
use Rattle.solve_cli.specs.declared.kinds.SearchFault.TheVariants.{Unknown, TooMany, NoMemory}

pub searches_all : (word : List ℕ) → is_word word (codes "all") ≡ true → searches_in word ≡ Some all_searches
searches_all word h = rw h refl

pub searches_one : (word : List ℕ) (kind : SearchKind) → is_word word (codes "all") ≡ false → search_in word ≡ Some kind → searches_in word ≡ Some (kind ∷ [])
searches_one word kind h e = rw h (rw e refl)

-- the searches of a word are too many
pub unadded : {T : Type 0} (r : Result T SearchFault) (n : ℕ) (word : List ℕ) (more : List SearchKind) → IfErr r (λ fault. IsUnpushed fault (n + length more)) → searches_in word ≡ Some more
    → IfErr r (λ fault. IsUnadded fault n word)
unadded (Ok x) n word more h e = tt
unadded (Err (Unknown w)) n word more h e = absurd h
unadded (Err TooMany) n word more h e = (more, e, h)
unadded (Err NoMemory) n word more h e = tt

-- what is put before more searches
joined_more : (first rest whole : Option (List SearchKind)) (kinds more : List SearchKind) → option_and_then (λ a. option_map (λ b. a ++ b) rest) first ≡ Some kinds
    → ((b : List SearchKind) → rest ≡ Some b → whole ≡ Some (b ++ more)) → option_and_then (λ a. option_map (λ b. a ++ b) whole) first ≡ Some (kinds ++ more)
joined_more None rest whole kinds more e f = cc
joined_more (Some a) None whole kinds more e f = cc
joined_more (Some a) (Some b) whole kinds more e f =
    let same : a ++ b ≡ kinds = cc in
    rw (f b refl) (ap Some (sym (append_assoc a b more) ∙ ap (λ l. l ++ more) same))

-- one more word
searches_more : (words : List (List ℕ)) (word : List ℕ) (kinds more : List SearchKind) → searches_of words ≡ Some kinds → searches_in word ≡ Some more → searches_of (words ++ word ∷ []) ≡ Some (kinds ++ more)
searches_more [] word kinds more e h =
    let none : [] ≡ kinds = cc in
    rw h (ap Some (append-nil more ∙ ap (λ l. l ++ more) none))
searches_more (w ∷ words) word kinds more e h =
    joined_more (searches_in w) (searches_of words) (searches_of (words ++ word ∷ [])) kinds more e (λ b f. searches_more words word b more f h)

added : (words : List (List ℕ)) (word : List ℕ) (kinds all : List SearchKind) (more : Option (List SearchKind)) → searches_of words ≡ Some kinds → searches_in word ≡ more
    → option_map (λ m. kinds ++ m) more ≡ Some all → searches_of (words ++ word ∷ []) ≡ Some all
added words word kinds all None e h f = cc
added words word kinds all (Some m) e h f = searches_more words word kinds m e h ∙ f

-- the searches of one word more
pub searches_next : (words : List (List ℕ)) (i : ℕ) (kinds all : List SearchKind) → i < length words → searches_of (take i words) ≡ Some kinds
    → option_map (λ m. kinds ++ m) (searches_in (get_or words i [])) ≡ Some all → searches_of (take (i + 1) words) ≡ Some all
searches_next words i kinds all h e f = ap searches_of (take_more words i [] h) ∙ added (take i words) (get_or words i []) kinds all (searches_in (get_or words i [])) e refl f

cut : (words : List (List ℕ)) (i : ℕ) → i < length words → words ≡ take i words ++ get_or words i [] ∷ drop (i + 1) words
cut words i h = sym (take-append-drop i words) ∙ ap (λ l. take i words ++ l) (drop_more words i [] h)

-- why the searches of the next word are not added is why the words name none
pub unnamed : (fault : SearchFault) (words : List (List ℕ)) (i n : ℕ) (kinds : List SearchKind) → n ≡ length kinds → i < length words → searches_of (take i words) ≡ Some kinds → n ≤ MOST_SEARCHES
    → IsUnadded fault n (get_or words i []) → IsUnnamed fault words
unnamed (Unknown w) words i n kinds s h e few (same, none) = record {
  front = take i words;
  behind = drop (i + 1) words;
  parts = subst (λ l. words ≡ take i words ++ l ∷ drop (i + 1) words) (sym same) (cut words i h);
  kinds = kinds;
  known = e;
  few = omega (arith, s, few);
  unknown = subst (λ l. searches_in l ≡ None) (sym same) none;
}
unnamed TooMany words i n kinds s h e few (more, some, many) = record {
  front = take (i + 1) words;
  behind = drop (i + 1) words;
  parts = sym (take-append-drop (i + 1) words);
  kinds = kinds ++ more;
  known = searches_next words i kinds (kinds ++ more) h e (rw some refl);
  many = omega (arith, s, many, length-append kinds more);
}
unnamed NoMemory words i n kinds s h e few t = tt

-- a word at its place
pub word_at : (parts items : List (Bor (List ℕ))) (words : List (List ℕ)) (i : ℕ) (d : Bor (List ℕ)) → map (λ (part : Bor (List ℕ)). part.now) parts ≡ words → items ≡ parts → i < length items
    → (i < length words) × ((get_or items i d).now ≡ get_or words i [])
word_at parts items words i d e same h =
    let inside : i < length parts = subst (λ (l : List (Bor (List ℕ))). i < length l) same h in
    let n : length words ≡ length parts = sym (ap length e) ∙ length-map parts (λ (part : Bor (List ℕ)). part.now) in (
      omega (arith, n, inside),
      ap (λ (l : List (Bor (List ℕ))). (get_or l i d).now) same ∙ sym (get_or-map (λ (part : Bor (List ℕ)). part.now) parts i d [] inside) ∙ ap (λ (l : List (List ℕ)). get_or l i []) e,
    )
