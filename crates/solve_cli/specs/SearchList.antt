-- The searches that a list of words names, with commas between the words, and why it names none.
use Rattle.std.specs.Prelude.{◌≡◌, ◌<◌, ◌≤◌, ◌+◌, ◌==◌, ℕ, List, [], ◌∷◌, ◌++◌, length, Option, Some, None, option_and_then, option_map, if◌then◌else◌, codes, ⊤}
use Rattle.std.specs.List.{slice_split}
use Rattle.strategy.specs.KindWord.{is_word}
use Rattle.strategy.specs.declared.kind.Kind.TheVariants.{Tree, RuleLft, RuleMts, RuleSpt}
use Rattle.solve_cli.specs.SearchWord.{search_in}
use Rattle.solve_cli.specs.declared.search_kinds.SearchKind.{SearchKind}
use Rattle.solve_cli.specs.declared.search_kinds.SearchKind.TheVariants.{Planned, Improve, Prove}
use Rattle.solve_cli.specs.declared.kinds.SearchFault.{SearchFault}
use Rattle.solve_cli.specs.declared.kinds.SearchFault.TheVariants.{Unknown, TooMany, NoMemory}
use Rattle.solve_cli.specs.declared.portfolio.TheConstants.{MOST_SEARCHES}

-- the words of a list: the parts between its commas
abbrev pub words_in : List ℕ → List (List ℕ)
words_in text = slice_split (λ b. b == 44) text

-- the six searches of the word `all`
abbrev pub all_searches : List SearchKind
all_searches = Planned RuleLft ∷ Planned RuleMts ∷ Planned RuleSpt ∷ Planned Tree ∷ Improve 1 ∷ Prove 100000 ∷ []

-- the searches of one word: the six of `all`, or the one that the word names
abbrev pub searches_in : List ℕ → Option (List SearchKind)
searches_in word = if is_word word (codes "all") then Some all_searches else option_map (λ kind. kind ∷ []) (search_in word)

-- the searches of several words, in order, if each word has some
abbrev pub searches_of : List (List ℕ) → Option (List SearchKind)
searches_of [] = Some []
searches_of (word ∷ words) = option_and_then (λ kinds. option_map (λ more. kinds ++ more) (searches_of words)) (searches_in word)

-- the searches of a list of words
abbrev pub kinds_in : List ℕ → Option (List SearchKind)
kinds_in text = searches_of (words_in text)

-- the first word without searches, behind words that do not name too many
pub record IsFirstUnknown (words : List (List ℕ)) (word : List ℕ) : Type 0 where
  pub front : List (List ℕ)
  pub behind : List (List ℕ)
  pub parts : words ≡ front ++ word ∷ behind
  pub kinds : List SearchKind
  pub known : searches_of front ≡ Some kinds
  pub few : length kinds ≤ MOST_SEARCHES
  pub unknown : searches_in word ≡ None

-- the first words name more than `MOST_SEARCHES` searches
pub record AreTooMany (words : List (List ℕ)) : Type 0 where
  pub front : List (List ℕ)
  pub behind : List (List ℕ)
  pub parts : words ≡ front ++ behind
  pub kinds : List SearchKind
  pub known : searches_of front ≡ Some kinds
  pub many : MOST_SEARCHES < length kinds

-- why a list names no searches
abbrev pub IsUnnamed : SearchFault → List (List ℕ) → Type 0
IsUnnamed (Unknown word) words = IsFirstUnknown words word.now
IsUnnamed TooMany words = AreTooMany words
IsUnnamed NoMemory words = ⊤

-- ---- for private clauses

-- why the searches of one more word are not added to `count` others
abbrev pub IsUnadded : SearchFault → ℕ → List ℕ → Type 0
IsUnadded (Unknown unknown) count word = (unknown.now ≡ word) × (searches_in word ≡ None)
IsUnadded TooMany count word = (kinds : List SearchKind) × (searches_in word ≡ Some kinds) × (MOST_SEARCHES < count + length kinds)
IsUnadded NoMemory count word = ⊤

-- why searches are not added, `count` in all
abbrev pub IsUnpushed : SearchFault → ℕ → Type 0
IsUnpushed (Unknown word) count = ⊥
IsUnpushed TooMany count = MOST_SEARCHES < count
IsUnpushed NoMemory count = ⊤
