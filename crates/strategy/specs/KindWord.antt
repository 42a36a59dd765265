-- The words that name kinds of search, and the numbers of their seeds.
use Rattle.std.specs.Prelude.{ℕ, Bool, not, ◌&&◌, ◌==◌, nat_eq, nat_le, List, length, take, drop, Option, Some, None, option_map, if◌then◌else◌, codes}
use Rattle.std.specs.Char.{is_ascii_digit}
use Rattle.std.specs.Cmp.Lexicographic.{pointwise}
use Rattle.std.specs.List.{list_all}
use Rattle.std.specs.Str.Parse.{digits_value}
use Rattle.strategy.specs.declared.kind.Kind.{Kind}
use Rattle.strategy.specs.declared.kind.Kind.TheVariants.{Tree, RuleLft, RuleMts, RuleSpt, Sample}
use Rattle.strategy.specs.declared.words.TheConstants.{MOST_DIGITS}

-- whether two words are equal
abbrev pub is_word : List ℕ → List ℕ → Bool
is_word a b = pointwise nat_eq a b

-- the number that decimal digits write
abbrev pub number_of : List ℕ → Option ℕ
number_of word = if not (length word == 0) && list_all is_ascii_digit word then Some (digits_value 10 word) else None

-- a number is 1 to 18 decimal digits
abbrev pub number_in : List ℕ → Option ℕ
number_in word = if nat_le (length word) MOST_DIGITS then number_of word else None

-- the number behind `front`, with which the word begins
abbrev pub seed_in : List ℕ → List ℕ → Option ℕ
seed_in front word = if is_word (take (length front) word) front then number_in (drop (length front) word) else None

-- the kind of search that a word names
abbrev pub kind_in : List ℕ → Option Kind
kind_in word =
    if is_word word (codes "tree") then Some Tree
    else if is_word word (codes "rule:lft") then Some RuleLft
    else if is_word word (codes "rule:mts") then Some RuleMts
    else if is_word word (codes "rule:spt") then Some RuleSpt
    else option_map Sample (seed_in (codes "sample:") word)
