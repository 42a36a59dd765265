-- The searches of some lists of words, computed.
use Rattle.std.proofs.Common.{◌≡◌, [], ◌∷◌, length, Some, None, option_map, codes, refl, lit≤}
use Rattle.strategy.specs.declared.kind.Kind.TheVariants.{Tree, RuleLft, Sample}
use Rattle.solve_cli.specs.SearchList.{words_in, kinds_in, all_searches, IsFirstUnknown}
use Rattle.solve_cli.specs.declared.search_kinds.SearchKind.TheVariants.{Planned, Improve}

one_word : kinds_in (codes "tree") ≡ Some (Planned Tree ∷ [])
one_word = refl

three_words : kinds_in (codes "rule:lft,sample:12,improve:7") ≡ Some (Planned RuleLft ∷ Planned (Sample 12) ∷ Improve 7 ∷ [])
three_words = refl

word_of_six : kinds_in (codes "all") ≡ Some all_searches
word_of_six = refl

six_and_one : option_map length (kinds_in (codes "all,prove:9")) ≡ Some 7
six_and_one = refl

-- no word is empty, and none has a blank
empty_list : kinds_in [] ≡ None
empty_list = refl

comma_at_the_end : kinds_in (codes "tree,") ≡ None
comma_at_the_end = refl

blank_in_a_word : kinds_in (codes "tree, all") ≡ None
blank_in_a_word = refl

second_is_unknown : IsFirstUnknown (words_in (codes "tree,bush,shrub")) (codes "bush")
second_is_unknown = record {
  front = codes "tree" ∷ [];
  behind = codes "shrub" ∷ [];
  parts = refl;
  kinds = Planned Tree ∷ [];
  known = refl;
  few = lit≤ tt;
  unknown = refl;
}
