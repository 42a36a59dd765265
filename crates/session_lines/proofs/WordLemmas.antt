-- The words of a line, one after the other.
use Rattle.std.proofs.Common.{◌≡◌, ℕ, List, [], ◌∷◌, map, take, drop, Some, None, refl, sym, ap, ◌∙◌}
use Rattle.std.specs.List.{position, position_or_len}
use Rattle.psplib_mm.specs.Text.{Piece, is_blank, is_other, words_of}
use Rattle.psplib_mm.proofs.Cuts.{words_none, words_next}

abbrev bytes_of : List Piece → List (List ℕ)
bytes_of pieces = map (λ (p : Piece). p.bytes) pieces

bytes_in : (n : ℕ) (words : List (List ℕ)) → bytes_of (map (λ (word : List ℕ). record { line = n; bytes = word }) words) ≡ words
bytes_in n [] = refl
bytes_in n (word ∷ words) = ap (λ l. word ∷ l) (bytes_in n words)

-- no word is left
pub no_word : (xs : List ℕ) → position is_other xs ≡ None → words_of xs ≡ []
no_word xs e = sym (bytes_in 0 (words_of xs)) ∙ ap bytes_of (words_none 0 xs e)

-- a word, and those after it
pub next_word : (begin end : ℕ) (xs : List ℕ) → position is_other xs ≡ Some begin → end ≡ position_or_len is_blank (drop begin xs)
    → words_of xs ≡ take end (drop begin xs) ∷ words_of (drop end (drop begin xs))
next_word begin end xs e ends =
    sym (bytes_in 0 (words_of xs)) ∙ ap bytes_of (words_next 0 begin end xs e ends) ∙ ap (λ l. take end (drop begin xs) ∷ l) (bytes_in 0 (words_of (drop end (drop begin xs))))
