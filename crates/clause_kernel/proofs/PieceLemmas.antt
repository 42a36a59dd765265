-- Lists in one list: the one of a number, and one more.
use Rattle.std.proofs.Common.{◌≡◌, ℕ, zero, suc, ◌<◌, ◌≤◌, List, [], ◌∷◌, ◌++◌, length, get_or, arith, refl, ap, slice_range}
use Rattle.clause_kernel.specs.Pieces.{pieces, AreEnds, start_of}
use Rattle.clause_kernel.proofs.StoreLemmas.{range-more, new-range}

pub length-pieces : (literals ends : List ℕ) (from : ℕ) → length (pieces literals from ends) ≡ length ends
length-pieces literals [] from = refl
length-pieces literals (e ∷ es) from = ap suc (length-pieces literals es e)

ends-last : (from last : ℕ) (ends : List ℕ) → AreEnds from ends last → from ≤ last
ends-last from last [] h = omega arith
ends-last from last (e ∷ es) h = let rest : e ≤ last = ends-last e last es h.1 in omega arith

pub piece-at : (literals ends : List ℕ) (from k : ℕ) → k < length ends → get_or (pieces literals from ends) k [] ≡ slice_range literals (start_of from ends k) (get_or ends k 0)
piece-at literals [] from k inside = absurd (omega arith)
piece-at literals (e ∷ es) from zero inside = refl
piece-at literals (e ∷ es) from (suc zero) inside = piece-at literals es e zero (omega arith)
piece-at literals (e ∷ es) from (suc (suc k)) inside = piece-at literals es e (suc k) (omega arith)

pub end-within : (from last k : ℕ) (ends : List ℕ) → AreEnds from ends last → k < length ends → (start_of from ends k ≤ get_or ends k 0) × (get_or ends k 0 ≤ last)
end-within from last k [] h inside = absurd (omega arith)
end-within from last zero (e ∷ es) h inside = (h.0, ends-last e last es h.1)
end-within from last (suc zero) (e ∷ es) h inside = end-within e last zero es h.1 (omega arith)
end-within from last (suc (suc k)) (e ∷ es) h inside = end-within e last (suc k) es h.1 (omega arith)

pub start-within : (last k : ℕ) (ends : List ℕ) → AreEnds 0 ends last → k < length ends → start_of 0 ends k ≤ get_or ends k 0
start-within last k ends h inside = (end-within 0 last k ends h inside).0

pub last-within : (last k : ℕ) (ends : List ℕ) → AreEnds 0 ends last → k < length ends → get_or ends k 0 ≤ last
last-within last k ends h inside = (end-within 0 last k ends h inside).1

pub pieces-more : (literals more ends : List ℕ) (from : ℕ) → AreEnds from ends (length literals) → pieces (literals ++ more) from (ends ++ length (literals ++ more) ∷ []) ≡ pieces literals from ends ++ more ∷ []
pieces-more literals more [] from h = ap (λ x. x ∷ []) (rw h (new-range literals more (length (literals ++ more)) refl))
pieces-more literals more (e ∷ es) from h = rw (range-more literals more from e h.0 (ends-last e (length literals) es h.1), pieces-more literals more es e h.1) refl

pub ends-more : (from last later : ℕ) (ends : List ℕ) → AreEnds from ends last → last ≤ later → AreEnds from (ends ++ later ∷ []) later
ends-more from last later [] h le = (rw h le, refl)
ends-more from last later (e ∷ es) h le = (h.0, ends-more e last later es h.1 le)

pub ruleset len_rules = (length-pieces)

pub ruleset get_rules = (length-pieces, piece-at, start-within, last-within)

pub ruleset push_rules = (pieces-more, ends-more)
