-- One desk at its till, and two desks, each at its till; and the tills of one purse and of two.
use Rattle.std.proofs.Common.{◌≡◌, ℕ, zero, suc, ◌<◌, [], ◌∷◌, map, get_or, refl, sym, ap, ◌∙◌, arith}
use Rattle.std.specs.List.{range_with_len}
use Rattle.quanta_till.specs.Desk.{DeskValue}
use Rattle.quanta_till.specs.Till.{TillValue}
use Rattle.farm_core.specs.Config.{ConfigData}
use Rattle.farm_core.specs.World.{purses_in}
use Rattle.farm_core.specs.Tills.{Opening, opening_of, opening_for, AreTillsOf, AreSeated}

pub one_seated : (t : TillValue) (d : DeskValue) → d.id ≡ t.id → AreSeated (t ∷ []) (d ∷ [])
one_seated t d first = record { count = refl; each = each }
  where
    each : (i : ℕ) (x : TillValue) (y : DeskValue) → i < 1 → (get_or (d ∷ []) i y).id ≡ (get_or (t ∷ []) i x).id
    each zero x y below = first
    each (suc i) x y below = absurd (omega arith)

pub two_seated : (t u : TillValue) (d e : DeskValue) → d.id ≡ t.id → e.id ≡ u.id → AreSeated (t ∷ u ∷ []) (d ∷ e ∷ [])
two_seated t u d e first second = record { count = refl; each = each }
  where
    each : (i : ℕ) (x : TillValue) (y : DeskValue) → i < 2 → (get_or (d ∷ e ∷ []) i y).id ≡ (get_or (t ∷ u ∷ []) i x).id
    each zero x y below = first
    each (suc zero) x y below = second
    each (suc (suc i)) x y below = absurd (omega arith)

pub one_till : (config : ConfigData) (t : TillValue) → purses_in config ≡ 1 → opening_of t ≡ opening_for config 0 → AreTillsOf config (t ∷ [])
one_till config t one first = ap (λ (x : Opening). x ∷ []) first ∙ ap (λ n. map (opening_for config) (range_with_len 0 n)) (sym one)

pub two_tills : (config : ConfigData) (t u : TillValue) → purses_in config ≡ 2 → opening_of t ≡ opening_for config 0 → opening_of u ≡ opening_for config 1
    → AreTillsOf config (t ∷ u ∷ [])
two_tills config t u two first second =
    ap (λ (x : Opening). x ∷ opening_of u ∷ []) first ∙ ap (λ (x : Opening). opening_for config 0 ∷ x ∷ []) second
    ∙ ap (λ n. map (opening_for config) (range_with_len 0 n)) (sym two)
