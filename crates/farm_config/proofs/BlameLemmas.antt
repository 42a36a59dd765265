-- Where a configuration was read, its tenants are those of the text.
use Rattle.std.proofs.Common.{◌≡◌, ℕ, zero, suc, ◌<◌, List, [], ◌∷◌, length, get_or, Option, Some, None, option_map, Ok, refl, sym, ap, ◌∙◌, arith}
use Rattle.std.specs.List.{slice_get}
use Rattle.std.specs.Prelude.{codes}
use Rattle.serde_json.specs.Data.{Data}
use Rattle.serde_json.specs.Read.{read}
use Rattle.serde_json.specs.Find.{get}
use Rattle.farm_core.specs.Config.{ConfigData}
use Rattle.farm_core.specs.declared.config.TenantLine.{TenantLine}
use Rattle.farm_config.specs.Config.{◌>>=◌, natural_or, tenants_of, written, shaped}
use Rattle.farm_config.specs.Place.{part_to_blame, to_blame}

tenants_are : (lines : Option (List TenantLine)) (workers slice : Option ℕ) (config : ConfigData)
    → (lines >>= λ tenants. workers >>= λ many. slice >>= λ nodes. Some (record { tenants = tenants; workers = many; slice = nodes })) ≡ Some config
    → lines ≡ Some config.tenants
tenants_are None workers slice config h = absurd (cc)
tenants_are (Some lines) None slice config h = absurd (cc)
tenants_are (Some lines) (Some workers) None config h = absurd (cc)
tenants_are (Some lines) (Some workers) (Some slice) config h = ap (option_map (λ (c : ConfigData). c.tenants)) h

shaped_is : {X : Type 0} (o : Option X) (x : X) → shaped o ≡ Ok x → o ≡ Some x
shaped_is None x h = absurd (cc)
shaped_is (Some y) x h = cc

one_at : {X : Type 0} (xs : List X) (i : ℕ) (d : X) → i < length xs → slice_get xs i ≡ Some (get_or xs i d)
one_at [] i d l = absurd (omega arith)
one_at (x ∷ xs) zero d l = refl
one_at (x ∷ xs) (suc i) d l = one_at xs i d (omega arith)

pub stands_at : {X : Type 0} (xs : List X) (i : ℕ) (x : X) → i < length xs → x ≡ get_or xs i x → slice_get xs i ≡ Some x
stands_at xs i x l is = one_at xs i x l ∙ ap Some (sym is)

pub blamed : (bytes : List ℕ) (index : ℕ) (value : Data) (config : ConfigData) (line : TenantLine)
    → read bytes ≡ Some value → shaped (written value) ≡ Ok config → slice_get config.tenants index ≡ Some line
    → to_blame bytes index ≡ Some (part_to_blame line)
blamed bytes index value config line text shape at =
    let whole = shaped_is (written value) config shape in
    let lines : tenants_of value ≡ Some config.tenants = tenants_are (tenants_of value) (natural_or 2 (get (codes "workers") value)) (natural_or 1000 (get (codes "slice") value)) config whole in
    ap (λ o. o >>= λ v. tenants_of v >>= λ ls. slice_get ls index >>= λ l. Some (part_to_blame l)) text
    ∙ ap (λ o. o >>= λ ls. slice_get ls index >>= λ l. Some (part_to_blame l)) lines
    ∙ ap (λ o. o >>= λ l. Some (part_to_blame l)) at
