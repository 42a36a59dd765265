-- The configuration that a JSON text is (RFC 8259), and why a text is none.
use Rattle.std.specs.Prelude.{◌≡◌, ℕ, Bool, true, not, ◌&&◌, ◌||◌, List, [], ◌∷◌, ◌++◌, length, take, nat_le, is_none, if◌then◌else◌, Option, Some, None, option_map, option_and_then, Result, Ok, Err, codes, IsUtf8}
use Rattle.std.specs.List.{find, list_all, flat_map, enumerate_from}
use Rattle.std.specs.Option.{option_or}
use Rattle.serde_json.specs.Data.{Data, Items, no_items, item}
use Rattle.serde_json.specs.Read.{read}
use Rattle.serde_json.specs.Find.{get, as_number, as_u64, as_str, as_array}
use Rattle.farm_core.specs.Name.{is_name}
use Rattle.farm_core.specs.Config.{ConfigData, is_within, has_name, are_purses, is_config}
use Rattle.farm_core.specs.declared.config.TenantLine.{TenantLine}
use Rattle.farm_core.specs.declared.config.TheConstants.{MOST_QUANTA, MOST_TENANTS, MOST_JOBS, MOST_ENTRIES, MOST_WORKERS, MOST_SLICE}
use Rattle.farm_config.specs.declared.fault.Key.{Key}
use Rattle.farm_config.specs.declared.fault.Key.TheVariants.{Quanta, Jobs, Entries, Workers, Slice, Purse}
use Rattle.farm_config.specs.declared.fault.ConfigFault.{ConfigFault}
use Rattle.farm_config.specs.declared.fault.ConfigFault.TheVariants.{Json, Shape, Tenants, Name, Range, NoMemory}

-- ---- the shape of a value

-- the next step reads what this one gives; a missing part ends the reading
infixl 10 ◌>>=◌
abbrev pub ◌>>=◌ : {A B : Type 0} → Option A → (A → Option B) → Option B
None >>= f = None
(Some x) >>= f = f x

-- a natural number below 2^64, written in digits alone
abbrev pub natural : Data → Option ℕ
natural value = option_and_then as_u64 (as_number value)

-- the text at a key
abbrev pub text_at : List ℕ → Data → Option (List ℕ)
text_at key value = option_and_then as_str (get key value)

-- the number at a key
abbrev pub natural_at : List ℕ → Data → Option ℕ
natural_at key value = option_and_then natural (get key value)

-- the number of a value, or `missing` without a value
abbrev pub natural_or : ℕ → Option Data → Option ℕ
natural_or missing None = Some missing
natural_or missing (Some value) = natural value

-- the text of a value, if there is a value
abbrev pub text_if_any : Option Data → Option (Option (List ℕ))
text_if_any None = Some None
text_if_any (Some value) = option_map Some (as_str value)

-- a tenant's line as it is written
abbrev pub tenant_line : Data → Option TenantLine
tenant_line value = do
  name ← text_at (codes "name") value
  quanta ← natural_at (codes "quanta") value
  jobs ← natural_at (codes "jobs") value
  entries ← natural_at (codes "entries") value
  purse ← text_if_any (get (codes "purse") value)
  Some (record { name = name; quanta = quanta; jobs = jobs; entries = entries; purse = purse })

-- the lines of all tenants
abbrev pub tenant_lines : Items → Option (List TenantLine)
tenant_lines no_items = Some []
tenant_lines (item value values) = do
  line ← tenant_line value
  lines ← tenant_lines values
  Some (line ∷ lines)

-- the lines at the key `tenants`
abbrev pub tenants_of : Data → Option (List TenantLine)
tenants_of value = do
  tenants ← option_and_then as_array (get (codes "tenants") value)
  tenant_lines tenants

-- a configuration as it is written: names may be ill formed, and numbers out of range
abbrev pub written : Data → Option ConfigData
written value = do
  tenants ← tenants_of value
  workers ← natural_or 2 (get (codes "workers") value)
  slice ← natural_or 1000 (get (codes "slice") value)
  Some (record { tenants = tenants; workers = workers; slice = slice })

-- ---- the faults of what is written

-- whether a purse that is named has a well-formed name
abbrev pub is_name_if_any : Option (List ℕ) → Bool
is_name_if_any None = true
is_name_if_any (Some purse) = is_name purse

-- whether a tenant's name, and its purse's, are well formed
abbrev pub is_well_named : TenantLine → Bool
is_well_named line = is_name line.name && is_name_if_any line.purse

-- whether the tenant at a place is misnamed: a name is ill formed, or an earlier tenant has its
-- name
abbrev pub is_misnamed : List TenantLine → ℕ × TenantLine → Bool
is_misnamed lines tenant = not (is_well_named tenant.1) || has_name tenant.1.name (take tenant.0 lines)

-- the place of the first misnamed tenant
abbrev pub first_misnamed : List TenantLine → Option ℕ
first_misnamed lines = option_map (λ tenant. tenant.0) (find (is_misnamed lines) (enumerate_from 0 lines))

-- whether a key may have this number; a purse's is the sum of its members' quanta
abbrev pub allows : Key → ℕ → Bool
allows Quanta n = nat_le n MOST_QUANTA
allows Jobs n = is_within 1 MOST_JOBS n
allows Entries n = is_within 1 MOST_ENTRIES n
allows Workers n = is_within 1 MOST_WORKERS n
allows Slice n = is_within 1 MOST_SLICE n
allows Purse n = nat_le n MOST_QUANTA

-- a tenant's keys with their numbers, in the order of the tests
abbrev pub keyed_terms : TenantLine → List (Key × ℕ)
keyed_terms line = (Quanta, line.quanta) ∷ (Jobs, line.jobs) ∷ (Entries, line.entries) ∷ []

-- all keys with their numbers, in the order of the tests
abbrev pub all_terms : ConfigData → List (Key × ℕ)
all_terms config = flat_map keyed_terms config.tenants ++ ((Workers, config.workers) ∷ (Slice, config.slice) ∷ [])

-- whether a number is out of its key's range
abbrev pub is_beyond : Key × ℕ → Bool
is_beyond term = not (allows term.0 term.1)

-- the first key whose number is out of its range
abbrev pub first_out : List (Key × ℕ) → Option Key
first_out terms = option_map (λ term. term.0) (find is_beyond terms)

-- the fault of too few or too many tenants
abbrev pub count_fault : List TenantLine → Option ConfigFault
count_fault lines = if is_within 1 MOST_TENANTS (length lines) then None else Some Tenants

-- the first fault but that of a purse's sum: of the count, the names, the ranges
abbrev pub fault_before_purses : ConfigData → Option ConfigFault
fault_before_purses config =
    option_or (count_fault config.tenants)
    (option_or (option_map Name (first_misnamed config.tenants))
    (option_map Range (first_out (all_terms config))))

-- the fault of a purse whose members have too many quanta together
abbrev pub purse_fault : List TenantLine → Option ConfigFault
purse_fault lines = if are_purses lines then None else Some (Range Purse)

-- the first fault of what is written
abbrev pub first_fault : ConfigData → Option ConfigFault
first_fault config = option_or (fault_before_purses config) (purse_fault config.tenants)

-- what is written has no fault exactly if it keeps the farm's limits and each name is well formed
abbrev pub FaultsAreWhatIsNoConfiguration : Type 0
FaultsAreWhatIsNoConfiguration = (config : ConfigData) →
    is_none (first_fault config) ≡ (list_all is_well_named config.tenants && is_config config)

-- ---- the configuration of a value, and of a text

-- the value, or the fault `Shape` without one
abbrev pub shaped : {X : Type 0} → Option X → Result X ConfigFault
shaped None = Err Shape
shaped (Some x) = Ok x

-- the value, or the fault if there is one
abbrev pub unless : {X : Type 0} → Option ConfigFault → X → Result X ConfigFault
unless None x = Ok x
unless (Some fault) x = Err fault

-- the configuration, or its first fault
abbrev pub judged : ConfigData → Result ConfigData ConfigFault
judged config = unless (first_fault config) config

-- the configuration of what is written, or the first fault
abbrev pub configuration_of : Option ConfigData → Result ConfigData ConfigFault
configuration_of None = Err Shape
configuration_of (Some config) = judged config

-- the configuration that a value is, or the first fault
abbrev pub configuration : Data → Result ConfigData ConfigFault
configuration value = configuration_of (written value)

-- a fault is the one that is meant; only want of memory may come in place of another answer
abbrev pub Fails : {X : Type 0} → ConfigFault → Result X ConfigFault → Type 0
Fails NoMemory meant = Unit {0}
Fails fault meant = meant ≡ Err fault

-- the answer of a function, seen by `view`, is what is meant, unless memory ran out
abbrev pub Gives : {X Y : Type 0} → (X → Y) → Result X ConfigFault → Result Y ConfigFault → Type 0
Gives view (Ok x) meant = meant ≡ Ok (view x)
Gives view (Err fault) meant = Fails fault meant

-- the bytes are the text of a value that means this
pub record Means (bytes : List ℕ) (answer : Result ConfigData ConfigFault) : Type 0 where
  pub utf8 : IsUtf8 bytes
  pub value : Data
  pub is_read : read bytes ≡ Some value
  pub meant : configuration value ≡ answer

-- the bytes have this fault, and no earlier one
abbrev pub HasFault : List ℕ → ConfigFault → Type 0
HasFault bytes NoMemory = Unit {0}
HasFault bytes Json = IsUtf8 bytes → read bytes ≡ None
HasFault bytes fault = Means bytes (Err fault)
