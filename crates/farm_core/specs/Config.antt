-- What a farm is made for.
use Rattle.std.specs.Prelude.{ℕ, Bool, true, false, not, ◌&&◌, ◌||◌, nat_le, List, [], ◌∷◌, length, map, get_or, Option, None}
use Rattle.std.specs.List.{list_all, sum_by, range_with_len}
use Rattle.farm_core.specs.Name.{same_bytes}
use Rattle.farm_core.specs.Purses.{purses, members_of}
use Rattle.farm_core.specs.declared.config.TenantLine.{TenantLine}
use Rattle.farm_core.specs.declared.config.TheConstants.{MOST_QUANTA, MOST_TENANTS, MOST_JOBS, MOST_ENTRIES, MOST_WORKERS, MOST_SLICE}

-- the tenants by their numbers, the number of workers, and the nodes of their turns
pub record ConfigData : Type 0 where
  pub tenants : List TenantLine
  pub workers : ℕ
  pub slice : ℕ

abbrev pub is_within : ℕ → ℕ → ℕ → Bool
is_within least most n = nat_le least n && nat_le n most

-- a tenant's limits: quanta up to 10^12, 1 to 1,000 jobs, 1 to 1,000,000 entries of the journal
unfoldable pub are_terms : TenantLine → Bool
are_terms line = nat_le line.quanta MOST_QUANTA && is_within 1 MOST_JOBS line.jobs && is_within 1 MOST_ENTRIES line.entries

-- one of these has the name
abbrev pub has_name : List ℕ → List TenantLine → Bool
has_name name [] = false
has_name name (line ∷ lines) = same_bytes name line.name || has_name name lines

-- no two of these have the same name
abbrev pub are_distinct : List TenantLine → Bool
are_distinct [] = true
are_distinct (line ∷ lines) = not (has_name line.name lines) && are_distinct lines

-- the name of each tenant's purse, or None if it names none
abbrev pub purse_names : List TenantLine → List (Option (List ℕ))
purse_names lines = map (λ (line : TenantLine). line.purse) lines

-- a tenant that is not there has nothing
abbrev pub no_terms : TenantLine
no_terms = record { name = []; quanta = 0; jobs = 0; entries = 0; purse = None }

-- the lines of a purse's members, in their order
abbrev pub member_lines : List TenantLine → ℕ → List TenantLine
member_lines lines p = map (λ t. get_or lines t no_terms) (members_of (purse_names lines) p)

-- a purse was granted what its members' lines grant
abbrev pub granted_by : List TenantLine → ℕ
granted_by lines = sum_by (λ (line : TenantLine). line.quanta) lines

-- no purse was granted more quanta than it may have
abbrev pub are_purses : List TenantLine → Bool
are_purses lines = list_all (λ p. nat_le (granted_by (member_lines lines p)) MOST_QUANTA) (range_with_len 0 (purses (purse_names lines)))

-- 1 to 64 tenants of different names within their limits, purses of at most 10^12 quanta, 1 to 16
-- workers, turns of 1 to 1,000,000 nodes
unfoldable pub is_config : ConfigData → Bool
is_config c =
    is_within 1 MOST_TENANTS (length c.tenants) && list_all are_terms c.tenants && are_distinct c.tenants && are_purses c.tenants
    && is_within 1 MOST_WORKERS c.workers && is_within 1 MOST_SLICE c.slice
