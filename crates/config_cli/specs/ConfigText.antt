-- What `farm config` writes of a configuration: its numbers, a line for each purse and for each
-- tenant, and what its journal can keep.
use Rattle.std.specs.Prelude.{ℕ, zero, suc, ◌+◌, ◌*◌, ◌/◌, ◌==◌, max, cond, List, [], ◌++◌, length, get_or, Option, Some, None, codes, decimal}
use Rattle.farm_core.specs.Config.{ConfigData, no_terms, member_lines, granted_by}
use Rattle.farm_core.specs.World.{purse_in, purses_in}
use Rattle.farm_core.specs.declared.config.TenantLine.{TenantLine}

-- the texts f 0 to f (n - 1), one behind the other
abbrev pub concat_below : (ℕ → List ℕ) → ℕ → List ℕ
concat_below f zero = []
concat_below f (suc n) = concat_below f n ++ f n

-- the line of tenant t
abbrev pub line_at : ConfigData → ℕ → TenantLine
line_at c t = get_or c.tenants t no_terms

-- the quanta of purse p
abbrev pub granted_in : ConfigData → ℕ → ℕ
granted_in c p = granted_by (member_lines c.tenants p)

-- the entries of the first n tenants together
abbrev pub entries_below : ConfigData → ℕ → ℕ
entries_below c zero = 0
entries_below c (suc t) = entries_below c t + (line_at c t).entries

-- the entries that one job of a tenant takes if it runs all quanta of the purse, with a request for
-- its result: two for each slice, three for its submit and one
abbrev pub entries_of_job : ConfigData → ℕ → ℕ
entries_of_job c t = 2 * (granted_in c (purse_in c t) / max c.slice 1) + 4

-- the name of a purse, or a dash for a purse that has none
abbrev pub name_or_dash : Option (List ℕ) → List ℕ
name_or_dash None = codes "-"
name_or_dash (Some name) = name

-- the name of purse p, as the last of its members among the first n tenants writes it
abbrev pub purse_name : ConfigData → ℕ → ℕ → List ℕ
purse_name c p zero = codes "-"
purse_name c p (suc t) = cond (purse_in c t == p) (name_or_dash (line_at c t).purse) (purse_name c p t)

-- the name of tenant t behind a blank, if it is a member of purse p
abbrev pub member_word : ConfigData → ℕ → ℕ → List ℕ
member_word c p t = cond (purse_in c t == p) (codes " " ++ (line_at c t).name) []

abbrev pub purse_line : ConfigData → ℕ → List ℕ
purse_line c p =
    codes "purse " ++ purse_name c p (length c.tenants) ++ codes " quanta " ++ decimal (granted_in c p) ++ codes " tenants"
    ++ concat_below (member_word c p) (length c.tenants) ++ codes "\n"

abbrev pub tenant_line : ConfigData → ℕ → List ℕ
tenant_line c t =
    codes "tenant " ++ (line_at c t).name ++ codes " jobs " ++ decimal (line_at c t).jobs ++ codes " entries " ++ decimal (line_at c t).entries
    ++ codes " needs " ++ decimal (entries_of_job c t) ++ codes "\n"

abbrev pub first_line : ConfigData → List ℕ
first_line c =
    codes "tenants " ++ decimal (length c.tenants) ++ codes " purses " ++ decimal (purses_in c) ++ codes " workers " ++ decimal c.workers
    ++ codes " slice " ++ decimal c.slice ++ codes "\n"

-- the entries of all tenants, and the kilobytes of equally many submits of the largest projects
-- with three modes and four resources: 104 each, as measured
abbrev pub last_line : ConfigData → List ℕ
last_line c =
    codes "entries " ++ decimal (entries_below c (length c.tenants)) ++ codes " kilobytes " ++ decimal (104 * entries_below c (length c.tenants)) ++ codes "\n"

abbrev pub config_text : ConfigData → List ℕ
config_text c = first_line c ++ concat_below (purse_line c) (purses_in c) ++ concat_below (tenant_line c) (length c.tenants) ++ last_line c
