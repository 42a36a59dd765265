-- The output of a script as bytes: its lines, and the lines of one purse.
use Rattle.std.specs.Prelude.{◌≡◌, ℕ, Bool, true, List, filter, map, Some}
use Rattle.std.specs.List.{list_all, list_any}
use Rattle.farm_core.specs.declared.config.TenantLine.{TenantLine}
use Rattle.farm_core.specs.Config.{ConfigData, are_distinct, member_lines}
use Rattle.farm_core.specs.Name.{is_name, same_bytes}
use Rattle.farm_core.specs.World.{opened_purse}
use Rattle.session_lines.specs.ReplyText.{who_text}
use Rattle.session_lines.specs.Script.{lines_of, requests_of}
use Rattle.farm_replay.specs.Output.{Marked, items_of, opening, lines_for, line_text, output_of}
use Rattle.farm_replay.specs.Isolation.{seat_of, is_members, own_requests}
use Rattle.farm_replay.specs.Begins.{begins_with}

-- in the output of a script, whatever memory was refused, there is one line for each request
abbrev pub LinesAreReplies : Type 0
LinesAreReplies = (config : ConfigData) (script : List ℕ) (requests : List Marked) → items_of requests ≡ requests_of script →
    lines_of (output_of config requests) ≡ map line_text (lines_for config (opening config) requests)

-- the names of a purse's members
pub record AreNamesOf (config : ConfigData) (p : ℕ) (names : List (List ℕ)) : Type 0 where
  pub named : list_all is_name names ≡ true
  pub exact : (who : List ℕ) → list_any (λ name. same_bytes who name) names ≡ is_members config p (Some who)

-- the names in the lines of a purse's members
abbrev pub names_of : ConfigData → ℕ → List (List ℕ)
names_of config p = map (λ (line : TenantLine). line.name) (member_lines config.tenants p)

-- each purse has names: those in its members' lines, if each tenant has a name of its own
abbrev pub EachPurseHasNames : Type 0
EachPurseHasNames = (config : ConfigData) (p : ℕ) → are_distinct config.tenants ≡ true →
    list_all (λ (line : TenantLine). is_name line.name) config.tenants ≡ true → AreNamesOf config p (names_of config p)

-- whether a line begins with `@`, one of the names and a space
abbrev pub begins_with_any : List (List ℕ) → List ℕ → Bool
begins_with_any names line = list_any (λ name. begins_with (who_text (Some name)) line) names

-- the lines that begin with `@`, one of the names and a space
abbrev pub lines_beginning : List (List ℕ) → List ℕ → List (List ℕ)
lines_beginning names bytes = filter (begins_with_any names) (lines_of bytes)

-- a purse's lines in the output of a script are the output of the purse's requests alone
abbrev pub EachOutputIsAlone : Type 0
EachOutputIsAlone = (config : ConfigData) (script : List ℕ) (requests : List Marked) → items_of requests ≡ requests_of script →
    (p : ℕ) (names : List (List ℕ)) → AreNamesOf config p names →
    lines_beginning names (output_of config requests) ≡ lines_of (output_of config (own_requests config p requests))

-- a purse's lines are equal in the outputs of two scripts that are alike for it. It begins alike,
-- and its members have equal names, places, requests and refusals of memory
abbrev pub OutputsAreIsolated : Type 0
OutputsAreIsolated = (config elsewhere : ConfigData) (script other : List ℕ) (requests others : List Marked) →
    items_of requests ≡ requests_of script → items_of others ≡ requests_of other →
    (p q : ℕ) (names : List (List ℕ)) → AreNamesOf config p names → AreNamesOf elsewhere q names →
    opened_purse config p ≡ opened_purse elsewhere q → ((who : List ℕ) → seat_of config p who ≡ seat_of elsewhere q who) →
    own_requests config p requests ≡ own_requests elsewhere q others →
    lines_beginning names (output_of config requests) ≡ lines_beginning names (output_of elsewhere others)
