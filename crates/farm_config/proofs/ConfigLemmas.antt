-- What is written has no fault exactly where it is a configuration.
use Rattle.std.proofs.Common.{◌≡◌, ℕ, ◌+◌, Bool, true, false, not, ◌&&◌, ◌||◌, cond, nat_le, List, [], ◌∷◌, ◌++◌, length, take, Option, Some, None, is_none, option_map, Ok, Err, refl, sym, ap, ◌∙◌, arith, append_assoc, length-append}
use Rattle.std.specs.List.{find, list_all, flat_map, enumerate_from}
use Rattle.std.specs.Option.{option_or}
use Rattle.std.proofs.lemmas.Bool.{and_parts}
use Rattle.std.proofs.lemmas.Bool.Decides.{nat_tests}
use Rattle.std.proofs.lemmas.List.{take_at}
use Rattle.farm_core.specs.Name.{same_bytes}
use Rattle.farm_core.specs.Config.{ConfigData, is_within, are_terms, has_name, are_distinct, are_purses, is_config}
use Rattle.farm_core.specs.declared.config.TenantLine.{TenantLine}
use Rattle.farm_config.specs.declared.fault.Key.{Key}
use Rattle.farm_config.specs.declared.fault.Key.TheVariants.{Quanta, Jobs, Entries, Workers, Slice, Purse}
use Rattle.farm_config.specs.declared.fault.ConfigFault.{ConfigFault}
use Rattle.farm_config.specs.declared.fault.ConfigFault.TheVariants.{Tenants, Name, Range}
use Rattle.farm_config.specs.Config.{is_misnamed, first_misnamed, is_beyond, keyed_terms, all_terms, first_out, count_fault, fault_before_purses, purse_fault, first_fault, is_well_named, unless, judged}

-- ---- an option with no value

none_cond : {X : Type 0} (b : Bool) (x : X) (o : Option X) → is_none (cond b (Some x) o) ≡ (not b && is_none o)
none_cond true x o = refl
none_cond false x o = refl

none_or : {X : Type 0} (o p : Option X) → is_none (option_or o p) ≡ (is_none o && is_none p)
none_or None p = refl
none_or (Some x) p = refl

none_map : {X Y : Type 0} (f : X → Y) (o : Option X) → is_none (option_map f o) ≡ is_none o
none_map f None = refl
none_map f (Some x) = refl

-- ---- names

same_bytes_swap : (xs ys : List ℕ) → same_bytes xs ys ≡ same_bytes ys xs
same_bytes_swap [] [] = refl
same_bytes_swap [] (y ∷ ys) = refl
same_bytes_swap (x ∷ xs) [] = refl
same_bytes_swap (x ∷ xs) (y ∷ ys) = grind (arith, nat_tests, same_bytes_swap xs ys)

-- none of the earlier lines has the name of a later one
abbrev are_apart : List TenantLine → List TenantLine → Bool
are_apart [] later = true
are_apart (line ∷ earlier) later = not (has_name line.name later) && are_apart earlier later

apart_none : (earlier : List TenantLine) → are_apart earlier [] ≡ true
apart_none [] = refl
apart_none (line ∷ earlier) = apart_none earlier

-- s: the two names are the same; p and q: one has a name of the others; r: those are apart
apart_step : (s p q r : Bool) → (not (s || p) && (not q && r)) ≡ (not (s || q) && (not p && r))
apart_step true p q r = refl
apart_step false true true r = refl
apart_step false true false r = refl
apart_step false false true r = refl
apart_step false false false r = refl

apart_cons : (earlier : List TenantLine) (line : TenantLine) (later : List TenantLine) →
    are_apart earlier (line ∷ later) ≡ (not (has_name line.name earlier) && are_apart earlier later)
apart_cons [] line later = refl
apart_cons (first ∷ earlier) line later =
    rw (apart_cons earlier line later, same_bytes_swap first.name line.name)
    (apart_step (same_bytes line.name first.name) (has_name first.name later) (has_name line.name earlier) (are_apart earlier later))

push_step : (p q r : Bool) → (p && (q && r)) ≡ ((p && q) && r)
push_step true q r = refl
push_step false q r = refl

apart_push : (earlier : List TenantLine) (line : TenantLine) (later : List TenantLine) →
    are_apart (earlier ++ line ∷ []) later ≡ (are_apart earlier later && not (has_name line.name later))
apart_push [] line later = elim (has_name line.name later) as (λ b. (not b && true) ≡ (true && not b)) [ true ↦ refl | false ↦ refl ]
apart_push (first ∷ earlier) line later =
    rw (apart_push earlier line later) (push_step (not (has_name first.name later)) (are_apart earlier later) (not (has_name line.name later)))

-- n: the name is well formed; h and l: an earlier or a later line has it; a: the others are well named; d: they differ;
-- r: they are apart from the earlier ones
name_step : (n h a d r l : Bool) →
    (not (not n || h) && (a && (d && (r && not l)))) ≡ ((n && a) && ((not l && d) && (not h && r)))
name_step false h a d r l = refl
name_step true true a d r l = elim a as (λ v. false ≡ (v && ((not l && d) && false))) [
  | false ↦ refl
  | true ↦ elim l as (λ w. false ≡ ((not w && d) && false)) [ true ↦ refl | false ↦ elim d as (λ u. false ≡ (u && false)) [ true ↦ refl | false ↦ refl ] ]
]
name_step true false false d r l = refl
name_step true false true false r true = refl
name_step true false true false r false = refl
name_step true false true true false true = refl
name_step true false true true true true = refl
name_step true false true true false false = refl
name_step true false true true true false = refl

names_from : (earlier later : List TenantLine) →
    is_none (find (is_misnamed (earlier ++ later)) (enumerate_from (length earlier) later))
    ≡ (list_all is_well_named later && (are_distinct later && are_apart earlier later))
names_from earlier [] = sym (apart_none earlier)
names_from earlier (line ∷ later) =
    let rest = names_from (earlier ++ line ∷ []) later in
    let all : (earlier ++ line ∷ []) ++ later ≡ earlier ++ line ∷ later = append_assoc earlier (line ∷ []) later in
    let count : length (earlier ++ line ∷ []) ≡ length earlier + 1 = length-append earlier (line ∷ []) in
    let before : take (length earlier) (earlier ++ line ∷ later) ≡ earlier = take_at earlier (line ∷ later) (length earlier) refl in
    let tail : is_none (find (is_misnamed (earlier ++ line ∷ later)) (enumerate_from (length earlier + 1) later))
    ≡ (list_all is_well_named later && (are_distinct later && (are_apart earlier later && not (has_name line.name later))))
    = rw (all, count, apart_push earlier line later) at rest in
    rw (none_cond (is_misnamed (earlier ++ line ∷ later) (length earlier, line)) (length earlier, line) (find (is_misnamed (earlier ++ line ∷ later)) (enumerate_from (length earlier + 1) later)), tail, before, apart_cons earlier line later)
    (name_step (is_well_named line) (has_name line.name earlier) (list_all is_well_named later) (are_distinct later) (are_apart earlier later) (has_name line.name later))

and_true : (b : Bool) → (b && true) ≡ b
and_true true = refl
and_true false = refl

misnamed_none : (lines : List TenantLine) → is_none (first_misnamed lines) ≡ (list_all is_well_named lines && are_distinct lines)
misnamed_none lines =
    none_map (λ tenant. tenant.0) (find (is_misnamed lines) (enumerate_from 0 lines))
    ∙ names_from [] lines
    ∙ ap (λ b. list_all is_well_named lines && b) (and_true (are_distinct lines))

-- ---- ranges

-- the three numbers of a line, and then those that follow
line_step : (a b c : Bool) (x y z : Key × ℕ) (o : Option (Key × ℕ)) →
    is_none (cond (not a) (Some x) (cond (not b) (Some y) (cond (not c) (Some z) o))) ≡ (((a && b) && c) && is_none o)
line_step false b c x y z o = refl
line_step true false c x y z o = refl
line_step true true false x y z o = refl
line_step true true true x y z o = refl

out_none : (lines : List TenantLine) (rest : List (Key × ℕ)) →
    is_none (find is_beyond (flat_map keyed_terms lines ++ rest)) ≡ (list_all are_terms lines && is_none (find is_beyond rest))
unfolding are_terms
out_none [] rest = refl
out_none (line ∷ lines) rest =
    line_step (nat_le line.quanta 1000000000000) (is_within 1 1000 line.jobs) (is_within 1 1000000 line.entries)
    (Quanta, line.quanta) (Jobs, line.jobs) (Entries, line.entries) (find is_beyond (flat_map keyed_terms lines ++ rest))
    ∙ ap (λ b. are_terms line && b) (out_none lines rest)
    ∙ push_step (are_terms line) (list_all are_terms lines) (is_none (find is_beyond rest))

-- ---- the whole

count_none : (w : Bool) (fault : ConfigFault) → is_none (cond w None (Some fault)) ≡ w
count_none true fault = refl
count_none false fault = refl

pair_none : (a b : Bool) (x y : Key × ℕ) → is_none (cond (not a) (Some x) (cond (not b) (Some y) None)) ≡ (a && b)
pair_none false b x y = refl
pair_none true false x y = refl
pair_none true true x y = refl

-- w: well many tenants; n, d and t: well named, different and within range; a and b: so are the workers and the slice
whole_step : (w n d t a b : Bool) → (w && ((n && d) && (t && (a && b)))) ≡ (n && ((((w && t) && d) && a) && b))
whole_step false true d t a b = refl
whole_step false false d t a b = refl
whole_step true false d t a b = refl
whole_step true true false false a b = refl
whole_step true true false true a b = refl
whole_step true true true false a b = refl
whole_step true true true true a b = refl

-- a configuration but for its purses
abbrev is_config_but : ConfigData → Bool
is_config_but config =
    (((is_within 1 64 (length config.tenants) && list_all are_terms config.tenants) && are_distinct config.tenants) && is_within 1 16 config.workers)
    && is_within 1 1000000 config.slice

before_none : (config : ConfigData) → is_none (fault_before_purses config) ≡ (list_all is_well_named config.tenants && is_config_but config)
before_none config =
    let lines = config.tenants in
    let named = first_misnamed lines in
    let last : List (Key × ℕ) = (Workers, config.workers) ∷ (Slice, config.slice) ∷ [] in
    let count = is_within 1 64 (length lines) in
    let out = none_map (λ term. term.0) (find is_beyond (all_terms config)) ∙ out_none lines last in
    let ends = pair_none (is_within 1 16 config.workers) (is_within 1 1000000 config.slice) (Workers, config.workers) (Slice, config.slice) in
    rw (
      none_or (count_fault lines) (option_or (option_map Name named) (option_map Range (first_out (all_terms config)))),
      none_or (option_map Name named) (option_map Range (first_out (all_terms config))),
      none_map Name named,
      none_map Range (first_out (all_terms config)),
      count_none count Tenants,
      misnamed_none lines,
      out,
      ends,
    )
    (whole_step count (list_all is_well_named lines) (are_distinct lines) (list_all are_terms lines)
    (is_within 1 16 config.workers) (is_within 1 1000000 config.slice))

-- f: the tenants are different and within range; p: so are their purses; a and b: so are the workers and the slice
purse_step : (f p a b : Bool) → (((f && p) && a) && b) ≡ (((f && a) && b) && p)
purse_step false p a b = refl
purse_step true false false b = refl
purse_step true false true false = refl
purse_step true false true true = refl
purse_step true true false b = refl
purse_step true true true false = refl
purse_step true true true true = refl

purses_last : (config : ConfigData) → is_config config ≡ (is_config_but config && are_purses config.tenants)
unfolding is_config
purses_last config =
    purse_step ((is_within 1 64 (length config.tenants) && list_all are_terms config.tenants) && are_distinct config.tenants)
    (are_purses config.tenants) (is_within 1 16 config.workers) (is_within 1 1000000 config.slice)

pub fault_none : (config : ConfigData) → is_none (first_fault config) ≡ (list_all is_well_named config.tenants && is_config config)
fault_none config =
    rw (
      none_or (fault_before_purses config) (purse_fault config.tenants),
      before_none config,
      count_none (are_purses config.tenants) (Range Purse),
      purses_last config,
    )
    (sym (push_step (list_all is_well_named config.tenants) (is_config_but config) (are_purses config.tenants)))

unless_ok : {X : Type 0} (o : Option ConfigFault) (x y : X) → unless o x ≡ Ok y → (o ≡ None) × (x ≡ y)
unless_ok None x y h = (refl, cc)
unless_ok (Some fault) x y h = absurd (cc)

unless_cond : {X : Type 0} (b : Bool) (fault : ConfigFault) (x : X) → unless (cond b None (Some fault)) x ≡ cond b (Ok x) (Err fault)
unless_cond true fault x = refl
unless_cond false fault x = refl

-- lines that were judged are those that are written,
pub lines_are : (config : ConfigData) (lines : List TenantLine) → unless (fault_before_purses config) config.tenants ≡ Ok lines → config.tenants ≡ lines
lines_are config lines before = (unless_ok (fault_before_purses config) config.tenants lines before).1

-- and then a fault is that of the purses
left : (config : ConfigData) (lines : List TenantLine) → unless (fault_before_purses config) config.tenants ≡ Ok lines
    → judged config ≡ cond (is_config config) (Ok config) (Err (Range Purse))
left config lines before =
    let none = (unless_ok (fault_before_purses config) config.tenants lines before).0 in
    let all : (list_all is_well_named config.tenants && is_config_but config) ≡ true = sym (before_none config) ∙ ap is_none none in
    let kept = (and_parts (list_all is_well_named config.tenants) (is_config_but config) all).1 in
    let same : is_config config ≡ are_purses config.tenants = purses_last config ∙ ap (λ b. b && are_purses config.tenants) kept in
    let fault : first_fault config ≡ purse_fault config.tenants = ap (λ o. option_or o (purse_fault config.tenants)) none in
    ap (λ o. unless o config) fault
    ∙ unless_cond (are_purses config.tenants) (Range Purse) config
    ∙ ap (λ b. cond b (Ok config) (Err (Range Purse))) (sym same)

some_ok : (b : Bool) (fault : ConfigFault) (x y : ConfigData) → Some y ≡ cond b (Some x) None → cond b (Ok x) (Err fault) ≡ Ok y
some_ok true fault x y h = cc
some_ok false fault x y h = absurd (cc)

none_err : (b : Bool) (fault : ConfigFault) (x : ConfigData) → None ≡ cond b (Some x) None → cond b (Ok x) (Err fault) ≡ Err fault
none_err true fault x h = absurd (cc)
none_err false fault x h = refl

pub kept : (config : ConfigData) (lines : List TenantLine) (made : ConfigData) → unless (fault_before_purses config) config.tenants ≡ Ok lines
    → Some made ≡ cond (is_config config) (Some config) None → judged config ≡ Ok made
kept config lines made before h = left config lines before ∙ some_ok (is_config config) (Range Purse) config made h

pub refused : (config : ConfigData) (lines : List TenantLine) → unless (fault_before_purses config) config.tenants ≡ Ok lines
    → None ≡ cond (is_config config) (Some config) None → judged config ≡ Err (Range Purse)
refused config lines before h = left config lines before ∙ none_err (is_config config) (Range Purse) config h
