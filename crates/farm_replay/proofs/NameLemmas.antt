-- Each purse of a configuration has names: those of its members' lines.
use Rattle.std.proofs.Common.{◌≡◌, ℕ, zero, suc, ◌+◌, ◌<◌, ◌≤◌, ◌==◌, ◌||◌, nat_lt, Bool, true, false, cond, List, [], ◌∷◌, length, map, filter, get_or, Option, Some, None, refl, sym, ap, ◌∙◌, arith, ⊎_elim}
use Rattle.std.specs.Prelude.{is_some, not}
use Rattle.std.specs.List.{list_all, list_any, position, position_or_len, range_with_len}
use Rattle.std.proofs.lemmas.Bool.{cases_eq, and_parts, and_from, or_parts}
use Rattle.std.proofs.lemmas.Bool.Decides.{nat_tests}
use Rattle.std.proofs.lemmas.List.{length-map}
use Rattle.std.proofs.lemmas.List.Quantifiers.{position-Some}
use Rattle.std.specs.Cmp.{both_ways}
use Rattle.farm_core.specs.declared.config.TenantLine.{TenantLine}
use Rattle.farm_core.specs.Config.{ConfigData, no_terms, has_name, are_distinct, purse_names}
use Rattle.farm_core.specs.Name.{is_name, same_bytes}
use Rattle.farm_core.specs.Purses.{purse_of, members_of}
use Rattle.farm_core.specs.World.{purse_in, place_in}
use Rattle.farm_core.proofs.NameLemmas.{same_bytes_is}
use Rattle.farm_session.specs.Routed.{is_line_of, tenant_number}
use Rattle.farm_replay.specs.Isolation.{place_if, is_members}
use Rattle.farm_replay.specs.Bytes.{EachPurseHasNames}

-- ---- lines of different names

lacks : (name : List ℕ) (lines : List TenantLine) → has_name name lines ≡ false → (t : ℕ) → t < length lines → same_bytes name (get_or lines t no_terms).name ≡ false
lacks name [] h t below = absurd (omega arith)
lacks name (line ∷ lines) h zero below = (or_parts (same_bytes name line.name) (has_name name lines) h).0
lacks name (line ∷ lines) h (suc t) below = lacks name lines (or_parts (same_bytes name line.name) (has_name name lines) h).1 t (omega arith)

not_is : (b : Bool) → not b ≡ true → b ≡ false
not_is true h = absurd (cc)
not_is false h = refl

differ : (lines : List TenantLine) → are_distinct lines ≡ true → (t u : ℕ) → t < u → u < length lines
    → same_bytes (get_or lines t no_terms).name (get_or lines u no_terms).name ≡ false
differ [] h t u less below = absurd (omega arith)
differ (line ∷ lines) h t zero less below = absurd (omega arith)
differ (line ∷ lines) h zero (suc u) less below =
    lacks line.name lines (not_is (has_name line.name lines) (and_parts (not (has_name line.name lines)) (are_distinct lines) h).0) u (omega arith)
differ (line ∷ lines) h (suc t) (suc u) less below =
    differ lines (and_parts (not (has_name line.name lines)) (are_distinct lines) h).1 t u (omega arith) (omega arith)

named_at : (lines : List TenantLine) → list_all (λ (line : TenantLine). is_name line.name) lines ≡ true → (t : ℕ) → t < length lines → is_name (get_or lines t no_terms).name ≡ true
named_at [] h t below = absurd (omega arith)
named_at (line ∷ lines) h zero below = (and_parts (is_name line.name) (list_all (λ (l : TenantLine). is_name l.name) lines) h).0
named_at (line ∷ lines) h (suc t) below = named_at lines (and_parts (is_name line.name) (list_all (λ (l : TenantLine). is_name l.name) lines) h).1 t (omega arith)

-- the first place at which a test passes
first_at : {A : Type 0} (f : A → Bool) (xs : List A) (t : ℕ) (d : A) → t < length xs → f (get_or xs t d) ≡ true → ((k : ℕ) → k < t → f (get_or xs k d) ≡ false)
    → position_or_len f xs ≡ t
first_at f [] t d below h before = absurd (omega arith)
first_at f (x ∷ xs) zero d below h before = ap (λ b. cond (not b) (1 + position_or_len f xs) 0) h
first_at f (x ∷ xs) (suc t) d below h before =
    let rest = first_at f xs t d (omega arith) h (λ k less. before (suc k) (omega arith)) in
    ap (λ b. cond (not b) (1 + position_or_len f xs) 0) (before 0 (omega arith)) ∙ omega (arith, rest)

position_at : {A : Type 0} (f : A → Bool) (xs : List A) (t : ℕ) → t < length xs → position_or_len f xs ≡ t → position f xs ≡ Some t
position_at f xs t below at =
    let less : nat_lt t (length xs) ≡ true = grind (arith, nat_tests) in
    ap (λ n. cond (nat_lt n (length xs)) (Some n) None) at ∙ ap (λ b. cond b (Some t) None) less

-- a tenant's name is that of its line alone
own_number : (config : ConfigData) → are_distinct config.tenants ≡ true → (t : ℕ) → t < length config.tenants → (who : List ℕ)
    → same_bytes who (get_or config.tenants t no_terms).name ≡ true → tenant_number who config ≡ Some t
own_number config distinct t known who same =
    let lines = config.tenants in
    let is : who ≡ (get_or lines t no_terms).name = (same_bytes_is who (get_or lines t no_terms).name).0 same in
    let here : is_line_of who (get_or lines t no_terms) ≡ true = (same_bytes_is (get_or lines t no_terms).name who).1 (sym is) in
    position_at (is_line_of who) lines t known
    (first_at (is_line_of who) lines t no_terms known here (λ k less. ap (same_bytes (get_or lines k no_terms).name) is ∙ differ lines distinct k t less known))

-- ---- the members' names

abbrev names_in : List TenantLine → List ℕ → List (List ℕ)
names_in lines ts = map (λ (line : TenantLine). line.name) (map (λ (t : ℕ). get_or lines t no_terms) ts)

abbrev is_any : List ℕ → List TenantLine → List ℕ → Bool
is_any who lines ts = list_any (λ (name : List ℕ). same_bytes who name) (names_in lines ts)

-- a tenant of that name among those that pass
record IsHit (who : List ℕ) (lines : List TenantLine) (p : ℕ → Bool) (a n : ℕ) : Type 0 where
  at : ℕ
  from : a ≤ at
  below : at < a + n
  passes : p at ≡ true
  same : same_bytes who (get_or lines at no_terms).name ≡ true

hit : (who : List ℕ) (lines : List TenantLine) (p : ℕ → Bool) (a n : ℕ) → is_any who lines (filter p (range_with_len a n)) ≡ true → IsHit who lines p a n
hit who lines p a zero h = absurd (cc)
hit who lines p a (suc n) h =
    let rest = filter p (range_with_len (a + 1) n) in
    let later : is_any who lines rest ≡ true → IsHit who lines p a (suc n) = λ more.
    let it = hit who lines p (a + 1) n more in
    record { at = it.at; from = (let b = it.from in omega arith); below = (let b = it.below in omega arith); passes = it.passes; same = it.same } in
    elim (p a) as (λ b. p a ≡ b → is_any who lines (cond b (a ∷ rest) rest) ≡ true → IsHit who lines p a (suc n)) [
      | true ↦ λ passes. elim (same_bytes who (get_or lines a no_terms).name) as
          (λ b. same_bytes who (get_or lines a no_terms).name ≡ b → (b || is_any who lines rest) ≡ true → IsHit who lines p a (suc n)) [
            | true ↦ λ same _. record { at = a; from = omega arith; below = omega arith; passes = passes; same = same }
            | false ↦ λ _ more. later more
          ] refl
      | false ↦ λ _ more. later more
    ] refl h

or_left : (a b : Bool) → a ≡ true → (a || b) ≡ true
or_left a b h = ap (λ x. x || b) h

or_right : (a b : Bool) → b ≡ true → (a || b) ≡ true
or_right true b h = refl
or_right false b h = h

hit_any : (who : List ℕ) (lines : List TenantLine) (p : ℕ → Bool) (a n at : ℕ) → a ≤ at → at < a + n → p at ≡ true → same_bytes who (get_or lines at no_terms).name ≡ true
    → is_any who lines (filter p (range_with_len a n)) ≡ true
hit_any who lines p a zero at from below passes same = absurd (omega arith)
hit_any who lines p a (suc n) at from below passes same =
    let rest = filter p (range_with_len (a + 1) n) in
    let own = same_bytes who (get_or lines a no_terms).name in
    ⊎_elim
    (λ (here : at ≡ a).
    ap (λ b. is_any who lines (cond b (a ∷ rest) rest)) (ap p (sym here) ∙ passes) ∙ or_left own (is_any who lines rest) (ap (λ k. same_bytes who (get_or lines k no_terms).name) (sym here) ∙ same))
    (λ (off : at ≡ a → ⊥).
    let more = hit_any who lines p (a + 1) n at (omega (arith, off)) (omega arith) passes same in
    elim (p a) as (λ b. is_any who lines (cond b (a ∷ rest) rest) ≡ true) [ true ↦ or_right own (is_any who lines rest) more | false ↦ more ])
    (cases_eq at a)

all_named : (lines : List TenantLine) (p : ℕ → Bool) (a n : ℕ) → a + n ≤ length lines → list_all (λ (line : TenantLine). is_name line.name) lines ≡ true
    → list_all is_name (names_in lines (filter p (range_with_len a n))) ≡ true
all_named lines p a zero most named = refl
all_named lines p a (suc n) most named =
    let rest = filter p (range_with_len (a + 1) n) in
    let more = all_named lines p (a + 1) n (omega arith) named in
    elim (p a) as (λ b. list_all is_name (names_in lines (cond b (a ∷ rest) rest)) ≡ true) [
      | true ↦ and_from (is_name (get_or lines a no_terms).name) (list_all is_name (names_in lines rest)) (named_at lines named a (omega arith)) more
      | false ↦ more
    ]

-- the tenant of that number is a member
is_in : (config : ConfigData) (p t : ℕ) → (purse_in config t == p) ≡ true → is_some (place_if config p (Some t)) ≡ true
is_in config p t h = ap (λ b. is_some (cond b (Some (place_in config t)) None)) h

in_is : (config : ConfigData) (p t : ℕ) → is_some (place_if config p (Some t)) ≡ true → (purse_in config t == p) ≡ true
in_is config p t h = elim (purse_in config t == p) as (λ b. is_some (cond b (Some (place_in config t)) None) ≡ true → b ≡ true) [ true ↦ λ _. refl | false ↦ λ e. absurd (cc) ] h

pub each_purse_has_names : EachPurseHasNames
unfolding members_of
each_purse_has_names config p distinct named =
    let lines = config.tenants in
    let own : ℕ → Bool = λ t. purse_of (purse_names lines) t == p in
    let n = length (purse_names lines) in
    let all : n ≡ length lines = length-map lines (λ (line : TenantLine). line.purse) in
    record {
      named = all_named lines own 0 n (omega (arith, all)) named;
      exact = λ who. both_ways (is_any who lines (filter own (range_with_len 0 n))) (is_members config p (Some who))
          (λ h.
          let it = hit who lines own 0 n h in
          ap (λ (t : Option ℕ). is_some (place_if config p t)) (own_number config distinct it.at (omega (arith, all, it.below)) who it.same) ∙ is_in config p it.at it.passes)
          (λ h. member who (tenant_number who config) refl h);
    }
  where
    member : (who : List ℕ) (t : Option ℕ) → tenant_number who config ≡ t → is_some (place_if config p t) ≡ true
        → is_any who config.tenants (filter (λ k. purse_of (purse_names config.tenants) k == p) (range_with_len 0 (length (purse_names config.tenants)))) ≡ true
    member who None e h = absurd (cc)
    member who (Some t) e h =
        let lines = config.tenants in
        let at = position-Some (is_line_of who) lines t no_terms e in
        let all : length (purse_names lines) ≡ length lines = length-map lines (λ (line : TenantLine). line.purse) in
        let is : (get_or lines t no_terms).name ≡ who = (same_bytes_is (get_or lines t no_terms).name who).0 at.1 in
        let known = at.0 in
        hit_any who lines (λ k. purse_of (purse_names lines) k == p) 0 (length (purse_names lines)) t (omega arith) (omega (arith, all, known))
        (in_is config p t h) ((same_bytes_is who (get_or lines t no_terms).name).1 (sym is))
