-- Walks over the tenants that find a purse's first member, count first members, and sum what a purse was granted.
use Rattle.std.proofs.Common.{◌≡◌, ◌≢◌, ℕ, zero, suc, ◌==◌, ◌+◌, ◌-◌, ◌<◌, ◌≤◌, ◌&&◌, Bool, true, false, cond, nat_le, List, [], ◌∷◌, ◌++◌, length, map, filter, get_or, set, ⊎_elim, Option, None, refl, sym, ap, ◌∙◌, arith, add-zero, length-append}
use Rattle.std.proofs.lemmas.Bool.{cond-true, cond-false, and_parts, leb-true, cases_lt}
use Rattle.std.proofs.lemmas.List.{get_or-map, get_or_default, get_or-set_same, get_or-set_other, map-append, length-map}
use Rattle.std.proofs.lemmas.List.Elements.{filter-append}
use Rattle.std.proofs.lemmas.List.Sums.{sum_by_push}
use Rattle.std.specs.List.{range_with_len, list_all}
use Rattle.mrcpsp.specs.Numbers.{first_from}
use Rattle.farm_core.specs.Purses.{purse_name, is_shared, passing, purse_of, members_of}
use Rattle.farm_core.specs.Config.{is_within, are_terms, purse_names, no_terms, member_lines, granted_by}
use Rattle.farm_core.specs.declared.config.TenantLine.{TenantLine}
use Rattle.farm_core.proofs.SharingLemmas.{is_eq, is_ne}

-- the name of a tenant's purse stands in its line
name_at : (lines : List TenantLine) (t : ℕ) (d : TenantLine) → t < length lines → purse_name (purse_names lines) t ≡ (get_or lines t d).purse
name_at lines t d l = get_or-map (λ (line : TenantLine). line.purse) lines t d None l

pub names_at : (lines : List TenantLine) (t u : ℕ) (d e : TenantLine) → t < length lines → u < length lines
    → is_shared (purse_name (purse_names lines) t) (purse_name (purse_names lines) u) ≡ is_shared (get_or lines t d).purse (get_or lines u e).purse
names_at lines t u d e l k =
    ap (λ (name : Option (List ℕ)). is_shared name (purse_name (purse_names lines) u)) (name_at lines t d l)
    ∙ ap (λ (name : Option (List ℕ)). is_shared (get_or lines t d).purse name) (name_at lines u e k)

-- ---- the first number from t on that passes, or else n

pub first_here : (test : ℕ → Bool) (n t : ℕ) → t < n → test t ≡ true → first_from test (n - t) t ≡ t
first_here test n t l h =
    let more : n - t ≡ suc (n - (t + 1)) = omega arith in
    ap (λ (k : ℕ). first_from test k t) more ∙ cond-true (test t) t (first_from test (n - (t + 1)) (t + 1)) h

pub first_later : (test : ℕ → Bool) (n t : ℕ) → t < n → test t ≡ false → first_from test (n - t) t ≡ first_from test (n - (t + 1)) (t + 1)
first_later test n t l h =
    let more : n - t ≡ suc (n - (t + 1)) = omega arith in
    ap (λ (k : ℕ). first_from test k t) more ∙ cond-false (test t) t (first_from test (n - (t + 1)) (t + 1)) h

pub first_nowhere : (test : ℕ → Bool) (n t : ℕ) → n ≤ t → first_from test (n - t) t ≡ t
first_nowhere test n t l =
    let none : n - t ≡ 0 = omega arith in
    ap (λ (k : ℕ). first_from test k t) none

-- the walk that looks for the first member
abbrev pub first_shared : List TenantLine → ℕ → ℕ → ℕ
first_shared lines t u = first_from (λ v. is_shared (purse_name (purse_names lines) v) (purse_name (purse_names lines) t)) (t - u) u

-- ---- the numbers below n + 1 that pass are those below n, and then n where it passes

pub range_more : (a n : ℕ) → range_with_len a (n + 1) ≡ range_with_len a n ++ (a + n) ∷ []
range_more a zero = ap (λ (k : ℕ). k ∷ []) (sym (add-zero a))
range_more a (suc n) =
    let at : a + 1 + n ≡ a + suc n = omega arith in
    let more : suc n + 1 ≡ suc (n + 1) = omega arith in
    ap (range_with_len a) more ∙ ap (λ (ks : List ℕ). a ∷ ks) (range_more (a + 1) n ∙ ap (λ (k : ℕ). range_with_len (a + 1) n ++ k ∷ []) at)

passing_next : (test : ℕ → Bool) (n : ℕ) → passing test (n + 1) ≡ passing test n ++ cond (test n) (n ∷ []) []
passing_next test n =
    let at : 0 + n ≡ n = omega arith in
    ap (filter test) (range_more 0 n ∙ ap (λ (k : ℕ). range_with_len 0 n ++ k ∷ []) at) ∙ filter-append test (range_with_len 0 n) (n ∷ [])

pub passes : (test : ℕ → Bool) (n : ℕ) → test n ≡ true → passing test (n + 1) ≡ passing test n ++ n ∷ []
passes test n h = passing_next test n ∙ ap (λ (b : Bool). passing test n ++ cond b (n ∷ []) []) h

no_more : (xs : List ℕ) → xs ++ [] ≡ xs
no_more [] = refl
no_more (x ∷ xs) = ap (λ (ys : List ℕ). x ∷ ys) (no_more xs)

pub fails : (test : ℕ → Bool) (n : ℕ) → test n ≡ false → passing test (n + 1) ≡ passing test n
fails test n h = passing_next test n ∙ ap (λ (b : Bool). passing test n ++ cond b (n ∷ []) []) h ∙ no_more (passing test n)

pub counts : (test : ℕ → Bool) (n : ℕ) → test n ≡ true → length (passing test (n + 1)) ≡ length (passing test n) + 1
counts test n h = ap length (passes test n h) ∙ length-append (passing test n) (n ∷ [])

-- a list that has the numbers of those before n, and then that of n
pub numbered_more : (number : ℕ → ℕ) (numbers : List ℕ) (n x : ℕ) → n < length numbers → ((t : ℕ) → t < n → get_or numbers t 0 ≡ number t) → x ≡ number n
    → (t : ℕ) → t < n + 1 → get_or (set numbers n x) t 0 ≡ number t
numbered_more number numbers n x l before is t m =
    ⊎_elim
    (λ (k : t < n). get_or-set_other numbers n t x 0 (λ e. absurd (omega (arith, e, k))) ∙ before t k)
    (λ (k : n ≤ t).
    let e : t ≡ n = omega (arith, k, m) in
    ap (λ (i : ℕ). get_or (set numbers n x) i 0) e ∙ get_or-set_same numbers n x 0 l ∙ is ∙ ap number (sym e))
    (cases_lt t n)

-- ---- what a purse was granted by the first n tenants

abbrev pub granted_below : List TenantLine → ℕ → ℕ → ℕ
granted_below lines p n = granted_by (map (λ t. get_or lines t no_terms) (passing (λ t. purse_of (purse_names lines) t == p) n))

pub granted_more : (lines : List TenantLine) (p n : ℕ) (line : TenantLine) → n < length lines → line ≡ get_or lines n line → purse_of (purse_names lines) n ≡ p
    → granted_below lines p (n + 1) ≡ granted_below lines p n + line.quanta
granted_more lines p n line l is own =
    let before = passing (λ t. purse_of (purse_names lines) t == p) n in
    let at : get_or lines n no_terms ≡ line = get_or_default lines n no_terms line l ∙ sym is in
    ap (λ (ts : List ℕ). granted_by (map (λ t. get_or lines t no_terms) ts)) (passes (λ t. purse_of (purse_names lines) t == p) n (is_eq (purse_of (purse_names lines) n) p own))
    ∙ ap granted_by (map-append (λ (t : ℕ). get_or lines t no_terms) before (n ∷ []))
    ∙ sum_by_push (λ (other : TenantLine). other.quanta) (map (λ t. get_or lines t no_terms) before) (get_or lines n no_terms)
    ∙ ap (λ (other : TenantLine). granted_below lines p n + other.quanta) at

pub granted_as_before : (lines : List TenantLine) (p n : ℕ) → purse_of (purse_names lines) n ≢ p → granted_below lines p (n + 1) ≡ granted_below lines p n
granted_as_before lines p n other =
    ap (λ (ts : List ℕ). granted_by (map (λ t. get_or lines t no_terms) ts)) (fails (λ t. purse_of (purse_names lines) t == p) n (is_ne (purse_of (purse_names lines) n) p other))

pub granted_in_all : (lines : List TenantLine) (p : ℕ) → granted_by (member_lines lines p) ≡ granted_below lines p (length lines)
unfolding members_of
granted_in_all lines p = ap (granted_below lines p) (length-map lines (λ (line : TenantLine). line.purse))

-- a line grants at most 10^12
terms_at : (lines : List TenantLine) (t : ℕ) (d : TenantLine) → list_all are_terms lines ≡ true → t < length lines → are_terms (get_or lines t d) ≡ true
terms_at [] t d all l = absurd (omega arith)
terms_at (line ∷ lines) zero d all l = (and_parts (are_terms line) (list_all are_terms lines) all).0
terms_at (line ∷ lines) (suc t) d all l = terms_at lines t d (and_parts (are_terms line) (list_all are_terms lines) all).1 (omega arith)

quanta_in : (line : TenantLine) → are_terms line ≡ true → line.quanta ≤ 1000000000000
unfolding are_terms
quanta_in line h =
    let first = and_parts (nat_le line.quanta 1000000000000 && is_within 1 1000 line.jobs) (is_within 1 1000000 line.entries) h in
    leb-true line.quanta 1000000000000 (and_parts (nat_le line.quanta 1000000000000) (is_within 1 1000 line.jobs) first.0).0

pub quanta_most : (lines : List TenantLine) (t : ℕ) (line : TenantLine) → list_all are_terms lines ≡ true → t < length lines → line ≡ get_or lines t line → line.quanta ≤ 1000000000000
quanta_most lines t line all l is = quanta_in line (ap are_terms is ∙ terms_at lines t line all l)

-- ---- each of the numbers from t on, below n

pub all_here : (test : ℕ → Bool) (n t : ℕ) → t < n → test t ≡ false → list_all test (range_with_len t (n - t)) ≡ false
all_here test n t l h =
    let more : n - t ≡ suc (n - (t + 1)) = omega arith in
    ap (λ (k : ℕ). list_all test (range_with_len t k)) more ∙ ap (λ (b : Bool). b && list_all test (range_with_len (t + 1) (n - (t + 1)))) h

pub all_later : (test : ℕ → Bool) (n t : ℕ) → t < n → test t ≡ true → list_all test (range_with_len t (n - t)) ≡ list_all test (range_with_len (t + 1) (n - (t + 1)))
all_later test n t l h =
    let more : n - t ≡ suc (n - (t + 1)) = omega arith in
    ap (λ (k : ℕ). list_all test (range_with_len t k)) more ∙ ap (λ (b : Bool). b && list_all test (range_with_len (t + 1) (n - (t + 1)))) h

pub all_done : (test : ℕ → Bool) (n t : ℕ) → n ≤ t → list_all test (range_with_len t (n - t)) ≡ true
all_done test n t l =
    let none : n - t ≡ 0 = omega arith in
    ap (λ (k : ℕ). list_all test (range_with_len t k)) none
