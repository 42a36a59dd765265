-- What a tenant sees at its place of its purse, and what a call changes there.
use Rattle.std.proofs.Common.{◌≡◌, ◌≢◌, ℕ, zero, suc, ◌+◌, ◌-◌, ◌<◌, eqb, Bool, true, List, [], ◌∷◌, length, map, filter, get_or, set, Option, refl, sym, ap, ◌∙◌, arith}
use Rattle.std.specs.List.{range_with_len, sum_by}
use Rattle.std.proofs.lemmas.Bool.Decides.{nat_tests}
use Rattle.std.proofs.lemmas.List.{length-map}
use Rattle.std.proofs.lemmas.List.Sums.{sum_by-cons}
use Rattle.tenant_book.specs.Book.{BookData}
use Rattle.farm_core.specs.declared.config.TenantLine.{TenantLine}
use Rattle.farm_core.specs.declared.entry.Event.{Event}
use Rattle.farm_core.specs.Purses.{purse_of, members_of, place_of}
use Rattle.farm_core.specs.Config.{ConfigData, purse_names, member_lines, granted_by}
use Rattle.farm_core.specs.Tenant.{Tenant, Member, Purse, held_by, held_beside, seated_at, no_member, own_of, with_seat, held, free, book, ledger_of}
use Rattle.farm_core.specs.Step.{Answer, step}
use Rattle.farm_core.specs.World.{World, purse_in, place_in, spent_in, member, purse, view, Steps, Follows}
use Rattle.farm_core.specs.Laws.{EachViewIsASeat}
use Rattle.farm_core.proofs.PlaceLemmas.{at_place, in_place, put_place, same_among}
use Rattle.farm_core.proofs.SharingLemmas.{is_own}

abbrev Names : Type 0
Names = List (Option (List ℕ))

pub named : (lines : List TenantLine) (t : ℕ) → t < length lines → t < length (purse_names lines)
named lines t l =
    let same : length (purse_names lines) ≡ length lines = length-map lines (λ (line : TenantLine). line.purse) in
    omega arith

pub range_length : (a n : ℕ) → length (range_with_len a n) ≡ n
range_length a zero = refl
range_length a (suc n) = ap suc (range_length (a + 1) n)

get_map : {X Y : Type 0} (g : X → Y) (xs : List X) (i : ℕ) (d : X) (e : Y) → i < length xs → get_or (map g xs) i e ≡ g (get_or xs i d)
get_map g [] i d e l = absurd (omega arith)
get_map g (x ∷ xs) zero d e l = refl
get_map g (x ∷ xs) (suc i) d e l = get_map g xs i d e (omega arith)

number_is : (a b : ℕ) → eqb a b ≡ true → a ≡ b
number_is a b h = grind (arith, nat_tests)

-- ---- places

pub place_known : (names : Names) (t : ℕ) → t < length names → place_of names t < length (members_of names (purse_of names t))
unfolding members_of place_of
place_known names t l = in_place (λ u. eqb (purse_of names u) (purse_of names t)) 0 (length names) t l (is_own names t)

pub found_at : (names : Names) (t : ℕ) → t < length names → get_or (members_of names (purse_of names t)) (place_of names t) 0 ≡ t
unfolding members_of place_of
found_at names t l = at_place (λ u. eqb (purse_of names u) (purse_of names t)) 0 (length names) t 0 l (is_own names t) ∙ omega arith

pub member_there : {X : Type 0} (names : Names) (g : ℕ → X) (d : X) (t : ℕ) → t < length names → get_or (map g (members_of names (purse_of names t))) (place_of names t) d ≡ g t
member_there names g d t l = get_map g (members_of names (purse_of names t)) (place_of names t) 0 d (place_known names t l) ∙ ap g (found_at names t l)

-- where one member alone stands otherwise
pub members_put : {X : Type 0} (names : Names) (g h : ℕ → X) (t : ℕ) → t < length names → ((u : ℕ) → u ≢ t → h u ≡ g u)
    → map h (members_of names (purse_of names t)) ≡ set (map g (members_of names (purse_of names t))) (place_of names t) (h t)
unfolding members_of place_of
members_put names g h t l others =
    let same : ℕ → Bool = λ u. eqb (purse_of names u) (purse_of names t) in
    let at : 0 + t ≡ t = omega arith in
    let place : ℕ = length (filter same (range_with_len 0 t)) in
    put_place same g h 0 (length names) t l (is_own names t) (λ u ne. others u (λ e. ne (e ∙ sym at)))
    ∙ ap (λ v. set (map g (filter same (range_with_len 0 (length names)))) place (h v)) at

-- no member of another purse does
pub members_stay : {X : Type 0} (names : Names) (g h : ℕ → X) (q t : ℕ) → q ≢ purse_of names t → ((u : ℕ) → u ≢ t → h u ≡ g u)
    → map h (members_of names q) ≡ map g (members_of names q)
unfolding members_of
members_stay names g h q t differ others =
    let here : ℕ → Bool = λ u. eqb (purse_of names u) q in
    let apart : (u : ℕ) → here u ≡ true → u ≢ t = λ u is same. let eq : purse_of names u ≡ q = number_is (purse_of names u) q is in differ (sym eq ∙ ap (purse_of names) same) in
    same_among here g h (range_with_len 0 (length names)) (λ u is. others u (apart u is))

-- ---- what members hold

pub beside_set : (place : ℕ) (ms : List Member) (m : Member) → held_beside place (set ms place m) ≡ held_beside place ms
beside_set place [] m = refl
beside_set zero (x ∷ ms) m = refl
beside_set (suc place) (x ∷ ms) m = ap (λ n. held_by x.jobs + n) (beside_set place ms m)

abbrev held_of : Member → ℕ
held_of m = held_by m.jobs

pub held_whole : (place : ℕ) (ms : List Member) → place < length ms → held_by (get_or ms place no_member).jobs + held_beside place ms ≡ sum_by held_of ms
held_whole place [] l = absurd (omega arith)
held_whole zero (m ∷ ms) l = sym (sum_by-cons held_of m ms)
held_whole (suc place) (m ∷ ms) l =
    let rest = held_whole place ms (omega arith) in
    let whole = sum_by-cons held_of m ms in
    omega arith

-- ---- a tenant's view

pub own_seen : (t : ℕ) (w : World) → own_of (view t w) ≡ member t w
unfolding view
own_seen t w = refl

pub each_view_is_a_seat : EachViewIsASeat
unfolding view purse
each_view_is_a_seat w t l =
    let names = purse_names w.config.tenants in
    let there = member_there names (λ u. member u w) no_member t (named w.config.tenants t l) in
    ap (seated_at (place_in w.config t) (purse (purse_in w.config t) w)) (sym there)

-- all members of a purse have its ledger
pub held_in : (t : ℕ) (w : World) → t < length w.config.tenants → held (view t w) ≡ sum_by held_of (purse (purse_in w.config t) w).members
unfolding view purse held
held_in t w l =
    let names = purse_names w.config.tenants in
    let there = member_there names (λ u. member u w) no_member t (named w.config.tenants t l) in
    let known = place_known names t (named w.config.tenants t l) in
    let ms : List Member = map (λ u. member u w) (members_of names (purse_of names t)) in
    let counted : length ms ≡ length (members_of names (purse_of names t)) = length-map (members_of names (purse_of names t)) (λ u. member u w) in
    ap (λ (m : Member). held_by m.jobs + held_beside (place_of names t) ms) (sym there)
    ∙ held_whole (place_of names t) ms (omega arith)

book_as : (t : Tenant) (granted spent holds : ℕ) → t.granted ≡ granted → t.spent ≡ spent → held t ≡ holds
    → book t ≡ record { granted = granted; free = granted - holds - spent; held = holds; spent = spent }
unfolding book free
book_as t granted spent holds a b c =
    ap (λ n. let it : BookData = record { granted = n; free = n - held t - t.spent; held = held t; spent = t.spent } in it) a
    ∙ ap (λ n. let it : BookData = record { granted = granted; free = granted - held t - n; held = held t; spent = n } in it) b
    ∙ ap (λ n. let it : BookData = record { granted = granted; free = granted - n - spent; held = n; spent = spent } in it) c

pub same_book : (one other : Tenant) → one.granted ≡ other.granted → one.spent ≡ other.spent → held one ≡ held other → book one ≡ book other
same_book one other granted spent holds =
    book_as one other.granted other.spent (held other) granted spent holds ∙ sym (book_as other other.granted other.spent (held other) refl refl refl)

pub one_ledger : (t u : ℕ) (w : World) → t < length w.config.tenants → u < length w.config.tenants → purse_in w.config u ≡ purse_in w.config t → book (view u w) ≡ book (view t w)
unfolding view
one_ledger t u w known also same =
    same_book (view u w) (view t w) (ap (λ p. (purse p w).granted) same) (ap (λ p. (purse p w).spent) same)
    (held_in u w also ∙ ap (λ p. sum_by held_of (purse p w).members) same ∙ sym (held_in t w known))

-- which is the purse's
pub ledger_is : (t : ℕ) (w : World) → t < length w.config.tenants → book (view t w) ≡ ledger_of (purse (purse_in w.config t) w)
unfolding view ledger_of
ledger_is t w known =
    let p : Purse = purse (purse_in w.config t) w in
    book_as (view t w) p.granted p.spent (sum_by held_of p.members) refl refl (held_in t w known)

-- ---- a call

pub steps_of : (old new : World) (t : ℕ) (event : Event) (answer : Answer) → Follows old t event answer new → Steps old t event answer new
steps_of old new t event answer h =
    record { known = h.known; answer_is = h.answer_is; own = h.own; others = h.others; purses = h.purses; journal = h.journal; config = h.config }

abbrev made : ConfigData → ℕ → ℕ → List Member → Purse
made config p spent ms = record { granted = granted_by (member_lines config.tenants p); spent = spent; members = ms }

purse_is : (config : ConfigData) (p : ℕ) (w : World) → w.config ≡ config → purse p w ≡ made config p (spent_in p w) (map (λ u. member u w) (members_of (purse_names config.tenants) p))
unfolding purse
purse_is config p w is = ap (λ (c : ConfigData). made c p (spent_in p w) (map (λ u. member u w) (members_of (purse_names c.tenants) p))) is

spent_seen : (config : ConfigData) (t : ℕ) (w : World) → w.config ≡ config → (view t w).spent ≡ spent_in (purse_in config t) w
unfolding view purse
spent_seen config t w is = ap (λ (c : ConfigData). spent_in (purse_in c t) w) is

-- the caller's purse
pub purse_after : (old new : World) (t : ℕ) (event : Event) (answer : Answer) → Steps old t event answer new
    → purse (purse_in old.config t) new ≡ with_seat (purse (purse_in old.config t) old) (place_in old.config t) (step (view t old) event).after
purse_after old new t event answer h =
    let names = purse_names old.config.tenants in
    let p = purse_in old.config t in
    let place = place_in old.config t in
    let ms : List Member = map (λ u. member u old) (members_of names p) in
    let after = (step (view t old) event).after in
    let spent : spent_in p new ≡ after.spent = sym (spent_seen old.config t new h.config) ∙ ap (λ (v : Tenant). v.spent) h.own in
    let own : member t new ≡ own_of after = sym (own_seen t new) ∙ ap own_of h.own in
    let members : map (λ u. member u new) (members_of names p) ≡ set ms place (own_of after) =
    members_put names (λ u. member u old) (λ u. member u new) t (named old.config.tenants t h.known) h.others ∙ ap (set ms place) own in
    purse_is old.config p new h.config
    ∙ ap (λ n. made old.config p n (map (λ u. member u new) (members_of names p))) spent
    ∙ ap (made old.config p after.spent) members
    ∙ ap (λ (x : Purse). with_seat x place after) (sym (purse_is old.config p old refl))

-- any other purse
pub purse_stays : (old new : World) (t : ℕ) (event : Event) (answer : Answer) → Steps old t event answer new → (q : ℕ) → q ≢ purse_in old.config t → purse q new ≡ purse q old
purse_stays old new t event answer h q differ =
    let names = purse_names old.config.tenants in
    let members : map (λ u. member u new) (members_of names q) ≡ map (λ u. member u old) (members_of names q) =
    members_stay names (λ u. member u old) (λ u. member u new) q t differ h.others in
    purse_is old.config q new h.config
    ∙ ap (λ n. made old.config q n (map (λ u. member u new) (members_of names q))) (h.purses q differ)
    ∙ ap (made old.config q (spent_in q old)) members
    ∙ sym (purse_is old.config q old refl)

-- and a tenant of any other purse
pub view_stays : (old new : World) (t : ℕ) (event : Event) (answer : Answer) → Steps old t event answer new → (u : ℕ) → purse_in old.config u ≢ purse_in old.config t → view u new ≡ view u old
unfolding view
view_stays old new t event answer h u differ =
    let apart : u ≢ t = λ e. differ (ap (purse_in old.config) e) in
    ap (λ (c : ConfigData). seated_at (place_in c u) (purse (purse_in c u) new) (member u new)) h.config
    ∙ ap (λ (p : Purse). seated_at (place_in old.config u) p (member u new)) (purse_stays old new t event answer h (purse_in old.config u) differ)
    ∙ ap (seated_at (place_in old.config u) (purse (purse_in old.config u) old)) (h.others u apart)

-- what is another tenant's own stays
pub jobs_stay : (old new : World) (t : ℕ) (event : Event) (answer : Answer) → Steps old t event answer new → (u : ℕ) → u ≢ t → (view u new).jobs ≡ (view u old).jobs
unfolding view
jobs_stay old new t event answer h u differ = ap (λ (m : Member). m.jobs) (h.others u differ)
