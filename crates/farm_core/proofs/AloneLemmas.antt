-- A run, as one purse sees it, and as a tenant does that has its purse for itself.
use Rattle.std.proofs.Common.{◌≡◌, ◌≢◌, ℕ, List, [], ◌∷◌, length, map, filter, get_or, Bool, true, false, cond, eqb, refl, sym, ap, ◌∙◌, subst, arith, zero, suc, ◌+◌, ◌<◌, ⊎_elim}
use Rattle.std.proofs.lemmas.Bool.Decides.{nat_tests}
use Rattle.std.proofs.lemmas.List.Sums.{sum_by-cons}
use Rattle.tenant_book.specs.Book as ledger
use Rattle.farm_core.specs.declared.config.TenantLine.{TenantLine}
use Rattle.farm_core.specs.Purses.{is_shared, purse_name, members_of, place_of}
use Rattle.farm_core.specs.Config.{ConfigData, purse_names, member_lines, granted_by}
use Rattle.farm_core.specs.Tenant.{Tenant, Member, Purse, new_member, newcomers, newcomer, seated_at, seat, with_seat}
use Rattle.farm_core.specs.Step.{Answer, step}
use Rattle.farm_core.specs.World.{World, Call, Asked, new_numbers, no_book, terms_in, purse_in, place_in, opened, spent_in, member, purse, view, Steps, Leads, own_calls, own_events, own_answers, answers_alone, after_alone, opened_purse}
use Rattle.farm_core.specs.Laws.{EachPurseIsAlone, EachPurseIsIsolated, IsLone, lone_events, lone_answers, answers_by, after_by, EachLoneTenantIsAlone}
use Rattle.farm_core.proofs.PlaceLemmas.{none_pass, one_passes}
use Rattle.farm_core.proofs.SharingLemmas.{apart, is_own, is_ne}
use Rattle.farm_core.proofs.SeatLemmas.{named, each_view_is_a_seat, purse_after, purse_stays, view_stays}

-- ---- the farm in which nothing has happened

first_numbers : (lines : List TenantLine) (t : ℕ) → get_or (map (λ (line : TenantLine). new_numbers) lines) t new_numbers ≡ new_numbers
first_numbers [] t = refl
first_numbers (l ∷ lines) zero = refl
first_numbers (l ∷ lines) (suc t) = first_numbers lines t

unspent : (granted : ℕ → ℕ) (ps : List ℕ) (p : ℕ) → (get_or (map (λ q. ledger.opened (granted q)) ps) p no_book).spent ≡ 0
unspent granted [] p = refl
unspent granted (q ∷ ps) zero = refl
unspent granted (q ∷ ps) (suc p) = unspent granted ps p

pub member_opened : (t : ℕ) (config : ConfigData) → member t (opened config) ≡ new_member (terms_in config t)
unfolding member opened
member_opened t config = let there = first_numbers config.tenants t in rw there refl

members_opened : (config : ConfigData) (ts : List ℕ) → map (λ t. member t (opened config)) ts ≡ map new_member (map (terms_in config) ts)
members_opened config [] = refl
members_opened config (t ∷ ts) =
    ap (λ (m : Member). m ∷ map (λ u. member u (opened config)) ts) (member_opened t config)
    ∙ ap (λ (ms : List Member). new_member (terms_in config t) ∷ ms) (members_opened config ts)

pub config_opened : (config : ConfigData) → (opened config).config ≡ config
unfolding opened
config_opened config = refl

spent_opened : (config : ConfigData) (p : ℕ) → spent_in p (opened config) ≡ 0
unfolding opened
spent_opened config p = unspent (λ q. granted_by (member_lines config.tenants q)) _ p

abbrev made : ConfigData → ℕ → ℕ → List Member → Purse
made config p spent ms = record { granted = granted_by (member_lines config.tenants p); spent = spent; members = ms }

unfolded : (config : ConfigData) (p : ℕ) → purse p (opened config) ≡ made config p (spent_in p (opened config)) (map (λ t. member t (opened config)) (members_of (purse_names config.tenants) p))
unfolding purse opened
unfolded config p = refl

pub purse_opened : (p : ℕ) (config : ConfigData) → purse p (opened config) ≡ opened_purse config p
unfolding newcomers
purse_opened p config =
    unfolded config p
    ∙ ap (λ n. made config p n (map (λ t. member t (opened config)) (members_of (purse_names config.tenants) p))) (spent_opened config p)
    ∙ ap (made config p 0) (members_opened config (members_of (purse_names config.tenants) p))

-- ---- a purse

-- what a purse's members are answered over these calls, and what it has after them
abbrev IsAlone : ConfigData → ℕ → Purse → List Call → Purse → Type 0
IsAlone config p old calls new = (own_answers config p calls ≡ answers_alone old (own_events config p calls)) × (new ≡ after_alone old (own_events config p calls))

abbrev asked_of : ConfigData → Call → Asked
asked_of config c = record { place = place_in config c.tenant; event = c.event }

-- a call of this purse, in words of the purse's number
pub record IsOwn (config : ConfigData) (old : World) (p : ℕ) (c : Call) (mid : World) : Type 0 where
  pub answer_is : c.answer ≡ (step (seat (purse p old) (place_in config c.tenant)) c.event).answer
  pub own : purse p mid ≡ with_seat (purse p old) (place_in config c.tenant) (step (seat (purse p old) (place_in config c.tenant)) c.event).after

own_call : (old mid : World) (p : ℕ) (c : Call) → purse_in old.config c.tenant ≡ p → Steps old c.tenant c.event c.answer mid → IsOwn old.config old p c mid
own_call old mid p c eq h =
    let seen = each_view_is_a_seat old c.tenant h.known in
    let place = place_in old.config c.tenant in
    let here : ℕ = purse_in old.config c.tenant in
    subst (λ (q : ℕ). IsOwn old.config old q c mid) eq
    (record {
      answer_is = h.answer_is ∙ ap (λ (v : Tenant). (step v c.event).answer) seen;
      own = purse_after old mid c.tenant c.event c.answer h ∙ ap (λ (v : Tenant). with_seat (purse here old) place (step v c.event).after) seen;
    })

-- one call more at the front
more : (config : ConfigData) (p : ℕ) (old mid new : World) (c : Call) (calls : List Call) (b : Bool) → eqb (purse_in config c.tenant) p ≡ b
    → old.config ≡ config → Steps old c.tenant c.event c.answer mid
    → IsAlone config p (purse p mid) calls (purse p new)
    → let own = cond b (c ∷ own_calls config p calls) (own_calls config p calls) in
    (map (λ (d : Call). d.answer) own ≡ answers_alone (purse p old) (map (asked_of config) own)) × (purse p new ≡ after_alone (purse p old) (map (asked_of config) own))
more config p old mid new c calls true same at h rest =
    let eq : purse_in config c.tenant ≡ p = grind (arith, nat_tests) in
    let there : purse_in old.config c.tenant ≡ p = ap (λ (cs : ConfigData). purse_in cs c.tenant) at ∙ eq in
    let f : IsOwn config old p c mid = subst (λ (cs : ConfigData). IsOwn cs old p c mid) at (own_call old mid p c there h) in
    let place = place_in config c.tenant in (
      ap (λ (a : Answer). a ∷ own_answers config p calls) f.answer_is
          ∙ ap (λ (answers : List Answer). (step (seat (purse p old) place) c.event).answer ∷ answers) (rest.0 ∙ ap (λ (s : Purse). answers_alone s (own_events config p calls)) f.own),
      rest.1 ∙ ap (λ (s : Purse). after_alone s (own_events config p calls)) f.own,
    )
more config p old mid new c calls false differ at h rest =
    let there : purse_in old.config c.tenant ≡ purse_in config c.tenant = ap (λ (cs : ConfigData). purse_in cs c.tenant) at in
    let ne : p ≢ purse_in config c.tenant = grind (arith, nat_tests) in
    let stays : purse p mid ≡ purse p old = purse_stays old mid c.tenant c.event c.answer h p (λ e. ne (e ∙ there)) in (
      rest.0 ∙ ap (λ (s : Purse). answers_alone s (own_events config p calls)) stays,
      rest.1 ∙ ap (λ (s : Purse). after_alone s (own_events config p calls)) stays,
    )

pub leads_alone : (config : ConfigData) (p : ℕ) (old new : World) (calls : List Call) → old.config ≡ config → Leads old calls new → IsAlone config p (purse p old) calls (purse p new)
leads_alone config p old new [] at run = (refl, ap (purse p) run)
leads_alone config p old new (c ∷ calls) at run =
    more config p old run.0 new c calls (eqb (purse_in config c.tenant) p) refl at run.1 (leads_alone config p run.0 new calls (run.1.config ∙ at) run.2)

pub each_purse_is_alone : EachPurseIsAlone
each_purse_is_alone config calls w run p = rw (← purse_opened p config) (leads_alone config p (opened config) w calls (config_opened config) run)

pub each_purse_is_isolated : EachPurseIsIsolated
each_purse_is_isolated config elsewhere calls others w x run walk p q begins asked =
    let one = each_purse_is_alone config calls w run p in
    let two = each_purse_is_alone elsewhere others x walk q in
    let same_answers : answers_alone (opened_purse config p) (own_events config p calls) ≡ answers_alone (opened_purse elsewhere q) (own_events elsewhere q others) =
    ap (λ (s : Purse). answers_alone s (own_events config p calls)) begins ∙ ap (answers_alone (opened_purse elsewhere q)) asked in
    let same_after : after_alone (opened_purse config p) (own_events config p calls) ≡ after_alone (opened_purse elsewhere q) (own_events elsewhere q others) =
    ap (λ (s : Purse). after_alone s (own_events config p calls)) begins ∙ ap (after_alone (opened_purse elsewhere q)) asked in
    (one.0 ∙ same_answers ∙ sym two.0, one.1 ∙ same_after ∙ sym two.1)

-- ---- a tenant that has its purse for itself

-- no one else is of its purse
lone_apart : (config : ConfigData) (t u : ℕ) → IsLone config t → u ≢ t → purse_in config u ≢ purse_in config t
lone_apart config t u lone differ same =
    let names = purse_names config.tenants in
    ⊎_elim (λ (e : u ≡ t). differ e) (λ (h : is_shared (purse_name names u) (purse_name names t) ≡ true). differ (lone u h)) (apart names u t same)

abbrev is_mate : ConfigData → ℕ → ℕ → Bool
is_mate config t u = eqb (purse_in config u) (purse_in config t)

lone_member : (config : ConfigData) (t : ℕ) → t < length config.tenants → IsLone config t → members_of (purse_names config.tenants) (purse_in config t) ≡ t ∷ []
unfolding members_of
lone_member config t l lone =
    let names = purse_names config.tenants in
    let at : 0 + t ≡ t = omega arith in
    one_passes (is_mate config t) 0 (length names) t (named config.tenants t l) (is_own names t)
    (λ u ne. is_ne (purse_in config u) (purse_in config t) (lone_apart config t u lone (λ e. ne (e ∙ sym at))))
    ∙ ap (λ n. n ∷ []) at

lone_place : (config : ConfigData) (t : ℕ) → IsLone config t → place_in config t ≡ 0
unfolding place_of
lone_place config t lone =
    ap {B = ℕ} length (none_pass (is_mate config t) 0 t (λ u most less. is_ne (purse_in config u) (purse_in config t) (lone_apart config t u lone (λ e. absurd (omega arith)))))

lone_newcomer : (line : TenantLine) → seated_at 0 (newcomers (line ∷ [])) (new_member line) ≡ newcomer line
unfolding newcomers newcomer
lone_newcomer line =
    let granted : granted_by (line ∷ []) ≡ line.quanta = omega (arith, sum_by-cons (λ (l : TenantLine). l.quanta) line []) in
    rw granted refl

pub seen_opened : (t : ℕ) (config : ConfigData) → view t (opened config) ≡ seated_at (place_in config t) (opened_purse config (purse_in config t)) (new_member (terms_in config t))
unfolding view
seen_opened t config =
    ap (λ (c : ConfigData). seated_at (place_in c t) (purse (purse_in c t) (opened config)) (member t (opened config))) (config_opened config)
    ∙ ap (λ (p : Purse). seated_at (place_in config t) p (member t (opened config))) (purse_opened (purse_in config t) config)
    ∙ ap (seated_at (place_in config t) (opened_purse config (purse_in config t))) (member_opened t config)

lone_opened : (t : ℕ) (config : ConfigData) → t < length config.tenants → IsLone config t → view t (opened config) ≡ newcomer (terms_in config t)
lone_opened t config l lone =
    let line = terms_in config t in
    seen_opened t config
    ∙ ap (λ n. seated_at n (opened_purse config (purse_in config t)) (new_member line)) (lone_place config t lone)
    ∙ ap (λ (ts : List ℕ). seated_at 0 (newcomers (map (terms_in config) ts)) (new_member line)) (lone_member config t l lone)
    ∙ lone_newcomer line

-- what a tenant is answered over these calls, and what it has after them
abbrev IsLoneAfter : ℕ → Tenant → List Call → Tenant → Type 0
IsLoneAfter t old calls new = (lone_answers t calls ≡ answers_by old (lone_events t calls)) × (new ≡ after_by old (lone_events t calls))

lone_more : (t : ℕ) (old mid new : World) (c : Call) (calls : List Call) (b : Bool) → eqb c.tenant t ≡ b → IsLone old.config t → Steps old c.tenant c.event c.answer mid
    → IsLoneAfter t (view t mid) calls (view t new)
    → let own = cond b (c ∷ filter (λ (d : Call). eqb d.tenant t) calls) (filter (λ (d : Call). eqb d.tenant t) calls) in
    (map (λ (d : Call). d.answer) own ≡ answers_by (view t old) (map (λ (d : Call). d.event) own)) × (view t new ≡ after_by (view t old) (map (λ (d : Call). d.event) own))
lone_more t old mid new c calls true same lone h rest =
    let eq : c.tenant ≡ t = grind (arith, nat_tests) in
    let f : Steps old t c.event c.answer mid = subst (λ (n : ℕ). Steps old n c.event c.answer mid) eq h in (
      ap (λ (a : Answer). a ∷ lone_answers t calls) f.answer_is
          ∙ ap (λ (answers : List Answer). (step (view t old) c.event).answer ∷ answers) (rest.0 ∙ ap (λ (s : Tenant). answers_by s (lone_events t calls)) f.own),
      rest.1 ∙ ap (λ (s : Tenant). after_by s (lone_events t calls)) f.own,
    )
lone_more t old mid new c calls false differ lone h rest =
    let ne : c.tenant ≢ t = grind (arith, nat_tests) in
    let stays : view t mid ≡ view t old = view_stays old mid c.tenant c.event c.answer h t (λ e. lone_apart old.config t c.tenant lone ne (sym e)) in (
      rest.0 ∙ ap (λ (s : Tenant). answers_by s (lone_events t calls)) stays,
      rest.1 ∙ ap (λ (s : Tenant). after_by s (lone_events t calls)) stays,
    )

lone_leads : (t : ℕ) (old new : World) (calls : List Call) → IsLone old.config t → Leads old calls new → IsLoneAfter t (view t old) calls (view t new)
lone_leads t old new [] lone run = (refl, ap (view t) run)
lone_leads t old new (c ∷ calls) lone run =
    lone_more t old run.0 new c calls (eqb c.tenant t) refl lone run.1 (lone_leads t run.0 new calls (subst (λ (config : ConfigData). IsLone config t) (sym run.1.config) lone) run.2)

pub each_lone_tenant_is_alone : EachLoneTenantIsAlone
each_lone_tenant_is_alone config calls w run t l lone =
    rw (← lone_opened t config l lone) (lone_leads t (opened config) w calls (subst (λ (c : ConfigData). IsLone c t) (sym (config_opened config)) lone) run)
