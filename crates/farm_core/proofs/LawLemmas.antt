-- That each purse's ledger is whole, and that two runs of a tenant that has its purse for itself are alike.
use Rattle.std.proofs.Common.{◌≡◌, ◌≢◌, ℕ, ◌<◌, ◌≤◌, List, [], ◌∷◌, length, map, refl, sym, ap, ◌∙◌, subst, arith, ⊎_elim}
use Rattle.std.specs.List.{sum_by}
use Rattle.std.proofs.lemmas.Bool.{cases_lt}
use Rattle.std.proofs.lemmas.List.{length-map}
use Rattle.std.proofs.lemmas.List.Sums.{sum_by-cons}
use Rattle.farm_core.specs.declared.config.TenantLine.{TenantLine}
use Rattle.farm_core.specs.Config.{ConfigData, purse_names, member_lines}
use Rattle.farm_core.specs.Tenant.{Tenant, Member, Purse, held_by, new_member, newcomers, newcomer, free, book, ledger_of}
use Rattle.farm_core.specs.World.{World, Call, Leads, Run, terms_in, purse_in, purses_in, purse, view, opened, opened_purse}
use Rattle.farm_core.specs.Laws.{IsWhole, EachLedgerIsWhole, lone_events, answers_by, after_by, EachLoneTenantIsIsolated}
use Rattle.farm_core.proofs.SharingLemmas.{member_in, counted}
use Rattle.farm_core.proofs.SeatLemmas.{named, ledger_is, purse_stays}
use Rattle.farm_core.proofs.AloneLemmas.{config_opened, purse_opened, each_lone_tenant_is_alone}
use Rattle.farm_core.proofs.RunningLemmas.{IsRunning, run_runs}

-- ---- ledgers

-- one of a tenant whose jobs hold no more than its purse has
told_whole : (t : Tenant) → IsRunning t → IsWhole (book t)
unfolding book free
told_whole t it = omega (arith, it.covered)

-- and one of a purse of which no member has done anything
new_whole : (lines : List TenantLine) → IsWhole (ledger_of (newcomers lines))
unfolding newcomers ledger_of
new_whole lines = let none = no_holds lines in omega (arith, none)
  where
    no_holds : (ls : List TenantLine) → sum_by (λ (m : Member). held_by m.jobs) (map new_member ls) ≡ 0
    no_holds [] = refl
    no_holds (l ∷ ls) = omega (arith, sum_by-cons (λ (m : Member). held_by m.jobs) (new_member l) (map new_member ls), no_holds ls)

-- ---- along a run

config_stays : (old new : World) (calls : List Call) → Leads old calls new → new.config ≡ old.config
config_stays old new [] run = ap (λ (w : World). w.config) run
config_stays old new (c ∷ calls) run = config_stays run.0 new calls run.2 ∙ run.1.config

run_config : (config : ConfigData) (calls : List Call) (w : World) → Run config calls w → w.config ≡ config
run_config config calls w run = config_stays (opened config) w calls run ∙ config_opened config

-- a number that is no purse's
no_caller : (config : ConfigData) (p t : ℕ) → (p < purses_in config → ⊥) → t < length config.tenants → p ≢ purse_in config t
no_caller config p t none known e =
    let there = counted (purse_names config.tenants) t (named config.tenants t known) in
    none (subst (λ (n : ℕ). n < purses_in config) (sym e) there)

nobody_calls : (old new : World) (calls : List Call) (p : ℕ) → (p < purses_in old.config → ⊥) → Leads old calls new → purse p new ≡ purse p old
nobody_calls old new [] p none run = ap (purse p) run
nobody_calls old new (c ∷ calls) p none run =
    let s = run.1 in
    let still : p < purses_in run.0.config → ⊥ = λ l. none (subst (λ (config : ConfigData). p < purses_in config) s.config l) in
    nobody_calls run.0 new calls p still run.2
    ∙ purse_stays old run.0 c.tenant c.event c.answer s p (no_caller old.config p c.tenant none s.known)

-- a purse with a member has that member's ledger
with_member : (config : ConfigData) (calls : List Call) (w : World) → Run config calls w
    → (p t : ℕ) → t < length w.config.tenants → purse_in w.config t ≡ p → IsWhole (ledger_of (purse p w))
with_member config calls w run p t known own =
    let told : book (view t w) ≡ ledger_of (purse p w) = ledger_is t w known ∙ ap (λ (q : ℕ). ledger_of (purse q w)) own in
    subst IsWhole told (told_whole (view t w) (run_runs config calls w run t known))

known_line : (config : ConfigData) (t : ℕ) → t < length (purse_names config.tenants) → t < length config.tenants
known_line config t l =
    let same : length (purse_names config.tenants) ≡ length config.tenants = length-map config.tenants (λ (line : TenantLine). line.purse) in
    omega arith

pub each_ledger_is_whole : EachLedgerIsWhole
each_ledger_is_whole config calls w run p =
    let at = run_config config calls w run in
    ⊎_elim
    (λ (l : p < purses_in config).
    let it = member_in (purse_names config.tenants) p l in
    with_member config calls w run p it.0
    (subst (λ (c : ConfigData). it.0 < length c.tenants) (sym at) (known_line config it.0 it.1.known))
    (ap (λ (c : ConfigData). purse_in c it.0) at ∙ it.1.purse))
    (λ (most : purses_in config ≤ p).
    let none : p < purses_in config → ⊥ = λ l. omega (arith, l, most) in
    let start = config_opened config in
    let here : p < purses_in (opened config).config → ⊥ = λ l. none (subst (λ (c : ConfigData). p < purses_in c) start l) in
    let still : purse p w ≡ opened_purse config p = nobody_calls (opened config) w calls p here run ∙ purse_opened p config in
    subst (λ (s : Purse). IsWhole (ledger_of s)) (sym still) (new_whole (member_lines config.tenants p)))
    (cases_lt p (purses_in config))

-- ---- a tenant that has its purse for itself

pub each_lone_tenant_is_isolated : EachLoneTenantIsIsolated
each_lone_tenant_is_isolated config elsewhere calls others w x run walk t u known there lone alone begins asked =
    let one = each_lone_tenant_is_alone config calls w run t known lone in
    let two = each_lone_tenant_is_alone elsewhere others x walk u there alone in
    let answers : answers_by (newcomer (terms_in config t)) (lone_events t calls) ≡ answers_by (newcomer (terms_in elsewhere u)) (lone_events u others) =
    ap (λ (s : Tenant). answers_by s (lone_events t calls)) begins ∙ ap (answers_by (newcomer (terms_in elsewhere u))) asked in
    let after : after_by (newcomer (terms_in config t)) (lone_events t calls) ≡ after_by (newcomer (terms_in elsewhere u)) (lone_events u others) =
    ap (λ (s : Tenant). after_by s (lone_events t calls)) begins ∙ ap (after_by (newcomer (terms_in elsewhere u))) asked in
    (one.0 ∙ answers ∙ sym two.0, one.1 ∙ after ∙ sym two.1)
