-- The entries of a run, and what a member of a purse has after them.
use Rattle.std.proofs.Common.{◌≡◌, ◌≢◌, ℕ, zero, suc, ◌<◌, ◌≤◌, Bool, true, false, cond, List, [], ◌∷◌, ◌++◌, length, map, get_or, take, Option, None, refl, sym, ap, ◌∙◌, subst, eqb, ⊎_elim}
use Rattle.std.specs.Prelude.{⊤}
use Rattle.std.specs.List.{filter}
use Rattle.std.proofs.lemmas.Bool.{cases_eq, cases_lt, cond_both, both_ways}
use Rattle.std.proofs.lemmas.List.{get_or_past}
use Rattle.farm_core.specs.declared.entry.Entry.{Entry}
use Rattle.farm_core.specs.Purses.{is_shared, purse_name, purse_of, members_of, place_of}
use Rattle.farm_core.specs.Config.{ConfigData, purse_names}
use Rattle.farm_core.specs.Tenant.{Tenant, Purse, no_member, seat, own_of, with_seat}
use Rattle.farm_core.specs.Step.{step}
use Rattle.farm_core.specs.World.{World, Call, Asked, opened, purse_in, place_in, opened_purse, events_of, is_noted, entry_of, after_alone, Leads}
use Rattle.farm_core.specs.Truth.{IsAmong, IsPlanned}
use Rattle.farm_core.proofs.ReplayLemmas.{asked_in, snoc_hit}
use Rattle.farm_core.proofs.SeatLemmas.{named, found_at}
use Rattle.farm_core.proofs.SharingLemmas.{apart, is_eq, is_ne}
use Rattle.farm_core.proofs.ViewLemmas.{set_other}
use Rattle.farm_pool.specs.Served.{tenant_at, AreOfRun}

-- ---- what the entries of a run are

-- the entry of a tenant that there is, and what it submitted is a project
pub record IsSound (config : ConfigData) (e : Entry) : Type 0 where
  pub known : e.tenant < length config.tenants
  pub planned : IsPlanned e.event

abbrev pub AreSound : ConfigData → List Entry → Type 0
AreSound config [] = ⊤
AreSound config (e ∷ es) = IsSound config e × AreSound config es

pub sound_both : (config : ConfigData) (xs ys : List Entry) → AreSound config xs → AreSound config ys → AreSound config (xs ++ ys)
sound_both config [] ys one two = two
sound_both config (x ∷ xs) ys one two = (one.0, sound_both config xs ys one.1 two)

pub sound_front : (config : ConfigData) (xs ys : List Entry) → AreSound config (xs ++ ys) → AreSound config xs
sound_front config [] ys all = tt
sound_front config (x ∷ xs) ys all = (all.0, sound_front config xs ys all.1)

pub sound_back : (config : ConfigData) (xs ys : List Entry) → AreSound config (xs ++ ys) → AreSound config ys
sound_back config [] ys all = all
sound_back config (x ∷ xs) ys all = sound_back config xs ys all.1

pub sound_take : (config : ConfigData) (n : ℕ) (xs : List Entry) → AreSound config xs → AreSound config (take n xs)
sound_take config zero xs all = tt
sound_take config (suc n) [] all = tt
sound_take config (suc n) (x ∷ xs) all = (all.0, sound_take config n xs all.1)

leads_sound : (config : ConfigData) (old new : World) (calls : List Call) → old.config ≡ config → ((c : Call) → IsAmong calls c → IsPlanned c.event)
    → AreSound config old.journal → Leads old calls new → AreSound config new.journal
leads_sound config old new [] at planned sound run = subst (λ (w : World). AreSound config w.journal) (sym run) sound
leads_sound config old new (c ∷ calls) at planned sound run =
    let e : Entry = record { tenant = c.tenant; event = c.event } in
    let one : IsSound config e = record { known = subst (λ (k : ConfigData). c.tenant < length k.tenants) at run.1.known; planned = planned c (0, refl) } in
    let own : AreSound config (entry_of c.tenant c.event c.answer) = cond_both (is_noted c.answer) (e ∷ []) [] (AreSound config) (λ _. (one, tt)) (λ _. tt) in
    leads_sound config run.0 new calls (run.1.config ∙ at) (λ d among. planned d (suc among.0, among.1))
    (subst (AreSound config) (sym run.1.journal) (sound_both config old.journal (entry_of c.tenant c.event c.answer) sound own)) run.2

pub run_sound : (config : ConfigData) (entries : List Entry) → AreOfRun config entries → AreSound config entries
unfolding opened
run_sound config entries it = subst (AreSound config) it.journal (leads_sound config (opened config) it.world it.calls refl it.planned tt it.run)

-- ---- a member's jobs, over a call

-- who is not there names no purse
nameless : (names : List (Option (List ℕ))) (t : ℕ) (other : Option (List ℕ)) → length names ≤ t → is_shared (purse_name names t) other ≡ false
nameless names t other past = ap (λ (n : Option (List ℕ)). is_shared n other) (get_or_past names t None past)

same_place : (names : List (Option (List ℕ))) (t u : ℕ) → t < length names → u < length names
    → purse_of names t ≡ purse_of names u → place_of names t ≡ place_of names u → t ≡ u
same_place names t u l k purse place =
    sym (found_at names t l) ∙ ap (λ p. get_or (members_of names p) (place_of names t) 0) purse
    ∙ ap (λ n. get_or (members_of names (purse_of names u)) n 0) place ∙ found_at names u k

-- tenants of one purse and one place are the same
same_tenant : (config : ConfigData) (t u : ℕ) → u < length config.tenants
    → purse_in config t ≡ purse_in config u → place_in config t ≡ place_in config u → t ≡ u
same_tenant config t u known purse place =
    let names = purse_names config.tenants in
    ⊎_elim
    (λ (e : t ≡ u). e)
    (λ (e : is_shared (purse_name names t) (purse_name names u) ≡ true).
    ⊎_elim
    (λ (l : t < length names). same_place names t u l (named config.tenants u known) purse place)
    (λ (l : length names ≤ t). absurd (both_ways (is_shared (purse_name names t) (purse_name names u)) (nameless names t (purse_name names u) l) e))
    (cases_lt t (length names)))
    (apart names t u purse)

after_more : (p : Purse) (asked : List Asked) (a : Asked)
    → after_alone p (asked ++ a ∷ []) ≡ with_seat (after_alone p asked) a.place (step (seat (after_alone p asked) a.place) a.event).after
after_more p [] a = refl
after_more p (d ∷ asked) a = after_more (with_seat p d.place (step (seat p d.place) d.event).after) asked a

snoc_miss : {X Y : Type 0} (f : X → Bool) (g : X → Y) (xs : List X) (x : X) → f x ≡ false → map g (filter f (xs ++ x ∷ [])) ≡ map g (filter f xs)
snoc_miss {X} f g [] x h = ap (λ (b : Bool). map g (cond {A = List X} b (x ∷ []) [])) h
snoc_miss {X} {Y} f g (y ∷ xs) x h = by (snoc_miss f g xs x h) (f y)
  where
    by : map g (filter f (xs ++ x ∷ [])) ≡ map g (filter f xs) → (b : Bool)
        → map g (cond b (y ∷ filter f (xs ++ x ∷ [])) (filter f (xs ++ x ∷ []))) ≡ map g (cond b (y ∷ filter f xs) (filter f xs))
    by rest true = ap (λ (ys : List Y). g y ∷ ys) rest
    by rest false = rest

-- where a purse stands after these entries
abbrev pub purse_at : ConfigData → List Entry → ℕ → Purse
purse_at config before p = after_alone (opened_purse config p) (events_of config p before)

pub purse_on : (config : ConfigData) (before : List Entry) (e : Entry)
    → let p = purse_in config e.tenant in
    purse_at config (before ++ e ∷ []) p ≡ with_seat (purse_at config before p) (place_in config e.tenant) (step (tenant_at config before e.tenant) e.event).after
purse_on config before e =
    let p = purse_in config e.tenant in
    ap (after_alone (opened_purse config p)) (snoc_hit (λ (d : Entry). eqb (purse_in config d.tenant) p) (asked_in config) before e (is_eq p p refl))
    ∙ after_more (opened_purse config p) (events_of config p before) (asked_in config e)

pub purse_off : (config : ConfigData) (before : List Entry) (e : Entry) (q : ℕ) → q ≢ purse_in config e.tenant
    → purse_at config (before ++ e ∷ []) q ≡ purse_at config before q
purse_off config before e q differ =
    ap (after_alone (opened_purse config q))
    (snoc_miss (λ (d : Entry). eqb (purse_in config d.tenant) q) (asked_in config) before e (is_ne (purse_in config e.tenant) q (λ h. differ (sym h))))

-- what is another tenant's own stays
pub member_off : (config : ConfigData) (before : List Entry) (e : Entry) (t : ℕ) → e.tenant < length config.tenants → t ≢ e.tenant
    → own_of (tenant_at config (before ++ e ∷ []) t) ≡ own_of (tenant_at config before t)
member_off config before e t known differ =
    let u = e.tenant in
    ⊎_elim
    (λ (purse : purse_in config t ≡ purse_in config u).
    let after : Tenant = (step (tenant_at config before u) e.event).after in
    let elsewhere : place_in config t ≢ place_in config u = λ place. differ (same_tenant config t u known purse place) in
    ap (λ p. own_of (seat (purse_at config (before ++ e ∷ []) p) (place_in config t))) purse
    ∙ ap (λ (p : Purse). own_of (seat p (place_in config t))) (purse_on config before e)
    ∙ set_other (purse_at config before (purse_in config u)).members (place_in config t) (place_in config u) (own_of after) no_member elsewhere
    ∙ ap (λ p. own_of (seat (purse_at config before p) (place_in config t))) (sym purse))
    (λ (apart_is : purse_in config t ≡ purse_in config u → ⊥).
    ap (λ (p : Purse). own_of (seat p (place_in config t))) (purse_off config before e (purse_in config t) apart_is))
    (cases_eq (purse_in config t) (purse_in config u))
