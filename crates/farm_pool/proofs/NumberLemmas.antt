-- A tenant's numbers are given once.
use Rattle.std.proofs.Common.{◌≡◌, ℕ, zero, suc, ◌+◌, ◌<◌, ◌≤◌, List, [], ◌∷◌, ◌++◌, length, map, get_or, take, Some, refl, sym, ap, ◌∙◌, subst, arith, append_assoc, append-nil, ⊎_elim}
use Rattle.std.specs.Prelude.{slice_get}
use Rattle.std.proofs.lemmas.Bool.{cases_eq, cases_lt}
use Rattle.std.proofs.lemmas.List.{length-map, length-set}
use Rattle.strategy.specs.declared.plan.Plan.{Plan}
use Rattle.farm_core.specs.declared.config.TenantLine.{TenantLine}
use Rattle.farm_core.specs.declared.entry.Entry.{Entry}
use Rattle.farm_core.specs.declared.entry.Event.TheVariants.{Submit}
use Rattle.farm_core.specs.Purses.{members_of}
use Rattle.farm_core.specs.Config.{ConfigData, no_terms, purse_names}
use Rattle.farm_core.specs.Tenant.{Tenant, Member, Purse, new_member, newcomers, no_member, seat, own_of, with_seat}
use Rattle.farm_core.specs.Step.{step}
use Rattle.farm_core.specs.World.{Asked, purse_in, place_in, opened_purse, events_of, after_alone}
use Rattle.farm_core.proofs.NumberLemmas.{step_numbered}
use Rattle.farm_core.proofs.SeatLemmas.{named, place_known}
use Rattle.farm_core.proofs.ViewLemmas.{set_own}
use Rattle.farm_pool.specs.Laws.{WasSubmitted}
use Rattle.farm_pool.specs.Served.{tenant_at}
use Rattle.farm_pool.proofs.EntryLemmas.{IsSound, AreSound, sound_back, sound_take, purse_at, purse_on, member_off}

least : (a b : ℕ) → b ≡ a → a ≤ b
least a b is = omega arith

alone_count : (p : Purse) (asked : List Asked) → length (after_alone p asked).members ≡ length p.members
alone_count p [] = refl
alone_count p (a ∷ asked) =
    let after : Tenant = (step (seat p a.place) a.event).after in
    alone_count (with_seat p a.place after) asked ∙ length-set p.members a.place (own_of after)

members_count : (config : ConfigData) (before : List Entry) (p : ℕ)
    → length (purse_at config before p).members ≡ length (members_of (purse_names config.tenants) p)
unfolding newcomers
members_count config before p =
    let members = members_of (purse_names config.tenants) p in
    let line : ℕ → TenantLine = λ t. get_or config.tenants t no_terms in
    alone_count (opened_purse config p) (events_of config p before) ∙ length-map (map line members) new_member ∙ length-map members line

own_on : (config : ConfigData) (before : List Entry) (e : Entry) → e.tenant < length config.tenants
    → own_of (tenant_at config (before ++ e ∷ []) e.tenant) ≡ own_of (step (tenant_at config before e.tenant) e.event).after
own_on config before e known =
    let u = e.tenant in
    let p = purse_in config u in
    let after : Tenant = (step (tenant_at config before u) e.event).after in
    let place = place_known (purse_names config.tenants) u (named config.tenants u known) in
    let count = members_count config before p in
    ap (λ (x : Purse). own_of (seat x (place_in config u))) (purse_on config before e)
    ∙ set_own (purse_at config before p).members (place_in config u) (own_of after) no_member (omega (arith, place, count))

abbrev next_at : ConfigData → List Entry → ℕ → ℕ
next_at config before t = (tenant_at config before t).next

next_more : (config : ConfigData) (before : List Entry) (e : Entry) (t : ℕ) → IsSound config e → next_at config before t ≤ next_at config (before ++ e ∷ []) t
next_more config before e t sound =
    let u = e.tenant in
    let own : next_at config before u ≤ next_at config (before ++ e ∷ []) u =
    subst (λ n. next_at config before u ≤ n) (sym (ap (λ (m : Member). m.next) (own_on config before e sound.known)))
    (step_numbered (tenant_at config before u) e.event).grows in
    ⊎_elim
    (λ (same : t ≡ u). subst (λ v. next_at config before v ≤ next_at config (before ++ e ∷ []) v) (sym same) own)
    (λ (differ : t ≡ u → ⊥). least _ _ (ap (λ (m : Member). m.next) (member_off config before e t sound.known differ)))
    (cases_eq t u)

next_grows : (config : ConfigData) (before es : List Entry) (t : ℕ) → AreSound config es → next_at config before t ≤ next_at config (before ++ es) t
next_grows config before [] t sound = least _ _ (ap (λ b. next_at config b t) (append-nil before))
next_grows config before (e ∷ es) t sound =
    let one = next_more config before e t sound.0 in
    let rest : next_at config (before ++ e ∷ []) t ≤ next_at config ((before ++ e ∷ []) ++ es) t = next_grows config (before ++ e ∷ []) es t sound.1 in
    let whole : next_at config ((before ++ e ∷ []) ++ es) t ≡ next_at config (before ++ e ∷ es) t =
    ap (λ b. next_at config b t) (append_assoc before (e ∷ []) es) in
    omega (arith, one, rest, whole)

-- what is between two entries
between : {X : Type 0} (xs : List X) (i j : ℕ) (x y : X) → slice_get xs i ≡ Some x → slice_get xs j ≡ Some y → i < j
    → (rest : List X) × (take j xs ≡ (take i xs ++ x ∷ []) ++ rest)
between [] i j x y here there less = absurd (cc)
between (z ∷ xs) i zero x y here there less = absurd (omega arith)
between {X} (z ∷ xs) zero (suc j) x y here there less = let same : z ≡ x = cc in (take j xs, ap (λ (w : X). w ∷ take j xs) same)
between {X} (z ∷ xs) (suc i) (suc j) x y here there less =
    let it = between xs i j x y here there (omega arith) in
    (it.0, ap (λ (ws : List X). z ∷ ws) it.1)

-- a later number is greater
later_greater : (config : ConfigData) (entries : List Entry) (t s n : ℕ) (plan other : Plan) → AreSound config entries
    → (here : WasSubmitted config entries t s plan) → (there : WasSubmitted config entries t n other) → here.at < there.at → s < n
later_greater config entries t s n plan other sound here there less =
    let e : Entry = record { tenant = t; event = Submit plan here.quanta } in
    let first : List Entry = take here.at entries in
    let it = between entries here.at there.at e (record { tenant = t; event = Submit other there.quanta }) here.entry there.entry less in
    let all : AreSound config ((first ++ e ∷ []) ++ it.0) = subst (AreSound config) it.1 (sound_take config there.at entries sound) in
    let sounds : IsSound config e = (sound_back config first (e ∷ it.0) (subst (AreSound config) (append_assoc first (e ∷ []) it.0) all)).0 in
    let one = (step_numbered (tenant_at config first t) (Submit plan here.quanta)).gives s (sym here.answered.answer_is) in
    let two = (step_numbered (tenant_at config (take there.at entries) t) (Submit other there.quanta)).gives n (sym there.answered.answer_is) in
    let after : next_at config (first ++ e ∷ []) t ≡ s + 1 = ap (λ (m : Member). m.next) (own_on config first e sounds.known) ∙ one.1 in
    let grown : next_at config (first ++ e ∷ []) t ≤ next_at config ((first ++ e ∷ []) ++ it.0) t =
    next_grows config (first ++ e ∷ []) it.0 t (sound_back config (first ++ e ∷ []) it.0 all) in
    let where_is : next_at config (take there.at entries) t ≡ next_at config ((first ++ e ∷ []) ++ it.0) t = ap (λ b. next_at config b t) it.1 in
    omega (arith, two.0, after, grown, where_is)

same_submit : (t p q : ℕ) (plan other : Plan)
    → Some (let e : Entry = record { tenant = t; event = Submit plan p } in e) ≡ Some (record { tenant = t; event = Submit other q }) → plan ≡ other
same_submit t p q plan other is =
    let one : Entry = record { tenant = t; event = Submit plan p } in
    let two : Entry = record { tenant = t; event = Submit other q } in
    let entries : one ≡ two = cc in
    let events : Submit plan p ≡ Submit other q = ap (λ (e : Entry). e.event) entries in
    cc

same_entry : (entries : List Entry) (i j t p q : ℕ) (plan other : Plan) → i ≡ j → slice_get entries i ≡ Some (record { tenant = t; event = Submit plan p })
    → slice_get entries j ≡ Some (record { tenant = t; event = Submit other q }) → plan ≡ other
same_entry entries i j t p q plan other same here there = same_submit t p q plan other (sym here ∙ ap (λ k. slice_get entries k) same ∙ there)

pub one_plan : (config : ConfigData) (entries : List Entry) (t s : ℕ) (plan other : Plan) → AreSound config entries
    → WasSubmitted config entries t s plan → WasSubmitted config entries t s other → plan ≡ other
one_plan config entries t s plan other sound here there =
    let before : here.at < there.at → plan ≡ other = λ l. let less = later_greater config entries t s s plan other sound here there l in absurd (omega arith) in
    let behind : there.at < here.at → plan ≡ other = λ l. let less = later_greater config entries t s s other plan sound there here l in absurd (omega arith) in
    ⊎_elim before
    (λ (most : there.at ≤ here.at).
    ⊎_elim behind
    (λ (least_is : here.at ≤ there.at).
    let same : here.at ≡ there.at = omega arith in
    same_entry entries here.at there.at t here.quanta there.quanta plan other same here.entry there.entry)
    (cases_lt there.at here.at))
    (cases_lt here.at there.at)
