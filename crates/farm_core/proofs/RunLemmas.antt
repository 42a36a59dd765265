-- In each run each answer is true, and each number is one call's.
use Rattle.std.proofs.Common.{◌≡◌, ℕ, ◌+◌, ◌≤◌, List, [], ◌∷◌, ◌++◌, Some, refl, sym, ap, ◌∙◌, subst, arith, zero, suc, ⊎_elim}
use Rattle.std.specs.Prelude.{slice_get, IsSomeAnd}
use Rattle.std.proofs.lemmas.Bool.{cases_eq}
use Rattle.strategy.specs.declared.plan.Plan.{Plan}
use Rattle.farm_core.specs.declared.entry.Event.{Event}
use Rattle.farm_core.specs.declared.entry.Event.TheVariants.{Submit}
use Rattle.farm_core.specs.declared.reply.Reply.TheVariants as reply
use Rattle.farm_core.specs.Config.{ConfigData}
use Rattle.farm_core.specs.Tenant.{Tenant, Member, own_of}
use Rattle.farm_core.specs.Step.{Answer, Replied, step}
use Rattle.farm_core.specs.World.{World, Call, opened, member, view, Steps, Leads}
use Rattle.farm_core.specs.Truth.{IsTrueAnswer, IsAmong, WasMade, ArePlanned, EachAnswerIsTrue}
use Rattle.farm_core.proofs.AloneLemmas.{member_opened}
use Rattle.farm_core.proofs.NumberLemmas.{step_numbered}
use Rattle.farm_core.proofs.TruthLemmas.{Made, AreKnown, IsGood, Makes, step_good, step_told}

-- what is so of each tenant's own, and of the caller's after its step, is so after the call
each_own : (P : ℕ → Member → Type 0) (old mid : World) (c : Call) → Steps old c.tenant c.event c.answer mid → P c.tenant (own_of (step (view c.tenant old) c.event).after)
    → ((t : ℕ) → P t (member t old)) → (t : ℕ) → P t (member t mid)
unfolding view
each_own P old mid c h own others t =
    ⊎_elim
    (λ (same : t ≡ c.tenant). subst (λ u. P u (member u mid)) (sym same) (subst (P c.tenant) (sym (ap own_of h.own)) own))
    (λ (differ : t ≡ c.tenant → ⊥). subst (P t) (sym (h.others t differ)) (others t))
    (cases_eq t c.tenant)

-- ---- truth

-- each tenant's jobs are for plans that these calls have submitted
abbrev Knows : List Call → World → Type 0
Knows all w = (t : ℕ) → AreKnown (WasMade all t) (member t w).jobs

-- a call that is among all makes what its answer tells
makes : (all : List Call) (t : Tenant) (c : Call) → IsAmong all c → c.answer ≡ (step t c.event).answer → Makes (WasMade all c.tenant) t c.event
makes all t c among same plan quanta s event answer =
    let whole : c ≡ record { tenant = c.tenant; event = Submit plan quanta; answer = Replied (reply.Job s) } =
    ap (λ (e : Event). let d : Call = record { tenant = c.tenant; event = e; answer = c.answer } in d) event
    ∙ ap (λ (a : Answer). let d : Call = record { tenant = c.tenant; event = Submit plan quanta; answer = a } in d) (same ∙ answer) in
    record { at = among.0; quanta = quanta; call = among.1 ∙ ap Some whole }

stays_known : (all : List Call) (old mid : World) (c : Call) → IsAmong all c → ArePlanned all → Knows all old → Steps old c.tenant c.event c.answer mid → Knows all mid
unfolding view
stays_known all old mid c among planned knows h =
    let made : Made = WasMade all c.tenant in
    let good : IsGood made (step (view c.tenant old) c.event) =
    step_good made (view c.tenant old) c.event (knows c.tenant) (planned c among) (makes all (view c.tenant old) c among h.answer_is) in
    each_own (λ t m. AreKnown (WasMade all t) m.jobs) old mid c h good.jobs knows

-- the answer to a call after these
answer_true : (all : List Call) (old new : World) (calls behind : List Call) (c : Call) → ((d : Call) → IsAmong calls d → IsAmong all d) → ArePlanned all
    → Knows all old → Leads old (calls ++ c ∷ behind) new → IsTrueAnswer (WasMade all c.tenant) c.answer
unfolding view
answer_true all old new [] behind c within planned knows run =
    let made : Made = WasMade all c.tenant in
    subst (IsTrueAnswer made) (sym run.1.answer_is) (step_told made (view c.tenant old) c.event (knows c.tenant))
answer_true all old new (d ∷ calls) behind c within planned knows run =
    answer_true all run.0 new calls behind c (λ e in_rest. within e (suc in_rest.0, in_rest.1)) planned
    (stays_known all old run.0 d (within d (0, refl)) planned knows run.1) run.2

knows_opened : (all : List Call) (config : ConfigData) → Knows all (opened config)
knows_opened all config t = rw (member_opened t config) tt

-- ---- numbers

-- the call at that place made tenant t a job of number s
abbrev IsMadeAt : List Call → ℕ → ℕ → ℕ → Type 0
IsMadeAt calls t s k = IsSomeAnd (slice_get calls k) (λ (c : Call). (c.tenant ≡ t) × (c.answer ≡ Replied (reply.Job s)))

next_grows : (old mid : World) (c : Call) → Steps old c.tenant c.event c.answer mid → (t : ℕ) → (member t old).next ≤ (member t mid).next
unfolding view
next_grows old mid c h = each_own (λ t m. (member t old).next ≤ m.next) old mid c h (step_numbered (view c.tenant old) c.event).grows (λ t. omega arith)

-- numbers that are made later are not below the next
not_below : (old new : World) (calls : List Call) → Leads old calls new → (t s k : ℕ) → IsMadeAt calls t s k → (member t old).next ≤ s
unfolding view
not_below old new [] run t s k made = absurd made
not_below old new (c ∷ calls) run t s zero made =
    let number = (step_numbered (view c.tenant old) c.event).gives s (sym run.1.answer_is ∙ made.1) in
    subst (λ u. (member u old).next ≤ s) made.0 (omega (arith, number))
not_below old new (c ∷ calls) run t s (suc k) made = omega (arith, next_grows old run.0 c run.1 t, not_below run.0 new calls run.2 t s k made)

-- and so are above this one
never_again : (old mid new : World) (c : Call) (calls : List Call) → Steps old c.tenant c.event c.answer mid → Leads mid calls new → (t s k : ℕ)
    → (c.tenant ≡ t) × (c.answer ≡ Replied (reply.Job s)) → IsMadeAt calls t s k → ⊥
unfolding view
never_again old mid new c calls h run t s k here there =
    let number = (step_numbered (view c.tenant old) c.event).gives s (sym h.answer_is ∙ here.1) in
    let after : (member t mid).next ≡ s + 1 = ap (λ u. (member u mid).next) (sym here.0) ∙ ap (λ (v : Tenant). v.next) h.own ∙ number.1 in
    omega (arith, after, not_below mid new calls run t s k there)

one_call : (old new : World) (calls : List Call) → Leads old calls new → (t s i j : ℕ) → IsMadeAt calls t s i → IsMadeAt calls t s j → i ≡ j
one_call old new [] run t s i j here there = absurd here
one_call old new (c ∷ calls) run t s zero zero here there = refl
one_call old new (c ∷ calls) run t s zero (suc j) here there = absurd (never_again old run.0 new c calls run.1 run.2 t s j here there)
one_call old new (c ∷ calls) run t s (suc i) zero here there = absurd (never_again old run.0 new c calls run.1 run.2 t s i there here)
one_call old new (c ∷ calls) run t s (suc i) (suc j) here there = ap suc (one_call run.0 new calls run.2 t s i j here there)

made_at : (calls : List Call) (t s : ℕ) (plan : Plan) → (made : WasMade calls t s plan) → IsMadeAt calls t s made.at
made_at calls t s plan made = subst (λ c. IsSomeAnd c (λ (c : Call). (c.tenant ≡ t) × (c.answer ≡ Replied (reply.Job s)))) (sym made.call) (refl, refl)

pub each_answer_is_true : EachAnswerIsTrue
each_answer_is_true = record {
  told = λ config before behind c w run planned. answer_true before (opened config) w before behind c (λ d h. h) planned (knows_opened before config) run;
  one = λ config calls w run t s plan other here there.
      one_call (opened config) w calls run t s here.at there.at (made_at calls t s plan here) (made_at calls t s other there);
}
