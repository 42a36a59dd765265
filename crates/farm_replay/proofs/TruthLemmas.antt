-- Each line of a script's output is true, and each number is one request's.
use Rattle.std.proofs.Common.{◌≡◌, ℕ, ◌+◌, ◌==◌, ◌≤◌, Bool, cond, ◌&&◌, List, [], ◌∷◌, ◌++◌, Option, Some, None, refl, sym, ap, ◌∙◌, subst, arith, ⊎_elim, eq-eqb, append_assoc, append-nil, zero, suc, set, get_or, map, ◌<◌, length, ◌≢◌}
use Rattle.std.specs.Prelude.{Result, Ok, Err}
use Rattle.std.proofs.lemmas.Bool.{cases_eq, cond_both, eqb-true}
use Rattle.std.proofs.lemmas.List.{length-map, length-set}
use Rattle.psplib_mm.specs.Laws.{ReadingGivesProjects}
use Rattle.strategy.specs.declared.plan.Plan.{Plan}
use Rattle.farm_core.specs.declared.entry.Event.{Event}
use Rattle.farm_core.specs.declared.entry.Event.TheVariants as event
use Rattle.farm_core.specs.declared.reply.Reply.TheVariants as reply
use Rattle.farm_core.specs.Config.{ConfigData, no_terms, purse_names, member_lines}
use Rattle.farm_core.specs.Tenant.{Tenant, find_job, Member, Purse, no_member, new_member, newcomers, own_of, with_seat}
use Rattle.farm_core.specs.declared.config.TenantLine.{TenantLine}
use Rattle.farm_core.specs.Purses.{members_of}
use Rattle.farm_core.specs.World.{purse_in, place_in}
use Rattle.farm_core.proofs.NumberLemmas.{step_numbered}
use Rattle.farm_core.proofs.SeatLemmas.{named, found_at, place_known}
use Rattle.farm_core.proofs.ViewLemmas.{set_own, set_other}
use Rattle.farm_replay.proofs.NumberLemmas.{known_number}
use Rattle.farm_core.specs.Step as calls
use Rattle.farm_core.specs.Step.{Answer, Replied, Sent, step}
use Rattle.farm_core.specs.Held.{nodes_out}
use Rattle.farm_core.specs.Truth.{IsTrueAnswer, IsPlanned}
use Rattle.farm_core.proofs.TruthLemmas.{Made, AreKnown, step_good, step_told}
use Rattle.session_lines.specs.declared.request.Request.{Request}
use Rattle.session_lines.specs.declared.request.What.{What}
use Rattle.session_lines.specs.declared.request.What.TheVariants.{Submit, Fund, Status, Fetch, Cancel, Forget, Ledger, Take, Give, Turn}
use Rattle.session_lines.specs.declared.request.LineFault.{LineFault}
use Rattle.session_lines.specs.declared.said.Said.{Said}
use Rattle.session_lines.specs.declared.said.Said.TheVariants as said
use Rattle.farm_session.specs.Ask.{ask_of}
use Rattle.farm_session.specs.Routed.{tenant_number, routed_to, routed_of}
use Rattle.farm_replay.specs.Output.{Answered, said_for, told_by, turned, told_to, request_may_need, told_under, Parts, opening, Next, says, answered, who_in, Marked, is_unread, next, parts_after, part_of, with_tenant}
use Rattle.farm_replay.proofs.IsolationLemmas.{settled}
use Rattle.farm_replay.proofs.PlayLemmas.{parts_more}
use Rattle.farm_replay.proofs.PlannedLemmas.{IsPlannedWhat, IsPlannedRequest, ArePlanned, script_planned}
use Rattle.farm_replay.specs.Truth.{IsTrueSaid, WasTold, WasSubmitted, EachLineIsTrue}

-- ---- one tenant

-- the farm's call for a request, and the first of a whole turn
abbrev call_for : Tenant → What → Event
call_for t (Submit kind quanta project) = event.Submit (record { project = project; kind = kind }) quanta
call_for t (Fund s quanta) = event.Fund s quanta
call_for t (Status s) = event.Status s
call_for t (Fetch s) = event.Fetch s
call_for t (Cancel s) = event.Cancel s
call_for t (Forget s) = event.Forget s
call_for t Ledger = event.Ledger
call_for t (Take s slice) = event.Take s slice
call_for t (Give s) = event.Give s (nodes_out (find_job s t.jobs))
call_for t (Turn s slice) = event.Take s slice

-- something that is so where memory is refused, of each call, and of each whole turn
record Cases (t : Tenant) (P : Event → Answered → Type 0) : Type 0 where
  refuses : (e : Event) → P e (record { said = said.Reply reply.NoMemory; after = t })
  steps : (e : Event) → P e (told_by (step t e))
  turns : (s slice : ℕ) → P (event.Take s slice) (told_to t (ask_of (Turn s slice)))

each_told : (t : Tenant) (P : Event → Answered → Type 0) → Cases t P → (refused : Bool) (what : What) → P (call_for t what) (told_under refused t (ask_of what))
each_told t P c refused what =
    cond_both (refused && request_may_need t (ask_of what)) _ (told_to t (ask_of what)) (P (call_for t what)) (λ _. c.refuses (call_for t what)) (λ _. by what)
  where
    by : (what : What) → P (call_for t what) (told_to t (ask_of what))
    by (Turn s slice) = c.turns s slice
    by what = c.steps (call_for t what)

-- what is said is true, and jobs stay known where a submit that is told of a job makes it known
record IsGoodTold (made : Made) (e : Event) (it : Answered) : Type 0 where
  jobs : IsPlanned e → ((plan : Plan) (quanta s : ℕ) → e ≡ event.Submit plan quanta → it.said ≡ said.Reply (reply.Job s) → made s plan) → AreKnown made it.after.jobs
  said : IsTrueSaid made it.said

true_said : (made : Made) (a : Answer) → IsTrueAnswer made a → IsTrueSaid made (said_for a)
true_said made (Replied answer) h = h
true_said made (Sent line) h = h
true_said made calls.NoTurn h = tt

call_good : (made : Made) (t : Tenant) (e : Event) → AreKnown made t.jobs → IsGoodTold made e (told_by (step t e))
call_good made t e known = record {
  said = true_said made (step t e).answer (step_told made t e known);
  jobs = λ ok new. (step_good made t e known ok (λ plan quanta s is told. new plan quanta s is (ap said_for told))).jobs;
}

turn_good : (made : Made) (e : Event) (a : Answer) (t : Tenant) (s : ℕ) → IsTrueAnswer made a → AreKnown made t.jobs → IsGoodTold made e (turned a t s)
turn_good made e (Sent line) t s h known =
    let back = call_good made t (call_for t (Give s)) known in
    record { said = back.said; jobs = λ _ _. back.jobs tt (λ plan quanta n is. absurd (cc)) }
turn_good made e (Replied answer) t s h known = record { said = h; jobs = λ _ _. known }
turn_good made e calls.NoTurn t s h known = record { said = tt; jobs = λ _ _. known }

told_good : (made : Made) (t : Tenant) → AreKnown made t.jobs → Cases t (IsGoodTold made)
told_good made t known = record {
  refuses = λ e. record { said = tt; jobs = λ _ _. known };
  steps = λ e. call_good made t e known;
  turns = λ s slice.
      let e : Event = event.Take s slice in
      let good = step_good made t e known tt (λ plan quanta n is. absurd (cc)) in
      turn_good made e (step t e).answer (step t e).after s good.answer good.jobs;
}

-- a number that is said is not below the next, and the next is above it then
record IsNumberedTold (t : Tenant) (e : Event) (it : Answered) : Type 0 where
  grows : t.next ≤ it.after.next
  told : (s : ℕ) → it.said ≡ said.Reply (reply.Job s) → (t.next ≤ s) × (s < it.after.next)

said_job : (a : Answer) (s : ℕ) → said_for a ≡ said.Reply (reply.Job s) → a ≡ Replied (reply.Job s)
said_job (Replied answer) s is = cc
said_job (Sent line) s is = absurd (cc)
said_job calls.NoTurn s is = absurd (cc)

call_numbered : (t : Tenant) (e : Event) → IsNumberedTold t e (told_by (step t e))
call_numbered t e =
    let it = step_numbered t e in
    record {
      grows = it.grows;
      told = λ s is. let number = it.gives s (said_job (step t e).answer s is) in (omega (arith, number), omega (arith, number));
    }

turn_numbered : (t : Tenant) (e : Event) (a : Answer) (u : Tenant) (s : ℕ) → IsNumberedTold t e (told_by (record { answer = a; after = u })) → IsNumberedTold t e (turned a u s)
turn_numbered t e (Sent line) u s it =
    let back = call_numbered u (call_for u (Give s)) in
    record { grows = omega (arith, it.grows, back.grows); told = λ n is. (omega (arith, it.grows, back.told n is), (back.told n is).1) }
turn_numbered t e (Replied answer) u s it = it
turn_numbered t e calls.NoTurn u s it = it

told_numbered : (t : Tenant) → Cases t (IsNumberedTold t)
told_numbered t = record {
  refuses = λ e. record { grows = omega arith; told = λ s is. absurd (cc) };
  steps = call_numbered t;
  turns = λ s slice. let e : Event = event.Take s slice in turn_numbered t e (step t e).answer (step t e).after s (call_numbered t e);
}

-- ---- all tenants

-- there is such a member at that place
record IsSeated (P : Member → Type 0) (members : List Member) (place : ℕ) : Type 0 where
  here : place < length members
  own : P (get_or members place no_member)

abbrev AreSeated : ConfigData → (ℕ → Member → Type 0) → Parts → Type 0
AreSeated config P parts = (u : ℕ) → u < length config.tenants → IsSeated (P u) (parts (purse_in config u)).members (place_in config u)

-- two members of one purse have different places
places_differ : (config : ConfigData) (t u : ℕ) → t < length config.tenants → u < length config.tenants → purse_in config u ≡ purse_in config t → u ≢ t → place_in config u ≢ place_in config t
places_differ config t u known also same ne e =
    let names = purse_names config.tenants in
    let here = found_at names t (named config.tenants t known) in
    let there = found_at names u (named config.tenants u also) in
    ne (sym there ∙ ap (λ p. get_or (members_of names p) (place_in config u) 0) same ∙ ap (λ k. get_or (members_of names (purse_in config t)) k 0) e ∙ here)

-- where one tenant stands otherwise, and the others as they stood
seated_on : (config : ConfigData) (P Q : ℕ → Member → Type 0) (parts : Parts) (t : ℕ) (new : Tenant) → t < length config.tenants → AreSeated config P parts
    → ((u : ℕ) → u ≢ t → (m : Member) → P u m → Q u m) → Q t (own_of new) → AreSeated config Q (with_tenant config parts t new)
seated_on config P Q parts t new known all others good u also =
    let p = purse_in config t in
    let place = place_in config t in
    let ms : List Member = (parts p).members in
    let after : Purse = with_seat (parts p) place new in
    let count : length (set ms place (own_of new)) ≡ length ms = length-set ms place (own_of new) in
    let first : IsSeated (Q t) after.members place = record {
      here = omega (arith, (all t known).here, count);
      own = subst (Q t) (sym (set_own ms place (own_of new) no_member (all t known).here)) good;
    } in
    ⊎_elim
    (λ (same : u ≡ t).
    subst (λ k. IsSeated (Q k) (with_tenant config parts t new (purse_in config k)).members (place_in config k)) (sym same)
    (subst (λ b. IsSeated (Q t) (cond b after (parts p)).members place) (sym (eq-eqb p p refl)) first))
    (λ (differ : u ≡ t → ⊥).
    let q = purse_in config u in
    let was = all u also in
    cond_both (q == p) after (parts q) (λ (x : Purse). IsSeated (Q u) x.members (place_in config u))
    (λ h.
    let mates : q ≡ p = eqb-true q p h in
    let there : IsSeated (P u) ms (place_in config u) = subst (λ k. IsSeated (P u) (parts k).members (place_in config u)) mates was in
    record {
      here = omega (arith, there.here, count);
      own = subst (Q u) (sym (set_other ms (place_in config u) place (own_of new) no_member (places_differ config t u known also mates differ))) (others u differ _ there.own);
    })
    (λ _. record { here = was.here; own = others u differ _ was.own }))
    (cases_eq u t)

-- the tenant whose request it is
abbrev owner_of : ConfigData → Result Request LineFault → Option ℕ
owner_of config (Ok request) = tenant_number request.who config
owner_of config (Err fault) = None

-- a tenant of the farm asks for this
record IsAsked (config : ConfigData) (m : Marked) : Type 0 where
  who : List ℕ
  what : What
  tenant : ℕ
  asks : m.item.answer ≡ Ok (record { who = who; what = what })
  number : tenant_number who config ≡ Some tenant

-- the tenant that asks is the owner
own_asked : (config : ConfigData) (m : Marked) (a : IsAsked config m) (t : ℕ) → owner_of config m.item.answer ≡ Some t → a.tenant ≡ t
own_asked config m a t own = let same : Some a.tenant ≡ Some t = sym a.number ∙ sym (ap (owner_of config) a.asks) ∙ own in cc

-- what is so where nothing changes and no tenant is told of a job, and where one asks for something, is so of each request
next_so : (config : ConfigData) (parts : Parts) (m : Marked) (P : Next → Type 0)
    → ((who : Option (List ℕ)) (words : Said) → ((t : ℕ) → owner_of config m.item.answer ≡ Some t → words ≡ said.Reply reply.NoMemory) → P (says who words parts))
    → ((a : IsAsked config m) → let it : Answered = told_under m.refused (part_of config parts a.tenant) (ask_of a.what) in P (says (Some a.who) it.said (with_tenant config parts a.tenant it.after)))
    → P (next config parts m)
next_so config parts m P quiet asked =
    cond_both (is_unread m) _ _ P (λ _. quiet (who_in m.item.answer) (said.Reply reply.NoMemory) (λ t own. refl)) (λ _. by m.item.answer refl)
  where
    silent : (a : Result Request LineFault) (words : Said) → m.item.answer ≡ a → owner_of config a ≡ None → (t : ℕ) → owner_of config m.item.answer ≡ Some t → words ≡ said.Reply reply.NoMemory
    silent a words is none t own = let nobody : None ≡ Some t = sym none ∙ sym (ap (owner_of config) is) ∙ own in absurd (cc)

    owned : (request : Request) (owner : Option ℕ) → m.item.answer ≡ Ok request → tenant_number request.who config ≡ owner
        → P (answered config m.refused parts (routed_to request.who (ask_of request.what) owner))
    owned request None is at = quiet (Some request.who) said.NoTenant (silent (Ok request) said.NoTenant is at)
    owned request (Some t) is at = asked (record { who = request.who; what = request.what; tenant = t; asks = is; number = at })

    by : (a : Result Request LineFault) → m.item.answer ≡ a → P (answered config m.refused parts (routed_of config a))
    by (Ok request) is = owned request (tenant_number request.who config) is refl
    by (Err why) is = subst P (sym ((settled why).1 config m.refused parts)) (quiet (who_in (Err why)) (settled why).0 (silent (Err why) (settled why).0 is refl))

-- ---- truth

abbrev Knows : (ℕ → Made) → ℕ → Member → Type 0
Knows made u m = AreKnown (made u) m.jobs

planned_call : (t : Tenant) (what : What) → IsPlannedWhat what → IsPlanned (call_for t what)
planned_call t (Submit kind quanta project) ok = ok
planned_call t what ok = tt

submits : (t : Tenant) (what : What) (plan : Plan) (quanta : ℕ) → call_for t what ≡ event.Submit plan quanta → what ≡ Submit plan.kind quanta plan.project
submits t (Submit kind q project) plan quanta is =
    let same : (let p : Plan = record { project = project; kind = kind } in p) ≡ plan = cc in
    let amount : q ≡ quanta = cc in
    ap (λ (p : Plan). Submit p.kind q p.project) same ∙ ap (λ n. Submit plan.kind n plan.project) amount
submits t what plan quanta is = absurd (cc)

-- what is said to its tenant is true, and all jobs stay known where a submit that is told of a job makes it known
record IsGoodNext (config : ConfigData) (made : ℕ → Made) (m : Marked) (n : Next) : Type 0 where
  jobs : IsPlannedRequest m.item.answer
      → ((who : List ℕ) (t s quanta : ℕ) (plan : Plan) → m.item.answer ≡ Ok (record { who = who; what = Submit plan.kind quanta plan.project }) → tenant_number who config ≡ Some t
      → n.line.said ≡ said.Reply (reply.Job s) → made t s plan)
      → AreSeated config (Knows made) n.parts
  said : (t : ℕ) → owner_of config m.item.answer ≡ Some t → IsTrueSaid (made t) n.line.said

next_good : (config : ConfigData) (made : ℕ → Made) (parts : Parts) (m : Marked) → AreSeated config (Knows made) parts → IsGoodNext config made m (next config parts m)
next_good config made parts m known =
    next_so config parts m (IsGoodNext config made m)
    (λ who words silent. record { said = λ t own. subst (IsTrueSaid (made t)) (sym (silent t own)) tt; jobs = λ ok new. known })
    (λ a.
    let t : Tenant = part_of config parts a.tenant in
    let it : Answered = told_under m.refused t (ask_of a.what) in
    let there = known_number a.who config a.tenant a.number in
    let good : IsGoodTold (made a.tenant) (call_for t a.what) it =
    each_told t (IsGoodTold (made a.tenant)) (told_good (made a.tenant) t (known a.tenant there).own) m.refused a.what in
    record {
      said = λ u own. subst (λ k. IsTrueSaid (made k) it.said) (own_asked config m a u own) good.said;
      jobs = λ ok new.
          seated_on config (Knows made) (Knows made) parts a.tenant it.after there known (λ u differ x h. h)
          (good.jobs (planned_call t a.what (subst IsPlannedRequest a.asks ok))
          (λ plan quanta s is.
          new a.who a.tenant s quanta plan (a.asks ∙ ap (λ w. Ok (let r : Request = record { who = a.who; what = w } in r)) (submits t a.what plan quanta is)) a.number));
    })

-- ---- numbers

-- tenant t's next number is not below b
abbrev IsFrom : ℕ → ℕ → ℕ → Member → Type 0
IsFrom t b u m = u ≡ t → b ≤ m.next

-- it stays so, and a number that t is told is not below b, and the next is above it then
record IsNumberedNext (config : ConfigData) (t b : ℕ) (m : Marked) (n : Next) : Type 0 where
  from : AreSeated config (IsFrom t b) n.parts
  told : (s : ℕ) → owner_of config m.item.answer ≡ Some t → n.line.said ≡ said.Reply (reply.Job s) → (b ≤ s) × AreSeated config (IsFrom t (s + 1)) n.parts

next_numbered : (config : ConfigData) (t b : ℕ) (parts : Parts) (m : Marked) → AreSeated config (IsFrom t b) parts → IsNumberedNext config t b m (next config parts m)
next_numbered config t b parts m from =
    next_so config parts m (IsNumberedNext config t b m)
    (λ who words silent. record {
      from = from;
      told = λ s own is. let none : said.Reply reply.NoMemory ≡ said.Reply (reply.Job s) = sym (silent t own) ∙ is in absurd (cc);
    })
    (λ a.
    let v : Tenant = part_of config parts a.tenant in
    let it : Answered = told_under m.refused v (ask_of a.what) in
    let there = known_number a.who config a.tenant a.number in
    let number = each_told v (IsNumberedTold v) (told_numbered v) m.refused a.what in
    record {
      from = seated_on config (IsFrom t b) (IsFrom t b) parts a.tenant it.after there from (λ u differ x h. h) (λ same. omega (arith, (from a.tenant there).own same, number.grows));
      told = λ s own is.
          let same = own_asked config m a t own in (
            omega (arith, (from a.tenant there).own same, (number.told s is).0),
            seated_on config (IsFrom t b) (IsFrom t (s + 1)) parts a.tenant it.after there from (λ u differ x h e. absurd (differ (e ∙ sym same))) (λ _. omega (arith, (number.told s is).1)),
          );
    })

-- the request at that place of these is tenant t's, and it is told number s
abbrev IsToldAt : ConfigData → Parts → List Marked → ℕ → ℕ → ℕ → Type 0
IsToldAt config parts [] t s k = ⊥
IsToldAt config parts (m ∷ ms) t s zero = (owner_of config m.item.answer ≡ Some t) × ((next config parts m).line.said ≡ said.Reply (reply.Job s))
IsToldAt config parts (m ∷ ms) t s (suc k) = IsToldAt config (next config parts m).parts ms t s k

not_below : (config : ConfigData) (t s b : ℕ) (parts : Parts) (ms : List Marked) (k : ℕ) → AreSeated config (IsFrom t b) parts → IsToldAt config parts ms t s k → b ≤ s
not_below config t s b parts [] k from it = absurd it
not_below config t s b parts (m ∷ ms) zero from it = ((next_numbered config t b parts m from).told s it.0 it.1).0
not_below config t s b parts (m ∷ ms) (suc k) from it = not_below config t s b (next config parts m).parts ms k (next_numbered config t b parts m from).from it

-- a number that was told is not told later
never_again : (config : ConfigData) (t s b : ℕ) (parts : Parts) (m : Marked) (ms : List Marked) (k : ℕ) → AreSeated config (IsFrom t b) parts
    → IsToldAt config parts (m ∷ ms) t s zero → IsToldAt config parts (m ∷ ms) t s (suc k) → ⊥
never_again config t s b parts m ms k from here there =
    let later = not_below config t s (s + 1) (next config parts m).parts ms k ((next_numbered config t b parts m from).told s here.0 here.1).1 there in omega arith

one_request : (config : ConfigData) (t s b : ℕ) (parts : Parts) (ms : List Marked) (i j : ℕ) → AreSeated config (IsFrom t b) parts
    → IsToldAt config parts ms t s i → IsToldAt config parts ms t s j → i ≡ j
one_request config t s b parts [] i j from here there = absurd here
one_request config t s b parts (m ∷ ms) zero zero from here there = refl
one_request config t s b parts (m ∷ ms) zero (suc j) from here there = absurd (never_again config t s b parts m ms j from here there)
one_request config t s b parts (m ∷ ms) (suc i) zero from here there = absurd (never_again config t s b parts m ms i from there here)
one_request config t s b parts (m ∷ ms) (suc i) (suc j) from here there =
    ap suc (one_request config t s b (next config parts m).parts ms i j (next_numbered config t b parts m from).from here there)

-- ---- a whole script

seated_opening : (config : ConfigData) (P : ℕ → Member → Type 0) → ((u : ℕ) (line : TenantLine) → P u (new_member line)) → AreSeated config P (opening config)
unfolding newcomers
seated_opening config P each u known =
    let lines = member_lines config.tenants (purse_in config u) in
    let count = length-map (members_of (purse_names config.tenants) (purse_in config u)) (λ t. get_or config.tenants t no_terms) in
    record {
      here = omega (arith, place_known (purse_names config.tenants) u (named config.tenants u known), length-map lines new_member, count);
      own = by lines (place_in config u);
    }
  where
    by : (lines : List TenantLine) (place : ℕ) → P u (get_or (map new_member lines) place no_member)
    by [] place = each u no_terms
    by (line ∷ lines) zero = each u line
    by (line ∷ lines) (suc place) = by lines place

known_on : (config : ConfigData) (all done todo : List Marked) → all ≡ done ++ todo → ArePlanned todo → AreSeated config (Knows (WasSubmitted config all)) (parts_after config (opening config) done)
    → AreSeated config (Knows (WasSubmitted config all)) (parts_after config (opening config) all)
known_on config all done [] whole planned known =
    subst (λ l. AreSeated config (Knows (WasSubmitted config all)) (parts_after config (opening config) l)) (sym (whole ∙ append-nil done)) known
known_on config all done (m ∷ ms) whole planned known =
    known_on config all (done ++ m ∷ []) ms (whole ∙ sym (append_assoc done (m ∷ []) ms)) planned.1
    (subst (AreSeated config (Knows (WasSubmitted config all))) (sym (parts_more config (opening config) done m))
    ((next_good config (WasSubmitted config all) (parts_after config (opening config) done) m known).jobs planned.0
    (λ who t s quanta plan asks number told.
    (quanta, record { before = done; request = m; behind = ms; whole = whole; who = who; asks = asks; number = number; says = sym told }))))

planned_front : (xs ys : List Marked) → ArePlanned (xs ++ ys) → ArePlanned xs
planned_front [] ys h = tt
planned_front (x ∷ xs) ys h = (h.0, planned_front xs ys h.1)

told_at : (config : ConfigData) (requests : List Marked) (t s : ℕ) (what : What) → (it : WasTold config requests t what (said.Reply (reply.Job s)))
    → IsToldAt config (opening config) requests t s (length it.before)
told_at config requests t s what it =
    subst (λ ms. IsToldAt config (opening config) ms t s (length it.before)) (sym it.whole) (by (opening config) it.before (ap (owner_of config) it.asks ∙ it.number, sym it.says))
  where
    by : (parts : Parts) (ms : List Marked) → IsToldAt config (parts_after config parts ms) (it.request ∷ []) t s zero → IsToldAt config parts (ms ++ it.request ∷ it.behind) t s (length ms)
    by parts [] h = h
    by parts (m ∷ ms) h = by (next config parts m).parts ms h

pub each_line_is_true : ReadingGivesProjects → EachLineIsTrue
each_line_is_true projects = record {
  told = λ config script requests is t what words it.
      let planned = subst ArePlanned it.whole (script_planned projects script requests is) in
      let known = known_on config it.before [] it.before refl (planned_front it.before (it.request ∷ it.behind) planned)
      (seated_opening config (Knows (WasSubmitted config it.before)) (λ u line. tt)) in
      let good = next_good config (WasSubmitted config it.before) (parts_after config (opening config) it.before) it.request known in
      subst (IsTrueSaid (WasSubmitted config it.before t)) (sym it.says) (good.said t (ap (owner_of config) it.asks ∙ it.number));
  one = λ config requests t s what other here there.
      one_request config t s 0 (opening config) requests (length here.before) (length there.before) (seated_opening config (IsFrom t 0) (λ u line same. omega arith))
      (told_at config requests t s what here) (told_at config requests t s other there);
}
