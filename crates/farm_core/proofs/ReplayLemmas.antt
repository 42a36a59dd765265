-- A farm is where its journal leads, when it is made and after each call.
use Rattle.std.proofs.Common.{◌≡◌, ◌≢◌, ℕ, Bool, true, false, cond, List, [], ◌∷◌, ◌++◌, refl, sym, ap, ◌∙◌, subst, ⊎_elim, zero, suc, map, filter, get_or, set, eqb}
use Rattle.std.proofs.lemmas.Bool.{cases_eq}
use Rattle.farm_core.specs.declared.entry.Entry.{Entry}
use Rattle.farm_core.specs.declared.entry.Event.{Event}
use Rattle.farm_core.specs.Config.{ConfigData}
use Rattle.farm_core.specs.Tenant.{Tenant, Member, Purse, no_member, seat, with_seat}
use Rattle.farm_core.specs.Step.{Answer, Effect, Nothing, Notes, Adds, Changes, Drops, done, decided, step}
use Rattle.farm_core.specs.World.{World, Asked, opened, purse_in, place_in, opened_purse, purse, events_of, after_alone, is_noted, entry_of, Follows, IsOfJournal}
use Rattle.farm_core.specs.Held.{FarmsAreReplayed}
use Rattle.farm_core.proofs.DecisionLemmas.{leaves_entry, entry_told}
use Rattle.farm_core.proofs.AloneLemmas.{purse_opened}
use Rattle.farm_core.proofs.SharingLemmas.{is_eq, is_ne}
use Rattle.farm_core.proofs.SeatLemmas.{each_view_is_a_seat, steps_of, purse_after, purse_stays}

-- a call without an entry changes nothing
quiet : (t : Tenant) (f : Effect) → leaves_entry f ≡ false → (done t f).after ≡ t
quiet t (Nothing answer) none = refl
quiet t (Notes answer) none = absurd (cc)
quiet t (Adds job) none = absurd (cc)
quiet t (Changes job ran answer) none = absurd (cc)
quiet t (Drops seq) none = absurd (cc)

step_quiet : (t : Tenant) (e : Event) → is_noted (step t e).answer ≡ false → (step t e).after ≡ t
step_quiet t e untold = quiet t (decided t e) (sym (entry_told t e) ∙ untold)

-- the purse after a member's step
abbrev in_step : Purse → ℕ → Event → Purse
in_step p place e = with_seat p place (step (seat p place) e).after

set_same : (ms : List Member) (place : ℕ) → set ms place (get_or ms place no_member) ≡ ms
set_same [] place = refl
set_same (m ∷ ms) zero = refl
set_same (m ∷ ms) (suc place) = ap (λ (xs : List Member). m ∷ xs) (set_same ms place)

purse_quiet : (p : Purse) (place : ℕ) (e : Event) → is_noted (step (seat p place) e).answer ≡ false → in_step p place e ≡ p
purse_quiet p place e untold =
    ap (with_seat p place) (step_quiet (seat p place) e untold) ∙ ap (λ (ms : List Member). let it : Purse = record p { members = ms } in it) (set_same p.members place)

alone_more : (p : Purse) (asked : List Asked) (a : Asked) → after_alone p (asked ++ a ∷ []) ≡ in_step (after_alone p asked) a.place a.event
alone_more p [] a = refl
alone_more p (d ∷ asked) a = alone_more (in_step p d.place d.event) asked a

pub snoc_hit : {X Y : Type 0} (f : X → Bool) (g : X → Y) (xs : List X) (x : X) → f x ≡ true → map g (filter f (xs ++ x ∷ [])) ≡ map g (filter f xs) ++ g x ∷ []
snoc_hit {X} f g [] x h = ap (λ (b : Bool). map g (cond {A = List X} b (x ∷ []) [])) h
snoc_hit {X} {Y} f g (y ∷ xs) x h = by (snoc_hit f g xs x h) (f y)
  where
    by : map g (filter f (xs ++ x ∷ [])) ≡ map g (filter f xs) ++ g x ∷ [] → (b : Bool)
        → map g (cond b (y ∷ filter f (xs ++ x ∷ [])) (filter f (xs ++ x ∷ []))) ≡ map g (cond b (y ∷ filter f xs) (filter f xs)) ++ g x ∷ []
    by rest true = ap (λ (ys : List Y). g y ∷ ys) rest
    by rest false = rest

snoc_miss : {X Y : Type 0} (f : X → Bool) (g : X → Y) (xs : List X) (x : X) → f x ≡ false → map g (filter f (xs ++ x ∷ [])) ≡ map g (filter f xs)
snoc_miss {X} f g [] x h = ap (λ (b : Bool). map g (cond {A = List X} b (x ∷ []) [])) h
snoc_miss {X} {Y} f g (y ∷ xs) x h = by (snoc_miss f g xs x h) (f y)
  where
    by : map g (filter f (xs ++ x ∷ [])) ≡ map g (filter f xs) → (b : Bool)
        → map g (cond b (y ∷ filter f (xs ++ x ∷ [])) (filter f (xs ++ x ∷ []))) ≡ map g (cond b (y ∷ filter f xs) (filter f xs))
    by rest true = ap (λ (ys : List Y). g y ∷ ys) rest
    by rest false = rest

pub no_more : {A : Type 0} (xs : List A) → xs ≡ xs ++ []
no_more [] = refl
no_more (x ∷ xs) = ap (λ ys. x ∷ ys) (no_more xs)

abbrev pub asked_in : ConfigData → Entry → Asked
asked_in config e = record { place = place_in config e.tenant; event = e.event }

-- where a purse's entries lead after a call of one of its members, with an entry or without,
own_more : (config : ConfigData) (t : ℕ) (now : Purse) (event : Event) (journal : List Entry) (told : Bool)
    → let p = purse_in config t in
    now ≡ after_alone (opened_purse config p) (events_of config p journal) → (told ≡ false → in_step now (place_in config t) event ≡ now)
    → let es : List Entry = cond {A = List Entry} told (record { tenant = t; event = event } ∷ []) [] in
    in_step now (place_in config t) event ≡ after_alone (opened_purse config p) (events_of config p (journal ++ es))
own_more config t now event journal true before untold =
    let p = purse_in config t in
    let asked : Asked = record { place = place_in config t; event = event } in
    let entry : Entry = record { tenant = t; event = event } in
    let longer : events_of config p (journal ++ entry ∷ []) ≡ events_of config p journal ++ asked ∷ [] =
    snoc_hit (λ (e : Entry). eqb (purse_in config e.tenant) p) (asked_in config) journal entry (is_eq p p refl) in
    ap (λ (v : Purse). in_step v asked.place event) before ∙ sym (alone_more (opened_purse config p) (events_of config p journal) asked) ∙ ap (after_alone (opened_purse config p)) (sym longer)
own_more config t now event journal false before untold =
    let p = purse_in config t in
    untold refl ∙ before ∙ ap (λ (es : List Entry). after_alone (opened_purse config p) (events_of config p es)) (no_more journal)

-- and of another's
other_more : (config : ConfigData) (q t : ℕ) (event : Event) (journal : List Entry) (told : Bool) → q ≢ purse_in config t
    → let es : List Entry = cond {A = List Entry} told (record { tenant = t; event = event } ∷ []) [] in events_of config q journal ≡ events_of config q (journal ++ es)
other_more config q t event journal true differ =
    sym (snoc_miss (λ (e : Entry). eqb (purse_in config e.tenant) q) (asked_in config) journal (record { tenant = t; event = event }) (is_ne (purse_in config t) q (λ e. differ (sym e))))
other_more config q t event journal false differ = ap (events_of config q) (no_more journal)

purse_on : (old new : World) (t : ℕ) (event : Event) (answer : Answer) → IsOfJournal old → Follows old t event answer new → (q : ℕ)
    → purse q new ≡ after_alone (opened_purse old.config q) (events_of old.config q (old.journal ++ entry_of t event answer))
purse_on old new t event answer before h q =
    let config : ConfigData = old.config in
    let p = purse_in config t in
    let steps = steps_of old new t event answer h in
    let seen = each_view_is_a_seat old t h.known in
    let told : answer ≡ (step (seat (purse p old) (place_in config t)) event).answer = h.answer_is ∙ ap (λ (v : Tenant). (step v event).answer) seen in
    let after : purse p new ≡ in_step (purse p old) (place_in config t) event =
    purse_after old new t event answer steps ∙ ap (λ (v : Tenant). with_seat (purse p old) (place_in config t) (step v event).after) seen in
    ⊎_elim
    (λ (same : q ≡ p).
    subst (λ (v : ℕ). purse v new ≡ after_alone (opened_purse config v) (events_of config v (old.journal ++ entry_of t event answer))) (sym same)
    (after ∙ own_more config t (purse p old) event old.journal (is_noted answer) (before p) (λ untold. purse_quiet (purse p old) (place_in config t) event (ap is_noted (sym told) ∙ untold))))
    (λ (differ : q ≡ p → ⊥). purse_stays old new t event answer steps q differ ∙ before q ∙ ap (after_alone (opened_purse config q)) (other_more config q t event old.journal (is_noted answer) differ))
    (cases_eq q p)

pub replayed_on : (old new : World) (t : ℕ) (event : Event) (answer : Answer) → IsOfJournal old → Follows old t event answer new → IsOfJournal new
replayed_on old new t event answer before h q =
    purse_on old new t event answer before h q
    ∙ ap (λ (es : List Entry). after_alone (opened_purse old.config q) (events_of old.config q es)) (sym h.journal)
    ∙ ap (λ (c : ConfigData). after_alone (opened_purse c q) (events_of c q new.journal)) (sym h.config)

pub opened_replayed : (config : ConfigData) → IsOfJournal (opened config)
unfolding opened
opened_replayed config p = purse_opened p config

pub farms_are_replayed : FarmsAreReplayed
farms_are_replayed = record { made = opened_replayed; kept = replayed_on }
