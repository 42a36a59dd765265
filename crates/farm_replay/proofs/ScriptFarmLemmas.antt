-- The turns that a script holds, over the calls of its farm.
use Rattle.std.proofs.Common.{◌≡◌, ℕ, suc, ◌<◌, ◌+◌, ◌-◌, get_or, take, drop, position, ◌||◌, ◌&&◌, ◌==◌, ◌≤◌, nat_lt, Bool, true, false, cond, List, [], ◌∷◌, ◌++◌, length, Option, Some, None, refl, sym, ap, ◌∙◌, subst, arith, ◌⊎◌, inl, inr, ⊎_elim, append-nil, zero, set, ◌≢◌}
use Rattle.std.specs.Prelude.{option_map, not, ⊤}
use Rattle.std.specs.List.{list_any, position_or_len}
use Rattle.std.proofs.lemmas.Bool.{cond_both, cases_eq, cases_lt, eqb-true, and_parts, or_parts, both_ways}
use Rattle.std.proofs.lemmas.Bool.Decides.{nat_tests}
use Rattle.std.proofs.Math.Numerals.{add-one}
use Rattle.std.proofs.Math.Seq.{drop-cons}
use Rattle.std.proofs.lemmas.List.{take-append-drop}
use Rattle.std.proofs.lemmas.List.Folds.{list_any-append}
use Rattle.std.proofs.lemmas.List.Quantifiers.{position-Some}
use Rattle.strategy.specs.Search.{Meaning, nodes_within, ran_on}
use Rattle.job_table.specs.Table.{JobData, is_out}
use Rattle.job_table.specs.Job.{gone_out, is_turn, back, IsStrange}
use Rattle.job_table.specs.declared.phase.Phase.{Phase}
use Rattle.job_table.specs.declared.phase.Phase.TheVariants.{Waiting, Out, Leaving, Dry, Closed, Cancelled}
use Rattle.farm_core.specs.declared.entry.Event.{Event}
use Rattle.farm_core.specs.declared.entry.Event.TheVariants.{Cancel, Take, Give}
use Rattle.farm_core.specs.declared.reply.Line.{Line}
use Rattle.farm_core.specs.declared.reply.Reply.{Reply}
use Rattle.farm_core.specs.declared.reply.Reply.TheVariants as reply
use Rattle.farm_core.specs.declared.reply.NoTurn.{NoTurn}
use Rattle.farm_core.specs.declared.reply.NoTurn.TheVariants as no_turn
use Rattle.farm_core.specs.Turn.{TurnData}
use Rattle.farm_core.specs.Tenant.{Tenant, find_job, line_of, nodes_out_in, Member, Purse, no_member, seat, own_of, with_seat}
use Rattle.farm_core.specs.Step as calls
use Rattle.farm_core.specs.Step.{Answer, Replied, Sent, Step, Effect, Nothing, Changes, done, step, has_room, is_slice, about, may_have_run, to_give}
use Rattle.farm_core.specs.Farm.{IsReply}
use Rattle.farm_core.specs.Turn.{IsTurn, IsTaken, IsNotTaken}
use Rattle.farm_core.specs.Config.{ConfigData}
use Rattle.farm_core.specs.Command as command
use Rattle.farm_core.specs.World.{World, opened, purse_in, place_in, spent_in, member, purse, view, Follows, IsOfJournal}
use Rattle.farm_core.proofs.SeatLemmas.{each_view_is_a_seat, steps_of, purse_after, purse_stays}
use Rattle.farm_core.specs.Held.{is_out_of, nodes_out, takes, gives, IsOutFor, AreHeld}
use Rattle.farm_core.proofs.HeldLemmas.{taken_out, taken_turns_are_held, taken_jobs_were_not_out, turns_stay_held, held_turns_are_no_strangers, held_turns_run_their_nodes, only_taken_jobs_are_out, given_jobs_are_not_out}
use Rattle.farm_core.proofs.ReplayLemmas.{farms_are_replayed}
use Rattle.farm_core.proofs.ReplyLemmas.{by_reply, command_needs}
use Rattle.session_lines.specs.declared.said.Said.{Said}
use Rattle.session_lines.specs.declared.said.Said.TheVariants as said
use Rattle.farm_core.specs.declared.command.Command.{Command}
use Rattle.farm_core.specs.declared.command.Command.TheVariants as calls_for
use Rattle.farm_session.specs.declared.ask.Ask.{Ask}
use Rattle.farm_session.specs.declared.ask.Ask.TheVariants as ask
use Rattle.farm_session.specs.declared.ask.TurnAsk.TheVariants as turn
use Rattle.farm_session.specs.Ask.{IsSubmit}
use Rattle.farm_replay.specs.Output.{Answered, said_for, told_by, told_to, told_under, given_back, turned, request_may_need}
use Rattle.farm_replay.specs.ScriptFarm.{is_turn_of, has_turn, AreApart, IsScriptFarm, IsTold, untaken}

-- ---- lists of turns

or_false : (a b : Bool) → a ≡ false → b ≡ false → (a || b) ≡ false
or_false a b h k = subst (λ x. (x || b) ≡ false) (sym h) k

swapped : (a b c d : ℕ) → ((a == b) && (c == d)) ≡ false → ((b == a) && (d == c)) ≡ false
swapped a b c d h = grind (arith, nat_tests)

turn_swapped : {J : Type 0} (x z : TurnData J) → is_turn_of z.tenant z.seq x ≡ false → is_turn_of x.tenant x.seq z ≡ false
turn_swapped x z h = swapped x.tenant z.tenant x.seq z.seq h

lacks_without : {J : Type 0} (t s : ℕ) (xs : List (TurnData J)) (x : TurnData J) (ys : List (TurnData J)) → has_turn t s (xs ++ x ∷ ys) ≡ false
    → (is_turn_of t s x ≡ false) × (has_turn t s (xs ++ ys) ≡ false)
lacks_without t s [] x ys h = or_parts (is_turn_of t s x) (has_turn t s ys) h
lacks_without t s (z ∷ xs) x ys h =
    let p = or_parts (is_turn_of t s z) (has_turn t s (xs ++ x ∷ ys)) h in
    let q = lacks_without t s xs x ys p.1 in
    (q.0, or_false (is_turn_of t s z) (has_turn t s (xs ++ ys)) p.0 q.1)

apart_without : {J : Type 0} (xs : List (TurnData J)) (x : TurnData J) (ys : List (TurnData J)) → AreApart (xs ++ x ∷ ys)
    → (has_turn x.tenant x.seq (xs ++ ys) ≡ false) × AreApart (xs ++ ys)
apart_without [] x ys h = h
apart_without (z ∷ xs) x ys h =
    let p = lacks_without z.tenant z.seq xs x ys h.0 in
    let q = apart_without xs x ys h.1 in
    (or_false (is_turn_of x.tenant x.seq z) (has_turn x.tenant x.seq (xs ++ ys)) (turn_swapped x z p.0) q.0, (p.1, q.1))

apart_push : {J : Type 0} (xs : List (TurnData J)) (x : TurnData J) → AreApart xs → has_turn x.tenant x.seq xs ≡ false → AreApart (xs ++ x ∷ [])
apart_push [] x h none = (refl, tt)
apart_push (z ∷ xs) x h none =
    let p = or_parts (is_turn_of x.tenant x.seq z) (has_turn x.tenant x.seq xs) none in
    let more : has_turn z.tenant z.seq (xs ++ x ∷ []) ≡ false =
    list_any-append (is_turn_of z.tenant z.seq) xs (x ∷ [])
    ∙ or_false (has_turn z.tenant z.seq xs) (is_turn_of z.tenant z.seq x || false) h.0 (or_false (is_turn_of z.tenant z.seq x) false (turn_swapped z x p.0) refl) in
    (more, apart_push xs x h.1 p.1)

-- a turn that is not x is among the others
has_others : {J : Type 0} (t s : ℕ) (xs : List (TurnData J)) (x : TurnData J) (ys : List (TurnData J)) → has_turn t s (xs ++ x ∷ ys) ≡ true → is_turn_of t s x ≡ false
    → has_turn t s (xs ++ ys) ≡ true
has_others t s xs x ys h other =
    list_any-append (is_turn_of t s) xs ys
    ∙ ap (λ b. has_turn t s xs || (b || has_turn t s ys)) (sym other)
    ∙ sym (list_any-append (is_turn_of t s) xs (x ∷ ys)) ∙ h

has_pushed : {J : Type 0} (t s : ℕ) (xs : List (TurnData J)) (x : TurnData J) → (has_turn t s xs ≡ true) ⊎ (is_turn_of t s x ≡ true) → has_turn t s (xs ++ x ∷ []) ≡ true
has_pushed t s [] x h = ⊎_elim (λ e. absurd (cc)) (λ e. ap (λ b. b || false) e) h
has_pushed t s (z ∷ xs) x h = grind (arith, nat_tests, has_pushed t s xs x)

is_turn_in : {J : Type 0} (t s : ℕ) (x : TurnData J) → is_turn_of t s x ≡ true → (x.tenant ≡ t) × (x.seq ≡ s)
is_turn_in t s x h = let p = and_parts (x.tenant == t) (x.seq == s) h in (eqb-true x.tenant t p.0, eqb-true x.seq s p.1)

turn_is : {J : Type 0} (t s : ℕ) (x : TurnData J) → x.tenant ≡ t → x.seq ≡ s → is_turn_of t s x ≡ true
turn_is t s x h k = grind (arith, nat_tests)

-- ---- held turns

held_append : {J : Type 0} (meaning : J → Meaning) (w : World) (xs ys : List (TurnData J)) → AreHeld meaning w xs → AreHeld meaning w ys → AreHeld meaning w (xs ++ ys)
held_append meaning w [] ys h k = k
held_append meaning w (x ∷ xs) ys h k = (h.0, h.1, h.2, held_append meaning w xs ys h.3 k)

pub held_parts : {J : Type 0} (meaning : J → Meaning) (w : World) (xs ys : List (TurnData J)) → AreHeld meaning w (xs ++ ys) → AreHeld meaning w xs × AreHeld meaning w ys
held_parts meaning w [] ys h = (tt, h)
held_parts meaning w (x ∷ xs) ys h = let p = held_parts meaning w xs ys h.3 in ((h.0, h.1, h.2, p.0), p.1)

held_without : {J : Type 0} (meaning : J → Meaning) (w : World) (xs : List (TurnData J)) (x : TurnData J) (ys : List (TurnData J)) → AreHeld meaning w (xs ++ x ∷ ys) → AreHeld meaning w (xs ++ ys)
held_without meaning w xs x ys h = let p = held_parts meaning w xs (x ∷ ys) h in held_append meaning w xs ys p.0 p.1.3

out_of_turn : (slice : ℕ) (phase : Phase) → is_turn slice phase ≡ true → is_out phase ≡ true
out_of_turn slice Waiting h = absurd (cc)
out_of_turn slice (Out s) h = refl
out_of_turn slice (Leaving s) h = refl
out_of_turn slice Dry h = absurd (cc)
out_of_turn slice Closed h = absurd (cc)
out_of_turn slice Cancelled h = absurd (cc)

held_is_out : (w : World) (t s slice : ℕ) (m : Meaning) → IsOutFor w t s slice m → is_out_of (find_job s (view t w).jobs) ≡ true
held_is_out w t s slice m it = ap is_out_of it.found ∙ out_of_turn slice it.job.phase it.own.turn

all_out : {J : Type 0} (meaning : J → Meaning) (w : World) (turns : List (TurnData J)) (t s : ℕ) → AreHeld meaning w turns → has_turn t s turns ≡ true
    → is_out_of (find_job s (view t w).jobs) ≡ true
all_out meaning w [] t s h e = absurd (cc)
all_out meaning w (x ∷ turns) t s h e =
    cond_both (is_turn_of t s x) true (has_turn t s turns) (λ (b : Bool). b ≡ true → is_out_of (find_job s (view t w).jobs) ≡ true)
    (λ own _.
    let p = is_turn_in t s x own in
    ap (λ k. is_out_of (find_job s (view k w).jobs)) (sym p.0) ∙ ap (λ k. is_out_of (find_job k (view x.tenant w).jobs)) (sym p.1)
    ∙ held_is_out w x.tenant x.seq x.slice (meaning x.search) h.2)
    (λ _ more. all_out meaning w turns t s h.3 more)
    (or_is (is_turn_of t s x) (has_turn t s turns) ∙ e)
  where
    or_is : (a b : Bool) → cond a true b ≡ (a || b)
    or_is true b = refl
    or_is false b = refl

held_over : {J : Type 0} (meaning : J → Meaning) (old new : World) (t : ℕ) (e : Event) (answer : Answer) → Follows old t e answer new
    → (turns : List (TurnData J)) → ((s : ℕ) → gives s e ≡ true → has_turn t s turns ≡ false) → AreHeld meaning old turns → AreHeld meaning new turns
held_over meaning old new t e answer f [] apart h = tt
held_over meaning old new t e answer f (x ∷ turns) apart h =
    let not_given : t ≡ x.tenant → gives x.seq e ≡ false =
    λ same. elim (gives x.seq e) as (λ b. gives x.seq e ≡ b → b ≡ false) [
      | true ↦ λ given. absurd (both_ways (is_turn_of t x.seq x) (or_parts (is_turn_of t x.seq x) (has_turn t x.seq turns) (apart x.seq given)).0 (turn_is t x.seq x (sym same) refl))
      | false ↦ λ _. refl
    ] refl in (
      h.0,
      subst (λ (n : ℕ). x.tenant < n) (ap (λ c. length c.tenants) (sym f.config)) h.1,
      turns_stay_held old new t e answer f x.tenant x.seq x.slice (meaning x.search) h.2 not_given,
      held_over meaning old new t e answer f turns (λ s given. (or_parts (is_turn_of t s x) (has_turn t s turns) (apart s given)).1) h.3,
    )

-- ---- what the script holds

-- a call that neither takes nor gives a turn leaves all turns as they are
pub farm_over : {J : Type 0} (meaning : J → Meaning) (old new : World) (t : ℕ) (e : Event) (answer : Answer)
    → Follows old t e answer new → ((s : ℕ) → gives s e ≡ false) → ((s : ℕ) → takes s e ≡ false) → (turns : List (TurnData J)) → IsScriptFarm meaning old turns → IsScriptFarm meaning new turns
farm_over meaning old new t e answer f nor_gives nor_takes turns script_farm = record {
  held = held_over meaning old new t e answer f turns (λ s given. absurd (both_ways (gives s e) (nor_gives s) given)) script_farm.held;
  apart = script_farm.apart;
  all = λ u s out.
      ⊎_elim (λ was. script_farm.all u s was) (λ (now : (t ≡ u) × (takes s e ≡ true)). absurd (both_ways (takes s e) (nor_takes s) now.1))
      (only_taken_jobs_are_out old new t e answer script_farm.replayed f u s out);
  replayed = farms_are_replayed.kept old new t e answer script_farm.replayed f;
}

-- a turn that is taken is held with the others
pub farm_taken : {J : Type 0} (meaning : J → Meaning) (old new : World) (t s slice : ℕ)
    → (x : TurnData J) → IsTaken old t s slice (meaning x.search) new → x.tenant ≡ t → x.seq ≡ s → x.slice ≡ slice → x.ran ≡ 0 → t < length old.config.tenants
    → (turns : List (TurnData J)) → IsScriptFarm meaning old turns → IsScriptFarm meaning new (turns ++ x ∷ [])
farm_taken meaning old new t s slice x it tenant seq most ran known turns script_farm =
    let f = it.follows in
    let answer : Answer = Sent (line_of (gone_out slice it.job)) in
    let none : has_turn t s turns ≡ false =
    elim (has_turn t s turns) as (λ b. has_turn t s turns ≡ b → b ≡ false) [
      | true ↦ λ has. absurd (both_ways (is_out_of (find_job s (view t old).jobs)) (taken_jobs_were_not_out old new t s slice (meaning x.search) it) (all_out meaning old turns t s script_farm.held has))
      | false ↦ λ _. refl
    ] refl in
    let here : IsOutFor new x.tenant x.seq x.slice (meaning x.search) =
    rw (tenant, seq, most) (taken_turns_are_held old new t s slice (meaning x.search) it) in
    record {
      held = held_append meaning new turns (x ∷ []) (held_over meaning old new t (Take s slice) answer f turns (λ n given. absurd (cc)) script_farm.held)
          (ran, rw tenant (subst (λ c. t < length c.tenants) (sym f.config) known), here, tt);
      apart = apart_push turns x script_farm.apart (rw (tenant, seq) none);
      all = λ u n out.
          has_pushed u n turns x
          (⊎_elim (λ was. inl (script_farm.all u n was))
          (λ (now : (t ≡ u) × (takes n (Take s slice) ≡ true)). inr (turn_is u n x (tenant ∙ now.0) (seq ∙ eqb-true s n now.1)))
          (only_taken_jobs_are_out old new t (Take s slice) answer script_farm.replayed f u n out));
      replayed = farms_are_replayed.kept old new t (Take s slice) answer script_farm.replayed f;
    }

-- a turn that is given back is held no more
pub farm_given : {J : Type 0} (meaning : J → Meaning) (old new : World) (t s ran : ℕ) (reply : Reply)
    → Follows old t (Give s ran) (Replied reply) new → (xs : List (TurnData J)) (x : TurnData J) (ys : List (TurnData J)) → x.tenant ≡ t → x.seq ≡ s
    → IsScriptFarm meaning old (xs ++ x ∷ ys) → IsScriptFarm meaning new (xs ++ ys)
farm_given meaning old new t s ran reply f xs x ys tenant seq script_farm =
    let apart = apart_without xs x ys script_farm.apart in
    let none : has_turn t s (xs ++ ys) ≡ false = rw (← tenant, ← seq) apart.0 in
    record {
      held = held_over meaning old new t (Give s ran) (Replied reply) f (xs ++ ys)
          (λ n is. ap (λ k. has_turn t k (xs ++ ys)) (sym (eqb-true s n is)) ∙ none) (held_without meaning old xs x ys script_farm.held);
      apart = apart.1;
      all = λ u n out.
          let was : has_turn u n (xs ++ x ∷ ys) ≡ true =
          ⊎_elim (λ w. script_farm.all u n w) (λ (now : (t ≡ u) × (takes n (Give s ran) ≡ true)). absurd (cc))
          (only_taken_jobs_are_out old new t (Give s ran) (Replied reply) script_farm.replayed f u n out) in
          has_others u n xs x ys was
          (elim (is_turn_of u n x) as (λ b. is_turn_of u n x ≡ b → b ≡ false) [
            | true ↦ λ own.
                let p = is_turn_in u n x own in
                absurd (both_ways (is_out_of (find_job n (view u new).jobs))
                (ap (λ k. is_out_of (find_job n (view k new).jobs)) (sym p.0 ∙ tenant) ∙ ap (λ k. is_out_of (find_job k (view t new).jobs)) (sym p.1 ∙ seq) ∙ given_jobs_are_not_out old new t s ran reply f) out)
            | false ↦ λ _. refl
          ] refl);
      replayed = farms_are_replayed.kept old new t (Give s ran) (Replied reply) script_farm.replayed f;
    }

-- ---- what is said

some_line : (job : JobData) (line : Line) (found : Option JobData) → found ≡ Some job → Some line ≡ option_map line_of found → line_of job ≡ line
some_line job line found is told = cc (ap (option_map line_of) is)

-- a turn that goes out is of a job that there is
pub told_out : (old new : World) (t s slice : ℕ) (m : Meaning) → IsTaken old t s slice m new → option_map line_of (find_job s (view t new).jobs) ≡ None → ⊥
told_out old new t s slice m it none = let both : Some (line_of (gone_out slice it.job)) ≡ None = sym (ap (option_map line_of) (taken_out old new t s slice m it)) ∙ none in cc

-- the line that is told of a turn that goes out is that of its job
pub sent_line : (old new : World) (t s slice : ℕ) (m : Meaning) (line : Line) → IsTaken old t s slice m new → Some line ≡ option_map line_of (find_job s (view t new).jobs)
    → Follows old t (Take s slice) (Sent line) new
sent_line old new t s slice m line it told =
    let out : JobData = gone_out slice it.job in
    subst (λ l. Follows old t (Take s slice) (Sent l) new) (some_line out line (find_job s (view t new).jobs) (taken_out old new t s slice m it) told) it.follows

-- ---- what is told is its purse's

set_same : (ms : List Member) (place : ℕ) → set ms place (get_or ms place no_member) ≡ ms
set_same [] place = refl
set_same (m ∷ ms) zero = refl
set_same (m ∷ ms) (suc place) = ap (λ (xs : List Member). m ∷ xs) (set_same ms place)

set_twice : (ms : List Member) (place : ℕ) (one other : Member) → set (set ms place one) place other ≡ set ms place other
set_twice [] place one other = refl
set_twice (m ∷ ms) zero one other = refl
set_twice (m ∷ ms) (suc place) one other = ap (λ (xs : List Member). m ∷ xs) (set_twice ms place one other)

-- a purse where a member stands as it did
pub seated_same : (p : Purse) (place : ℕ) → with_seat p place (seat p place) ≡ p
seated_same p place = ap (λ (ms : List Member). let it : Purse = record p { members = ms } in it) (set_same p.members place)

seated_twice : (p : Purse) (place : ℕ) (one other : Tenant) → with_seat (with_seat p place one) place other ≡ with_seat p place other
seated_twice p place one other = ap (λ (ms : List Member). let it : Purse = record p { spent = other.spent; members = ms } in it) (set_twice p.members place (own_of one) (own_of other))

abbrev purse_at : World → ℕ → Purse
purse_at w t = purse (purse_in w.config t) w

stands : (w : World) (t : ℕ) → t < length w.config.tenants → purse_at w t ≡ with_seat (purse_at w t) (place_in w.config t) (view t w)
stands w t known = sym (seated_same (purse_at w t) (place_in w.config t)) ∙ ap (with_seat (purse_at w t) (place_in w.config t)) (sym (each_view_is_a_seat w t known))

pub unanswered : (old : World) (t : ℕ) (request : Ask) → t < length old.config.tenants → request_may_need (view t old) request ≡ true → IsTold old t request (said.Reply reply.NoMemory) old
unanswered old t request known may = record {
  refused = true;
  said = ap (λ b. (cond b (record { said = said.Reply reply.NoMemory; after = view t old }) (told_to (view t old) request)).said) (sym may);
  own = stands old t known
      ∙ ap (λ b. with_seat (purse_at old t) (place_in old.config t) (cond b (record { said = said.Reply reply.NoMemory; after = view t old }) (told_to (view t old) request)).after) (sym may);
  others = λ p other. refl;
  config = refl;
}

-- a submit for whose search there is no memory
pub unmade : (w : World) (t : ℕ) (call : Command ⊤) → t < length w.config.tenants → IsSubmit call → IsTold w t (ask.Call call) (said.Reply reply.NoMemory) w
unmade w t (calls_for.Submit plan quanta search) known submits = unanswered w t (ask.Call (calls_for.Submit plan quanta search)) known refl
unmade w t call known submits = absurd submits

-- after a call
called : (old new : World) (t : ℕ) (e : Event) (answer : Answer) → Follows old t e answer new
    → purse (purse_in old.config t) new ≡ with_seat (purse_at old t) (place_in old.config t) (step (view t old) e).after
called old new t e answer f = purse_after old new t e answer (steps_of old new t e answer f)

others_stay : (old new : World) (t : ℕ) (e : Event) (answer : Answer) → Follows old t e answer new → (p : ℕ) → p ≢ purse_in old.config t → purse p new ≡ purse p old
others_stay old new t e answer f p other = purse_stays old new t e answer (steps_of old new t e answer f) p other

stepped : (old new : World) (t : ℕ) (request : Ask) (e : Event) (answer : Answer) → told_to (view t old) request ≡ told_by (step (view t old) e) → Follows old t e answer new
    → IsTold old t request (said_for answer) new
stepped old new t request e answer same f = record {
  refused = false;
  said = ap said_for f.answer_is ∙ ap (λ (it : Answered). it.said) (sym same);
  own = called old new t e answer f ∙ ap (λ (it : Answered). with_seat (purse_at old t) (place_in old.config t) it.after) (sym same);
  others = others_stay old new t e answer f;
  config = f.config;
}

-- a command's reply is what is said
pub replied : (old new : World) (t : ℕ) (request : Ask) (e : Event) (answer : Reply) → t < length old.config.tenants → told_to (view t old) request ≡ told_by (step (view t old) e)
    → (answer ≡ reply.NoMemory → has_room 1 (view t old) ≡ true → request_may_need (view t old) request ≡ true) → IsReply old t e answer new → IsTold old t request (said.Reply answer) new
replied old new t request e answer known same may h =
    ⊎_elim
    (λ (none : (answer ≡ reply.NoMemory) × (new ≡ old) × (has_room 1 (view t old) ≡ true)).
    subst (λ a. IsTold old t request (said.Reply a) new) (sym none.0) (subst (λ w. IsTold old t request (said.Reply reply.NoMemory) w) (sym none.1) (unanswered old t request known (may none.0 none.2))))
    (λ f. stepped old new t request e (Replied answer) same f)
    (by_reply old t e answer new h)

-- a command leaves the turns as they are
pub farm_replied : {J : Type 0} (meaning : J → Meaning) (old new : World) (t : ℕ) (e : Event) (answer : Reply)
    → ((s : ℕ) → gives s e ≡ false) → ((s : ℕ) → takes s e ≡ false) → (turns : List (TurnData J)) → IsReply old t e answer new → IsScriptFarm meaning old turns → IsScriptFarm meaning new turns
farm_replied meaning old new t e answer nor_gives nor_takes turns h script_farm =
    ⊎_elim
    (λ (none : (answer ≡ reply.NoMemory) × (new ≡ old) × (has_room 1 (view t old) ≡ true)). subst (λ w. IsScriptFarm meaning w turns) (sym none.1) script_farm)
    (λ f. farm_over meaning old new t e (Replied answer) f nor_gives nor_takes turns script_farm)
    (by_reply old t e answer new h)

-- a call is told what the step of its event answers, may need memory where the step may, and neither takes nor gives a turn
record AsksFor (t : Tenant) (call : Command ⊤) (e : Event) : Type 0 where
  pub told : told_to t (ask.Call call) ≡ told_by (step t e)
  pub needs : command.may_need t e ≡ true → request_may_need t (ask.Call call) ≡ true
  pub nor_gives : (s : ℕ) → gives s e ≡ false
  pub nor_takes : (s : ℕ) → takes s e ≡ false

asks_for : (t : Tenant) (call : Command ⊤) → AsksFor t call (command.event_of call)
asks_for t (calls_for.Submit plan quanta search) = record { told = refl; needs = λ _. refl; nor_gives = λ _. refl; nor_takes = λ _. refl }
asks_for t call = record { told = refl; needs = λ h. h; nor_gives = λ _. refl; nor_takes = λ _. refl }

asked_for : (t : Tenant) (call : Command ⊤) (e : Event) → e ≡ command.event_of call → AsksFor t call e
asked_for t call e is = subst (AsksFor t call) (sym is) (asks_for t call)

-- the reply to a command is what is said to its call,
pub commanded : (old new : World) (t : ℕ) (call : Command ⊤) (e : Event) (answer : Reply) → t < length old.config.tenants → e ≡ command.event_of call → IsReply old t e answer new
    → ((s : ℕ) (line : Line) → e ≡ Cancel s → (step (view t old) (Cancel s)).answer ≡ Replied (reply.Line line) → answer ≡ reply.Line line) → IsTold old t (ask.Call call) (said.Reply answer) new
commanded old new t call e answer known is h accepted =
    let it = asked_for (view t old) call e is in
    replied old new t (ask.Call call) e answer known it.told (λ none _. it.needs (command_needs old new t e answer h accepted none)) h

-- and it leaves the turns as they are
pub farm_commanded : {J : Type 0} (meaning : J → Meaning) (old new : World) (t : ℕ) (call : Command ⊤) (e : Event) (answer : Reply) → e ≡ command.event_of call → (turns : List (TurnData J))
    → IsReply old t e answer new → IsScriptFarm meaning old turns → IsScriptFarm meaning new turns
farm_commanded meaning old new t call e answer is turns h script_farm =
    let it = asked_for (view t old) call e is in
    farm_replied meaning old new t e answer it.nor_gives it.nor_takes turns h script_farm

pub told_taken : (old new : World) (t s slice : ℕ) (line : Line) → Follows old t (Take s slice) (Sent line) new → IsTold old t (ask.Turn (turn.Take s slice)) (said.Reply (reply.Line line)) new
told_taken old new t s slice line f = stepped old new t (ask.Turn (turn.Take s slice)) (Take s slice) (Sent line) refl f

pub told_untaken : (old new : World) (t s slice : ℕ) (why : NoTurn) → t < length old.config.tenants → IsNotTaken old t s slice why new → IsTold old t (ask.Turn (turn.Take s slice)) (untaken why) new
told_untaken old new t s slice no_turn.None known f = stepped old new t (ask.Turn (turn.Take s slice)) (Take s slice) calls.NoTurn refl f
told_untaken old new t s slice no_turn.NoMemory known same = subst (λ w. IsTold old t (ask.Turn (turn.Take s slice)) (said.Reply reply.NoMemory) w) (sym same) (unanswered old t (ask.Turn (turn.Take s slice)) known refl)

-- a whole turn that was not taken
pub turned_untaken : (old new : World) (t s slice : ℕ) (why : NoTurn) → t < length old.config.tenants → IsNotTaken old t s slice why new → IsTold old t (ask.Turn (turn.Whole s slice)) (untaken why) new
turned_untaken old new t s slice no_turn.None known f =
    let answer : (step (view t old) (Take s slice)).answer ≡ calls.NoTurn = sym f.answer_is in
    record {
      refused = false;
      said = ap (λ a. (turned a (step (view t old) (Take s slice)).after s).said) f.answer_is;
      own = called old new t (Take s slice) calls.NoTurn f
          ∙ ap (λ a. with_seat (purse_at old t) (place_in old.config t) (turned a (step (view t old) (Take s slice)).after s).after) f.answer_is;
      others = others_stay old new t (Take s slice) calls.NoTurn f;
      config = f.config;
    }
turned_untaken old new t s slice no_turn.NoMemory known same = subst (λ w. IsTold old t (ask.Turn (turn.Whole s slice)) (said.Reply reply.NoMemory) w) (sym same) (unanswered old t (ask.Turn (turn.Whole s slice)) known refl)

-- a purse after a call and a further change of the same tenant
given_own : (old mid new : World) (t : ℕ) (e : Event) (answer : Answer) (then : Tenant) → Follows old t e answer mid
    → purse (purse_in mid.config t) new ≡ with_seat (purse_at mid t) (place_in mid.config t) then
    → purse (purse_in old.config t) new ≡ with_seat (purse_at old t) (place_in old.config t) then
given_own old mid new t e answer then f own =
    let place = place_in old.config t in
    ap (λ (c : ConfigData). purse (purse_in c t) new) (sym f.config) ∙ own
    ∙ ap (λ (c : ConfigData). with_seat (purse (purse_in c t) mid) (place_in c t) then) f.config
    ∙ ap (λ (p : Purse). with_seat p place then) (called old mid t e answer f)
    ∙ seated_twice (purse_at old t) place (step (view t old) e).after then

-- a whole turn that was taken and given back
pub turned_whole : (old mid new : World) (t s slice : ℕ) (line : Line) (answer : Said) → Follows old t (Take s slice) (Sent line) mid → IsTold mid t (ask.Turn (turn.Give s)) answer new
    → IsTold old t (ask.Turn (turn.Whole s slice)) answer new
turned_whole old mid new t s slice line answer f it =
    let back : told_under it.refused (view t mid) (ask.Turn (turn.Give s)) ≡ given_back (view t mid) s = elim it.refused as (λ b. told_under b (view t mid) (ask.Turn (turn.Give s)) ≡ given_back (view t mid) s) [ true ↦ refl | false ↦ refl ] in
    let whole : given_back (view t mid) s ≡ told_to (view t old) (ask.Turn (turn.Whole s slice)) =
    ap (λ v. given_back v s) f.own ∙ ap (λ a. turned a (step (view t old) (Take s slice)).after s) f.answer_is in
    record {
      refused = false;
      said = it.said ∙ ap (λ (x : Answered). x.said) (back ∙ whole);
      own = given_own old mid new t (Take s slice) (Sent line) (told_under it.refused (view t mid) (ask.Turn (turn.Give s))).after f it.own
          ∙ ap (λ (x : Answered). with_seat (purse_at old t) (place_in old.config t) x.after) (back ∙ whole);
      others = λ p other. it.others p (λ e. other (e ∙ ap (λ (c : ConfigData). purse_in c t) f.config)) ∙ others_stay old mid t (Take s slice) (Sent line) f p other;
      config = it.config ∙ f.config;
    }

pub told_given : (old new : World) (t s ran : ℕ) (answer : Reply) → Follows old t (Give s ran) (Replied answer) new → ran ≡ nodes_out (find_job s (view t old).jobs)
    → IsTold old t (ask.Turn (turn.Give s)) (said.Reply answer) new
told_given old new t s ran answer f is =
    stepped old new t (ask.Turn (turn.Give s)) (Give s ran) (Replied answer) (ap (λ n. told_by (step (view t old) (Give s n))) (sym is)) f

not_out : (found : Option JobData) → is_out_of found ≡ false → about (Nothing calls.NoTurn) (to_give (nodes_out found)) found ≡ Nothing calls.NoTurn
not_out None h = refl
not_out (Some job) h =
    let here : is_out job.phase ≡ false = h in
    let not : may_have_run (nodes_out_in job job.phase) job job.phase ≡ false = rw here refl in
    rw not refl

-- no turn of the job is held
pub told_none : {J : Type 0} (meaning : J → Meaning) (w : World) (t s : ℕ) (turns : List (TurnData J)) → t < length w.config.tenants → IsScriptFarm meaning w turns → has_turn t s turns ≡ false → IsTold w t (ask.Turn (turn.Give s)) said.NoTurn w
told_none meaning w t s turns known script_farm none =
    let quiet : is_out_of (find_job s (view t w).jobs) ≡ false =
    elim (is_out_of (find_job s (view t w).jobs)) as (λ b. is_out_of (find_job s (view t w).jobs) ≡ b → b ≡ false) [
      | true ↦ λ out. absurd (both_ways (has_turn t s turns) none (script_farm.all t s out))
      | false ↦ λ _. refl
    ] refl in
    let same : given_back (view t w) s ≡ record { said = said.NoTurn; after = view t w } = ap (λ f. told_by (done (view t w) f)) (not_out (find_job s (view t w).jobs) quiet) in
    record {
      refused = false;
      said = ap (λ (x : Answered). x.said) (sym same);
      own = stands w t known ∙ ap (λ (x : Answered). with_seat (purse_at w t) (place_in w.config t) x.after) (sym same);
      others = λ p other. refl;
      config = refl;
    }

-- ---- a turn that is found

-- the turn of job s of tenant t among those that are held, and the others
pub record IsFound {J : Type 0} (meaning : J → Meaning) (w : World) (t s : ℕ) (turns rest : List (TurnData J)) (x : TurnData J) : Type 0 where
  pub front : List (TurnData J)
  pub behind : List (TurnData J)
  pub whole : turns ≡ front ++ x ∷ behind
  pub others : rest ≡ front ++ behind
  pub tenant : x.tenant ≡ t
  pub seq : x.seq ≡ s
  pub ran : x.ran ≡ 0
  pub known : x.tenant < length w.config.tenants
  pub held : IsOutFor w x.tenant x.seq x.slice (meaning x.search)

split_at : {A : Type 0} (xs : List A) (i : ℕ) (x : A) → i < length xs → x ≡ get_or xs i x → xs ≡ take i xs ++ x ∷ drop (i + 1) xs
split_at xs i x h is = sym (take-append-drop i xs) ∙ ap (λ ys. take i xs ++ ys) (drop_at xs i x h is)
  where
    drop_at : {A : Type 0} (xs : List A) (i : ℕ) (x : A) → i < length xs → x ≡ get_or xs i x → drop i xs ≡ x ∷ drop (i + 1) xs
    drop_at xs i x h is = rw (add-one) (drop-cons xs i x h ∙ ap (λ y. y ∷ drop (suc i) xs) (sym is))

pub found_turn : {J : Type 0} (meaning : J → Meaning) (w : World) (t s : ℕ) (turns rest : List (TurnData J)) (i : ℕ) (x : TurnData J) → position (is_turn_of t s) turns ≡ Some i → x ≡ get_or turns i x
    → rest ≡ take i turns ++ drop (i + 1) turns → IsScriptFarm meaning w turns → IsFound meaning w t s turns rest x
found_turn meaning w t s turns rest i x at is others script_farm =
    let p = position-Some (is_turn_of t s) turns i x at in
    let own : is_turn_of t s x ≡ true = ap (is_turn_of t s) is ∙ p.1 in
    let whole = split_at turns i x p.0 is in
    let held = (held_parts meaning w (take i turns) (x ∷ drop (i + 1) turns) (subst (λ ys. AreHeld meaning w ys) whole script_farm.held)).1 in
    record {
      front = take i turns;
      behind = drop (i + 1) turns;
      whole = whole;
      others = others;
      tenant = (is_turn_in t s x own).0;
      seq = (is_turn_in t s x own).1;
      ran = held.0;
      known = held.1;
      held = held.2;
    }

pub found_floor : {J : Type 0} (meaning : J → Meaning) (old new : World) (t s ran : ℕ) (reply : Reply) (turns rest : List (TurnData J)) (x : TurnData J)
    → IsFound meaning old t s turns rest x → Follows old t (Give s ran) (Replied reply) new → IsScriptFarm meaning old turns → IsScriptFarm meaning new rest
found_floor meaning old new t s ran reply turns rest x it f script_farm =
    subst (λ ys. IsScriptFarm meaning new ys) (sym it.others)
    (farm_given meaning old new t s ran reply f it.front x it.behind it.tenant it.seq (subst (λ ys. IsScriptFarm meaning old ys) it.whole script_farm))

ran_none : (m : Meaning) → m ≡ ran_on 0 m
ran_none m =
    let nodes : m.nodes ≡ m.nodes + 0 = omega arith in
    let left : m.left ≡ m.left - 0 = omega arith in
    ap (λ n. let it : Meaning = record m { nodes = n } in it) nodes ∙ ap (λ n. let it : Meaning = record m { nodes = m.nodes + 0; left = n } in it) left

-- a turn that is held can be run, and given unrun
pub held_turn : (w : World) (t s slice ran : ℕ) (m : Meaning) → IsOutFor w t s slice m → ran ≡ 0 → IsTurn slice ran m
held_turn w t s slice ran m it none = record { best = it.best; start = m; after = ran_none m ∙ ap (λ n. ran_on n m) (sym none); all = inl none }

-- it was run and given
pub record IsRun {J : Type 0} (meaning : J → Meaning) (x : TurnData J) (tenant seq slice ran result : ℕ) (m : Meaning) : Type 0 where
  pub tenant_is : tenant ≡ x.tenant
  pub seq_is : seq ≡ x.seq
  pub slice_is : slice ≡ x.slice
  pub first : x.ran ≡ 0 → result ≡ nodes_within x.slice (meaning x.search)
  pub ran_is : ran ≡ x.ran + result
  pub search : m ≡ ran_on result (meaning x.search)

ran_all : {J : Type 0} (meaning : J → Meaning) (x : TurnData J) (tenant seq slice ran result : ℕ) (m : Meaning) → IsRun meaning x tenant seq slice ran result m → x.ran ≡ 0 → ran ≡ nodes_within x.slice (meaning x.search)
ran_all meaning x tenant seq slice ran result m it none = omega (arith, it.ran_is, it.first none)

pub found_follows : {J : Type 0} (meaning : J → Meaning) (old new : World) (t s : ℕ) (turns rest : List (TurnData J)) (x : TurnData J) (tenant seq slice ran result : ℕ) (m : Meaning) (answer : Reply)
    → IsFound meaning old t s turns rest x → IsRun meaning x tenant seq slice ran result m → Follows old tenant (Give seq ran) (Replied answer) new → Follows old t (Give s ran) (Replied answer) new
found_follows meaning old new t s turns rest x tenant seq slice ran result m answer it run f =
    subst (λ k. Follows old t (Give k ran) (Replied answer) new) (run.seq_is ∙ it.seq) (subst (λ k. Follows old k (Give seq ran) (Replied answer) new) (run.tenant_is ∙ it.tenant) f)

pub found_told : {J : Type 0} (meaning : J → Meaning) (old new : World) (t s : ℕ) (turns rest : List (TurnData J)) (x : TurnData J) (tenant seq slice ran result : ℕ) (m : Meaning) (answer : Reply)
    → IsFound meaning old t s turns rest x → IsRun meaning x tenant seq slice ran result m → Follows old tenant (Give seq ran) (Replied answer) new
    → IsTold old t (ask.Turn (turn.Give s)) (said.Reply answer) new
found_told meaning old new t s turns rest x tenant seq slice ran result m answer it run f =
    told_given old new t s ran answer (found_follows meaning old new t s turns rest x tenant seq slice ran result m answer it run f)
    (ran_all meaning x tenant seq slice ran result m run it.ran ∙ held_turns_run_their_nodes old x.tenant x.seq x.slice (meaning x.search) it.held
    ∙ ap (λ k. nodes_out (find_job x.seq (view k old).jobs)) it.tenant ∙ ap (λ k. nodes_out (find_job k (view t old).jobs)) it.seq)

pub never_strange : {J : Type 0} (meaning : J → Meaning) (old : World) (t s : ℕ) (turns rest : List (TurnData J)) (x : TurnData J) (tenant seq slice ran result : ℕ) (m : Meaning)
    → IsFound meaning old t s turns rest x → IsRun meaning x tenant seq slice ran result m → IsStrange old.rows tenant seq slice ran m → ⊥
never_strange meaning old t s turns rest x tenant seq slice ran result m it run strange =
    let search : m ≡ ran_on (nodes_within x.slice (meaning x.search)) (meaning x.search) = run.search ∙ ap (λ n. ran_on n (meaning x.search)) (run.first it.ran) in
    (held_turns_are_no_strangers old x.tenant x.seq x.slice (meaning x.search) m it.held).0 search
    (subst (λ n. IsStrange old.rows x.tenant x.seq x.slice n m) (ran_all meaning x tenant seq slice ran result m run it.ran)
    (subst (λ k. IsStrange old.rows x.tenant x.seq k ran m) run.slice_is (subst (λ k. IsStrange old.rows x.tenant k slice ran m) run.seq_is
    (subst (λ k. IsStrange old.rows k seq slice ran m) run.tenant_is strange))))

-- what has no place passes nowhere
no_place : (n m : ℕ) → cond (nat_lt n m) (Some n) None ≡ None → m ≤ n
no_place n m h = elim (cases_lt n m) [
  | inl under ↦
      let t : nat_lt n m ≡ true = grind (arith, nat_tests) in
      let bad : Some n ≡ None = sym (rw t refl) ∙ h in
      cc
  | inr over ↦ omega (arith, over)
]

none_passes : {X : Type 0} (p : X → Bool) (xs : List X) → length xs ≤ position_or_len p xs → list_any p xs ≡ false
none_passes p [] h = refl
none_passes p (x ∷ xs) h =
    elim (p x) as (λ b. suc (length xs) ≤ cond (not b) (1 + position_or_len p xs) 0 → (b || list_any p xs) ≡ false)
    [ true ↦ λ e. absurd (omega (arith, e)) | false ↦ λ e. none_passes p xs (omega (arith, e)) ] h

pub lacks_turn : {J : Type 0} (t s : ℕ) (turns : List (TurnData J)) → position (is_turn_of t s) turns ≡ None → has_turn t s turns ≡ false
lacks_turn t s turns h = none_passes (is_turn_of t s) turns (no_place (position_or_len (is_turn_of t s) turns) (length turns) h)

-- ---- the first and the last script_farm

pub farm_opened : {J : Type 0} (meaning : J → Meaning) (config : ConfigData) (w : World) → w ≡ opened config → IsScriptFarm meaning w []
unfolding opened view member
farm_opened meaning config w is = record { held = tt; apart = tt; all = λ t s out. absurd (cc (ap (λ v. is_out_of (find_job s (view t v).jobs)) is)); replayed = subst IsOfJournal (sym is) (farms_are_replayed.made config) }

-- the last turn of those that are held
pub found_last : {J : Type 0} (meaning : J → Meaning) (w : World) (turns xs : List (TurnData J)) (x : TurnData J) → turns ≡ xs ++ x ∷ [] → IsScriptFarm meaning w turns
    → IsFound meaning w x.tenant x.seq turns xs x
found_last meaning w turns xs x whole script_farm =
    let held = (held_parts meaning w xs (x ∷ []) (subst (λ ys. AreHeld meaning w ys) whole script_farm.held)).1 in
    record {
      front = xs;
      behind = [];
      whole = whole;
      others = sym (append-nil xs);
      tenant = refl;
      seq = refl;
      ran = held.0;
      known = held.1;
      held = held.2;
    }

gave_none : (t : Tenant) (found : Option JobData) → (done t (about (Nothing calls.NoTurn) (to_give 0) found)).after.spent ≡ t.spent
gave_none t None = refl
gave_none t (Some job) =
    cond_both (may_have_run 0 job job.phase) (Changes (back 0 job) 0 (Replied (reply.Ran 0 (line_of (back 0 job))))) (Nothing calls.NoTurn) (λ (f : Effect). (done t f).after.spent ≡ t.spent)
    (λ _. omega arith) (λ _. refl)

spent_is : (w : World) (u : ℕ) → (view u w).spent ≡ spent_in (purse_in w.config u) w
unfolding view purse
spent_is w u = refl

-- a turn that is given back unrun spends nothing
pub given_none : (old new : World) (t s ran : ℕ) (answer : Reply) → ran ≡ 0 → Follows old t (Give s ran) (Replied answer) new → (u : ℕ) → (view u new).spent ≡ (view u old).spent
given_none old new t s ran answer none f u =
    let caller : (view t new).spent ≡ (view t old).spent =
    ap (λ (v : Tenant). v.spent) f.own ∙ ap (λ n. (step (view t old) (Give s n)).after.spent) none ∙ gave_none (view t old) (find_job s (view t old).jobs) in
    let moved : (v : ℕ) → spent_in (purse_in new.config v) new ≡ spent_in (purse_in old.config v) new = λ v. ap (λ (c : ConfigData). spent_in (purse_in c v) new) f.config in
    spent_is new u ∙ moved u
    ∙ ⊎_elim
    (λ (same : purse_in old.config u ≡ purse_in old.config t).
    ap (λ p. spent_in p new) same ∙ sym (moved t) ∙ sym (spent_is new t) ∙ caller ∙ spent_is old t ∙ ap (λ p. spent_in p old) (sym same))
    (λ (differ : purse_in old.config u ≡ purse_in old.config t → ⊥). f.purses (purse_in old.config u) differ)
    (cases_eq (purse_in old.config u) (purse_in old.config t))
    ∙ sym (spent_is old u)

pub unrun_known : {J : Type 0} (meaning : J → Meaning) (old : World) (turns rest : List (TurnData J)) (x : TurnData J) → IsFound meaning old x.tenant x.seq turns rest x
    → IsStrange old.rows x.tenant x.seq x.slice x.ran (meaning x.search) → ⊥
unrun_known meaning old turns rest x it strange =
    (held_turns_are_no_strangers old x.tenant x.seq x.slice (meaning x.search) (meaning x.search) it.held).1 (subst (λ n. IsStrange old.rows x.tenant x.seq x.slice n (meaning x.search)) it.ran strange)

-- where no turn is held, no job is out
pub none_out : {J : Type 0} (meaning : J → Meaning) (w : World) (turns : List (TurnData J)) → turns ≡ [] → IsScriptFarm meaning w turns → (t s : ℕ) → is_out_of (find_job s (view t w).jobs) ≡ false
none_out meaning w turns none script_farm t s =
    elim (is_out_of (find_job s (view t w).jobs)) as (λ b. is_out_of (find_job s (view t w).jobs) ≡ b → b ≡ false) [
      | true ↦ λ out. absurd (both_ways (has_turn t s turns) (ap (has_turn t s) none) (script_farm.all t s out))
      | false ↦ λ _. refl
    ] refl

pub none_left : {A : Type 0} (xs : List A) → length xs ≡ 0 → xs ≡ []
none_left [] h = refl
none_left (x ∷ xs) h = absurd (omega arith)
