-- What a pool replies about a job is true of its plan.
use Rattle.std.proofs.Common.{◌≡◌, ℕ, zero, suc, List, [], ◌∷◌, ◌++◌, length, map, get_or, set, take, Option, Some, refl, sym, ap, ◌∙◌, subst, append_assoc, append-nil, ⊎_elim}
use Rattle.std.specs.Prelude.{slice_get}
use Rattle.std.proofs.Math.Seq.{take-append_seam}
use Rattle.std.proofs.lemmas.Bool.{cases_eq}
use Rattle.farm_core.specs.declared.config.TenantLine.{TenantLine}
use Rattle.farm_core.specs.declared.entry.Entry.{Entry}
use Rattle.farm_core.specs.declared.entry.Event.{Event}
use Rattle.farm_core.specs.declared.entry.Event.TheVariants.{Submit, Give}
use Rattle.farm_core.specs.declared.reply.Reply.{Reply}
use Rattle.farm_core.specs.declared.reply.Reply.TheVariants as reply
use Rattle.farm_core.specs.Config.{ConfigData, member_lines}
use Rattle.farm_core.specs.Tenant.{Tenant, Member, Purse, new_member, newcomers, no_member, seat, own_of}
use Rattle.farm_core.specs.Step.{Replied, step}
use Rattle.farm_core.specs.World.{purse_in, place_in}
use Rattle.farm_core.specs.Truth.{IsTrueReply, IsTrueAnswer}
use Rattle.farm_core.proofs.TruthLemmas.{Made, AreKnown, IsGood, Makes, step_good, step_told}
use Rattle.turn_lock.specs.History as history
use Rattle.turn_lock.specs.History.{listed}
use Rattle.farm_pool.specs.Laws.{WasSubmitted, EachReplyIsTrue}
use Rattle.farm_pool.specs.Served.{tenant_at, IsStep, IsAnswered, AreOfRun}
use Rattle.farm_pool.proofs.EntryLemmas.{IsSound, AreSound, sound_front, run_sound, purse_at, purse_on, member_off}
use Rattle.farm_pool.proofs.NumberLemmas.{one_plan}

-- ---- the jobs of each tenant are for plans that it has submitted

put_jobs : (made : Made) (ms : List Member) (place : ℕ) (m : Member) → AreKnown made m.jobs → AreKnown made (get_or (set ms place m) place no_member).jobs
put_jobs made [] place m known = tt
put_jobs made (x ∷ ms) zero m known = known
put_jobs made (x ∷ ms) (suc place) m known = put_jobs made ms place m known

abbrev KnowsAt : ConfigData → List Entry → List Entry → ℕ → Type 0
KnowsAt config all before t = AreKnown (WasSubmitted config all t) (tenant_at config before t).jobs

no_jobs : (made : Made) (lines : List TenantLine) (place : ℕ) → AreKnown made (get_or (map new_member lines) place no_member).jobs
no_jobs made [] place = tt
no_jobs made (line ∷ lines) zero = tt
no_jobs made (line ∷ lines) (suc place) = no_jobs made lines place

knows_none : (config : ConfigData) (all : List Entry) (t : ℕ) → KnowsAt config all [] t
unfolding newcomers
knows_none config all t = no_jobs (WasSubmitted config all t) (member_lines config.tenants (purse_in config t)) (place_in config t)

-- where an entry stands, and what is before it
record IsAt (all before : List Entry) (e : Entry) : Type 0 where
  here : slice_get all (length before) ≡ Some e
  front : take (length before) all ≡ before

makes : (config : ConfigData) (all before : List Entry) (e : Entry) → IsAt all before e
    → Makes (WasSubmitted config all e.tenant) (tenant_at config before e.tenant) e.event
makes config all before e at plan quanta s event answer =
    let t = e.tenant in
    let whole : Some e ≡ Some (record { tenant = t; event = Submit plan quanta }) =
    ap (λ (v : Event). let d : Entry = record { tenant = t; event = v } in Some d) event in
    let told : (step (tenant_at config before t) (Submit plan quanta)).answer ≡ Replied (reply.Job s) =
    ap (λ (v : Event). (step (tenant_at config before t) v).answer) (sym event) ∙ answer in
    record {
      at = length before;
      quanta = quanta;
      entry = at.here ∙ whole;
      answered = record {
        answer_is = sym told ∙ ap (λ (es : List Entry). (step (tenant_at config es t) (Submit plan quanta)).answer) (sym at.front);
        entry_is = at.here ∙ whole;
      };
    }

knows_more : (config : ConfigData) (all before : List Entry) (e : Entry) → IsSound config e → IsAt all before e → ((t : ℕ) → KnowsAt config all before t)
    → (t : ℕ) → KnowsAt config all (before ++ e ∷ []) t
knows_more config all before e sound at knows t =
    let u = e.tenant in
    let made : Made = WasSubmitted config all u in
    let good : IsGood made (step (tenant_at config before u) e.event) =
    step_good made (tenant_at config before u) e.event (knows u) sound.planned (makes config all before e at) in
    let after : Tenant = (step (tenant_at config before u) e.event).after in
    let own : KnowsAt config all (before ++ e ∷ []) u =
    subst (λ (p : Purse). AreKnown made (seat p (place_in config u)).jobs) (sym (purse_on config before e))
    (put_jobs made (purse_at config before (purse_in config u)).members (place_in config u) (own_of after) good.jobs) in
    ⊎_elim
    (λ (same : t ≡ u). subst (KnowsAt config all (before ++ e ∷ [])) (sym same) own)
    (λ (differ : t ≡ u → ⊥).
    subst (λ (m : Member). AreKnown (WasSubmitted config all t) m.jobs) (sym (member_off config before e t sound.known differ)) (knows t))
    (cases_eq t u)

here_is : (before rest : List Entry) (e : Entry) → slice_get (before ++ e ∷ rest) (length before) ≡ Some e
here_is [] rest e = refl
here_is (x ∷ before) rest e = here_is before rest e

knows_on : (config : ConfigData) (all before rest : List Entry) → all ≡ before ++ rest → AreSound config rest
    → ((t : ℕ) → KnowsAt config all before t) → (t : ℕ) → KnowsAt config all all t
knows_on config all before [] whole sound knows t =
    subst (λ es. KnowsAt config all es t) (sym (whole ∙ append-nil before)) (knows t)
knows_on config all before (e ∷ rest) whole sound knows t =
    let at : IsAt all before e = record {
      here = ap (λ es. slice_get es (length before)) whole ∙ here_is before rest e;
      front = ap (take (length before)) whole ∙ take-append_seam before (e ∷ rest);
    } in
    knows_on config all (before ++ e ∷ []) rest (whole ∙ sym (append_assoc before (e ∷ []) rest)) sound.1 (knows_more config all before e sound.0 at knows) t

knows_all : (config : ConfigData) (entries : List Entry) (t : ℕ) → AreSound config entries → KnowsAt config entries entries t
knows_all config entries t sound = knows_on config entries [] entries refl sound (knows_none config entries) t

-- ---- what is answered

step_true : (config : ConfigData) (before : List Entry) (t : ℕ) (event : Event) (entry : Option Entry) (r : Reply) → AreSound config before
    → IsStep config before t event entry (Replied r) → IsTrueReply (WasSubmitted config before t) r
step_true config before t event entry r sound is =
    let made : Made = WasSubmitted config before t in
    subst (IsTrueAnswer made) (sym is.answer_is) (step_told made (tenant_at config before t) event (knows_all config before t sound))

answer_true : (config : ConfigData) (before : List Entry) (t : ℕ) (event : Event) (entry : Option Entry) (r : Reply) → AreSound config before
    → IsAnswered config before t event entry r → IsTrueReply (WasSubmitted config before t) r
answer_true config before t event entry (reply.Line line) sound is = step_true config before t event entry (reply.Line line) sound is
answer_true config before t event entry (reply.Ran ran line) sound is = step_true config before t event entry (reply.Ran ran line) sound is
answer_true config before t event entry (reply.Best s best span verdict) sound is = step_true config before t event entry (reply.Best s best span verdict) sound is
answer_true config before t event entry r sound is = tt

sound_before : (config : ConfigData) (before : List Entry) (entry : Option Entry) → AreOfRun config (before ++ listed entry) → AreSound config before
sound_before config before entry run = sound_front config before (listed entry) (run_sound config (before ++ listed entry) run)

pub each_reply_is_true : EachReplyIsTrue
each_reply_is_true = record {
  asked = λ v w t event r called.
      let before : List Entry = history.events_of called.before in
      answer_true called.opening before t event called.event r (sound_before called.opening before called.event called.stands.run) called.stands.answers;
  back = λ v w turn r called.
      let before : List Entry = history.events_of called.before in
      step_true called.opening before turn.tenant (Give turn.seq turn.ran) called.event r (sound_before called.opening before called.event called.stands.run)
      called.stands.answers.steps;
  one = λ v w call answer called t s plan other here there.
      let before : List Entry = history.events_of called.before in
      one_plan called.opening before t s plan other (sound_before called.opening before called.event called.stands.run) here there;
}
