-- What a worker's calls come to.
use Rattle.std.proofs.Common.{◌≡◌, ℕ, ◌+◌, ◌-◌, ◌<◌, false, List, [], ◌∷◌, length, min, Some, refl, sym, ap, ◌∙◌, subst, arith}
use Rattle.strategy.specs.Search.{Meaning, nodes_within, ran_on}
use Rattle.farm_core.specs.Turn.{TurnData}
use Rattle.farm_core.specs.Config.{ConfigData}
use Rattle.farm_core.specs.Turn.{IsTurn}
use Rattle.farm_core.proofs.TurnLemmas.{turn_fresh}
use Rattle.turn_lock.specs.Plays.{Called}
use Rattle.farm_pool.specs.declared.image.TurnImage.{TurnImage}
use Rattle.farm_pool.specs.declared.image.CallImage.TheVariants as said
use Rattle.farm_pool.specs.declared.image.AnswerImage.TheVariants as told
use Rattle.farm_pool.specs.declared.work.WorkStep.TheVariants.{Turned, Strayed, Waited}
use Rattle.farm_pool.specs.Served.{Served}
use Rattle.farm_pool.specs.Calls.{turn_image}
use Rattle.farm_pool.specs.declared.work.WorkStep.{WorkStep}
use Rattle.farm_pool.specs.declared.image.CallImage.{CallImage}
use Rattle.farm_pool.specs.declared.image.AnswerImage.{AnswerImage}
use Rattle.farm_pool.specs.Laws.{NoPassIsSplitOff}
use Rattle.farm_pool.specs.Worked.{PoolView, run_out, Does, HasDone, Worked, turns_in, strangers_in}

-- what is known of a turn that was sent out
pub record IsFresh (opening : ConfigData) (i : TurnImage) : Type 0 where
  pub known : i.tenant < length opening.tenants
  pub unrun : i.ran ≡ 0
  pub best : i.taken ≡ false

pub sent_fresh : (opening : ConfigData) (slice : ℕ) (v w : PoolView) (i : TurnImage) → v.opening ≡ Some opening → Called Served v (said.Next slice) (told.Sent i) w → IsFresh opening i
sent_fresh opening slice v w i is called =
    let both : Some called.opening ≡ Some opening = sym called.opened ∙ is in
    let same : called.opening ≡ opening = cc in
    record {
      known = subst (λ (o : ConfigData). i.tenant < length o.tenants) same called.stands.answers.known;
      unrun = called.stands.answers.ran;
      best = ap (λ (m : Meaning). m.taken) called.stands.answers.search;
    }

pub fresh_turn : (slice ran : ℕ) (m : Meaning) → ran ≡ 0 → m.taken ≡ false → IsTurn slice ran m
fresh_turn slice ran m unrun best = subst (λ n. IsTurn slice n m) (sym unrun) (turn_fresh slice m best)

nothing : (n : ℕ) → 0 + n ≡ n
nothing n = omega arith

-- a turn that has run is told so
pub image_ran : {J : Type 0} (meaning : J → Meaning) (t u : TurnData J) (n : ℕ) → u.tenant ≡ t.tenant → u.seq ≡ t.seq → u.slice ≡ t.slice → t.ran ≡ 0 → u.ran ≡ t.ran + n
    → n ≡ nodes_within t.slice (meaning t.search) → meaning u.search ≡ ran_on n (meaning t.search) → turn_image meaning u ≡ run_out (turn_image meaning t)
image_ran meaning t u n tenant seq slice unrun ran all is =
    let m : Meaning = meaning t.search in
    let k : ℕ = nodes_within t.slice m in
    let e1 : (meaning u.search).tenant ≡ m.tenant = ap (λ (x : Meaning). x.tenant) is in
    let e2 : (meaning u.search).plan ≡ m.plan = ap (λ (x : Meaning). x.plan) is in
    let e3 : (meaning u.search).nodes ≡ m.nodes + k = ap (λ (x : Meaning). x.nodes) is ∙ ap (λ j. m.nodes + j) all in
    let e4 : (meaning u.search).left ≡ m.left - k = ap (λ (x : Meaning). x.left) is ∙ ap (λ j. m.left - j) all in
    let e5 : (meaning u.search).taken ≡ m.taken = ap (λ (x : Meaning). x.taken) is in
    let e6 : u.ran ≡ k = ran ∙ ap (λ j. j + n) unrun ∙ nothing n ∙ all in
    rw (tenant, seq, slice, e6, e1, e2, e3, e4, e5) refl

-- what a worker has done so far
pub record WorkedTo (slice : ℕ) (v : PoolView) (turns strangers : ℕ) (w : PoolView) : Type 0 where
  pub deeds : List WorkStep
  pub done : HasDone slice deeds v w
  pub turns_are : turns ≡ turns_in deeds
  pub strangers_are : strangers ≡ strangers_in deeds

-- one deed more
pub turned_more : (slice : ℕ) (v m w : PoolView) (a b c : ℕ) → WorkedTo slice v a b m → Does slice Turned m w → c ≡ min (a + 1) 18446744073709551615 → WorkedTo slice v c b w
turned_more slice v m w a b c so did is = record {
  deeds = Turned ∷ so.deeds;
  done = (m, so.done, did);
  turns_are = is ∙ ap (λ n. min (n + 1) 18446744073709551615) so.turns_are;
  strangers_are = so.strangers_are;
}

pub strayed_more : (slice : ℕ) (v m w : PoolView) (a b c : ℕ) → WorkedTo slice v a b m → Does slice Strayed m w → c ≡ min (b + 1) 18446744073709551615 → WorkedTo slice v a c w
strayed_more slice v m w a b c so did is = record {
  deeds = Strayed ∷ so.deeds;
  done = (m, so.done, did);
  turns_are = so.turns_are;
  strangers_are = is ∙ ap (λ n. min (n + 1) 18446744073709551615) so.strangers_are;
}

pub waited_more : (slice : ℕ) (v m w : PoolView) (a b : ℕ) → WorkedTo slice v a b m → Does slice Waited m w → WorkedTo slice v a b w
waited_more slice v m w a b so did = record { deeds = Waited ∷ so.deeds; done = (m, so.done, did); turns_are = so.turns_are; strangers_are = so.strangers_are }

pub begun : (slice : ℕ) (v : PoolView) → WorkedTo slice v 0 0 v
begun slice v = record { deeds = []; done = refl; turns_are = refl; strangers_are = refl }

-- and last it waits
pub ended : (slice : ℕ) (v m w : PoolView) (a b : ℕ) → WorkedTo slice v a b m → Does slice Waited m w → Worked slice v a b w
ended slice v m w a b so did = record { deeds = so.deeds; done = (m, so.done, did); turns_are = so.turns_are; strangers_are = so.strangers_are }

-- no deed splits the pass
call_unsplit : (v w : PoolView) (call : CallImage) (answer : AnswerImage) → Called Served v call answer w → w.splits ≡ v.splits
call_unsplit v w call answer called = ap (λ (x : PoolView). x.splits) called.after

deed_unsplit : (slice : ℕ) (deed : WorkStep) (v w : PoolView) → Does slice deed v w → w.splits ≡ v.splits
deed_unsplit slice Turned v w did = ap (λ (x : PoolView). x.splits) did.gave.gave.after ∙ ap (λ (x : PoolView). x.splits) did.took.after
deed_unsplit slice Strayed v w did = ap (λ (x : PoolView). x.splits) did.gave.after ∙ ap (λ (x : PoolView). x.splits) did.took.after
deed_unsplit slice Waited v w did = ap (λ (x : PoolView). x.splits) did.asked.after

deeds_unsplit : (slice : ℕ) (deeds : List WorkStep) (v w : PoolView) → HasDone slice deeds v w → w.splits ≡ v.splits
deeds_unsplit slice [] v w done = ap (λ (x : PoolView). x.splits) done
deeds_unsplit slice (d ∷ deeds) v w done = deed_unsplit slice d done.0 w done.2 ∙ deeds_unsplit slice deeds v done.0 done.1

pub no_pass_is_split_off : NoPassIsSplitOff
no_pass_is_split_off = record {
  called = λ v w call answer called. (call_unsplit v w call answer called, ap (λ (x : PoolView). x.calls) called.after);
  worked = λ slice turns strangers v w worked. deeds_unsplit slice (Waited ∷ worked.deeds) v w worked.done;
}
