-- Queries that were read, called and replied to together are answered one after another.
use Rattle.std.specs.Prelude.{⊤, is_ok, Result, OnOk, OnErr}
use Rattle.std.proofs.Common.{◌≡◌, ℕ, zero, suc, Bool, true, false, not, ◌&&◌, ◌<◌, ◌≤◌, ◌+◌, List, [], ◌∷◌, ◌++◌, length, reverse, All, Option, Some, None, refl, sym, ap, ◌∙◌, subst, arith, inl, inr, ⊎_elim, slice_index_or}
use Rattle.std.proofs.lemmas.List.{reverse-append, reverse-reverse, length-reverse}
use Rattle.watched_io.specs.Failure.{IsNoted}
use Rattle.farm_core.specs.Command.{event_of}
use Rattle.farm_core.specs.declared.command.Command.{Command}
use Rattle.farm_core.specs.declared.command.Command.TheVariants as command
use Rattle.farm_core.specs.declared.entry.Event.{Event}
use Rattle.farm_core.specs.declared.reply.Reply.{Reply}
use Rattle.farm_core.specs.Config.{ConfigData}
use Rattle.session_lines.specs.declared.put.WriteFault.{WriteFault}
use Rattle.session_lines.specs.declared.said.Said.TheVariants as said
use Rattle.farm_pool.specs.declared.query.About.{About}
use Rattle.farm_pool.specs.declared.query.About.TheVariants.{Status, Fetch, Ledger}
use Rattle.farm_pool.specs.declared.query.Query.{Query}
use Rattle.farm_pool.specs.Query.{event_about}
use Rattle.farm_session.specs.declared.routed.Routed.{Routed}
use Rattle.farm_session.specs.declared.routed.Routed.TheVariants.{Asked}
use Rattle.farm_session.specs.Routed.{IsKnown}
use Rattle.farm_session.specs.TillDesk.{TillDeskValue, HasLeasedIn, HasLeasedOne}
use Rattle.farm_session.specs.Ready.{ReadyData}
use Rattle.farm_service.specs.Asked.{AreAnswered}
use Rattle.farm_service.specs.Batch.{IsQueryOf, HasRead, IsQueryRead, AreRead, IsLineWritten, AreReplied}
use Rattle.farm_service.specs.Session.{Stand, stand, is_end, HasAnswered, HasServed, HasPassedOver, HavePassedOver, IsCutOff, IsSession, IsPartOfSession}
use Rattle.farm_service.specs.Told.{IsToldOf}
use Rattle.farm_service.proofs.AskedLemmas.{said_called}
use Rattle.farm_service.proofs.SessionLemmas.{IsBegun}

-- a query that was routed is a known tenant's
pub query_known : (config : ConfigData) (routed : Routed (Command ⊤)) (query : Query) (name : List ℕ) → IsQueryOf routed query name → IsKnown config routed → query.tenant < length config.tenants
query_known config routed query name is known = subst (IsKnown config) is.is known

-- the queries that were read are of known tenants, and not too many
all_of : {A : Type 0} (P : A → Type 0) (x : A) (xs : List A) → P x → All P xs → All P (x ∷ xs)
all_of P x xs first rest zero d below = first
all_of P x xs first rest (suc k) d below = rest k d (omega (arith, below))

pub all_known : (config : ConfigData) (most : ℕ) (queries : List Query) (names : List (List ℕ)) (last : Option (Routed (Command ⊤))) (l l' : Option (List ℕ)) (r r' : ℕ)
    → AreRead config most queries names last l r l' r' → All (λ (query : Query). query.tenant < length config.tenants) queries
all_known config most [] names last l l' r r' read = λ k d below. absurd (omega (arith, below))
all_known config most (query ∷ queries) [] last l l' r r' read = absurd read
all_known config most (query ∷ queries) (name ∷ names) last l l' r r' read =
    all_of (λ (query : Query). query.tenant < length config.tenants) query queries read.4.known (all_known config read.0 queries names last read.2 l' read.3 r' read.5)

pub few_read : (config : ConfigData) (most : ℕ) (queries : List Query) (names : List (List ℕ)) (last : Option (Routed (Command ⊤))) (l l' : Option (List ℕ)) (r r' : ℕ)
    → AreRead config most queries names last l r l' r' → (length queries ≤ most) × (length names ≡ length queries)
few_read config most [] [] last l l' r r' read = (omega arith, refl)
few_read config most [] (name ∷ names) None l l' r r' read = absurd read
few_read config most [] (name ∷ names) (Some h) l l' r r' read = absurd read
few_read config most (query ∷ queries) [] last l l' r r' read = absurd read
few_read config most (query ∷ queries) (name ∷ names) last l l' r r' read =
    let rest = few_read config read.0 queries names last read.2 l' read.3 r' read.5 in
    (omega (arith, rest.0, read.1), ap suc rest.1)

pub each_replied : {T : Type 0} (tells : T → ℕ → Event → Reply → T → Type 0) (old new : T) (queries : List Query) (replies : List Reply) → AreAnswered tells old queries replies new → length replies ≡ length queries
each_replied tells old new [] [] told = refl
each_replied tells old new [] (reply ∷ replies) told = absurd told
each_replied tells old new (query ∷ queries) [] told = absurd told
each_replied tells old new (query ∷ queries) (reply ∷ replies) told = ap suc (each_replied tells told.0 new queries replies told.2)

-- the line that is written first: it stops the session, or the others follow
pub told_first : (names then : List (List ℕ)) (replies rest : List Reply) (name : List ℕ) (reply : Reply) (result : Result ⊤ WriteFault) (w w' : Option (List ℕ)) (k k' : ℕ)
    → names ≡ then ++ name ∷ [] → replies ≡ rest ++ reply ∷ [] → is_ok result ≡ false → IsLineWritten name reply result w k w' k' → AreReplied (reverse names) (reverse replies) false w k w' k'
told_first names then replies rest name reply result w w' k k' one two bad line =
    let turned : (xs : List (List ℕ)) → xs ≡ then ++ name ∷ [] → reverse xs ≡ name ∷ reverse then = λ xs is. ap reverse is ∙ reverse-append then (name ∷ []) in
    let turned' : reverse replies ≡ reply ∷ reverse rest = ap reverse two ∙ reverse-append rest (reply ∷ []) in
    subst (λ (x : List (List ℕ) × List Reply). AreReplied x.0 x.1 false w k w' k') (λ i. (sym (turned names one) i, sym turned' i)) (inl (refl, result, bad, line))

pub told_more : (names then : List (List ℕ)) (replies rest : List Reply) (name : List ℕ) (reply : Reply) (result : Result ⊤ WriteFault) (goes : Bool) (w mid w' : Option (List ℕ)) (k count k' : ℕ)
    → names ≡ then ++ name ∷ [] → replies ≡ rest ++ reply ∷ [] → is_ok result ≡ true → IsLineWritten name reply result w k mid count → AreReplied (reverse then) (reverse rest) goes mid count w' k'
    → AreReplied (reverse names) (reverse replies) goes w k w' k'
told_more names then replies rest name reply result goes w mid w' k count k' one two good line more =
    let turned : reverse names ≡ name ∷ reverse then = ap reverse one ∙ reverse-append then (name ∷ []) in
    let turned' : reverse replies ≡ reply ∷ reverse rest = ap reverse two ∙ reverse-append rest (reply ∷ []) in
    subst (λ (x : List (List ℕ) × List Reply). AreReplied x.0 x.1 goes w k w' k') (λ i. (sym turned i, sym turned' i)) (inr (result, good, mid, count, line, more))

pub told_none : (names : List (List ℕ)) (replies : List Reply) (w : Option (List ℕ)) (k : ℕ) → names ≡ [] → replies ≡ [] → AreReplied (reverse names) (reverse replies) true w k w k
told_none names replies w k one two = subst (λ (x : List (List ℕ) × List Reply). AreReplied (reverse x.0) (reverse x.1) true w k w k) (λ i. (sym one i, sym two i)) (refl, refl)

-- the names and the replies of a turned batch
pub told_turned : (names names' : List (List ℕ)) (replies replies' : List Reply) (goes : Bool) (w w' : Option (List ℕ)) (k k' : ℕ) → names' ≡ reverse names → replies' ≡ reverse replies
    → AreReplied (reverse names') (reverse replies') goes w k w' k' → AreReplied names replies goes w k w' k'
told_turned names names' replies replies' goes w w' k k' one two told =
    let back : reverse names' ≡ names = ap reverse one ∙ reverse-reverse names in
    let back' : reverse replies' ≡ replies = ap reverse two ∙ reverse-reverse replies in
    subst (λ (x : List (List ℕ) × List Reply). AreReplied x.0 x.1 goes w k w' k') (λ i. (back i, back' i)) told

-- the batch was empty before
pub read_all : (config : ConfigData) (most : ℕ) (before all : List Query) (before' all' : List (List ℕ)) (last : Option (Routed (Command ⊤))) (l l' : Option (List ℕ)) (r r' : ℕ) → before ≡ [] → before' ≡ []
    → (queries : List Query) × (names : List (List ℕ)) × (all ≡ before ++ queries) × (all' ≡ before' ++ names) × AreRead config most queries names last l r l' r'
    → AreRead config most all all' last l r l' r'
read_all config most before all before' all' last l l' r r' none none' read =
    let is : all ≡ read.0 = read.2 ∙ ap (λ xs. xs ++ read.0) none in
    let is' : all' ≡ read.1 = read.3 ∙ ap (λ xs. xs ++ read.1) none' in
    subst (λ (x : List Query × List (List ℕ)). AreRead config most x.0 x.1 last l r l' r') (λ i. (sym is i, sym is' i)) read.4

-- as many names as replies
pub as_many : {T : Type 0} (tells : T → ℕ → Event → Reply → T → Type 0) (old new : T) (config : ConfigData) (most : ℕ) (queries all : List Query) (names names' : List (List ℕ)) (replies replies' : List Reply) (last : Option (Routed (Command ⊤))) (l l' : Option (List ℕ)) (r r' : ℕ)
    → AreRead config most all names last l r l' r' → queries ≡ all → AreAnswered tells old queries replies new → names' ≡ reverse names → replies' ≡ reverse replies → length names' ≡ length replies'
as_many tells old new config most queries all names names' replies replies' last l l' r r' read is told one two =
    let few = few_read config most all names last l l' r r' read in
    let each = each_replied tells old new queries replies told in
    ap length one ∙ (length-reverse names ∙ (few.1 ∙ (ap length (sym is) ∙ (sym each ∙ (sym (length-reverse replies) ∙ ap length (sym two))))))

module _ {T J : Type 0} (config : ConfigData) (tells : T → ℕ → Event → Reply → T → Type 0) (made : ReadyData → Option J → Type 0) (till_desks : List TillDeskValue) where
  -- no lease is made for a query
  unleased : (t : ℕ) (call : Command ⊤) (about : About) → event_of call ≡ event_about about → HasLeasedOne made config t call till_desks till_desks
  unleased t (command.Submit plan quanta search) (Status seq) is = absurd (cc is)
  unleased t (command.Submit plan quanta search) (Fetch seq) is = absurd (cc is)
  unleased t (command.Submit plan quanta search) Ledger is = absurd (cc is)
  unleased t (command.Fund seq quanta) about is = (None, refl)
  unleased t (command.Status seq) about is = (None, refl)
  unleased t (command.Fetch seq) about is = (None, refl)
  unleased t (command.Cancel seq) about is = (None, refl)
  unleased t (command.Forget seq) about is = (None, refl)
  unleased t command.Ledger about is = (None, refl)

  -- one query of a batch
  answered : (query : Query) (name : List ℕ) (reply : Reply) (result : Result ⊤ WriteFault) (t t' : T) (l l' w w' : Option (List ℕ)) (r r' k k' : ℕ)
      → (q : IsQueryRead config l r query name l' r') → tells t query.tenant (event_about query.about) reply t' → IsLineWritten name reply result w k w' k'
      → HasAnswered config tells made (stand t till_desks l w r k) q.routed (is_ok result) (stand t' till_desks l' w' r' k')
  answered query name reply result t t' l l' w w' r r' k k' q told line =
      let is : Asked query.tenant name q.is.call ≡ q.routed = sym q.is.is in
      record {
        read = q.read.read;
        result = result;
        takes = q.read.takes;
        cause = q.read.cause;
        counted = q.read.counted;
        is = q.read.is;
        told = subst (λ (h : Routed (Command ⊤)). IsToldOf tells t h result w w' t') is record {
          who = Some name;
          words = said.Reply reply;
          is = (refl, said_called (tells t query.tenant) t t' q.is.call (event_about query.about) reply (sym q.is.asks) told);
          wrote = line.wrote;
        };
        leased = subst (λ (h : Routed (Command ⊤)). HasLeasedIn made config h till_desks till_desks) is (unleased query.tenant q.is.call query.about q.is.asks);
        noted = line.noted;
        goes = subst (λ (h : Routed (Command ⊤)). is_ok result ≡ (not (is_end h) && is_ok result)) is refl;
      }

  -- one query that was passed over
  passed : (query : Query) (name : List ℕ) (reply : Reply) (t t' : T) (l l' w : Option (List ℕ)) (r r' k : ℕ)
      → (q : IsQueryRead config l r query name l' r') → tells t query.tenant (event_about query.about) reply t'
      → HasPassedOver config tells made (stand t till_desks l w r k) q.routed (stand t' till_desks l' w r' k)
  passed query name reply t t' l l' w r r' k q told = record {
    read = q.read;
    called = inr record { query = query; name = name; reply = reply; is = q.is; told = told };
    till_desks = refl;
    written = refl;
    writes = refl;
  }

  record Passed (most : ℕ) (old new : Stand T) : Type 0 where
    routed : List (Routed (Command ⊤))
    over : HavePassedOver config tells made old routed new
    few : length routed ≤ most

  -- all that was read behind a failed write
  all_passed : (most : ℕ) (queries : List Query) (names : List (List ℕ)) (last : Option (Routed (Command ⊤))) (replies : List Reply) (t t' : T) (l l' w : Option (List ℕ)) (r r' k : ℕ)
      → AreRead config most queries names last l r l' r' → AreAnswered tells t queries replies t' → Passed most (stand t till_desks l w r k) (stand t' till_desks l' w r' k)
  all_passed most [] [] None [] t t' l l' w r r' k read told = record { routed = []; over = λ i. stand (told i) till_desks (read.0 i) w (read.1 i) k; few = omega arith }
  all_passed most [] [] (Some h) [] t t' l l' w r r' k read told = record {
    routed = h ∷ [];
    over = (stand t' till_desks l' w r' k, record { read = read.1; called = inl told; till_desks = refl; written = refl; writes = refl }, refl);
    few = omega (arith, read.0);
  }
  all_passed most [] [] None (reply ∷ replies) t t' l l' w r r' k read told = absurd told
  all_passed most [] [] (Some h) (reply ∷ replies) t t' l l' w r r' k read told = absurd told
  all_passed most [] (name ∷ names) None replies t t' l l' w r r' k read told = absurd read
  all_passed most [] (name ∷ names) (Some h) replies t t' l l' w r r' k read told = absurd read
  all_passed most (query ∷ queries) [] last replies t t' l l' w r r' k read told = absurd read
  all_passed most (query ∷ queries) (name ∷ names) last [] t t' l l' w r r' k read told = absurd told
  all_passed most (query ∷ queries) (name ∷ names) last (reply ∷ replies) t t' l l' w r r' k read told =
      let rest = all_passed read.0 queries names last replies told.0 t' read.2 l' w read.3 r' k read.5 told.2 in
      record {
        routed = read.4.routed ∷ rest.routed;
        over = (stand told.0 till_desks read.2 w read.3 k, passed query name reply t told.0 l read.2 w r read.3 k read.4 told.1, rest.over);
        few = let fits = rest.few in omega (arith, fits, read.1);
      }

  -- what a session has come to after a batch: it goes on if all lines were written
  abbrev pub After : Stand T → Option (Routed (Command ⊤)) → Bool → T → Option (List ℕ) → Option (List ℕ) → ℕ → ℕ → Type 0
  After start last false t l w r k = IsSession config tells made start (stand t till_desks l w r k)
  After start None true t l w r k = IsBegun config tells made start (stand t till_desks l w r k)
  After start (Some routed) true t l w r k = (left : Option (List ℕ)) × (reads : ℕ) × IsBegun config tells made start (stand t till_desks left w reads k) × HasRead config left reads routed l r

  -- a batch's requests, one after another
  pub batch_served : (start : Stand T) (most : ℕ) (queries : List Query) (names : List (List ℕ)) (last : Option (Routed (Command ⊤))) (replies : List Reply) (goes : Bool) (t t' : T) (l l' w w' : Option (List ℕ)) (r r' k k' : ℕ)
      → most ≤ 16 → IsBegun config tells made start (stand t till_desks l w r k) → AreRead config most queries names last l r l' r' → AreAnswered tells t queries replies t' → AreReplied names replies goes w k w' k'
      → After start last goes t' l' w' r' k'
  batch_served start most [] [] None [] true t t' l l' w w' r r' k k' few so read told lines =
      subst (IsBegun config tells made start) (λ i. stand (sym told i) till_desks (sym read.0 i) (sym lines.0 i) (sym read.1 i) (sym lines.1 i)) so
  batch_served start most [] [] (Some h) [] true t t' l l' w w' r r' k k' few so read told lines =
      (l, r, subst (IsBegun config tells made start) (λ i. stand (sym told i) till_desks l (sym lines.0 i) r (sym lines.1 i)) so, read.1)
  batch_served start most [] [] last [] false t t' l l' w w' r r' k k' few so read told lines = absurd lines
  batch_served start most [] [] last (reply ∷ replies) goes t t' l l' w w' r r' k k' few so read told lines = absurd lines
  batch_served start most [] (name ∷ names) None replies goes t t' l l' w w' r r' k k' few so read told lines = absurd read
  batch_served start most [] (name ∷ names) (Some h) replies goes t t' l l' w w' r r' k k' few so read told lines = absurd read
  batch_served start most (query ∷ queries) [] last replies goes t t' l l' w w' r r' k k' few so read told lines = absurd read
  batch_served start most (query ∷ queries) (name ∷ names) last [] goes t t' l l' w w' r r' k k' few so read told lines = absurd told
  batch_served start most (query ∷ queries) (name ∷ names) last (reply ∷ replies) goes t t' l l' w w' r r' k k' few so read told lines = ⊎_elim
      (λ (stop : (goes ≡ false) × (result : Result ⊤ WriteFault) × (is_ok result ≡ false) × IsLineWritten name reply result w k w' k').
      let mid = stand t till_desks l w r k in
      let end = stand told.0 till_desks read.2 w' read.3 k' in
      let last_one = answered query name reply stop.1 t told.0 l read.2 w w' r read.3 k k' read.4 told.1 stop.3 in
      let rest = all_passed read.0 queries names last replies told.0 t' read.2 l' w' read.3 r' k' read.5 told.2 in
      subst (λ (b : Bool). After start last b t' l' w' r' k') (sym stop.0) (
        mid,
        so.0,
        so.1,
        read.4.routed,
        end,
        subst (λ (b : Bool). HasAnswered config tells made mid read.4.routed b end) stop.2 last_one,
        record {
          routed = rest.routed;
          passed = rest.over;
          few = let fits = rest.few in omega (arith, fits, read.1, few);
          cause = inr (ap is_end read.4.is.is);
        },
      ))
      (λ (on : (result : Result ⊤ WriteFault) × (is_ok result ≡ true) × (w1 : Option (List ℕ)) × (k1 : ℕ) × IsLineWritten name reply result w k w1 k1 × AreReplied names replies goes w1 k1 w' k').
      let mid = stand t till_desks l w r k in
      let next = stand told.0 till_desks read.2 on.2 read.3 on.3 in
      let one = answered query name reply on.0 t told.0 l read.2 w on.2 r read.3 k on.3 read.4 told.1 on.4 in
      batch_served start read.0 queries names last replies goes told.0 t' read.2 l' on.2 w' read.3 r' on.3 k' (omega (arith, read.1, few))
      (read.4.routed ∷ so.0, (mid, so.1, subst (λ (b : Bool). HasAnswered config tells made mid read.4.routed b next) on.1 one)) read.5 told.2 on.5)
      lines

  -- the last request of a session, or one after which it goes on
  pub part_of : (start mid new : Stand T) (routed : Routed (Command ⊤)) (goes : Bool) → IsBegun config tells made start mid → HasAnswered config tells made mid routed goes new → IsPartOfSession config tells made start goes new
  part_of start mid new routed true so answer = (routed ∷ so.0, (mid, so.1, answer))
  part_of start mid new routed false so answer =
      (mid, so.0, so.1, routed, new, answer, record { routed = []; passed = refl; few = omega arith; cause = inl refl })

  -- a batch, from what each step of it says
  pub round_served : (t t' : T) (l l' w w' : Option (List ℕ)) (r r' k k' : ℕ) (queries all : List Query) (names names' : List (List ℕ)) (replies replies' : List Reply) (last : Option (Routed (Command ⊤))) (goes : Bool)
      → AreRead config 16 all names last l r l' r' → queries ≡ all → AreAnswered tells t queries replies t' → names' ≡ reverse names → replies' ≡ reverse replies → AreReplied (reverse names') (reverse replies') goes w k w' k'
      → After (stand t till_desks l w r k) last goes t' l' w' r' k'
  round_served t t' l l' w w' r r' k k' queries all names names' replies replies' last goes read is told one two lines =
      batch_served (stand t till_desks l w r k) 16 all names last replies goes t t' l l' w w' r r' k k' (omega arith) ([], refl) read (subst (λ (qs : List Query). AreAnswered tells t qs replies t') is told) (told_turned names names' replies replies' goes w w' k k' one two lines)

  pub round_fails : (start : Stand T) (last : Option (Routed (Command ⊤))) (goes : Bool) (t : T) (l w : Option (List ℕ)) (r k : ℕ) → goes ≡ false → After start last goes t l w r k → IsSession config tells made start (stand t till_desks l w r k)
  round_fails start last goes t l w r k is after = subst (λ (b : Bool). After start last b t l w r k) is after

  pub round_ends : (start : Stand T) (last : Option (Routed (Command ⊤))) (goes : Bool) (t : T) (l w : Option (List ℕ)) (r k : ℕ) → goes ≡ true → ((routed : Routed (Command ⊤)) → last ≡ Some routed → ⊥) → After start last goes t l w r k → IsBegun config tells made start (stand t till_desks l w r k)
  round_ends start None goes t l w r k is none after = subst (λ (b : Bool). After start None b t l w r k) is after
  round_ends start (Some routed) goes t l w r k is none after = absurd (none routed refl)

  -- the request that ended the batch is answered behind it
  pub round_goes : (start : Stand T) (last : Option (Routed (Command ⊤))) (routed : Routed (Command ⊤)) (goes goes' : Bool) (t t' : T) (l w w' : Option (List ℕ)) (r k k' : ℕ) (till_desks' : List TillDeskValue) (result : Result ⊤ WriteFault) → goes ≡ true → last ≡ Some routed → After start last goes t l w r k
      → IsToldOf tells t routed result w w' t' → HasLeasedIn made config routed till_desks till_desks' → IsNoted result k k' → goes' ≡ (not (is_end routed) && is_ok result)
      → IsPartOfSession config tells made start goes' (stand t' till_desks' l w' r k')
  round_goes start last routed goes goes' t t' l w w' r k k' till_desks' result is some after told leased noted on =
      let so : After start (Some routed) true t l w r k = subst (λ (x : Option (Routed (Command ⊤)) × Bool). After start x.0 x.1 t l w r k) (λ i. (some i, is i)) after in
      part_of start (stand t till_desks so.0 w so.1 k) (stand t' till_desks' l w' r k') routed goes' so.2 record {
        read = so.3.read;
        result = result;
        takes = so.3.takes;
        cause = so.3.cause;
        counted = so.3.counted;
        is = so.3.is;
        told = told;
        leased = leased;
        noted = noted;
        goes = on;
      }
