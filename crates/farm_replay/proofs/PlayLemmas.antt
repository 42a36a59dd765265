-- How a replay goes on from request to request.
use Rattle.std.proofs.Common.{◌≡◌, ◌≢◌, ℕ, ◌+◌, ◌≤◌, ◌==◌, Bool, true, false, cond, List, [], ◌∷◌, ◌++◌, length, Option, Some, None, refl, sym, ap, ◌∙◌, subst, arith, ◌⊎◌, inl, inr, add-one, ⊎_elim, eq-eqb, append_assoc, append-nil, length-append, ◌<◌}
use Rattle.std.specs.Prelude.{Result, Ok, Err, IfSome, IfErr, OnOk, ⊤, ◌&&◌, ◌||◌, if◌then◌else◌, is_some}
use Rattle.std.specs.List.{flat_map}
use Rattle.std.specs.Io.KnownBytes.{Keeps, Appends}
use Rattle.std.proofs.lemmas.Bool.{cases_eq, eqb-true}
use Rattle.std.proofs.lemmas.Grind.{flat_map-append}
use Rattle.std.proofs.lemmas.List.Folds.{list_any-append}
use Rattle.psplib_mm.specs.declared.fault.MmFault.{MmFault}
use Rattle.psplib_mm.specs.declared.fault.MmFault.TheVariants as file
use Rattle.farm_core.specs.declared.reply.Reply.TheVariants as reply
use Rattle.farm_core.specs.Config.{ConfigData}
use Rattle.farm_core.specs.Tenant.{Tenant, Purse, seat, with_seat}
use Rattle.farm_core.specs.World.{World, opened, purse_in, place_in, purse, view}
use Rattle.farm_core.proofs.SeatLemmas.{each_view_is_a_seat}
use Rattle.farm_replay.proofs.NumberLemmas.{known_number}
use Rattle.farm_core.specs.Held.{FarmsAreReplayed}
use Rattle.watched_io.specs.Failure.{HasFailed, FailsAtMostOnce}
use Rattle.session_lines.specs.declared.request.Request.{Request}
use Rattle.session_lines.specs.declared.request.What.{What}
use Rattle.farm_session.specs.declared.ask.Ask.{Ask}
use Rattle.farm_session.specs.Ask.{ask_of}
use Rattle.session_lines.specs.declared.request.LineFault.{LineFault}
use Rattle.session_lines.specs.declared.request.LineFault.TheVariants.{Eof, Read, TooLong, Syntax, File, NoMemory}
use Rattle.session_lines.specs.declared.said.Said.{Said}
use Rattle.session_lines.specs.declared.said.Said.TheVariants as said
use Rattle.session_lines.specs.Cause.{HasCause, lines_after, IsPast, IsReadGivenUp, HasReadWell}
use Rattle.session_lines.specs.Known.{Goes, AppendsPart}
use Rattle.session_lines.specs.Laws.{EachInTurn, from_first}
use Rattle.session_lines.specs.ReplyText.{reply_line}
use Rattle.session_lines.specs.Script.{Item, lines_of, first, first_request, requests_of, IsAnswerFor, Cuts, Ends, Takes}
use Rattle.farm_replay.specs.declared.script.ReplayFault.{ReplayFault}
use Rattle.farm_replay.specs.declared.script.ReplayFault.TheVariants as fault
use Rattle.farm_session.specs.declared.routed.Routed.{Routed}
use Rattle.farm_session.specs.declared.routed.Routed.TheVariants as routed
use Rattle.farm_replay.specs.Output.{Answered, request_may_need, told_to, told_under, Parts, opening, part_of, with_tenant, Saying, Next, says, answered, who_in, Marked, next, lines_for, parts_after, AreTrueMarks, line_text, output_of, items_of, has_refusal, lines_past, IsLongNext, IsCutBy, IsCutOff}
use Rattle.farm_session.specs.Routed.{tenant_number, routed_to, routed_of}
use Rattle.farm_replay.specs.Closing.{HasLed}
use Rattle.farm_replay.specs.Refusal.{is_refusal}
use Rattle.farm_replay.specs.Replay.{GoesOn, end_of}
use Rattle.farm_replay.specs.Counts.{Counts}
use Rattle.farm_replay.specs.Noted.{AreNoted, IsReadNoted, IsWriteNoted}
use Rattle.farm_replay.specs.ScriptFarm.{IsTold}
use Rattle.farm_replay.proofs.BeginLemmas.{AreNamed, script_named}
use Rattle.farm_replay.proofs.ScriptFarmLemmas.{seated_same}

-- ---- known bytes

goes_on : (a b c : Option (List ℕ)) (P Q R : List ℕ → List ℕ → Type 0) → Goes a b P → Goes b c Q → ((xs ys zs : List ℕ) → P xs ys → Q ys zs → R xs zs) → Goes a c R
goes_on None b c P Q R p q f = tt
goes_on (Some xs) None c P Q R p q f = absurd p
goes_on (Some xs) (Some ys) None P Q R p q f = absurd q
goes_on (Some xs) (Some ys) (Some zs) P Q R p q f = f xs ys zs p q

goes_to : (a b : Option (List ℕ)) (P Q : List ℕ → List ℕ → Type 0) → Goes a b P → ((xs ys : List ℕ) → P xs ys → Q xs ys) → Goes a b Q
goes_to None b P Q p f = tt
goes_to (Some xs) None P Q p f = absurd p
goes_to (Some xs) (Some ys) P Q p f = f xs ys p

goes_same : (a : Option (List ℕ)) (P : List ℕ → List ℕ → Type 0) → ((xs : List ℕ) → P xs xs) → Goes a a P
goes_same None P f = tt
goes_same (Some xs) P f = f xs

known_first : (a b : Option (List ℕ)) (P : List ℕ → List ℕ → Type 0) (Q : List ℕ → Type 0) → Goes a b P → ((xs ys : List ℕ) → b ≡ Some ys → P xs ys → Q xs) → IfSome a Q
known_first None b P Q p f = tt
known_first (Some xs) None P Q p f = absurd p
known_first (Some xs) (Some ys) P Q p f = f xs ys refl p

appends_none : (a : Option (List ℕ)) → Appends a a []
appends_none None = tt
appends_none (Some xs) = sym (append-nil xs)

appends_on : (a b c : Option (List ℕ)) (xs ys : List ℕ) → Appends a b xs → Appends b c ys → Appends a c (xs ++ ys)
appends_on None b c xs ys h k = tt
appends_on (Some us) None c xs ys h k = absurd h
appends_on (Some us) (Some vs) None xs ys h k = absurd k
appends_on (Some us) (Some vs) (Some ws) xs ys h k = k ∙ ap (λ l. l ++ ys) h ∙ append_assoc us xs ys

appends_kept : (a b c : Option (List ℕ)) (xs : List ℕ) → Appends a b xs → Keeps b c → Appends a c xs
appends_kept None b c xs h k = tt
appends_kept (Some us) None c xs h k = absurd h
appends_kept (Some us) (Some vs) None xs h k = absurd k
appends_kept (Some us) (Some vs) (Some ws) xs h k = k ∙ h

-- ---- one request more

or_none : (b : Bool) → (b || false) ≡ b
or_none true = refl
or_none false = refl

lines_more : (config : ConfigData) (parts : Parts) (ms : List Marked) (m : Marked)
    → lines_for config parts (ms ++ m ∷ []) ≡ lines_for config parts ms ++ (next config (parts_after config parts ms) m).line ∷ []
lines_more config parts [] m = refl
lines_more config parts (n ∷ ms) m = ap (λ l. (next config parts n).line ∷ l) (lines_more config (next config parts n).parts ms m)

pub parts_more : (config : ConfigData) (parts : Parts) (ms : List Marked) (m : Marked) → parts_after config parts (ms ++ m ∷ []) ≡ (next config (parts_after config parts ms) m).parts
parts_more config parts [] m = refl
parts_more config parts (n ∷ ms) m = parts_more config (next config parts n).parts ms m

-- the mark of a request is true of its line
abbrev IsTrueMark : Bool → Said → Type 0
IsTrueMark refused words = refused ≡ true → words ≡ said.Reply reply.NoMemory

marks_more : (config : ConfigData) (parts : Parts) (ms : List Marked) (m : Marked) → AreTrueMarks config parts ms → IsTrueMark m.refused (next config (parts_after config parts ms) m).line.said
    → AreTrueMarks config parts (ms ++ m ∷ [])
marks_more config parts [] m all last = (last, tt)
marks_more config parts (n ∷ ms) m all last = (all.0, marks_more config (next config parts n).parts ms m all.1 last)

items_more : (ms : List Marked) (m : Marked) (rest : List Item) → items_of ms ++ m.item ∷ rest ≡ items_of (ms ++ m ∷ []) ++ rest
items_more [] m rest = refl
items_more (n ∷ ms) m rest = ap (λ l. n.item ∷ l) (items_more ms m rest)

output_more : (config : ConfigData) (ms : List Marked) (m : Marked)
    → output_of config ms ++ line_text (next config (parts_after config (opening config) ms) m).line ≡ output_of config (ms ++ m ∷ [])
output_more config ms m =
    let line : Saying = (next config (parts_after config (opening config) ms) m).line in
    ap (λ l. output_of config ms ++ l) (sym (append-nil (line_text line)))
    ∙ sym (flat_map-append line_text (lines_for config (opening config) ms) (line ∷ []))
    ∙ ap (flat_map line_text) (sym (lines_more config (opening config) ms m))

-- a refusal is among the replies if it was among those before, or the last one is one
refusal_more : (config : ConfigData) (ms : List Marked) (m : Marked)
    → (has_refusal (lines_for config (opening config) ms) || is_refusal (next config (parts_after config (opening config) ms) m).line.said) ≡ has_refusal (lines_for config (opening config) (ms ++ m ∷ []))
refusal_more config ms m =
    let line : Saying = (next config (parts_after config (opening config) ms) m).line in
    let is : Saying → Bool = λ l. is_refusal l.said in
    ap (λ b. has_refusal (lines_for config (opening config) ms) || b) (sym (or_none (is line)))
    ∙ sym (list_any-append is (lines_for config (opening config) ms) (line ∷ []))
    ∙ ap has_refusal (sym (lines_more config (opening config) ms m))

-- ---- how far a replay has come

-- these were the first requests of the script, ys are left of it, their lines were written, and the farm is where they lead
pub record IsPlayed (config : ConfigData) (xs ys : List ℕ) (old new : Option (List ℕ)) (count : ℕ) (noted : Bool) (w : World) : Type 0 where
  pub requests : List Marked
  pub marks : AreTrueMarks config (opening config) requests
  pub number : length requests ≡ count
  pub of_config : w.config ≡ config
  pub parts : (p : ℕ) → purse p w ≡ parts_after config (opening config) requests p
  pub written : Appends old new (output_of config requests)
  pub refusal : noted ≡ has_refusal (lines_for config (opening config) requests)
  pub reads : requests_of xs ≡ items_of requests ++ requests_of ys
  pub left : lines_past count (lines_of xs) ≡ lines_of ys

-- the next request is cut from the bytes
pub record IsNext (m : Marked) (ys zs : List ℕ) : Type 0 where
  pub cut : first_request ys ≡ Some (record { item = m.item; rest = lines_of zs })

reads_next : EachInTurn → (m : Marked) (ys zs : List ℕ) → IsNext m ys zs → requests_of ys ≡ m.item ∷ requests_of zs
reads_next turns m ys zs it = turns ys ∙ ap from_first it.cut

-- its line is this, and the farm is where it leads
pub record IsAnsweredBy (config : ConfigData) (parts : Parts) (m : Marked) (line : Saying) (w : World) : Type 0 where
  pub says : (next config parts m).line ≡ line
  pub marks : IsTrueMark m.refused line.said
  pub of_config : w.config ≡ config
  pub leads : (p : ℕ) → purse p w ≡ (next config parts m).parts p

play_on : EachInTurn → (config : ConfigData) (xs ys zs : List ℕ) (old mid new : Option (List ℕ)) (count : ℕ) (noted noted' : Bool) (w w' : World) (line : Saying) (it : IsPlayed config xs ys old mid count noted w) (m : Marked)
    → IsNext m ys zs → IsAnsweredBy config (parts_after config (opening config) it.requests) m line w' → Appends mid new (line_text line) → noted' ≡ (noted || is_refusal line.said) → IsPlayed config xs zs old new (count + 1) noted' w'
play_on turns config xs ys zs old mid new count noted noted' w w' line it m n by written refusal = record {
  requests = it.requests ++ m ∷ [];
  marks = marks_more config (opening config) it.requests m it.marks (λ marked. ap (λ (l : Saying). l.said) by.says ∙ by.marks marked);
  number = omega (arith, it.number, length-append it.requests (m ∷ []));
  of_config = by.of_config;
  parts = λ p. by.leads p ∙ ap (λ (parts : Parts). parts p) (sym (parts_more config (opening config) it.requests m));
  written = subst (Appends old new) (ap (λ l. output_of config it.requests ++ line_text l) (sym by.says) ∙ output_more config it.requests m)
      (appends_on old mid new (output_of config it.requests) (line_text line) it.written written);
  refusal = refusal ∙ ap (λ b. b || is_refusal line.said) it.refusal ∙ ap (λ (l : Saying). has_refusal (lines_for config (opening config) it.requests) || is_refusal l.said) (sym by.says)
      ∙ refusal_more config it.requests m;
  reads = it.reads ∙ ap (λ l. items_of it.requests ++ l) (reads_next turns m ys zs n) ∙ items_more it.requests m (requests_of zs);
  left = ap (λ k. lines_past k (lines_of xs)) (add-one count) ∙ ap (λ l. lines_after (first None l)) it.left ∙ ap lines_after n.cut;
}

-- a part of its line was written, and no more
cut_by_write : EachInTurn → (config : ConfigData) (xs ys zs : List ℕ) (old mid new : Option (List ℕ)) (count : ℕ) (noted : Bool) (w w' : World) (line : Saying) (it : IsPlayed config xs ys old mid count noted w) (m : Marked)
    → IsNext m ys zs → IsAnsweredBy config (parts_after config (opening config) it.requests) m line w' → AppendsPart mid new (line_text line) → (before seen : Counts) → HasFailed before.writes seen.writes → IsCutOff config fault.Write before seen xs old new
cut_by_write turns config xs ys zs old mid new count noted w w' line it m n by part before seen failed = record {
  requests = it.requests;
  rest = m.item ∷ requests_of zs;
  part = part.part;
  all = ap (λ l. items_of it.requests ++ l) (sym (reads_next turns m ys zs n)) ∙ sym it.reads;
  marks = it.marks;
  written = appends_on old mid new (output_of config it.requests) part.part it.written part.written;
  cause = (failed, record { refused = m.refused; item = m.item; more = requests_of zs; behind = part.rest; first = refl; line = ap line_text by.says ∙ part.split });
}

-- nothing of its line was written
cut_before : EachInTurn → (config : ConfigData) (xs ys zs : List ℕ) (old new : Option (List ℕ)) (count : ℕ) (noted : Bool) (w : World) (it : IsPlayed config xs ys old new count noted w) (m : Marked)
    → IsNext m ys zs → (before seen : Counts) → HasFailed before.writes seen.writes → IsCutOff config fault.Write before seen xs old new
cut_before turns config xs ys zs old new count noted w it m n before seen failed = record {
  requests = it.requests;
  rest = m.item ∷ requests_of zs;
  part = [];
  all = ap (λ l. items_of it.requests ++ l) (sym (reads_next turns m ys zs n)) ∙ sym it.reads;
  marks = it.marks;
  written = subst (Appends old new) (sym (append-nil (output_of config it.requests))) it.written;
  cause = (
    failed,
    record {
      refused = m.refused;
      item = m.item;
      more = requests_of zs;
      behind = line_text (next config (parts_after config (opening config) it.requests) m).line;
      first = refl;
      line = refl;
    },
  );
}

cut_between : (config : ConfigData) (xs ys : List ℕ) (old new : Option (List ℕ)) (count : ℕ) (noted : Bool) (w : World) (why : ReplayFault) (before seen : Counts) (it : IsPlayed config xs ys old new count noted w)
    → IsCutBy why before seen config xs it.requests (requests_of ys) [] → IsCutOff config why before seen xs old new
cut_between config xs ys old new count noted w why before seen it cause = record {
  requests = it.requests;
  rest = requests_of ys;
  part = [];
  all = sym it.reads;
  marks = it.marks;
  written = subst (Appends old new) (sym (append-nil (output_of config it.requests))) it.written;
  cause = cause;
}

-- the whole output was written, and the farm is where its requests lead
abbrev pub LedBy : ConfigData → List ℕ → Bool → Option (List ℕ) → Option (List ℕ) → World → Type 0
LedBy config xs noted old new w = HasLed (parts_after config (opening config)) config xs noted old new w

played_whole : (config : ConfigData) (xs ys : List ℕ) (old new : Option (List ℕ)) (count : ℕ) (noted : Bool) (w : World) → count ≤ 1000000 → requests_of ys ≡ [] → IsPlayed config xs ys old new count noted w → LedBy config xs noted old new w
played_whole config xs ys old new count noted w most none it = record {
  written = record {
    requests = it.requests;
    all = sym (it.reads ∙ ap (λ l. items_of it.requests ++ l) none ∙ append-nil (items_of it.requests));
    marks = it.marks;
    few = omega (arith, it.number);
    written = it.written;
    refusal = it.refusal;
  };
  led = it.parts;
}

-- ---- what was read

file_answers : (item : Item) (who : List ℕ) (why : MmFault) → IsAnswerFor item (Err (File who why)) → item.answer ≡ Err (File who why)
file_answers item who file.TooLong h = h
file_answers item who file.Header h = h
file_answers item who file.Projects h = h
file_answers item who file.Doubly h = h
file_answers item who (file.Section a) h = h
file_answers item who (file.Number a) h = h
file_answers item who (file.Count a) h = h
file_answers item who (file.Numbering a) h = h
file_answers item who (file.Successor a) h = h
file_answers item who (file.Limit a) h = h
file_answers item who file.NoMemory h = absurd h

-- a request that the farm is not asked for
pub record IsSettled (config : ConfigData) (line : Saying) (ys zs : List ℕ) : Type 0 where
  pub request : Marked
  pub marks : IsTrueMark request.refused line.said
  pub cut : IsNext request ys zs
  pub next_is : (parts : Parts) → next config parts request ≡ record { line = line; parts = parts }

-- one that it is asked for
pub record IsAsked (config : ConfigData) (t : ℕ) (who : List ℕ) (ask : Ask) (ys zs : List ℕ) : Type 0 where
  pub item : Item
  pub what : What
  pub cut : first_request ys ≡ Some (record { item = item; rest = lines_of zs })
  pub answer_is : item.answer ≡ Ok (record { who = who; what = what })
  pub asks : ask_of what ≡ ask
  pub number : tenant_number who config ≡ Some t

-- what is routed of it is its line
settled_by : (config : ConfigData) (most : ℕ) (answer : Result Request LineFault) (who : Option (List ℕ)) (words : Said) → routed.Answered who words ≡ routed_of config answer
    → (ys zs : List ℕ) (it : Cuts most (first None (lines_of ys)) answer ys zs) → it.item.answer ≡ answer → IsSettled config (record { who = who; said = words }) ys zs
settled_by config most answer who words is ys zs it same = record {
  request = record { item = it.item; refused = false };
  marks = λ marked. absurd (cc);
  cut = record { cut = it.cut };
  next_is = λ parts. ap (λ a. answered config false parts (routed_of config a)) same ∙ ap (answered config false parts) (sym is);
}

-- a submit's text is that of the tenant whose request it is
own_text : EachInTurn → (ys : List ℕ) (item : Item) (rest : List (List ℕ)) (who : List ℕ) → first_request ys ≡ Some (record { item = item; rest = rest }) → item.submits ≡ Some who → who_in item.answer ≡ Some who
own_text turns ys item rest who cut text =
    subst (λ submits. IfSome submits (λ w. who_in item.answer ≡ Some w)) text (subst AreNamed (turns ys ∙ ap from_first cut) (script_named ys)).0.1

-- memory is refused for it
next_unread : (config : ConfigData) (parts : Parts) (item : Item) (who : Option (List ℕ)) → is_some item.submits ≡ true → who_in item.answer ≡ who
    → next config parts (record { item = item; refused = true }) ≡ says who (said.Reply reply.NoMemory) parts
next_unread config parts item who text own =
    ap (λ b. if b then says (who_in item.answer) (said.Reply reply.NoMemory) parts else answered config true parts (routed_of config item.answer)) text
    ∙ ap (λ w. says w (said.Reply reply.NoMemory) parts) own

unread_settled : EachInTurn → (config : ConfigData) (most : ℕ) (w : List ℕ) (who : Option (List ℕ)) (words : Said) → (let h : Routed Ask = routed.Answered who words in h) ≡ routed.Answered (Some w) (said.Reply reply.NoMemory)
    → (ys zs : List ℕ) → Cuts most (first None (lines_of ys)) (Err (NoMemory w)) ys zs → IsSettled config (record { who = who; said = words }) ys zs
unread_settled turns config most w who words is ys zs it = record {
  request = record { item = it.item; refused = true };
  marks = λ marked. cc;
  cut = record { cut = it.cut };
  next_is = λ parts. next_unread config parts it.item (Some w) (ap (λ (submits : Option (List ℕ)). is_some submits) it.answers) (own_text turns ys it.item (lines_of zs) w it.cut it.answers)
      ∙ ap (answered config true parts) (sym is);
}

told_takes : EachInTurn → (config : ConfigData) (most : ℕ) (old new : Option (List ℕ)) (answer : Result Request LineFault) (who : Option (List ℕ)) (words : Said) → routed.Answered who words ≡ routed_of config answer
    → Takes most None old new answer → Goes old new (IsSettled config (record { who = who; said = words }))
told_takes turns config most old new (Ok request) who words is h =
    goes_to old new (λ ys zs. Cuts most (first None (lines_of ys)) (Ok request) ys zs) (IsSettled config (record { who = who; said = words })) h
    (λ ys zs it. settled_by config most (Ok request) who words is ys zs it it.answers)
told_takes turns config most old new (Err Eof) who words is h = absurd (cc)
told_takes turns config most old new (Err Read) who words is h = absurd (cc)
told_takes turns config most old new (Err (TooLong w)) who words is h =
    goes_to old new (λ ys zs. Cuts most (first None (lines_of ys)) (Err (TooLong w)) ys zs) (IsSettled config (record { who = who; said = words })) h
    (λ ys zs it. settled_by config most (Err (TooLong w)) who words is ys zs it it.answers)
told_takes turns config most old new (Err (Syntax w)) who words is h =
    goes_to old new (λ ys zs. Cuts most (first None (lines_of ys)) (Err (Syntax w)) ys zs) (IsSettled config (record { who = who; said = words })) h
    (λ ys zs it. settled_by config most (Err (Syntax w)) who words is ys zs it it.answers)
told_takes turns config most old new (Err (File w why)) who words is h =
    goes_to old new (λ ys zs. Cuts most (first None (lines_of ys)) (Err (File w why)) ys zs) (IsSettled config (record { who = who; said = words })) h
    (λ ys zs it. settled_by config most (Err (File w why)) who words is ys zs it (file_answers it.item w why it.answers))
told_takes turns config most old new (Err (NoMemory w)) who words is h =
    goes_to old new (λ ys zs. Cuts most (first None (lines_of ys)) (Err (NoMemory w)) ys zs) (IsSettled config (record { who = who; said = words })) h
    (unread_settled turns config most w who words is)

asked_request : (config : ConfigData) (most : ℕ) (request : Request) (t : ℕ) (who : List ℕ) (ask : Ask) (n : Option ℕ) → tenant_number request.who config ≡ n
    → routed.Asked t who ask ≡ routed_to request.who (ask_of request.what) n → (ys zs : List ℕ) → Cuts most (first None (lines_of ys)) (Ok request) ys zs → IsAsked config t who ask ys zs
asked_request config most request t who ask None at is ys zs it = absurd (cc)
asked_request config most request t who ask (Some n) at is ys zs it =
    let a : request.who ≡ who = cc in
    let b : ask_of request.what ≡ ask = cc in
    let d : n ≡ t = cc in
    record {
      item = it.item;
      what = request.what;
      cut = it.cut;
      answer_is = it.answers ∙ ap (λ w. Ok (let r : Request = record { who = w; what = request.what } in r)) a;
      asks = b;
      number = ap (λ w. tenant_number w config) (sym a) ∙ at ∙ ap (λ k. Some k) d;
    }

asked_takes : (config : ConfigData) (most : ℕ) (old new : Option (List ℕ)) (answer : Result Request LineFault) (t : ℕ) (who : List ℕ) (ask : Ask) → routed.Asked t who ask ≡ routed_of config answer
    → Takes most None old new answer → Goes old new (IsAsked config t who ask)
asked_takes config most old new (Ok request) t who ask is h =
    goes_to old new (λ ys zs. Cuts most (first None (lines_of ys)) (Ok request) ys zs) (IsAsked config t who ask) h (asked_request config most request t who ask (tenant_number request.who config) refl is)
asked_takes config most old new (Err Eof) t who ask is h = absurd (cc)
asked_takes config most old new (Err Read) t who ask is h = absurd (cc)
asked_takes config most old new (Err (TooLong w)) t who ask is h = absurd (cc)
asked_takes config most old new (Err (Syntax w)) t who ask is h = absurd (cc)
asked_takes config most old new (Err (File w why)) t who ask is h = absurd (cc)
asked_takes config most old new (Err (NoMemory w)) t who ask is h = absurd (cc)

over_takes : EachInTurn → (config : ConfigData) (most : ℕ) (old new : Option (List ℕ)) (answer : Result Request LineFault) → routed.End ≡ routed_of config answer → Takes most None old new answer
    → Goes old new (λ ys zs. requests_of ys ≡ [])
over_takes turns config most old new (Ok request) is h = absurd (nowhere (tenant_number request.who config) is)
  where
    nowhere : (n : Option ℕ) → routed.End ≡ routed_to request.who (ask_of request.what) n → ⊥
    nowhere None e = cc
    nowhere (Some t) e = cc
over_takes turns config most old new (Err Eof) is h =
    goes_to old new (λ ys zs. Ends most (first None (lines_of ys)) ys zs) (λ ys zs. requests_of ys ≡ []) h (λ ys zs it. turns ys ∙ ap from_first it.none)
over_takes turns config most old new (Err Read) is h = absurd (cc)
over_takes turns config most old new (Err (TooLong w)) is h = absurd (cc)
over_takes turns config most old new (Err (Syntax w)) is h = absurd (cc)
over_takes turns config most old new (Err (File w why)) is h = absurd (cc)
over_takes turns config most old new (Err (NoMemory w)) is h = absurd (cc)

-- ---- a replay, request by request

abbrev pub Played : ConfigData → Option (List ℕ) → Option (List ℕ) → Option (List ℕ) → Option (List ℕ) → ℕ → Bool → World → Type 0
Played config first now old new count noted w = Goes first now (λ xs ys. IsPlayed config xs ys old new count noted w)

pub play_begins : (config : ConfigData) (a old : Option (List ℕ)) (w : World) → w.config ≡ config → ((p : ℕ) → purse p w ≡ opening config p) → Played config a a old old 0 false w
play_begins config a old w is parts =
    goes_same a (λ xs ys. IsPlayed config xs ys old old 0 false w) (λ xs. record { requests = []; marks = tt; number = refl; of_config = is; parts = parts; written = appends_none old; refusal = refl; reads = refl; left = refl })

-- what was written is sent on its way, and the same bytes are left to be read
pub played_sent : (config : ConfigData) (a b c old mid new : Option (List ℕ)) (count : ℕ) (noted : Bool) (w : World) → c ≡ b → Keeps mid new → Played config a b old mid count noted w → Played config a c old new count noted w
played_sent config a b c old mid new count noted w same kept played =
    subst (λ r. Played config a r old new count noted w) (sym same)
    (goes_to a b (λ xs ys. IsPlayed config xs ys old mid count noted w) (λ xs ys. IsPlayed config xs ys old new count noted w) played
    (λ xs ys it. record { requests = it.requests; marks = it.marks; number = it.number; of_config = it.of_config; parts = it.parts; written = appends_kept old mid new (output_of config it.requests) it.written kept; refusal = it.refusal; reads = it.reads; left = it.left }))

answered_settled : (config : ConfigData) (xs ys zs : List ℕ) (old mid : Option (List ℕ)) (count : ℕ) (noted : Bool) (w : World) (line : Saying) (it : IsPlayed config xs ys old mid count noted w) (s : IsSettled config line ys zs)
    → IsAnsweredBy config (parts_after config (opening config) it.requests) s.request line w
answered_settled config xs ys zs old mid count noted w line it s =
    let is = s.next_is (parts_after config (opening config) it.requests) in
    record { says = ap (λ (n : Next). n.line) is; marks = s.marks; of_config = it.of_config; leads = λ p. it.parts p ∙ ap (λ (n : Next). n.parts p) (sym is) }

pub settled_on : EachInTurn → (config : ConfigData) (a b c old mid new : Option (List ℕ)) (count : ℕ) (noted noted' : Bool) (w : World) (answer : Result Request LineFault) (who : Option (List ℕ)) (words : Said)
    → routed.Answered who words ≡ routed_of config answer → Takes 100000000 None b c answer → Played config a b old mid count noted w → Appends mid new (reply_line who words) → noted' ≡ (noted || is_refusal words) → Played config a c old new (count + 1) noted' w
settled_on turns config a b c old mid new count noted noted' w answer who words is takes played written refusal =
    goes_on a b c (λ xs ys. IsPlayed config xs ys old mid count noted w) (IsSettled config (record { who = who; said = words })) (λ xs zs. IsPlayed config xs zs old new (count + 1) noted' w)
    played (told_takes turns config 100000000 b c answer who words is takes)
    (λ xs ys zs it s. play_on turns config xs ys zs old mid new count noted noted' w w (record { who = who; said = words }) it s.request s.cut (answered_settled config xs ys zs old mid count noted w (record { who = who; said = words }) it s) written refusal)

pub settled_cut : EachInTurn → (config : ConfigData) (a b c old mid new : Option (List ℕ)) (count : ℕ) (noted : Bool) (w : World) (answer : Result Request LineFault) (who : Option (List ℕ)) (words : Said)
    → routed.Answered who words ≡ routed_of config answer → Takes 100000000 None b c answer → Played config a b old mid count noted w → AppendsPart mid new (reply_line who words)
    → (before seen : Counts) → HasFailed before.writes seen.writes → IfSome a (λ xs. IsCutOff config fault.Write before seen xs old new)
settled_cut turns config a b c old mid new count noted w answer who words is takes played part before seen failed =
    known_first a c (λ xs zs. IsCutOff config fault.Write before seen xs old new) (λ xs. IsCutOff config fault.Write before seen xs old new)
    (goes_on a b c (λ xs ys. IsPlayed config xs ys old mid count noted w) (IsSettled config (record { who = who; said = words })) (λ xs zs. IsCutOff config fault.Write before seen xs old new)
    played (told_takes turns config 100000000 b c answer who words is takes)
    (λ xs ys zs it s. cut_by_write turns config xs ys zs old mid new count noted w w (record { who = who; said = words }) it s.request s.cut (answered_settled config xs ys zs old mid count noted w (record { who = who; said = words }) it s) part before seen failed))
    (λ xs zs known it. it)

-- the line of tenant t's request, where this is told to it
record IsLed (config : ConfigData) (parts : Parts) (item : Item) (t : ℕ) (who : List ℕ) (told : Answered) (refused : Bool) : Type 0 where
  line : (next config parts (record { item = item; refused = refused })).line ≡ record { who = Some who; said = told.said }
  marks : IsTrueMark refused told.said
  leads : (q : ℕ) → (next config parts (record { item = item; refused = refused })).parts q ≡ with_tenant config parts t told.after q

led_asked : (config : ConfigData) (parts : Parts) (item : Item) (t : ℕ) (who : List ℕ) (what : What) (ask : Ask) (refused : Bool) → item.answer ≡ Ok (record { who = who; what = what })
    → ask_of what ≡ ask → tenant_number who config ≡ Some t
    → (refused && is_some item.submits) ≡ false → IsTrueMark refused (told_under refused (part_of config parts t) ask).said
    → IsLed config parts item t who (told_under refused (part_of config parts t) ask) refused
led_asked config parts item t who what ask refused is asks at text marks =
    let same : next config parts (record { item = item; refused = refused }) ≡ answered config refused parts (routed.Asked t who ask) =
    ap (λ b. if b then says (who_in item.answer) (said.Reply reply.NoMemory) parts else answered config refused parts (routed_of config item.answer)) text
    ∙ ap (λ a. answered config refused parts (routed_of config a)) is ∙ ap (λ n. answered config refused parts (routed_to who (ask_of what) n)) at
    ∙ ap (λ k. answered config refused parts (routed.Asked t who k)) asks in
    record { line = ap (λ (n : Next). n.line) same; marks = marks; leads = λ q. ap (λ (n : Next). n.parts q) same }

-- a tenant that stands as it did
stays : (config : ConfigData) (parts : Parts) (t q : ℕ) → parts q ≡ with_tenant config parts t (part_of config parts t) q
stays config parts t q =
    let p = purse_in config t in
    elim (q == p) as (λ b. (q == p) ≡ b → parts q ≡ cond b (with_seat (parts p) (place_in config t) (part_of config parts t)) (parts q)) [
      | true ↦ λ e. ap parts (eqb-true q p e) ∙ sym (seated_same (parts p) (place_in config t))
      | false ↦ λ _. refl
    ] refl

abbrev told_if : Bool → Tenant → Ask → Answered
told_if silent t ask = cond silent (record { said = said.Reply reply.NoMemory; after = t }) (told_to t ask)

unmarked : (words : Said) → IsTrueMark false words
unmarked words h = absurd (cc)

-- whatever is told to it, there is a mark that leads there: memory that is refused for a submit refuses its text
marked : (config : ConfigData) (parts : Parts) (item : Item) (t : ℕ) (who : List ℕ) (what : What) (ask : Ask) (refused : Bool) → item.answer ≡ Ok (record { who = who; what = what }) → ask_of what ≡ ask → tenant_number who config ≡ Some t
    → (mark : Bool) × IsLed config parts item t who (told_under refused (part_of config parts t) ask) mark
marked config parts item t who what ask false is asks at =
    (false, led_asked config parts item t who what ask false is asks at refl (unmarked (told_to (part_of config parts t) ask).said))
marked config parts item t who what ask true is asks at = by (is_some item.submits) refl (request_may_need (part_of config parts t) ask) refl
  where
    by : (text : Bool) → is_some item.submits ≡ text → (need : Bool) → request_may_need (part_of config parts t) ask ≡ need
        → (mark : Bool) × IsLed config parts item t who (told_if (request_may_need (part_of config parts t) ask) (part_of config parts t) ask) mark
    by false text true is_needed =
        (true, led_asked config parts item t who what ask true is asks at text (λ _. ap (λ b. (told_if b (part_of config parts t) ask).said) is_needed))
    by true text true is_needed =
        let silent = next_unread config parts item (Some who) text (ap who_in is) in (
          true,
          subst (λ b. IsLed config parts item t who (told_if b (part_of config parts t) ask) true) (sym is_needed)
              (record { line = ap (λ (n : Next). n.line) silent; marks = λ _. refl; leads = λ q. ap (λ (n : Next). n.parts q) silent ∙ stays config parts t q }),
        )
    by all text false is_needed = (
      false,
      subst (λ b. IsLed config parts item t who (told_if b (part_of config parts t) ask) false) (sym is_needed)
          (led_asked config parts item t who what ask false is asks at refl (unmarked (told_to (part_of config parts t) ask).said)),
    )

not_same : (u t : ℕ) → u ≢ t → (u == t) ≡ false
not_same u t d = elim (u == t) as (λ b. (u == t) ≡ b → b ≡ false) [ true ↦ λ e. absurd (d (eqb-true u t e)) | false ↦ λ _. refl ] refl

-- a tenant of the farm stands where its part does
view_is : (config : ConfigData) (parts : Parts) (w : World) (t : ℕ) → w.config ≡ config → t < length config.tenants → ((p : ℕ) → purse p w ≡ parts p) → view t w ≡ part_of config parts t
view_is config parts w t is known at =
    each_view_is_a_seat w t (subst (λ (c : ConfigData). t < length c.tenants) (sym is) known)
    ∙ ap (λ (c : ConfigData). seat (purse (purse_in c t) w) (place_in c t)) is
    ∙ ap (λ (p : Purse). seat p (place_in config t)) (at (purse_in config t))

leads_to : (config : ConfigData) (parts : Parts) (w w' : World) (t : ℕ) (new : Tenant) → w.config ≡ config
    → purse (purse_in w.config t) w' ≡ with_seat (purse (purse_in w.config t) w) (place_in w.config t) new
    → ((p : ℕ) → p ≢ purse_in w.config t → purse p w' ≡ purse p w) → ((p : ℕ) → purse p w ≡ parts p)
    → (q : ℕ) → purse q w' ≡ with_tenant config parts t new q
leads_to config parts w w' t new is own others at q =
    let p = purse_in config t in
    let mine : purse p w' ≡ with_seat (parts p) (place_in config t) new =
    ap (λ (c : ConfigData). purse (purse_in c t) w') (sym is) ∙ own ∙ ap (λ (c : ConfigData). with_seat (purse (purse_in c t) w) (place_in c t) new) is
    ∙ ap (λ (x : Purse). with_seat x (place_in config t) new) (at p) in
    let moved : Purse = with_seat (parts p) (place_in config t) new in
    ⊎_elim
    (λ (e : q ≡ p). ap (λ k. purse k w') e ∙ mine ∙ ap (λ b. cond b moved (parts q)) (sym (eq-eqb q p e)))
    (λ (d : q ≡ p → ⊥). others q (λ e. d (e ∙ ap (λ (c : ConfigData). purse_in c t) is)) ∙ at q ∙ ap (λ b. cond b moved (parts q)) (sym (not_same q p d)))
    (cases_eq q p)

answered_asked : (config : ConfigData) (xs ys zs : List ℕ) (old mid : Option (List ℕ)) (count : ℕ) (noted : Bool) (w w' : World) (t : ℕ) (who : List ℕ) (ask : Ask) (words : Said) (it : IsPlayed config xs ys old mid count noted w)
    (s : IsAsked config t who ask ys zs) → IsTold w t ask words w'
    → (refused : Bool) × IsAnsweredBy config (parts_after config (opening config) it.requests) (record { item = s.item; refused = refused }) (record { who = Some who; said = words }) w'
answered_asked config xs ys zs old mid count noted w w' t who ask words it s h =
    let parts : Parts = parts_after config (opening config) it.requests in
    let led = marked config parts s.item t who s.what ask h.refused s.answer_is s.asks s.number in
    let known : t < length config.tenants = known_number who config t s.number in
    let same : told_under h.refused (view t w) ask ≡ told_under h.refused (part_of config parts t) ask = ap (λ v. told_under h.refused v ask) (view_is config parts w t it.of_config known it.parts) in (
      led.0,
      record {
        says = led.1.line ∙ ap (λ v. let l : Saying = record { who = Some who; said = v } in l) (sym (h.said ∙ ap (λ (x : Answered). x.said) same));
        marks = λ marked. h.said ∙ ap (λ (x : Answered). x.said) same ∙ led.1.marks marked;
        of_config = h.config ∙ it.of_config;
        leads = λ q. leads_to config parts w w' t (told_under h.refused (view t w) ask).after it.of_config h.own h.others it.parts q
            ∙ ap (λ (x : Answered). with_tenant config parts t x.after q) same ∙ sym (led.1.leads q);
      },
    )

pub asked_on : EachInTurn → (config : ConfigData) (a b c old mid new : Option (List ℕ)) (count : ℕ) (noted noted' : Bool) (w w' : World) (answer : Result Request LineFault) (t : ℕ) (who : List ℕ) (ask : Ask) (words : Said)
    → routed.Asked t who ask ≡ routed_of config answer → Takes 100000000 None b c answer → IsTold w t ask words w' → Played config a b old mid count noted w → Appends mid new (reply_line (Some who) words) → noted' ≡ (noted || is_refusal words)
    → Played config a c old new (count + 1) noted' w'
asked_on turns config a b c old mid new count noted noted' w w' answer t who ask words is takes told played written refusal =
    goes_on a b c (λ xs ys. IsPlayed config xs ys old mid count noted w) (IsAsked config t who ask) (λ xs zs. IsPlayed config xs zs old new (count + 1) noted' w')
    played (asked_takes config 100000000 b c answer t who ask is takes)
    (λ xs ys zs it s.
    let by = answered_asked config xs ys zs old mid count noted w w' t who ask words it s told in
    play_on turns config xs ys zs old mid new count noted noted' w w' (record { who = Some who; said = words }) it (record { item = s.item; refused = by.0 }) (record { cut = s.cut }) by.1 written refusal)

pub asked_cut : EachInTurn → (config : ConfigData) (a b c old mid new : Option (List ℕ)) (count : ℕ) (noted : Bool) (w w' : World) (answer : Result Request LineFault) (t : ℕ) (who : List ℕ) (ask : Ask) (words : Said)
    → routed.Asked t who ask ≡ routed_of config answer → Takes 100000000 None b c answer → IsTold w t ask words w' → Played config a b old mid count noted w → AppendsPart mid new (reply_line (Some who) words)
    → (before seen : Counts) → HasFailed before.writes seen.writes → IfSome a (λ xs. IsCutOff config fault.Write before seen xs old new)
asked_cut turns config a b c old mid new count noted w w' answer t who ask words is takes told played part before seen failed =
    known_first a c (λ xs zs. IsCutOff config fault.Write before seen xs old new) (λ xs. IsCutOff config fault.Write before seen xs old new)
    (goes_on a b c (λ xs ys. IsPlayed config xs ys old mid count noted w) (IsAsked config t who ask) (λ xs zs. IsCutOff config fault.Write before seen xs old new)
    played (asked_takes config 100000000 b c answer t who ask is takes)
    (λ xs ys zs it s.
    let by = answered_asked config xs ys zs old mid count noted w w' t who ask words it s told in
    cut_by_write turns config xs ys zs old mid new count noted w w' (record { who = Some who; said = words }) it (record { item = s.item; refused = by.0 }) (record { cut = s.cut }) by.1 part before seen failed))
    (λ xs zs known it. it)

-- nothing could be sent before it is answered
pub asked_unsent : EachInTurn → (config : ConfigData) (a b c old new : Option (List ℕ)) (count : ℕ) (noted : Bool) (w : World) (answer : Result Request LineFault) (t : ℕ) (who : List ℕ) (ask : Ask)
    → routed.Asked t who ask ≡ routed_of config answer → Takes 100000000 None b c answer → Played config a b old new count noted w → (before seen : Counts) → HasFailed before.writes seen.writes → IfSome a (λ xs. IsCutOff config fault.Write before seen xs old new)
asked_unsent turns config a b c old new count noted w answer t who ask is takes played before seen failed =
    known_first a c (λ xs zs. IsCutOff config fault.Write before seen xs old new) (λ xs. IsCutOff config fault.Write before seen xs old new)
    (goes_on a b c (λ xs ys. IsPlayed config xs ys old new count noted w) (IsAsked config t who ask) (λ xs zs. IsCutOff config fault.Write before seen xs old new)
    played (asked_takes config 100000000 b c answer t who ask is takes)
    (λ xs ys zs it s. cut_before turns config xs ys zs old new count noted w it (record { item = s.item; refused = false }) (record { cut = s.cut }) before seen failed))
    (λ xs zs known it. it)

pub play_over : EachInTurn → (config : ConfigData) (a b c old new : Option (List ℕ)) (count : ℕ) (noted : Bool) (w : World) (answer : Result Request LineFault) → count ≤ 1000000 → routed.End ≡ routed_of config answer
    → Takes 100000000 None b c answer → Played config a b old new count noted w → IfSome a (λ xs. LedBy config xs noted old new w)
play_over turns config a b c old new count noted w answer most is takes played =
    known_first a c (λ xs zs. LedBy config xs noted old new w) (λ xs. LedBy config xs noted old new w)
    (goes_on a b c (λ xs ys. IsPlayed config xs ys old new count noted w) (λ ys zs. requests_of ys ≡ []) (λ xs zs. LedBy config xs noted old new w) played (over_takes turns config 100000000 b c answer is takes)
    (λ xs ys zs it none. played_whole config xs ys old new count noted w most none it))
    (λ xs zs known it. it)

-- the next request is too long, as the bytes that are left tell
long_next : (config : ConfigData) (xs ys : List ℕ) (old new : Option (List ℕ)) (count : ℕ) (noted : Bool) (w : World) (it : IsPlayed config xs ys old new count noted w) → IsPast 100000000 None (lines_of ys) → IsLongNext xs it.requests
long_next config xs ys old new count noted w it long = subst (IsPast 100000000 None) (sym it.left ∙ ap (λ n. lines_past n (lines_of xs)) (sym it.number)) long

broken_by : (config : ConfigData) (xs ys : List ℕ) (old new : Option (List ℕ)) (count : ℕ) (noted : Bool) (w : World) (Failed : Type 0) (it : IsPlayed config xs ys old new count noted w)
    → Failed ⊎ IsPast 100000000 None (lines_of ys) → Failed ⊎ IsLongNext xs it.requests
broken_by config xs ys old new count noted w Failed it (inl h) = inl h
broken_by config xs ys old new count noted w Failed it (inr h) = inr (long_next config xs ys old new count noted w it h)

-- what was routed tells that the read was given up
given_up : (config : ConfigData) (Failed : Type 0) (old : Option (List ℕ)) (answer : Result Request LineFault) → routed.ReadFailed ≡ routed_of config answer → IsReadGivenUp 100000000 None Failed old answer
    → HasCause Failed old (λ bytes. IsPast 100000000 None (lines_of bytes))
given_up config Failed old (Ok request) is h = absurd (nowhere (tenant_number request.who config) is)
  where
    nowhere : (n : Option ℕ) → routed.ReadFailed ≡ routed_to request.who (ask_of request.what) n → ⊥
    nowhere None e = cc
    nowhere (Some t) e = cc
given_up config Failed old (Err Eof) is h = absurd (cc)
given_up config Failed old (Err Read) is h = h
given_up config Failed old (Err (TooLong w)) is h = absurd (cc)
given_up config Failed old (Err (Syntax w)) is h = absurd (cc)
given_up config Failed old (Err (File w why)) is h = absurd (cc)
given_up config Failed old (Err (NoMemory w)) is h = absurd (cc)

-- what asks for a line was read with no failure
pub told_well : (config : ConfigData) (old new : ℕ) (answer : Result Request LineFault) (who : Option (List ℕ)) (words : Said) → routed.Answered who words ≡ routed_of config answer → HasReadWell answer old new → new ≡ old
told_well config old new (Ok request) who words is h = h
told_well config old new (Err Eof) who words is h = h
told_well config old new (Err Read) who words is h = absurd (cc)
told_well config old new (Err (TooLong w)) who words is h = h
told_well config old new (Err (Syntax w)) who words is h = h
told_well config old new (Err (File w why)) who words is h = h
told_well config old new (Err (NoMemory w)) who words is h = h

pub asked_well : (config : ConfigData) (old new : ℕ) (answer : Result Request LineFault) (t : ℕ) (who : List ℕ) (ask : Ask) → routed.Asked t who ask ≡ routed_of config answer → HasReadWell answer old new → new ≡ old
asked_well config old new (Ok request) t who ask is h = h
asked_well config old new (Err Eof) t who ask is h = h
asked_well config old new (Err Read) t who ask is h = absurd (cc)
asked_well config old new (Err (TooLong w)) t who ask is h = h
asked_well config old new (Err (Syntax w)) t who ask is h = h
asked_well config old new (Err (File w why)) t who ask is h = h
asked_well config old new (Err (NoMemory w)) t who ask is h = h

-- what ends a script was read with no failure, and what breaks it off with at most one
pub over_well : (config : ConfigData) (old new : ℕ) (answer : Result Request LineFault) → routed.End ≡ routed_of config answer → HasReadWell answer old new → new ≡ old
over_well config old new (Ok request) is h = h
over_well config old new (Err Eof) is h = h
over_well config old new (Err Read) is h = absurd (cc)
over_well config old new (Err (TooLong w)) is h = h
over_well config old new (Err (Syntax w)) is h = h
over_well config old new (Err (File w why)) is h = h
over_well config old new (Err (NoMemory w)) is h = h

pub read_once : (old new : ℕ) (answer : Result Request LineFault) → HasReadWell answer old new → FailsAtMostOnce old new
read_once old new (Ok request) h = inr h
read_once old new (Err Eof) h = inr h
read_once old new (Err Read) h = h
read_once old new (Err (TooLong w)) h = inr h
read_once old new (Err (Syntax w)) h = inr h
read_once old new (Err (File w why)) h = inr h
read_once old new (Err (NoMemory w)) h = inr h

-- what a replay's watches note
pub noted_write : (why : ReplayFault) (before seen : Counts) → why ≡ fault.Write → seen.reads ≡ before.reads → HasFailed before.writes seen.writes → AreNoted (Err why) before seen
noted_write why before seen is reads writes = subst (λ f. AreNoted (Err f) before seen) (sym is) (record { reads = reads; writes = writes })

pub noted_from : (ended : Result ⊤ ReplayFault) (before mid seen : Counts) → mid.reads ≡ before.reads → mid.writes ≡ before.writes → AreNoted ended mid seen → AreNoted ended before seen
noted_from ended before mid seen reads writes h = record {
  reads = subst (λ n. IsReadNoted ended n seen.reads) reads h.reads;
  writes = subst (λ n. IsWriteNoted ended n seen.writes) writes h.writes;
}

pub end_noted : (answer : Result Request LineFault) (old new writes : ℕ) → HasReadWell answer old new → AreNoted (end_of answer) (record { reads = old; writes = writes }) (record { reads = new; writes = writes })
end_noted (Ok request) old new writes h = record { reads = h; writes = refl }
end_noted (Err Eof) old new writes h = record { reads = h; writes = refl }
end_noted (Err Read) old new writes h = record { reads = h; writes = refl }
end_noted (Err (TooLong w)) old new writes h = record { reads = h; writes = refl }
end_noted (Err (Syntax w)) old new writes h = record { reads = h; writes = refl }
end_noted (Err (File w why)) old new writes h = record { reads = h; writes = refl }
end_noted (Err (NoMemory w)) old new writes h = record { reads = h; writes = refl }

cause_at : (Failed : Type 0) (b : Option (List ℕ)) (ys : List ℕ) (P : List ℕ → Type 0) → b ≡ Some ys → HasCause Failed b P → Failed ⊎ P ys
cause_at Failed b ys P known (inl h) = inl h
cause_at Failed b ys P known (inr h) = inr (subst (λ o. IfSome o P) known h)

pub play_broken : (config : ConfigData) (a b old new : Option (List ℕ)) (count : ℕ) (noted : Bool) (w : World) (answer : Result Request LineFault) (before seen : Counts) → routed.ReadFailed ≡ routed_of config answer
    → IsReadGivenUp 100000000 None (HasFailed before.reads seen.reads) b answer → Played config a b old new count noted w → IfSome a (λ xs. IsCutOff config fault.Read before seen xs old new)
play_broken config a b old new count noted w answer before seen is cause played =
    known_first a b (λ xs ys. IsPlayed config xs ys old new count noted w) (λ xs. IsCutOff config fault.Read before seen xs old new) played
    (λ xs ys known it. cut_between config xs ys old new count noted w fault.Read before seen it
    (refl, broken_by config xs ys old new count noted w (HasFailed before.reads seen.reads) it (cause_at (HasFailed before.reads seen.reads) b ys (λ bytes. IsPast 100000000 None (lines_of bytes)) known (given_up config (HasFailed before.reads seen.reads) b answer is cause))))

pub play_ends : (config : ConfigData) (a b old new : Option (List ℕ)) (count : ℕ) (noted : Bool) (w : World) → count ≤ 1000000 → Played config a b old new count noted w → IfSome b (λ ys. requests_of ys ≡ []) → IfSome a (λ xs. LedBy config xs noted old new w)
play_ends config a b old new count noted w most played over =
    known_first a b (λ xs ys. IsPlayed config xs ys old new count noted w) (λ xs. LedBy config xs noted old new w) played
    (λ xs ys known it. played_whole config xs ys old new count noted w most (subst (λ o. IfSome o (λ ys. requests_of ys ≡ [])) known over) it)

-- there is one request more
one_more : EachInTurn → (old new : Option (List ℕ)) (answer : Result Request LineFault) → Goes old new (λ xs ys. Cuts 100000000 (first None (lines_of xs)) answer xs ys) → IfSome old (λ bytes. requests_of bytes ≢ [])
one_more turns old new answer takes =
    known_first old new (λ xs ys. Cuts 100000000 (first None (lines_of xs)) answer xs ys) (λ bytes. requests_of bytes ≢ []) takes
    (λ xs ys known it none. let some : requests_of xs ≡ it.item ∷ requests_of ys = turns xs ∙ ap from_first it.cut in absurd (cc))

pub play_stops : (config : ConfigData) (a b old new : Option (List ℕ)) (noted : Bool) (w : World) (why : ReplayFault) (before seen : Counts) → Played config a b old new 1000000 noted w → IfSome b (λ ys. GoesOn why (HasFailed before.reads seen.reads) ys)
    → IfSome a (λ xs. IsCutOff config why before seen xs old new)
play_stops config a b old new noted w why before seen played stops =
    known_first a b (λ xs ys. IsPlayed config xs ys old new 1000000 noted w) (λ xs. IsCutOff config why before seen xs old new) played
    (λ xs ys known it. cut_between config xs ys old new 1000000 noted w why before seen it (cause why xs ys it (subst (λ o. IfSome o (λ ys. GoesOn why (HasFailed before.reads seen.reads) ys)) known stops)))
  where
    cause : (why : ReplayFault) (xs ys : List ℕ) (it : IsPlayed config xs ys old new 1000000 noted w) → GoesOn why (HasFailed before.reads seen.reads) ys → IsCutBy why before seen config xs it.requests (requests_of ys) []
    cause fault.Read xs ys it h = (refl, broken_by config xs ys old new 1000000 noted w (HasFailed before.reads seen.reads) it h)
    cause fault.Write xs ys it h = absurd h
    cause fault.Requests xs ys it h = (refl, it.number, h)
    cause fault.NoMemory xs ys it h = absurd h

-- what is read after the last request that may be
pub end_stops : EachInTurn → (old new : Option (List ℕ)) (Failed : Type 0) (answer : Result Request LineFault) → Takes 100000000 None old new answer → IsReadGivenUp 100000000 None Failed old answer
    → IfErr (end_of answer) (λ why. IfSome old (λ bytes. GoesOn why Failed bytes))
end_stops turns old new Failed (Err Eof) takes cause = tt
end_stops turns old new Failed (Err Read) takes cause = known old cause
  where
    known : (old : Option (List ℕ)) → HasCause Failed old (λ bytes. IsPast 100000000 None (lines_of bytes)) → IfSome old (λ bytes. GoesOn fault.Read Failed bytes)
    known None h = tt
    known (Some xs) (inl h) = inl h
    known (Some xs) (inr h) = inr h
end_stops turns old new Failed (Ok request) takes cause = one_more turns old new (Ok request) takes
end_stops turns old new Failed (Err (TooLong w)) takes cause = one_more turns old new (Err (TooLong w)) takes
end_stops turns old new Failed (Err (Syntax w)) takes cause = one_more turns old new (Err (Syntax w)) takes
end_stops turns old new Failed (Err (File w why)) takes cause = one_more turns old new (Err (File w why)) takes
end_stops turns old new Failed (Err (NoMemory w)) takes cause = one_more turns old new (Err (NoMemory w)) takes

pub play_written : (config : ConfigData) (a b old new : Option (List ℕ)) (count : ℕ) (noted : Bool) (w : World) (result : Result ⊤ ReplayFault) → count ≤ 1000000 → Played config a b old new count noted w
    → OnOk result (IfSome b (λ ys. requests_of ys ≡ [])) → OnOk result (IfSome a (λ xs. LedBy config xs noted old new w))
play_written config a b old new count noted w (Ok u) most played over = play_ends config a b old new count noted w most played over
play_written config a b old new count noted w (Err why) most played over = tt

pub play_cut : (config : ConfigData) (a b old new : Option (List ℕ)) (noted : Bool) (w : World) (before seen : Counts) (result : Result ⊤ ReplayFault) → Played config a b old new 1000000 noted w
    → IfErr result (λ why. IfSome b (λ ys. GoesOn why (HasFailed before.reads seen.reads) ys)) → IfErr result (λ why. IfSome a (λ xs. IsCutOff config why before seen xs old new))
play_cut config a b old new noted w before seen (Ok u) played stops = tt
play_cut config a b old new noted w before seen (Err why) played stops = play_stops config a b old new noted w why before seen played stops

-- in a new farm no purse has done anything yet
pub begun : (config : ConfigData) (w : World) → FarmsAreReplayed → w ≡ opened config → (p : ℕ) → purse p w ≡ opening config p
unfolding opened
begun config w replayed is p = ap (purse p) is ∙ replayed.made config p
