-- The lines of an output's bytes are its reply lines, since no reply has a line feed, and so one tenant's bytes are those of its own requests.
use Rattle.std.proofs.Common.{◌≡◌, ℕ, zero, suc, ◌==◌, ◌/◌, ◌%◌, ◌+◌, Bool, true, false, not, cond, filter, List, [], ◌∷◌, ◌++◌, map, Option, Some, None, refl, sym, ap, ◌∙◌, subst, arith, append_assoc, ◌||◌}
use Rattle.std.specs.Prelude.{if◌then◌else◌, codes, decimal}
use Rattle.std.specs.Fmt.{digits, digits_onto, digit_glyph}
use Rattle.std.specs.List.{list_all, list_any, flat_map}
use Rattle.std.proofs.lemmas.Bool.{and_parts}
use Rattle.std.proofs.lemmas.Bool.Decides.{nat_tests}
use Rattle.std.proofs.lemmas.List.Folds.{list_all-append}
use Rattle.psplib_mm.specs.FaultText.{section_text, limit_text}
use Rattle.psplib_mm.specs.declared.fault.MmFault.{MmFault}
use Rattle.psplib_mm.specs.declared.fault.MmFault.TheVariants as fault
use Rattle.psplib_mm.specs.declared.fault.SectionName.{SectionName}
use Rattle.psplib_mm.specs.declared.fault.SectionName.TheVariants.{PrecedenceRelations, RequestsDurations, ResourceAvailabilities}
use Rattle.psplib_mm.specs.declared.fault.LimitName.{LimitName}
use Rattle.psplib_mm.specs.declared.fault.LimitName.TheVariants as limit
use Rattle.mrcpsp.specs.Schedule.{ScheduleData}
use Rattle.strategy.specs.declared.verdict.Verdict.{Verdict}
use Rattle.strategy.specs.declared.verdict.Verdict.TheVariants.{Going, Optimal, Infeasible, Ended}
use Rattle.tenant_book.specs.Book.{BookData}
use Rattle.job_table.specs.declared.phase.Phase.{Phase}
use Rattle.job_table.specs.declared.phase.Phase.TheVariants.{Waiting, Out, Leaving, Dry, Closed, Cancelled}
use Rattle.farm_core.specs.Config.{ConfigData}
use Rattle.farm_core.specs.Name.{is_mark, is_name}
use Rattle.farm_core.specs.declared.reply.Line.{Line}
use Rattle.farm_core.specs.declared.reply.Reply.{Reply}
use Rattle.farm_core.specs.declared.reply.Reply.TheVariants as reply
use Rattle.session_lines.specs.declared.said.Said.{Said}
use Rattle.session_lines.specs.declared.said.Said.TheVariants as said
use Rattle.strategy.specs.VerdictText.{verdict_text}
use Rattle.session_lines.specs.ReplyText.{phase_text, best_text, line_text as known_text, place_text, places_text, schedule_text, book_text, reply_text, file_text, said_text, who_text}
use Rattle.session_lines.specs.Script.{lines_of, requests_of}
use Rattle.farm_replay.specs.Output.{Parts, Saying, Marked, next, items_of, opening, lines_for, line_text, output_of}
use Rattle.farm_replay.proofs.BeginLemmas.{IsNamed, AreNamed, name_parts, next_named, script_named, line_begins}
use Rattle.farm_replay.specs.Isolation.{whose, is_of, is_members, own_lines, own_requests}
use Rattle.farm_replay.specs.Bytes.{LinesAreReplies, AreNamesOf, begins_with_any, lines_beginning, EachOutputIsAlone, OutputsAreIsolated}
use Rattle.farm_replay.proofs.IsolationLemmas.{each_replays_alone, replays_are_isolated}

-- no byte is a line feed
abbrev clean : List ℕ → Bool
clean bytes = list_all (λ b. not (b == 10)) bytes

record IsClean (bytes : List ℕ) : Type 0 where
  ok : clean bytes ≡ true

plain : {bytes : List ℕ} → clean bytes ≡ true → IsClean bytes
plain h = record { ok = h }

both : (xs ys : List ℕ) → IsClean xs → IsClean ys → IsClean (xs ++ ys)
both xs ys h k = record { ok = list_all-append (λ b. not (b == 10)) xs ys ∙ rw (h.ok, k.ok) refl }

glyph : (d : ℕ) → not (digit_glyph false d == 10) ≡ true
glyph d = grind (arith, nat_tests)

onto_clean : (k n : ℕ) (acc : List ℕ) → IsClean acc → IsClean (digits_onto k 10 false n acc)
onto_clean zero n acc h = h
onto_clean (suc k) n acc h =
    let more : IsClean (digit_glyph false (n % 10) ∷ acc) = record { ok = rw (glyph (n % 10), h.ok) refl } in
    elim (n / 10 == 0) as (λ b. IsClean (if b then digit_glyph false (n % 10) ∷ acc else digits_onto k 10 false (n / 10) (digit_glyph false (n % 10) ∷ acc))) [
      | true ↦ more
      | false ↦ onto_clean k (n / 10) (digit_glyph false (n % 10) ∷ acc) more
    ]

number : (n : ℕ) → IsClean (decimal n)
unfolding digits
number n = onto_clean 64 n [] (plain refl)

on : {xs ys : List ℕ} → IsClean xs → IsClean ys → IsClean (xs ++ ys)
on {xs} {ys} h k = both xs ys h k

phase : (p : Phase) → IsClean (phase_text p)
phase Waiting = plain refl
phase (Out slice) = plain refl
phase (Leaving slice) = plain refl
phase Dry = plain refl
phase Closed = plain refl
phase Cancelled = plain refl

verdict : (v : Verdict) → IsClean (verdict_text v)
verdict Going = plain refl
verdict Optimal = plain refl
verdict Infeasible = plain refl
verdict Ended = plain refl

best : (b : Option ℕ) → IsClean (best_text b)
best None = plain refl
best (Some makespan) = number makespan

known : (l : Line) → IsClean (known_text l)
known l = on (on (on (on (on (on (on (on (phase l.phase) (plain {bytes = codes " nodes "} refl)) (number l.nodes)) (plain {bytes = codes " left "} refl)) (number l.left)) (plain {bytes = codes " best "} refl)) (best l.best)) (plain {bytes = codes " "} refl)) (verdict l.verdict)

place : (j mode start : ℕ) → IsClean (place_text j mode start)
place j mode start = on (on (on (on (on (plain {bytes = codes " "} refl) (number j)) (plain {bytes = codes ":"} refl)) (number mode)) (plain {bytes = codes ":"} refl)) (number start)

places : (j : ℕ) (modes starts : List ℕ) → IsClean (places_text j modes starts)
places j [] starts = plain refl
places j (mode ∷ modes) [] = plain refl
places j (mode ∷ modes) (start ∷ starts) = on (place j mode start) (places (j + 1) modes starts)

schedule : (s : Option ScheduleData) → IsClean (schedule_text s)
schedule None = plain refl
schedule (Some s) = places 1 s.modes s.starts

ledger : (b : BookData) → IsClean (book_text b)
ledger b = on (on (on (on (on (on (on (plain {bytes = codes "ledger granted "} refl) (number b.granted)) (plain {bytes = codes " free "} refl)) (number b.free)) (plain {bytes = codes " held "} refl)) (number b.held)) (plain {bytes = codes " spent "} refl)) (number b.spent)

told : (r : Reply) → IsClean (reply_text r)
told (reply.Job seq) = on (plain {bytes = codes "job "} refl) (number seq)
told (reply.Line l) = on (on (on (plain {bytes = codes "job "} refl) (number l.seq)) (plain {bytes = codes " "} refl)) (known l)
told (reply.Ran ran l) = on (on (on (on (on (plain {bytes = codes "job "} refl) (number l.seq)) (plain {bytes = codes " ran "} refl)) (number ran)) (plain {bytes = codes " "} refl)) (known l)
told (reply.Best seq s b v) = on (on (on (on (on (on (plain {bytes = codes "job "} refl) (number seq)) (plain {bytes = codes " makespan "} refl)) (best b)) (plain {bytes = codes " "} refl)) (verdict v)) (schedule s)
told (reply.Forgotten seq) = on (on (plain {bytes = codes "job "} refl) (number seq)) (plain {bytes = codes " forgotten"} refl)
told (reply.Ledger b) = ledger b
told reply.NoRoom = plain refl
told reply.NoUnknown = plain refl
told reply.NoBusy = plain refl
told reply.NoOver = plain refl
told reply.NoAmount = plain refl
told reply.NoJobs = plain refl
told (reply.NoShort free) = on (plain {bytes = codes "no short "} refl) (number free)
told reply.NoMemory = plain refl

section : (s : SectionName) → IsClean (section_text s)
section PrecedenceRelations = plain refl
section RequestsDurations = plain refl
section ResourceAvailabilities = plain refl

limited : (l : LimitName) → IsClean (limit_text l)
limited limit.Jobs = plain refl
limited limit.Modes = plain refl
limited limit.Renewable = plain refl
limited limit.Nonrenewable = plain refl
limited limit.Duration = plain refl
limited limit.Request = plain refl
limited limit.Capacity = plain refl
limited limit.Horizon = plain refl

file : (f : MmFault) → IsClean (file_text f)
file fault.TooLong = plain refl
file fault.Header = plain refl
file fault.Projects = plain refl
file fault.Doubly = plain refl
file (fault.Section s) = on (plain {bytes = codes "no file "} refl) (on (on (plain {bytes = codes "Section("} refl) (section s)) (plain {bytes = codes ")"} refl))
file (fault.Number n) = on (plain {bytes = codes "no file "} refl) (on (on (plain {bytes = codes "Number("} refl) (number n)) (plain {bytes = codes ")"} refl))
file (fault.Count s) = on (plain {bytes = codes "no file "} refl) (on (on (plain {bytes = codes "Count("} refl) (section s)) (plain {bytes = codes ")"} refl))
file (fault.Numbering n) = on (plain {bytes = codes "no file "} refl) (on (on (plain {bytes = codes "Numbering("} refl) (number n)) (plain {bytes = codes ")"} refl))
file (fault.Successor n) = on (plain {bytes = codes "no file "} refl) (on (on (plain {bytes = codes "Successor("} refl) (number n)) (plain {bytes = codes ")"} refl))
file (fault.Limit l) = on (plain {bytes = codes "no file "} refl) (on (on (plain {bytes = codes "Limit("} refl) (limited l)) (plain {bytes = codes ")"} refl))
file fault.NoMemory = plain refl

words : (s : Said) → IsClean (said_text s)
words (said.Reply r) = told r
words said.NoTurn = plain refl
words said.NoTenant = plain refl
words said.Syntax = plain refl
words said.LongLine = plain refl
words (said.File f) = file f

mark : (b : ℕ) → is_mark b ≡ true → not (b == 10) ≡ true
mark b h = grind (arith, nat_tests)

marks : (name : List ℕ) → list_all is_mark name ≡ true → IsClean name
marks [] h = plain refl
marks (b ∷ name) h = let p = and_parts (is_mark b) (list_all is_mark name) h in record { ok = rw (mark b p.0, (marks name p.1).ok) refl }

front : (who : Option (List ℕ)) → IsNamed who → IsClean (who_text who)
front None h = plain refl
front (Some name) h = on (on (plain {bytes = codes "@"} refl) (marks name (name_parts name h).1)) (plain {bytes = codes " "} refl)

-- ---- lines

first_line : (l rest : List ℕ) → IsClean l → lines_of (l ++ 10 ∷ rest) ≡ (l ++ 10 ∷ []) ∷ lines_of rest
first_line [] rest h = refl
first_line (x ∷ l) rest h =
    let p = and_parts (not (x == 10)) (clean l) h.ok in
    let other : (x == 10) ≡ false = grind (arith, nat_tests) in
    rw (other, first_line l rest (plain p.1)) refl

line_first : (line : Saying) (rest : List ℕ) → IsNamed line.who → lines_of (line_text line ++ rest) ≡ line_text line ∷ lines_of rest
line_first line rest h =
    let text : List ℕ = who_text line.who ++ said_text line.said in
    let whole : line_text line ≡ text ++ 10 ∷ [] = refl in
    let cleaned : IsClean text = both (who_text line.who) (said_text line.said) (front line.who h) (words line.said) in
    ap (λ (bs : List ℕ). lines_of (bs ++ rest)) whole ∙ ap lines_of (append_assoc text (10 ∷ []) rest) ∙ first_line text rest cleaned
    ∙ ap (λ (bs : List ℕ). bs ∷ lines_of rest) (sym whole)

all_lines : (config : ConfigData) (parts : Parts) (ms : List Marked) → AreNamed (items_of ms) → lines_of (flat_map line_text (lines_for config parts ms)) ≡ map line_text (lines_for config parts ms)
all_lines config parts [] h = refl
all_lines config parts (m ∷ ms) h =
    line_first (next config parts m).line (flat_map line_text (lines_for config (next config parts m).parts ms)) (next_named config parts m h.0)
    ∙ ap (λ (ls : List (List ℕ)). line_text (next config parts m).line ∷ ls) (all_lines config (next config parts m).parts ms h.1)

pub lines_are_replies : LinesAreReplies
lines_are_replies config script requests is = all_lines config (opening config) requests (subst AreNamed (sym is) (script_named script))

-- ---- one purse's lines among the bytes

-- one of these names is whose the line is
told_by_names : (names : List (List ℕ)) → list_all is_name names ≡ true → (who : Option (List ℕ)) (words : Said) → IsNamed who
    → begins_with_any names (line_text (record { who = who; said = words })) ≡ list_any (λ name. is_of name who) names
told_by_names [] ok who words h = refl
told_by_names (name ∷ names) ok who words h =
    let parts = and_parts (is_name name) (list_all is_name names) ok in
    ap (λ b. b || begins_with_any names (line_text (record { who = who; said = words }))) (line_begins name parts.0 who words h)
    ∙ ap (λ b. is_of name who || b) (told_by_names names parts.1 who words h)

none_told : (names : List (List ℕ)) → list_any (λ name. is_of name None) names ≡ false
none_told [] = refl
none_told (name ∷ names) = none_told names

members_told : (config : ConfigData) (p : ℕ) (names : List (List ℕ)) → AreNamesOf config p names → (who : Option (List ℕ)) → list_any (λ name. is_of name who) names ≡ is_members config p who
members_told config p names are None = none_told names
members_told config p names are (Some who) = are.exact who

own_among : (config : ConfigData) (p : ℕ) (names : List (List ℕ)) → AreNamesOf config p names → (parts : Parts) (ms : List Marked) → AreNamed (items_of ms)
    → filter (begins_with_any names) (map line_text (lines_for config parts ms)) ≡ map line_text (own_lines config p (lines_for config parts ms))
own_among config p names are parts [] h = refl
own_among config p names are parts (m ∷ ms) h =
    let line : Saying = (next config parts m).line in
    let rest : List Saying = lines_for config (next config parts m).parts ms in
    let tells : begins_with_any names (line_text line) ≡ is_members config p line.who = told_by_names names are.named line.who line.said (next_named config parts m h.0) ∙ members_told config p names are line.who in
    let more = own_among config p names are (next config parts m).parts ms h.1 in
    let others : List (List ℕ) = filter (begins_with_any names) (map line_text rest) in
    ap (λ (b : Bool). cond b (line_text line ∷ others) others) tells
    ∙ elim (is_members config p line.who) as (λ (b : Bool). cond b (line_text line ∷ others) others ≡ map line_text (cond b (line ∷ own_lines config p rest) (own_lines config p rest))) [
      | true ↦ ap (λ (ls : List (List ℕ)). line_text line ∷ ls) more
      | false ↦ more
    ]

own_named : (config : ConfigData) (p : ℕ) (ms : List Marked) → AreNamed (items_of ms) → AreNamed (items_of (own_requests config p ms))
own_named config p [] h = h
own_named config p (m ∷ ms) h =
    let rest : List Marked = own_requests config p ms in
    let more = own_named config p ms h.1 in
    elim (is_members config p (whose m)) as (λ (b : Bool). AreNamed (items_of (cond b (m ∷ rest) rest))) [
      | true ↦ (h.0, more)
      | false ↦ more
    ]

own_told : (config : ConfigData) (script : List ℕ) (requests : List Marked) → items_of requests ≡ requests_of script → (p : ℕ) (names : List (List ℕ)) → AreNamesOf config p names
    → lines_beginning names (output_of config requests) ≡ map line_text (own_lines config p (lines_for config (opening config) requests))
own_told config script requests is p names are =
    let named : AreNamed (items_of requests) = subst AreNamed (sym is) (script_named script) in
    ap (filter (begins_with_any names)) (lines_are_replies config script requests is) ∙ own_among config p names are (opening config) requests named

pub each_output_is_alone : EachOutputIsAlone
each_output_is_alone config script requests is p names are =
    let named : AreNamed (items_of requests) = subst AreNamed (sym is) (script_named script) in
    own_told config script requests is p names are
    ∙ ap (map line_text) (each_replays_alone config requests p)
    ∙ sym (all_lines config (opening config) (own_requests config p requests) (own_named config p requests named))

pub outputs_are_isolated : OutputsAreIsolated
outputs_are_isolated config elsewhere script other requests others is are p q names here there begins seats own =
    own_told config script requests is p names here
    ∙ ap (map line_text) (replays_are_isolated config elsewhere requests others p q begins seats own)
    ∙ sym (own_told elsewhere other others are q names there)
