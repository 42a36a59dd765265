-- Why a purse's lines are those of its members' own requests.
use Rattle.std.proofs.Common.{◌≡◌, ℕ, ◌==◌, Bool, true, false, cond, List, [], ◌∷◌, filter, Option, Some, None, refl, sym, ap, ◌∙◌, eq-eqb, ⊎_elim}
use Rattle.std.specs.Prelude.{Result, Ok, Err, is_some, if◌then◌else◌}
use Rattle.std.proofs.lemmas.Bool.{eqb-true, both_ways}
use Rattle.std.proofs.lemmas.List.Quantifiers.{position-Some}
use Rattle.farm_core.specs.Purses.{is_shared, purse_name}
use Rattle.farm_core.specs.Config.{ConfigData, no_terms, purse_names}
use Rattle.farm_core.specs.Name.{same_bytes}
use Rattle.farm_core.proofs.NameLemmas.{same_bytes_is}
use Rattle.farm_core.proofs.SharingLemmas.{apart}
use Rattle.farm_core.specs.Tenant.{Purse, seat, with_seat}
use Rattle.farm_core.specs.World.{terms_in, purse_in, place_in, opened_purse}
use Rattle.farm_core.specs.Laws.{IsLone}
use Rattle.farm_core.specs.declared.reply.Reply.TheVariants as reply
use Rattle.session_lines.specs.declared.request.Request.{Request}
use Rattle.farm_session.specs.declared.ask.Ask.{Ask}
use Rattle.farm_session.specs.Ask.{ask_of}
use Rattle.session_lines.specs.declared.request.LineFault.{LineFault}
use Rattle.session_lines.specs.declared.request.LineFault.TheVariants.{Eof, Read, TooLong, Syntax, File, NoMemory}
use Rattle.session_lines.specs.declared.said.Said.{Said}
use Rattle.session_lines.specs.declared.said.Said.TheVariants as said
use Rattle.farm_session.specs.Routed.{is_line_of, tenant_number, routed_to, routed_of}
use Rattle.farm_replay.specs.Output.{Answered, told_under, Parts, opening, part_of, Saying, Next, says, answered, who_in, Marked, is_unread, next, lines_for, parts_after}
use Rattle.farm_replay.specs.Isolation.{whose, is_of, place_if, seat_of, is_members, own_lines, own_requests, EachReplaysAlone, ReplaysAreIsolated, EachLoneReplaysAlone}

-- ---- names

bytes_are : (one other : List ℕ) → same_bytes one other ≡ true → one ≡ other
bytes_are one other h = (same_bytes_is one other).0 h

-- a place has one name
one_name : (config : ConfigData) (one other : List ℕ) (t : ℕ) → tenant_number one config ≡ Some t → tenant_number other config ≡ Some t → one ≡ other
one_name config one other t h k =
    let a = position-Some (is_line_of one) config.tenants t no_terms h in
    let b = position-Some (is_line_of other) config.tenants t no_terms k in
    sym (bytes_are (terms_in config t).name one a.1) ∙ bytes_are (terms_in config t).name other b.1

-- ---- parts that agree for one purse, which may have different numbers

-- the same line, and the parts agree as before
record IsSame (p q : ℕ) (one other : Next) : Type 0 where
  line : one.line ≡ other.line
  agree : one.parts p ≡ other.parts q

-- a tenant whose place is k of purse p
record IsSeated (config : ConfigData) (p k t : ℕ) : Type 0 where
  purse : purse_in config t ≡ p
  place : place_in config t ≡ k

some_is : (a b : ℕ) → Some a ≡ Some b → a ≡ b
some_is a b e = cc e

seated : (config : ConfigData) (p k t : ℕ) → place_if config p (Some t) ≡ Some k → IsSeated config p k t
seated config p k t = by (purse_in config t == p) refl
  where
    by : (b : Bool) → (purse_in config t == p) ≡ b → cond b (Some (place_in config t)) None ≡ Some k → IsSeated config p k t
    by true is h = record { purse = eqb-true (purse_in config t) p is; place = some_is (place_in config t) k h }
    by false is h = absurd (cc)

-- what is said to it, and its purse then
own_asked : (config : ConfigData) (refused : Bool) (parts : Parts) (who : List ℕ) (ask : Ask) (p k t : ℕ) → IsSeated config p k t
    → let it : Answered = told_under refused (seat (parts p) k) ask in
    (let n : Next = answered config refused parts (routed_to who ask (Some t)) in
    (n.line ≡ record { who = Some who; said = it.said }) × (n.parts p ≡ with_seat (parts p) k it.after))
own_asked config refused parts who ask p k t at =
    let said : ℕ → ℕ → Answered = λ x y. told_under refused (seat (parts x) y) ask in
    let told : said (purse_in config t) (place_in config t) ≡ said p k = ap (λ x. said x (place_in config t)) at.purse ∙ ap (said p) at.place in
    let first = purse_in config t in (
      ap (λ (x : Answered). let l : Saying = record { who = Some who; said = x.said } in l) told,
      ap (λ b. cond b (with_seat (parts first) (place_in config t) (said first (place_in config t)).after) (parts p)) (eq-eqb p first (sym at.purse))
          ∙ ap (λ x. with_seat (parts x) (place_in config t) (said x (place_in config t)).after) at.purse
          ∙ ap (λ y. with_seat (parts p) y (said p y).after) at.place,
    )

same_asked : (config elsewhere : ConfigData) (refused : Bool) (one other : Parts) (who : List ℕ) (ask : Ask) (p q : ℕ) (t s k : Option ℕ) → place_if config p t ≡ k → place_if elsewhere q s ≡ k
    → is_some k ≡ true → one p ≡ other q → IsSame p q (answered config refused one (routed_to who ask t)) (answered elsewhere refused other (routed_to who ask s))
same_asked config elsewhere refused one other who ask p q t s None at there own h = absurd (cc)
same_asked config elsewhere refused one other who ask p q None s (Some k) at there own h = absurd (cc)
same_asked config elsewhere refused one other who ask p q (Some t) None (Some k) at there own h = absurd (cc)
same_asked config elsewhere refused one other who ask p q (Some t) (Some s) (Some k) at there own h =
    let here = own_asked config refused one who ask p k t (seated config p k t at) in
    let over = own_asked elsewhere refused other who ask q k s (seated elsewhere q k s there) in
    let said : Purse → Answered = λ x. told_under refused (seat x k) ask in
    record {
      line = here.0 ∙ ap (λ (x : Purse). let l : Saying = record { who = Some who; said = (said x).said } in l) h ∙ sym over.0;
      agree = here.1 ∙ ap (λ (x : Purse). with_seat x k (said x).after) h ∙ sym over.1;
    }

-- bytes that are no request are answered alike on every farm, and change nothing
pub settled : (fault : LineFault) → (words : Said) × ((config : ConfigData) (refused : Bool) (parts : Parts) → answered config refused parts (routed_of config (Err fault)) ≡ says (who_in (Err fault)) words parts)
settled Eof = (said.Syntax, λ config refused parts. refl)
settled Read = (said.Syntax, λ config refused parts. refl)
settled (TooLong who) = (said.LongLine, λ config refused parts. refl)
settled (Syntax who) = (said.Syntax, λ config refused parts. refl)
settled (File who fault) = (said.File fault, λ config refused parts. refl)
settled (NoMemory who) = (said.Reply reply.NoMemory, λ config refused parts. refl)

abbrev SameSeats : ConfigData → ConfigData → ℕ → ℕ → Type 0
SameSeats config elsewhere p q = (who : List ℕ) → seat_of config p who ≡ seat_of elsewhere q who

same_answered : (config elsewhere : ConfigData) (refused : Bool) (one other : Parts) (p q : ℕ) → SameSeats config elsewhere p q → (answer : Result Request LineFault)
    → is_members config p (who_in answer) ≡ true → one p ≡ other q → IsSame p q (answered config refused one (routed_of config answer)) (answered elsewhere refused other (routed_of elsewhere answer))
same_answered config elsewhere refused one other p q seats (Ok request) own h =
    same_asked config elsewhere refused one other request.who (ask_of request.what) p q (tenant_number request.who config) (tenant_number request.who elsewhere) (seat_of config p request.who) refl (sym (seats request.who)) own h
same_answered config elsewhere refused one other p q seats (Err fault) own h =
    let here = (settled fault).1 config refused one in
    let there = (settled fault).1 elsewhere refused other in
    record { line = ap (λ (n : Next). n.line) here ∙ sym (ap (λ (n : Next). n.line) there); agree = ap (λ (n : Next). n.parts p) here ∙ h ∙ sym (ap (λ (n : Next). n.parts q) there) }

-- the line of a request, by whether its text is unread
abbrev next_if : Bool → ConfigData → Parts → Marked → Next
next_if unread config parts m =
    if unread then says (who_in m.item.answer) (said.Reply reply.NoMemory) parts
    else answered config m.refused parts (routed_of config m.item.answer)

same_next : (config elsewhere : ConfigData) (one other : Parts) (p q : ℕ) → SameSeats config elsewhere p q → (m : Marked) → is_members config p (whose m) ≡ true → one p ≡ other q
    → IsSame p q (next config one m) (next elsewhere other m)
same_next config elsewhere one other p q seats m own h = elim (is_unread m) as (λ unread. IsSame p q (next_if unread config one m) (next_if unread elsewhere other m)) [
  | true ↦ record { line = refl; agree = h }
  | false ↦ same_answered config elsewhere m.refused one other p q seats m.item.answer own h
]

-- another's request leaves the purse as it is
apart_asked : (config : ConfigData) (refused : Bool) (parts : Parts) (who : List ℕ) (ask : Ask) (p : ℕ) (t : Option ℕ) → is_some (place_if config p t) ≡ false
    → (answered config refused parts (routed_to who ask t)).parts p ≡ parts p
apart_asked config refused parts who ask p None other = refl
apart_asked config refused parts who ask p (Some t) other =
    let first = purse_in config t in
    let moved : Purse = with_seat (parts first) (place_in config t) (told_under refused (part_of config parts t) ask).after in
    ap (λ b. cond b moved (parts p))
    (elim (p == first) as (λ b. (p == first) ≡ b → b ≡ false) [
      | true ↦ λ e.
          let seat_is : is_some (place_if config p (Some t)) ≡ true = ap (λ b. is_some (cond b (Some (place_in config t)) None)) (eq-eqb first p (sym (eqb-true p first e))) in
          absurd (both_ways (is_some (place_if config p (Some t))) other seat_is)
      | false ↦ λ _. refl
    ] refl)

apart_answered : (config : ConfigData) (refused : Bool) (parts : Parts) (p : ℕ) (answer : Result Request LineFault) → is_members config p (who_in answer) ≡ false
    → (answered config refused parts (routed_of config answer)).parts p ≡ parts p
apart_answered config refused parts p (Ok request) other = apart_asked config refused parts request.who (ask_of request.what) p (tenant_number request.who config) other
apart_answered config refused parts p (Err fault) other = ap (λ (n : Next). n.parts p) ((settled fault).1 config refused parts)

apart_next : (config : ConfigData) (parts : Parts) (p : ℕ) (m : Marked) → is_members config p (whose m) ≡ false → (next config parts m).parts p ≡ parts p
apart_next config parts p m other =
    elim (is_unread m) as (λ unread. (next_if unread config parts m).parts p ≡ parts p) [ true ↦ refl | false ↦ apart_answered config m.refused parts p m.item.answer other ]

-- ---- lines

asked_who : (config : ConfigData) (refused : Bool) (p : Parts) (who : List ℕ) (ask : Ask) (t : Option ℕ) → (answered config refused p (routed_to who ask t)).line.who ≡ Some who
asked_who config refused p who ask None = refl
asked_who config refused p who ask (Some t) = refl

answered_who : (config : ConfigData) (refused : Bool) (p : Parts) (answer : Result Request LineFault) → (answered config refused p (routed_of config answer)).line.who ≡ who_in answer
answered_who config refused p (Ok request) = asked_who config refused p request.who (ask_of request.what) (tenant_number request.who config)
answered_who config refused p (Err fault) = ap (λ (n : Next). n.line.who) ((settled fault).1 config refused p)

pub next_who : (config : ConfigData) (p : Parts) (m : Marked) → (next config p m).line.who ≡ whose m
next_who config p m = elim (is_unread m) as (λ unread. (next_if unread config p m).line.who ≡ whose m) [ true ↦ refl | false ↦ answered_who config m.refused p m.item.answer ]

own_by : (config elsewhere : ConfigData) (one other : Parts) (p q : ℕ) → SameSeats config elsewhere p q → (requests : List Marked) → one p ≡ other q
    → own_lines config p (lines_for config one requests) ≡ lines_for elsewhere other (own_requests config p requests)
own_by config elsewhere one other p q seats [] h = refl
own_by config elsewhere one other p q seats (m ∷ ms) h =
    let line = (next config one m).line in
    let rest = lines_for config (next config one m).parts ms in
    ap (λ w. cond (is_members config p w) (line ∷ own_lines config p rest) (own_lines config p rest)) (next_who config one m)
    ∙ elim (is_members config p (whose m)) as (λ b. is_members config p (whose m) ≡ b
    → cond b (line ∷ own_lines config p rest) (own_lines config p rest) ≡ lines_for elsewhere other (cond b (m ∷ own_requests config p ms) (own_requests config p ms))) [
      | true ↦ λ own.
          let same = same_next config elsewhere one other p q seats m own h in
          ap (λ l. l ∷ own_lines config p rest) same.line
          ∙ ap (λ ls. (next elsewhere other m).line ∷ ls) (own_by config elsewhere (next config one m).parts (next elsewhere other m).parts p q seats ms same.agree)
      | false ↦ λ apart. own_by config elsewhere (next config one m).parts other p q seats ms (apart_next config one p m apart ∙ h)
    ] refl

pub each_replays_alone : EachReplaysAlone
each_replays_alone config requests p = own_by config config (opening config) (opening config) p p (λ who. refl) requests refl

pub replays_are_isolated : ReplaysAreIsolated
replays_are_isolated config elsewhere requests others p q begins seats own =
    own_by config elsewhere (opening config) (opening elsewhere) p q seats requests begins
    ∙ ap (lines_for elsewhere (opening elsewhere)) own
    ∙ sym (each_replays_alone elsewhere others q)

-- ---- the purse at the end

parts_by : (config elsewhere : ConfigData) (one other : Parts) (p q : ℕ) → SameSeats config elsewhere p q → (requests : List Marked) → one p ≡ other q
    → parts_after config one requests p ≡ parts_after elsewhere other (own_requests config p requests) q
parts_by config elsewhere one other p q seats [] h = h
parts_by config elsewhere one other p q seats (m ∷ ms) h =
    elim (is_members config p (whose m)) as (λ b. is_members config p (whose m) ≡ b
    → parts_after config (next config one m).parts ms p ≡ parts_after elsewhere other (cond b (m ∷ own_requests config p ms) (own_requests config p ms)) q) [
      | true ↦ λ own. parts_by config elsewhere (next config one m).parts (next elsewhere other m).parts p q seats ms (same_next config elsewhere one other p q seats m own h).agree
      | false ↦ λ apart. parts_by config elsewhere (next config one m).parts other p q seats ms (apart_next config one p m apart ∙ h)
    ] refl

-- a purse is left alike by two replays that are alike for it
pub parts_are_isolated : (config elsewhere : ConfigData) (requests others : List Marked) (p q : ℕ) → opened_purse config p ≡ opened_purse elsewhere q → SameSeats config elsewhere p q
    → own_requests config p requests ≡ own_requests elsewhere q others → parts_after config (opening config) requests p ≡ parts_after elsewhere (opening elsewhere) others q
parts_are_isolated config elsewhere requests others p q begins seats own =
    parts_by config elsewhere (opening config) (opening elsewhere) p q seats requests begins
    ∙ ap (λ ms. parts_after elsewhere (opening elsewhere) ms q) own
    ∙ sym (parts_by elsewhere elsewhere (opening elsewhere) (opening elsewhere) q q (λ who. refl) others refl)

-- ---- a tenant that has its purse for itself

-- its purse's only name is its own
lone_name : (config : ConfigData) (name who : List ℕ) (t : ℕ) → tenant_number name config ≡ Some t → IsLone config t → is_members config (purse_in config t) (Some who) ≡ same_bytes who name
lone_name config name who t at lone = by (tenant_number who config) refl (same_bytes who name) refl
  where
    by : (found : Option ℕ) → tenant_number who config ≡ found → (same : Bool) → same_bytes who name ≡ same → is_some (place_if config (purse_in config t) found) ≡ same
    by None is true same =
        let none : None ≡ Some t = sym is ∙ ap (λ n. tenant_number n config) (bytes_are who name same) ∙ at in absurd (cc)
    by None is false same = refl
    by (Some u) is true same =
        let here : Some u ≡ Some t = sym is ∙ ap (λ n. tenant_number n config) (bytes_are who name same) ∙ at in
        let tenant : u ≡ t = some_is u t here in
        ap (λ b. is_some (cond b (Some (place_in config u)) None)) (eq-eqb (purse_in config u) (purse_in config t) (ap (purse_in config) tenant))
    by (Some u) is false same =
        ap (λ b. is_some (cond b (Some (place_in config u)) None))
        (elim (purse_in config u == purse_in config t) as (λ b. (purse_in config u == purse_in config t) ≡ b → b ≡ false) [
          | true ↦ λ e.
              let names = purse_names config.tenants in
              let tenant : u ≡ t = ⊎_elim (λ (d : u ≡ t). d) (λ (d : is_shared (purse_name names u) (purse_name names t) ≡ true). lone u d) (apart names u t (eqb-true (purse_in config u) (purse_in config t) e)) in
              let one : who ≡ name = one_name config who name t (is ∙ ap (λ n. Some n) tenant) at in
              absurd (both_ways (same_bytes who name) same ((same_bytes_is who name).1 one))
          | false ↦ λ _. refl
        ] refl)

lone_is : (config : ConfigData) (name : List ℕ) (t : ℕ) → tenant_number name config ≡ Some t → IsLone config t → (who : Option (List ℕ)) → is_of name who ≡ is_members config (purse_in config t) who
lone_is config name t at lone None = refl
lone_is config name t at lone (Some who) = sym (lone_name config name who t at lone)

same_filter : {A : Type 0} (f g : A → Bool) (xs : List A) → ((x : A) → f x ≡ g x) → filter f xs ≡ filter g xs
same_filter f g [] same = refl
same_filter {A} f g (x ∷ xs) same = ap (λ (b : Bool). cond b (x ∷ filter f xs) (filter f xs)) (same x) ∙ ap (λ (ys : List A). cond (g x) (x ∷ ys) ys) (same_filter f g xs same)

pub each_lone_replays_alone : EachLoneReplaysAlone
each_lone_replays_alone config requests name t at lone =
    let p = purse_in config t in
    let is = lone_is config name t at lone in
    same_filter (λ (line : Saying). is_of name line.who) (λ (line : Saying). is_members config p line.who) (lines_for config (opening config) requests) (λ line. is line.who)
    ∙ each_replays_alone config requests p
    ∙ ap (lines_for config (opening config)) (sym (same_filter (λ (m : Marked). is_of name (whose m)) (λ (m : Marked). is_members config p (whose m)) requests (λ m. is (whose m))))
