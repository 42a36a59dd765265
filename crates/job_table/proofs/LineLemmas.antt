-- The queue as a job leaves it or comes last, and that its links lead along all that stand in it.
use Rattle.std.proofs.Common.{◌≡◌, ℕ, ◌-◌, ◌≤◌, Bool, true, false, cond, List, [], ◌∷◌, ◌++◌, length, Option, Some, None, is_some, option_map, not, refl, sym, ap, ◌∙◌, subst, arith}
use mathlib.Core.Bool.{beq}
use Rattle.job_table.specs.Table.{is_key, without, waiting_then, first_of, behind}
use Rattle.job_table.specs.Queue.{last_of, ahead, is_named}
use Rattle.job_table.specs.Queue.{links_at, behind_in, along, line_of, links_in, no_links, IsLinked, AreRelinked, with_first, joined, one_gone, one_come, lengthened}
use Rattle.job_table.specs.declared.queue.Links.{Links}
use Rattle.job_table.specs.declared.queue.Queue.{Queue}
use Rattle.job_table.specs.declared.queue.Linked.{Linked}
use Rattle.job_table.proofs.LinkLemmas.{AreOnce, once_rest, once_first, behind_none, ahead_none, first_not, behind_without, ahead_without, first_out, last_out, first_push, last_push, last_not, behind_push, behind_pushed, ahead_push, ahead_pushed}
use Rattle.job_table.proofs.QueueLemmas.{at_key, key_sym, times, times_first, key_is, out_same, out_other, out_length, push_same, push_other, push_length}

-- the keys along the links, where these name the neighbours
walk : {J : Type 0} (es : List ((ℕ × ℕ) × Linked J)) (keys : List (ℕ × ℕ)) → AreOnce keys → ((u n : ℕ) → times u n keys ≡ 1 → behind_in (links_at u n es) ≡ behind u n keys) → along (length keys) (first_of keys) es ≡ keys
walk es [] once links = refl
walk es (key ∷ keys) once links =
    let is : is_key key.0 key.1 key ≡ true = key_is key.0 key.1 in
    let none : times key.0 key.1 keys ≡ 0 = once_first key.0 key.1 key keys once is in
    let one : times key.0 key.1 (key ∷ keys) ≡ 1 = omega (arith, times_first key.0 key.1 key keys true is, none) in
    let next : behind_in (links_at key.0 key.1 es) ≡ first_of keys = links key.0 key.1 one ∙ ap (λ b. cond b (first_of keys) (behind key.0 key.1 keys)) is in
    ap (λ o. key ∷ along (length keys) o es) next ∙ ap (λ ks. key ∷ ks) (walk es keys (once_rest key keys once) (λ u n here. links u n (one_later u n key keys once here) ∙ ap (λ b. cond b (first_of keys) (behind u n keys)) (not_first u n key keys (is_key u n key) refl once here)))
  where
    not_first : (u n : ℕ) (key : ℕ × ℕ) (keys : List (ℕ × ℕ)) (b : Bool) → is_key u n key ≡ b → AreOnce (key ∷ keys) → times u n keys ≡ 1 → b ≡ false
    not_first u n key keys true e once here = absurd (omega (arith, once_first u n key keys once e, here))
    not_first u n key keys false e once here = refl

    one_case : (u n : ℕ) (key : ℕ × ℕ) (keys : List (ℕ × ℕ)) (b : Bool) → is_key u n key ≡ b → AreOnce (key ∷ keys) → times u n keys ≡ 1 → times u n (key ∷ keys) ≡ 1
    one_case u n key keys true e once here = absurd (omega (arith, once_first u n key keys once e, here))
    one_case u n key keys false e once here = omega (arith, times_first u n key keys false e, here)

    one_later : (u n : ℕ) (key : ℕ × ℕ) (keys : List (ℕ × ℕ)) → AreOnce (key ∷ keys) → times u n keys ≡ 1 → times u n (key ∷ keys) ≡ 1
    one_later u n key keys once here = one_case u n key keys (is_key u n key) refl once here

-- what an answer has, where there is one
record HasLinks (o : Option Links) : Type 0 where
  links : Links
  is : o ≡ Some links

has_links : (o : Option Links) → is_some o ≡ true → HasLinks o
has_links None some = absurd (cc)
has_links (Some l) some = record { links = l; is = refl }

pub line_is : {J : Type 0} (es : List ((ℕ × ℕ) × Linked J)) (queue : Queue) (keys : List (ℕ × ℕ)) → IsLinked es queue keys → line_of es queue ≡ keys
line_is es queue keys linked =
    ap (λ n. along n queue.first es) linked.len ∙ ap (λ o. along (length keys) o es) linked.first
    ∙ walk es keys linked.once (λ u n here. let has = has_links (links_at u n es) (linked.there u n here) in ap behind_in has.is ∙ ap (λ (l : Links). l.behind) (linked.links u n has.links has.is))

pub same_links : (a b : Links) → a.before ≡ b.before → a.behind ≡ b.behind → a ≡ b
same_links a b p q = ap (λ o. let l : Links = record { before = o; behind = a.behind } in l) p ∙ ap (λ o. let l : Links = record { before = b.before; behind = o } in l) q

some_of : {A B : Type 0} (f : A → B) (o : Option A) (b : B) → option_map f o ≡ Some b → (a : A) × (o ≡ Some a) × (b ≡ f a)
some_of f None b is = absurd (cc)
some_of f (Some a) b is = (a, refl, cc)

is_some_of : {A B : Type 0} (f : A → B) (o : Option A) → is_some (option_map f o) ≡ is_some o
is_some_of f None = refl
is_some_of f (Some a) = refl

-- a key that goes is not its own neighbour
ahead_self : (before : Option (ℕ × ℕ)) (t s : ℕ) (keys : List (ℕ × ℕ)) → is_named before t s ≡ false → is_named (ahead before t s keys) t s ≡ false
ahead_self before t s [] not = refl
ahead_self before t s (key ∷ keys) not = self_case before t s key keys (is_key t s key) refl not (λ e. ahead_self (Some key) t s keys e)
  where
    self_case : (before : Option (ℕ × ℕ)) (t s : ℕ) (key : ℕ × ℕ) (keys : List (ℕ × ℕ)) (b : Bool) → is_key t s key ≡ b → is_named before t s ≡ false → (is_key t s key ≡ false → is_named (ahead (Some key) t s keys) t s ≡ false)
        → is_named (cond b before (ahead (Some key) t s keys)) t s ≡ false
    self_case before t s key keys true e not later = not
    self_case before t s key keys false e not later = later e

behind_self : (t s : ℕ) (keys : List (ℕ × ℕ)) → AreOnce keys → is_named (behind t s keys) t s ≡ false
behind_self t s [] once = refl
behind_self t s (key ∷ keys) once = self_case t s key keys (is_key t s key) refl once (behind_self t s keys (once_rest key keys once))
  where
    self_case : (t s : ℕ) (key : ℕ × ℕ) (keys : List (ℕ × ℕ)) (b : Bool) → is_key t s key ≡ b → AreOnce (key ∷ keys) → is_named (behind t s keys) t s ≡ false → is_named (cond b (first_of keys) (behind t s keys)) t s ≡ false
    self_case t s key keys true e once later = first_not t s keys (once_first t s key keys once e)
    self_case t s key keys false e once later = later

-- the links of all jobs once one has left the queue: its own, where it is still there, name none
pub record HasLeft {J : Type 0} (t s : ℕ) (es news : List ((ℕ × ℕ) × Linked J)) : Type 0 where
  pub own : (l : Links) → links_at t s news ≡ Some l → l ≡ no_links
  pub others : (u n : ℕ) → is_key t s (u, n) ≡ false → links_at u n news ≡ links_at u n es

less_first : (links : Links) (queue : Queue) → (one_gone links queue).first ≡ cond (is_some links.before) queue.first links.behind
less_first links queue = case links.before links.behind
  where
    case : (before behind : Option (ℕ × ℕ)) → (one_gone (record { before = before; behind = behind }) queue).first ≡ cond (is_some before) queue.first behind
    case None None = refl
    case None (Some b) = refl
    case (Some a) None = refl
    case (Some a) (Some b) = refl

less_last : (links : Links) (queue : Queue) → (one_gone links queue).last ≡ cond (is_some links.behind) queue.last links.before
less_last links queue = case links.before links.behind
  where
    case : (before behind : Option (ℕ × ℕ)) → (one_gone (record { before = before; behind = behind }) queue).last ≡ cond (is_some behind) queue.last before
    case None None = refl
    case None (Some b) = refl
    case (Some a) None = refl
    case (Some a) (Some b) = refl

less_len : (links : Links) (queue : Queue) → (one_gone links queue).len ≡ queue.len - 1
less_len links queue = refl

pub left : {J : Type 0} (t s : ℕ) (es mid news : List ((ℕ × ℕ) × Linked J)) (queue new : Queue) (keys : List (ℕ × ℕ)) (links : Links) → IsLinked es queue keys → times t s keys ≡ 1 → links ≡ links_in t s keys → HasLeft t s es mid
    → ((u n : ℕ) → links_at u n news ≡ option_map (joined links u n) (links_at u n mid)) → new ≡ one_gone links queue → IsLinked news new (without t s keys)
left t s es mid news queue new keys links linked one are gone join after =
    let before_is : links.before ≡ ahead None t s keys = ap (λ (l : Links). l.before) are in
    let behind_is : links.behind ≡ behind t s keys = ap (λ (l : Links). l.behind) are in
    record {
      first = ap (λ (q : Queue). q.first) after ∙ less_first links queue ∙ ap (λ o. cond (is_some o) queue.first links.behind) before_is ∙ ap (λ o. cond (is_some (ahead None t s keys)) queue.first o) behind_is
          ∙ ap (λ o. cond (is_some (ahead None t s keys)) o (behind t s keys)) linked.first ∙ sym (first_out t s keys one);
      last = ap (λ (q : Queue). q.last) after ∙ less_last links queue ∙ ap (λ o. cond (is_some o) queue.last links.before) behind_is ∙ ap (λ o. cond (is_some (behind t s keys)) queue.last o) before_is
          ∙ ap (λ o. cond (is_some (behind t s keys)) o (ahead None t s keys)) linked.last ∙ sym (last_out None t s keys one);
      len = omega (arith, ap (λ (q : Queue). q.len) after, less_len links queue, linked.len, out_length t s keys one);
      once = λ u n. at_key t s u n (is_key t s (u, n)) refl (λ v m. times v m (without t s keys) ≤ 1) (omega (arith, out_same t s keys one)) (λ e. omega (arith, out_other t s u n keys (sym (key_sym t s u n) ∙ e), linked.once u n));
      there = λ u n. at_key t s u n (is_key t s (u, n)) refl (λ v m. times v m (without t s keys) ≡ 1 → is_some (links_at v m news) ≡ true) (λ h. absurd (omega (arith, out_same t s keys one, h)))
          (λ e h. ap is_some (join u n) ∙ is_some_of (joined links u n) (links_at u n mid) ∙ ap is_some (gone.others u n e) ∙ linked.there u n (omega (arith, out_other t s u n keys (sym (key_sym t s u n) ∙ e), h)));
      links = λ u n. at_key t s u n (is_key t s (u, n)) refl (λ v m. (l : Links) → links_at v m news ≡ Some l → l ≡ links_in v m (without t s keys))
          (own t s mid news keys links linked.once one before_is behind_is gone.own (join t s))
          (λ e l is. let it = some_of (joined links u n) (links_at u n mid) l (sym (join u n) ∙ is) in
          let was : it.0 ≡ links_in u n keys = linked.links u n it.0 (sym (gone.others u n e) ∙ it.1) in
          it.2 ∙ ap (joined links u n) was ∙ ap (λ (k : Links). joined k u n (links_in u n keys)) are
          ∙ same_links (joined (links_in t s keys) u n (links_in u n keys)) (links_in u n (without t s keys)) (sym (ahead_without None t s u n keys linked.once e)) (sym (behind_without None t s u n keys linked.once e refl)));
    }
  where
    own : {J : Type 0} (t s : ℕ) (mid news : List ((ℕ × ℕ) × Linked J)) (keys : List (ℕ × ℕ)) (links : Links) → AreOnce keys → times t s keys ≡ 1 → links.before ≡ ahead None t s keys → links.behind ≡ behind t s keys
        → ((l : Links) → links_at t s mid ≡ Some l → l ≡ no_links) → links_at t s news ≡ option_map (joined links t s) (links_at t s mid) → (l : Links) → links_at t s news ≡ Some l → l ≡ links_in t s (without t s keys)
    own t s mid news keys links once one before_is behind_is none join l is =
        let it = some_of (joined links t s) (links_at t s mid) l (sym join ∙ is) in
        let ahead_no : is_named links.before t s ≡ false = ap (λ o. is_named o t s) before_is ∙ ahead_self None t s keys refl in
        let behind_no : is_named links.behind t s ≡ false = ap (λ o. is_named o t s) behind_is ∙ behind_self t s keys once in
        let gone = out_same t s keys one in
        it.2 ∙ ap (joined links t s) (none it.0 it.1)
        ∙ same_links (joined links t s no_links) (links_in t s (without t s keys)) (ap (λ b. cond b links.before None) behind_no ∙ sym (ahead_none None t s (without t s keys) gone))
        (ap (λ b. cond b links.behind None) ahead_no ∙ sym (behind_none t s (without t s keys) gone))

more_first : (t s : ℕ) (queue : Queue) → (one_come t s queue).first ≡ cond (is_some queue.last) queue.first (Some (t, s))
more_first t s queue = case queue.last
  where
    case : (last : Option (ℕ × ℕ)) → (with_first last (Some (t, s)) queue).first ≡ cond (is_some last) queue.first (Some (t, s))
    case None = refl
    case (Some a) = refl

mine_is : (t s : ℕ) (last : Option (ℕ × ℕ)) (l : Links) → is_named last t s ≡ false → lengthened t s last t s l ≡ record { before = last; behind = None }
mine_is t s last l not = let is = key_is t s in rw (is, not) refl

other_is : (t s u n : ℕ) (last : Option (ℕ × ℕ)) (l : Links) → is_key u n (t, s) ≡ false → lengthened t s last u n l ≡ record { before = l.before; behind = cond (is_named last u n) (Some (t, s)) l.behind }
other_is t s u n last l not = rw not (case (is_named last u n))
  where
    case : (b : Bool) → cond b (record l { behind = Some (t, s) }) l ≡ let m : Links = record { before = l.before; behind = cond b (Some (t, s)) l.behind } in m
    case true = refl
    case false = refl

pub pushed : {J : Type 0} (t s : ℕ) (es news : List ((ℕ × ℕ) × Linked J)) (queue new : Queue) (keys : List (ℕ × ℕ)) → IsLinked es queue keys → times t s keys ≡ 0 → is_some (links_at t s es) ≡ true
    → ((u n : ℕ) → links_at u n news ≡ option_map (lengthened t s queue.last u n) (links_at u n es)) → new ≡ one_come t s queue → IsLinked news new (keys ++ (t, s) ∷ [])
pushed t s es news queue new keys linked none there link after =
    let all = keys ++ (t, s) ∷ [] in
    let not : is_named queue.last t s ≡ false = ap (λ o. is_named o t s) linked.last ∙ last_not None t s keys refl none in
    record {
      first = ap (λ (q : Queue). q.first) after ∙ more_first t s queue ∙ ap (λ o. cond (is_some o) queue.first (Some (t, s))) linked.last ∙ ap (λ o. cond (is_some (last_of None keys)) o (Some (t, s))) linked.first ∙ sym (first_push (t, s) keys);
      last = ap (λ (q : Queue). q.last) after ∙ sym (last_push None (t, s) keys);
      len = omega (arith, ap (λ (q : Queue). q.len) after, linked.len, push_length keys (t, s));
      once = λ u n. at_key t s u n (is_key t s (u, n)) refl (λ v m. times v m (keys ++ (t, s) ∷ []) ≤ 1) (omega (arith, push_same t s keys, none)) (λ e. omega (arith, push_other t s u n keys (sym (key_sym t s u n) ∙ e), linked.once u n));
      there = λ u n h. ap is_some (link u n) ∙ is_some_of (lengthened t s queue.last u n) (links_at u n es)
          ∙ at_key t s u n (is_key t s (u, n)) refl (λ v m. times v m (keys ++ (t, s) ∷ []) ≡ 1 → is_some (links_at v m es) ≡ true) (λ one. there) (λ e one. linked.there u n (omega (arith, push_other t s u n keys (sym (key_sym t s u n) ∙ e), one))) h;
      links = λ u n l is. let it = some_of (lengthened t s queue.last u n) (links_at u n es) l (sym (link u n) ∙ is) in
          it.2 ∙ at_key t s u n (is_key t s (u, n)) refl (λ v m. (k : Links) → links_at v m es ≡ Some k → lengthened t s queue.last v m k ≡ links_in v m (keys ++ (t, s) ∷ []))
          (λ k here. mine_is t s queue.last k not ∙ same_links (record { before = queue.last; behind = None }) (links_in t s (keys ++ (t, s) ∷ [])) (linked.last ∙ sym (ahead_pushed None t s keys none)) (sym (behind_pushed t s keys none)))
          (λ e k here. let no : is_key u n (t, s) ≡ false = sym (key_sym t s u n) ∙ e in
          let was : k ≡ links_in u n keys = linked.links u n k here in
          other_is t s u n queue.last k no
          ∙ same_links (record { before = k.before; behind = cond (is_named queue.last u n) (Some (t, s)) k.behind }) (links_in u n (keys ++ (t, s) ∷ [])) (ap (λ (x : Links). x.before) was ∙ sym (ahead_push None (t, s) u n keys no))
          (ap (λ (x : Links). cond (is_named queue.last u n) (Some (t, s)) x.behind) was ∙ ap (λ o. cond (is_named o u n) (Some (t, s)) (behind u n keys)) linked.last ∙ sym (behind_push None (t, s) u n keys linked.once refl no)))
          it.0 it.1;
    }

-- a job whose links were taken from it has left
pub relinked_left : {J : Type 0} (t s : ℕ) (es news : List ((ℕ × ℕ) × Linked J)) → AreRelinked (Some (t, s)) (λ l. no_links) es news → HasLeft t s es news
relinked_left t s es news are = record {
  own = λ l is. let it = some_of (λ l. cond (is_named (Some (t, s)) t s) no_links l) (links_at t s es) l (sym (are t s) ∙ is) in it.2 ∙ ap (λ b. cond b no_links it.0) (key_is t s);
  others = λ u n e. are u n ∙ ap (λ b. option_map (λ l. cond b no_links l) (links_at u n es)) (sym (key_sym t s u n) ∙ e) ∙ same (links_at u n es);
}
  where
    same : (o : Option Links) → option_map (λ l. l) o ≡ o
    same None = refl
    same (Some l) = refl

-- the links that are taken from a job name its neighbours
pub own_links : {J : Type 0} (t s : ℕ) (es : List ((ℕ × ℕ) × Linked J)) (queue : Queue) (keys : List (ℕ × ℕ)) (links : Links) → IsLinked es queue keys → is_some (links_at t s es) ≡ true
    → ((l : Links) → links_at t s es ≡ Some l → links ≡ l) → links ≡ links_in t s keys
own_links t s es queue keys links linked there had =
    let has = has_links (links_at t s es) there in
    had has.links has.is ∙ linked.links t s has.links has.is

-- two that are not the same
pub changed_to : (was is now : Bool) → beq was is ≡ false → is ≡ now → (was ≡ not now) × (is ≡ now)
changed_to true true now differ e = absurd (cc)
changed_to false false now differ e = absurd (cc)
changed_to true false now differ e = (ap not e, e)
changed_to false true now differ e = (ap not e, e)

pub linked_as : {J : Type 0} (t s : ℕ) (was is a b : Bool) (es : List ((ℕ × ℕ) × Linked J)) (queue : Queue) (keys : List (ℕ × ℕ)) → was ≡ a → is ≡ b → IsLinked es queue (waiting_then t s a b keys) → IsLinked es queue (waiting_then t s was is keys)
linked_as t s was is a b es queue keys p q linked = subst (λ x. IsLinked es queue (waiting_then t s x is keys)) (sym p) (subst (λ x. IsLinked es queue (waiting_then t s a x keys)) (sym q) linked)
