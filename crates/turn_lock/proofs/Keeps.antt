-- Each step of the lock keeps its rule.
use Rattle.std.proofs.Common.{◌≡◌, ◌≢◌, ◌⊎◌, ℕ, zero, suc, ◌+◌, ◌<◌, ◌≤◌, List, [], ◌∷◌, ◌++◌, length, map, set, get_or, drop, eqb, Option, Some, None, IfSome, refl, sym, ap, ◌∙◌, subst, ⊎_elim, inl, inr, arith, length-set, length-append, get_or-set_same, append-nil, append_assoc}
use Rattle.std.proofs.lemmas.List.{map-append}
use mathlib.Core.List.{IsPrefix}
use mathlib.Core.Option.{some, some-injective, some-ne-none}
use lib.ListN.{get_elem?}
use lib.Seq.{set-get_or}
use prog.Atomic.{either}
use Rattle.atomic_table.specs.Table.{State, Me, Step, step, keeps, takes, gives, stepped, Allows, Splits, Joins, Final, Seen, opening}
use Rattle.atomic_table.proofs.Lists.{at_set, at_longer, set_here, set_else, set_again, exchanged}
use Rattle.turn_lock.specs.declared.view.View.{View}
use Rattle.turn_lock.specs.declared.view.Stage.{Stage}
use Rattle.turn_lock.specs.declared.view.Stage.TheVariants.{Spent, New, Idle, Turn, Joined}
use Rattle.turn_lock.specs.History.{listed, tagged, events_of, entries_of, LegalFrom, IsLegal}
use Rattle.turn_lock.specs.Rule.{opened, spent, Knows, FitsAt, IsKept}
use Rattle.turn_lock.specs.Plays.{having_split, split_off, numbered, taking_in, having_seen, having_begun, having_ended, having_made, told, Holds, MayEnd, Called, AreCalled, Ended, took, released, BothSeen, learned}
use Rattle.turn_lock.specs.Values.{Keeps as Kept', AreKept}
use Rattle.turn_lock.proofs.Histories.{events_of-append, events_of-tagged, entries_of-append, entries_of-own, entries_of-others, drop-own, prefix_self, prefix_longer, prefix_further, tagged-append, legal-more, legal-longer}

-- the number below the length at which something stands
pub at_below : {A : Type 0} (l : List A) (i : ℕ) (a : A) → get_elem? l i ≡ some a → i < length l
at_below [] i a e = absurd (some-ne-none a (sym e))
at_below (x ∷ xs) zero a e = omega arith
at_below (x ∷ xs) (suc i) a e = let r = at_below xs i a e in omega arith

module _ {E : Type 0} where
  pub knows_more : (log : List (ℕ × E)) (by j : ℕ) (es : List E) (seen mine : List (ℕ × E)) → by ≢ j → Knows log j seen mine → Knows (log ++ tagged by es) j seen mine
  knows_more log by j es seen mine apart k =
      (prefix_longer seen log (tagged by es) k.0, k.1, entries_of-append j log (tagged by es) ∙ (ap (λ l. entries_of j log ++ l) (entries_of-others by j es apart) ∙ (append-nil (entries_of j log) ∙ k.2)))

module _ {O E : Type 0} where
  -- what a pass other than `me` knows stays so
  pub others : (word holder word' holder' : ℕ) (log log' : List (ℕ × E)) (o : O) (views : List (View O E)) (me : ℕ) (v w : View O E)
      → get_elem? views me ≡ some v → (v.stage ≡ Spent → ⊥)
      → ((j : ℕ) (seen mine : List (ℕ × E)) → me ≢ j → Knows log j seen mine → Knows log' j seen mine)
      → ((j : ℕ) → j ≢ me → word ≢ 0 → j ≡ holder → (word' ≢ 0) × (holder ≡ holder') × (log ≡ log'))
      → (j : ℕ) (u : View O E) → j ≢ me → (st : Stage E) → FitsAt word holder log o views j u st → FitsAt word' holder' log' o (set views me w) j u st
  others word holder word' holder' log log' o views me v w at live more turn j u apart Spent f = tt
  others word holder word' holder' log log' o views me v w at live more turn j u apart New f = ((f.0.0, more j u.seen u.mine (λ e. apart (sym e)) f.0.1), f.1)
  others word holder word' holder' log log' o views me v w at live more turn j u apart Idle f = ((f.0.0, more j u.seen u.mine (λ e. apart (sym e)) f.0.1), f.1)
  others word holder word' holder' log log' o views me v w at live more turn j u apart Turn f = let t = turn j apart f.2 f.3 in
      ((f.0.0, more j u.seen u.mine (λ e. apart (sym e)) f.0.1), f.1, t.0, f.3 ∙ t.1, f.4 ∙ t.2)
  others word holder word' holder' log log' o views me v w at live more turn j u apart (Joined other seen mine) f =
      let off : me ≢ other = λ e. live (ap (λ (x : View O E). x.stage) (some-injective v spent (sym at ∙ (ap (get_elem? views) e ∙ f.4)))) in
      ((f.0.0, more j u.seen u.mine (λ e. apart (sym e)) f.0.1), f.1, f.2, more other seen mine off f.3, set_else views me other w (λ e. off (sym e)) ∙ f.4)

  pub each_fits : (word holder : ℕ) (log : List (ℕ × E)) (o : O) (views views' : List (View O E)) (me : ℕ) (w : View O E)
      → FitsAt word holder log o views' me w w.stage
      → ((j : ℕ) (u : View O E) → j ≢ me → get_elem? views j ≡ some u → FitsAt word holder log o views' j u u.stage)
      → (j : ℕ) (u : View O E) → get_elem? (set views me w) j ≡ some u → FitsAt word holder log o views' j u u.stage
  each_fits word holder log o views views' me w mine rest j u e =
      ⊎_elim (λ (t : (j ≡ me) × (w ≡ u)). subst (λ (x : ℕ × View O E). FitsAt word holder log o views' x.0 x.1 x.1.stage) (λ i. (sym t.0 i, t.1 i)) mine)
      (λ (t : (j ≢ me) × (get_elem? views j ≡ some u)). rest j u t.0 t.1)
      (at_set views me j w u e)

module _ {O E : Type 0} where
  -- a pass after this number of calls, which made these events
  abbrev pub having_called : View O E → ℕ → List E → View O E
  having_called v count es = record v { stage = Idle; seen = v.seen ++ tagged v.number es; mine = v.mine ++ tagged v.number es; calls = v.calls + count }

  pub called_none : (v : View O E) → v.stage ≡ Idle → having_called v 0 [] ≡ v
  called_none v idle =
      let calls : v.calls + 0 ≡ v.calls = omega arith in
      λ i. record v { stage = sym idle i; seen = append-nil v.seen i; mine = append-nil v.mine i; calls = calls i }

  pub called_one : (v : View O E) (es : List E) (count : ℕ) (new : List E) → having_called (having_made v v.seen es) count new ≡ having_called v (suc count) (es ++ new)
  called_one v es count new =
      let all : (xs : List (ℕ × E)) → (xs ++ tagged v.number es) ++ tagged v.number new ≡ xs ++ tagged v.number (es ++ new) = λ xs. append_assoc xs (tagged v.number es) (tagged v.number new) ∙ ap (λ l. xs ++ l) (sym (tagged-append v.number es new)) in
      let calls : (v.calls + 1) + count ≡ v.calls + suc count = omega arith in
      λ i. record v { stage = Idle; seen = all v.seen i; mine = all v.mine i; calls = calls i }

module _ {T O E C A : Type 0} (opening_of : T → O) (events : T → List E) (relation : O → List E → C → Option E → A → Type 0) (o : O) where
  abbrev Rule : State (Option T) (View O E) → Type 0
  Rule = IsKept opening_of events relation o

  abbrev Seat' : Type 0
  Seat' = Me (Option T) (View O E)

  pub begins : (t : T) → events t ≡ [] → opening_of t ≡ o → Rule (opening (0 ∷ []) (Some t ∷ []) (opened o))
  begins t none is = record {
    log = [];
    holder = 0;
    one_word = refl;
    legal = tt;
    at_home = λ _. (t, refl, none, is);
    fits = first;
    later = λ _ _. refl;
  }
    where
      first : (by : ℕ) (v : View O E) → get_elem? (opened o ∷ []) by ≡ some v → FitsAt 0 0 [] o (opened o ∷ []) by v v.stage
      first zero v e = subst (λ (u : View O E). FitsAt 0 0 [] o (opened o ∷ []) 0 u u.stage) (some-injective _ _ e) ((refl, (([], refl), refl, refl)), refl)
      first (suc by) v e = absurd (some-ne-none v (sym e))

  -- a step that changes no word
  unmoved : (s : State (Option T) (View O E)) (k : Rule s) (id : ℕ) (c : List (ℕ × Option T)) (v w : View O E) → get_elem? s.views id ≡ some v → (v.stage ≡ Spent → ⊥)
      → FitsAt (get_or s.words 0 0) k.holder k.log o (set s.views id w) id w w.stage → Rule (stepped s 0 (get_or s.words 0 0) id c w keeps)
  unmoved s k id c v w at live mine = subst (λ (ws : List ℕ). Rule record { words = ws; homes = s.homes; views = set s.views id w }) (sym (set-get_or s.words 0 0)) record {
    log = k.log;
    holder = k.holder;
    one_word = k.one_word;
    legal = k.legal;
    at_home = k.at_home;
    fits = each_fits (get_or s.words 0 0) k.holder k.log o s.views (set s.views id w) id w mine
        (λ j u apart e. others (get_or s.words 0 0) k.holder (get_or s.words 0 0) k.holder k.log k.log o s.views id v w at live (λ _ _ _ _ x. x) (λ _ _ held _. (held, refl, refl)) j u apart u.stage (k.fits j u e));
    later = λ by le. k.later by (subst (λ (n : ℕ). n ≤ by) (length-set s.views id w) le);
  }

  -- a new pass learns its number
  pub tells : (slots id : ℕ) (m : Seat') → m.0.stage ≡ New → (st : Step (Option T)) → Allows Rule slots id m 0 (λ n. n) (told st m)
  tells slots id m new st s k wide at fits_word =
      let f = subst (λ (x : Stage E). FitsAt (get_or s.words 0 0) k.holder k.log o s.views id m.0 x) new (k.fits id m.0 at) in
      (numbered m.0 id, keeps, tt, unmoved s k id m.1 m.0 (numbered m.0 id) at (λ e. absurd (cc (e, new))) (f.0, refl), ((λ e. f.1 (sym e)), refl, f.0.1.1))

  -- a pass that took in another learns what it had seen
  pub learns : (slots id : ℕ) (v w : View O E) (m : Seat') → m.0 ≡ taking_in v w → (st : Step (Option T)) → Allows Rule slots id m 0 (λ n. n) (learned relation st m)
  learns slots id v w m is st s k wide at fits_word =
      let joined : m.0.stage ≡ Joined w.number w.seen w.mine = ap (λ (x : View O E). x.stage) is in
      let f = subst (λ (x : Stage E). FitsAt (get_or s.words 0 0) k.holder k.log o s.views id m.0 x) joined (k.fits id m.0 at) in
      let x = having_seen m.0 Idle k.log in
      let own : entries_of m.0.number k.log ≡ m.0.mine = subst (λ (n : ℕ). entries_of n k.log ≡ m.0.mine) (sym f.1) f.0.1.2 in (
        x,
        keeps,
        tt,
        unmoved s k id m.1 m.0 x at (λ e. absurd (cc (e, joined))) ((f.0.0, (([], append-nil k.log), f.0.1.2, f.0.1.2)), f.1),
        (
          refl,
          λ v' w' is'.
              let stages : Joined w.number w.seen w.mine ≡ Joined w'.number w'.seen w'.mine = sym joined ∙ ap (λ (y : View O E). y.stage) is' in
              let same : w.number ≡ w'.number = cc stages in
              let same_seen : w.seen ≡ w'.seen = cc stages in
              let same_mine : w.mine ≡ w'.mine = cc stages in
              let number : m.0.number ≡ v'.number = ap (λ (y : View O E). y.number) is' in
              let opening' : m.0.opening ≡ v'.opening = ap (λ (y : View O E). y.opening) is' in
              record {
                after = ap (λ (y : View O E). having_seen y Idle k.log) is';
                this = subst (λ (y : View O E). IsPrefix y.seen k.log) is' f.0.1.0;
                that = subst (λ (l : List (ℕ × E)). IsPrefix l k.log) same_seen f.3.0;
                own = subst (λ (y : View O E). entries_of y.number k.log ≡ y.mine) is' own;
                other_own = subst (λ (n : ℕ). entries_of n k.log ≡ w'.mine) same (f.3.2 ∙ same_mine);
                apart = λ e. f.2 (same ∙ (e ∙ (sym number ∙ f.1)));
                legal = λ o' opens. subst (λ (y : O). IsLegal relation y k.log) (cc (f.0.0, opening', opens)) k.legal;
              },
        ),
      )

  -- the pass takes the turn where the word is 0, and else finds nothing changed
  pub takes_turn : (slots id : ℕ) (m : Seat') → m.0.stage ≡ Idle → m.1 ≡ [] → (st : Step (Option T)) → st.second ≢ 0 → Allows Rule slots id m 0 (λ n. either (eqb n 0) st.second n) (took opening_of events relation st m)
  takes_turn slots id m idle empty st counts s k wide at fits_word =
      let count = st.second in
      let word = get_or s.words 0 0 in
      let f = subst (λ (x : Stage E). FitsAt word k.holder k.log o s.views id m.0 x) idle (k.fits id m.0 at) in
      let live : m.0.stage ≡ Spent → ⊥ = λ e. absurd (cc (e, idle)) in
      let F : ℕ → Type 0 = λ n. (w : View O E) × (a : Rattle.atomic_table.specs.Table.Act (Option T)) × Rattle.atomic_table.specs.Table.Valid s.homes m.1 a × Rule (stepped s 0 n id m.1 w a) × took opening_of events relation st m word (w, Rattle.atomic_table.specs.Table.carried_after m.1 a) in
      exchanged word 0 count F
      (λ free. let h = k.at_home free in
      let w = having_begun m.0 count k.log in
      let put : get_or (set s.words 0 count) 0 0 ≡ count = get_or-set_same s.words 0 count 0 (let one = k.one_word in omega arith) in (
        w,
        takes 0 (Some h.0),
        h.1,
        record {
          log = k.log;
          holder = id;
          one_word = length-set s.words 0 count ∙ k.one_word;
          legal = k.legal;
          at_home = λ z. absurd (counts (sym put ∙ z));
          fits = each_fits (get_or (set s.words 0 count) 0 0) id k.log o s.views (set s.views id w) id w
              ((f.0.0, (([], append-nil k.log), f.0.1.2, f.0.1.2)), f.1, (λ z. counts (sym put ∙ z)), refl, refl)
              (λ j u apart e. others word k.holder (get_or (set s.words 0 count) 0 0) id k.log k.log o s.views id m.0 w at live (λ _ _ _ _ x. x) (λ _ _ held _. absurd (held free)) j u apart u.stage (k.fits j u e));
          later = λ by le. k.later by (subst (λ (n : ℕ). n ≤ by) (length-set s.views id w) le);
        },
        (
          λ _. record {
            value = h.0;
            seen = k.log;
            after = ap (λ l. (w, (0, Some h.0) ∷ l)) empty;
            begins = f.0.1.0;
            has = h.2;
            opened = f.0.0 ∙ ap Some (sym h.3);
            legal = subst (λ (x : O). IsLegal relation x k.log) (sym h.3) k.legal;
            own = subst (λ (n : ℕ). entries_of n k.log ≡ m.0.mine) (sym f.1) f.0.1.2;
          },
          λ ne. absurd (ne free),
        ),
      ))
      (λ held. (m.0, keeps, tt, unmoved s k id m.1 m.0 m.0 at live (subst (λ (vs : List (View O E)). FitsAt word k.holder k.log o vs id m.0 m.0.stage) (sym (set_again s.views id m.0 at)) (k.fits id m.0 at)), ((λ z. absurd (held z)), λ _. refl)))

  -- the pass gives the value back, with its new events, and ends its turn
  pub ends_turn : (slots id : ℕ) (m : Seat') (t : T) (es : List E) → m.0.stage ≡ Turn → m.1 ≡ (0, Some t) ∷ [] → m.0.opening ≡ Some (opening_of t)
      → events t ≡ events_of m.0.seen ++ es → LegalFrom relation (opening_of t) (events_of m.0.seen) es → slots ≡ 1 → (st : Step (Option T)) → Allows Rule slots id m 0 (λ _. 0) (λ _. released opening_of events relation st m 0)
  ends_turn slots id m t es turn has is_open grown stands one_slot st s k wide at fits_word =
      let f = subst (λ (x : Stage E). FitsAt (get_or s.words 0 0) k.holder k.log o s.views id m.0 x) turn (k.fits id m.0 at) in
      let word = get_or s.words 0 0 in
      let is_o : opening_of t ≡ o = cc (is_open, f.0.0) in
      let log' = k.log ++ tagged id es in
      let w = having_ended m.0 es in
      let all : w.seen ≡ log' = (λ i. f.4 i ++ tagged (f.1 i) es) in
      let own : entries_of id log' ≡ w.mine = entries_of-append id k.log (tagged id es) ∙ ((λ i. f.0.1.2 i ++ entries_of-own id es i) ∙ ap (λ (n : ℕ). m.0.mine ++ tagged n es) (sym f.1)) in
      let put : Rattle.atomic_table.specs.Table.homes_after s.homes m.1 gives ≡ set s.homes 0 (some (Some t)) = ap (λ (c : List (ℕ × Option T)). Rattle.atomic_table.specs.Table.put_back s.homes c) has in (
        w,
        gives,
        tt,
        subst (λ (hs : List (mathlib.Core.Option.Option (Option T))). Rule record { words = set s.words 0 0; homes = hs; views = set s.views id w }) (sym put) record {
          log = log';
          holder = k.holder;
          one_word = length-set s.words 0 0 ∙ k.one_word;
          legal = legal-longer relation o id k.log es (subst (λ (x : O). LegalFrom relation x (events_of k.log) es) is_o (subst (λ (l : List (ℕ × E)). LegalFrom relation (opening_of t) (events_of l) es) f.4 stands)) k.legal;
          at_home = λ _. (t, set_here s.homes 0 (some (Some t)) (omega arith), grown ∙ (ap (λ (l : List (ℕ × E)). events_of l ++ es) f.4 ∙ (sym (events_of-append k.log (tagged id es) ∙ ap (λ l. events_of k.log ++ l) (events_of-tagged id es)))), is_o);
          fits = each_fits (get_or (set s.words 0 0) 0 0) k.holder log' o s.views (set s.views id w) id w
              ((f.0.0, (subst (λ (l : List (ℕ × E)). IsPrefix l log') (sym all) (prefix_self log'), subst (λ (l : List (ℕ × E)). entries_of id l ≡ w.mine) (sym all) own, own)), f.1)
              (λ j u apart is. others word k.holder (get_or (set s.words 0 0) 0 0) k.holder k.log log' o s.views id m.0 w at (λ x. absurd (cc (x, turn)))
              (λ i seen mine off kn. knows_more k.log id i es seen mine off kn) (λ i off held here. absurd (off (here ∙ sym f.3))) j u apart u.stage (k.fits j u is));
          later = λ by le.
              let le' : length s.views ≤ by = subst (λ (n : ℕ). n ≤ by) (length-set s.views id w) le in
              let below = at_below s.views id m.0 at in
              entries_of-append by k.log (tagged id es) ∙ (λ i. k.later by le' i ++ entries_of-others id by es (λ (x : id ≡ by). absurd (omega arith)) i);
        },
        λ t' has'. let pairs : (0, Some t) ≡ (0, Some t') = cc (has, has') in
            let values : Some t ≡ Some t' = ap (λ (x : ℕ × Option T). x.1) pairs in
            let same : t ≡ t' = cc values in
            let d : drop (length m.0.seen) (events t') ≡ es = ap (λ (x : T). drop (length m.0.seen) (events x)) (sym same) ∙ (ap (drop (length m.0.seen)) grown ∙ drop-own m.0.seen es) in
            λ i. (having_ended m.0 (sym d i), rest' m.1 t has i),
      )
    where
      rest' : (c : List (ℕ × Option T)) (x : T) → c ≡ (0, Some x) ∷ [] → Rattle.atomic_table.specs.Table.rest c ≡ []
      rest' c x is = ap (λ (l : List (ℕ × Option T)). Rattle.atomic_table.specs.Table.rest l) is

  -- a pass is cut in two
  pub splits : (id : ℕ) (v : View O E) → v.stage ≡ Idle → Splits Rule id v (having_split v) (split_off v)
  splits id v idle s k at =
      let word = get_or s.words 0 0 in
      let f = subst (λ (x : Stage E). FitsAt word k.holder k.log o s.views id v x) idle (k.fits id v at) in
      let w = having_split v in
      let views' = set s.views id w in
      let n = length views' in
      let same : n ≡ length s.views = length-set s.views id w in
      let below = at_below s.views id v at in
      record {
        log = k.log;
        holder = k.holder;
        one_word = k.one_word;
        legal = k.legal;
        at_home = k.at_home;
        fits = fits_snoc word k.holder k.log views' (split_off v)
            (each_fits word k.holder k.log o s.views views' id w (subst (λ (x : Stage E). FitsAt word k.holder k.log o views' id w x) (sym idle) (f.0, f.1))
            (λ j u apart e. others word k.holder word k.holder k.log k.log o s.views id v w at (λ x. absurd (cc (x, idle))) (λ _ _ _ _ x. x) (λ _ _ held _. (held, refl, refl)) j u apart u.stage (k.fits j u e)))
            (λ (none : entries_of n k.log ≡ []). ((f.0.0, (f.0.1.0, seen_none k.log n v.seen f.0.1.0 none, none)), (λ (x : v.number ≡ n). absurd (omega arith))))
            (k.later n (omega arith));
        later = λ by le. k.later by (omega (arith, length-append views' (split_off v ∷ [])));
      }
    where
      nothing : (xs ys : List (ℕ × E)) → xs ++ ys ≡ [] → xs ≡ []
      nothing [] ys e = refl
      nothing (x ∷ xs) ys e = absurd cc

      seen_none : (log : List (ℕ × E)) (by : ℕ) (seen : List (ℕ × E)) → IsPrefix seen log → entries_of by log ≡ [] → entries_of by seen ≡ []
      seen_none log by seen p none = nothing (entries_of by seen) (entries_of by p.0) (sym (entries_of-append by seen p.0) ∙ (ap (entries_of by) p.1 ∙ none))

      longer : (word holder : ℕ) (log : List (ℕ × E)) (views : List (View O E)) (w : View O E) (j : ℕ) (u : View O E) (st : Stage E) → FitsAt word holder log o views j u st → FitsAt word holder log o (views ++ w ∷ []) j u st
      longer word holder log views w j u Spent h = tt
      longer word holder log views w j u New h = h
      longer word holder log views w j u Idle h = h
      longer word holder log views w j u Turn h = h
      longer word holder log views w j u (Joined other seen mine) h = (h.0, h.1, h.2, h.3, at_longer views (w ∷ []) other spent h.4)

      snoc_at : (views : List (View O E)) (w u : View O E) (j : ℕ) → get_elem? (views ++ w ∷ []) j ≡ some u → (get_elem? views j ≡ some u) ⊎ ((j ≡ length views) × (w ≡ u))
      snoc_at [] w u zero e = inr (refl, some-injective w u e)
      snoc_at [] w u (suc j) e = absurd (some-ne-none u (sym e))
      snoc_at (x ∷ xs) w u zero e = inl e
      snoc_at (x ∷ xs) w u (suc j) e = ⊎_elim (λ t. inl t) (λ (t : (j ≡ length xs) × (w ≡ u)). inr (ap suc t.0, t.1)) (snoc_at xs w u j e)

      fits_snoc : (word holder : ℕ) (log : List (ℕ × E)) (views : List (View O E)) (w : View O E)
          → ((j : ℕ) (u : View O E) → get_elem? views j ≡ some u → FitsAt word holder log o views j u u.stage)
          → (entries_of (length views) log ≡ [] → FitsAt word holder log o (views ++ w ∷ []) (length views) w w.stage)
          → entries_of (length views) log ≡ []
          → (j : ℕ) (u : View O E) → get_elem? (views ++ w ∷ []) j ≡ some u → FitsAt word holder log o (views ++ w ∷ []) j u u.stage
      fits_snoc word holder log views w old new none j u e = ⊎_elim
          (λ (h : get_elem? views j ≡ some u). longer word holder log views w j u u.stage (old j u h))
          (λ (t : (j ≡ length views) × (w ≡ u)). subst (λ (x : ℕ × View O E). FitsAt word holder log o (views ++ w ∷ []) x.0 x.1 x.1.stage) (λ i. (sym t.0 i, t.1 i)) (new none))
          (snoc_at views w u j e)

  -- one pass takes in another
  pub joins : (id other : ℕ) (v w : View O E) → v.stage ≡ Idle → w.stage ≡ Idle → Joins Rule id v other w (taking_in v w) spent
  joins id other v w idle idle' s k at apart there =
      let word = get_or s.words 0 0 in
      let both = taking_in v w in
      let views1 = set s.views id both in
      let f = subst (λ (x : Stage E). FitsAt word k.holder k.log o s.views id v x) idle (k.fits id v at) in
      let there' : get_elem? s.views other ≡ some w = sym (set_else s.views id other both apart) ∙ there in
      let h = subst (λ (x : Stage E). FitsAt word k.holder k.log o s.views other w x) idle' (k.fits other w there') in
      record {
        log = k.log;
        holder = k.holder;
        one_word = k.one_word;
        legal = k.legal;
        at_home = k.at_home;
        fits = each_fits word k.holder k.log o views1 (set views1 other spent) other spent tt
            (λ j u off e. ⊎_elim
            (λ (t : (j ≡ id) × (both ≡ u)). subst (λ (x : ℕ × View O E). FitsAt word k.holder k.log o (set views1 other spent) x.0 x.1 x.1.stage) (λ i. (sym t.0 i, t.1 i)) (
              f.0,
              f.1,
              (λ (x : w.number ≡ id). apart (sym h.1 ∙ x)),
              subst (λ (n : ℕ). Knows k.log n w.seen w.mine) (sym h.1) h.0.1,
              ap (get_elem? (set views1 other spent)) h.1 ∙ set_here views1 other spent (at_below views1 other w there),
            ))
            (λ (t : (j ≢ id) × (get_elem? s.views j ≡ some u)).
            others word k.holder word k.holder k.log k.log o views1 other w spent there (λ x. absurd (cc (x, idle'))) (λ _ _ _ _ x. x) (λ _ _ held _. (held, refl, refl)) j u off u.stage
            (others word k.holder word k.holder k.log k.log o s.views id v both at (λ x. absurd (cc (x, idle))) (λ _ _ _ _ x. x) (λ _ _ held _. (held, refl, refl)) j u t.0 u.stage (k.fits j u t.1)))
            (at_set s.views id j both u e));
        later = λ by le. k.later by (subst (λ (n : ℕ). n ≤ by) (length-set views1 other spent ∙ length-set s.views id both) le);
      }

  -- what is left at the end
  pub ends : (v : View O E) (id : ℕ) (ws : List ℕ) (xs : List (Option T)) (t : T) → v.stage ≡ Idle → Final (Seen Rule id v) ws xs → get_or ws 0 0 ≡ 0 → get_elem? xs 0 ≡ some (Some t) → Ended opening_of events relation v t
  ends v id ws xs t idle end free here =
      let s = end.0 in
      let k = end.1.0 in
      let f = subst (λ (x : Stage E). FitsAt (get_or s.words 0 0) k.holder k.log o s.views id v x) idle (k.fits id v end.1.1) in
      let h = k.at_home (ap (λ (l : List ℕ). get_or l 0 0) end.2 ∙ free) in
      let put = end.4 0 (Some h.0) h.1 in
      let values : Some h.0 ≡ Some t = some-injective (Some h.0) (Some t) (sym put ∙ here) in
      let same : h.0 ≡ t = cc values in
      let is_o : opening_of t ≡ o = ap opening_of (sym same) ∙ h.3 in
      record {
        log = k.log;
        begins = f.0.1.0;
        has = ap events (sym same) ∙ h.2;
        own = subst (λ (n : ℕ). entries_of n k.log ≡ v.mine) (sym f.1) f.0.1.2;
        opened = f.0.0 ∙ ap Some (sym is_o);
        legal = subst (λ (x : O). IsLegal relation x k.log) (sym is_o) k.legal;
      }

  -- the new events of steps one after another, and what a pass knows after them
  pub record Steps (u : View O E) (t : T) (calls : List C) (answers : List A) (t' : T) : Type 0 where
    pub new : List E
    pub same : opening_of t' ≡ opening_of t
    pub grown : events t' ≡ events t ++ new
    pub legal : LegalFrom relation (opening_of t) (events t) new
    pub called : AreCalled relation u calls answers (having_called u (length calls) new)

  legal_listed : (x : O) (l : List E) (call : C) (answer : A) (e : Option E) (new : List E) → relation x l call e answer → LegalFrom relation x (l ++ listed e) new → LegalFrom relation x l (listed e ++ new)
  legal_listed x l call answer None new stands legal = subst (λ (b : List E). LegalFrom relation x b new) (append-nil l) legal
  legal_listed x l call answer (Some e) new stands legal = ((call, answer, stands), legal)

  -- a pass that has seen the value's history, and makes calls
  pub steps : (calls : List C) (answers : List A) (u : View O E) (t t' : T) → u.stage ≡ Idle → u.opening ≡ Some (opening_of t) → events t ≡ events_of u.seen → IsLegal relation (opening_of t) u.seen → entries_of u.number u.seen ≡ u.mine
      → AreKept opening_of events relation t calls answers t' → Steps u t calls answers t'
  steps [] [] u t t' idle opens has legal own kept = record {
    new = [];
    same = ap opening_of kept;
    grown = ap events kept ∙ sym (append-nil (events t));
    legal = tt;
    called = called_none u idle;
  }
  steps [] (answer ∷ answers) u t t' idle opens has legal own kept = absurd kept
  steps (call ∷ calls) [] u t t' idle opens has legal own kept = absurd kept
  steps (call ∷ calls) (answer ∷ answers) u t t' idle opens has legal own kept =
      let mid = kept.0 in
      let first = kept.1 in
      let e = first.1.0 in
      let es = listed e in
      let stands : relation (opening_of t) (events_of u.seen) call e answer = subst (λ (l : List E). relation (opening_of t) l call e answer) has first.1.2 in
      let v = having_made u u.seen es in
      let legal' : IsLegal relation (opening_of t) v.seen = legal-more relation (opening_of t) call answer u.number u.seen e stands legal in
      let own' : entries_of u.number v.seen ≡ v.mine = entries_of-append u.number u.seen (tagged u.number es) ∙ (λ i. own i ++ entries_of-own u.number es i) in
      let has' : events mid ≡ events_of v.seen = first.1.1 ∙ (ap (λ l. l ++ es) has ∙ (ap (λ l. events_of u.seen ++ l) (sym (events_of-tagged u.number es)) ∙ sym (events_of-append u.seen (tagged u.number es)))) in
      let rest = steps calls answers v mid t' refl (opens ∙ ap Some (sym first.0)) has' (subst (λ (x : O). IsLegal relation x v.seen) (sym first.0) legal') own' kept.2 in
      record {
        new = es ++ rest.new;
        same = rest.same ∙ first.0;
        grown = rest.grown ∙ (ap (λ l. l ++ rest.new) first.1.1 ∙ append_assoc (events t) es rest.new);
        legal = legal_listed (opening_of t) (events t) call answer e rest.new first.1.2 (subst (λ (l : List E). LegalFrom relation (opening_of t) l rest.new) first.1.1 (subst (λ (x : O). LegalFrom relation x (events mid) rest.new) first.0 rest.legal));
        called = (
          v,
          record {
            opening = opening_of t;
            before = u.seen;
            event = e;
            opened = opens;
            begins = prefix_self u.seen;
            after = refl;
            stands = stands;
            legal = legal';
            own = own';
          },
          subst (AreCalled relation v calls answers) (called_one u es (length calls) rest.new) rest.called,
        );
      }

  -- a pass that has seen less makes the first call too
  called_from : (v u : View O E) (call : C) (answer : A) (w : View O E) → u ≡ having_seen v Idle u.seen → IsPrefix v.seen u.seen → Called relation u call answer w → Called relation v call answer w
  called_from v u call answer w is begins h =
      let number : u.number ≡ v.number = ap (λ (x : View O E). x.number) is in
      record {
        opening = h.opening;
        before = h.before;
        event = h.event;
        opened = sym (ap (λ (x : View O E). x.opening) is) ∙ h.opened;
        begins = prefix_further v.seen u.seen h.before begins h.begins;
        after = h.after ∙ ap (λ (x : View O E). having_made x h.before (listed h.event)) is;
        stands = h.stands;
        legal = h.legal;
        own = subst (λ (n : ℕ). entries_of n w.seen ≡ w.mine) number h.own;
      }

  -- what the value did in a turn
  pub turn : (v : View O E) (count : ℕ) (value value' : T) (n : Seat') (calls : List C) (answers : List A) → (h : Holds opening_of events relation v count value n)
      → AreKept opening_of events relation value calls answers value' → Steps (having_seen v Idle h.seen) value calls answers value'
  turn v count value value' n calls answers h kept = steps calls answers (having_seen v Idle h.seen) value value' refl h.opened h.has h.legal h.own kept

  -- after the calls the value may go back
  pub may_end : (v : View O E) (count : ℕ) (value value' : T) (n : Seat') (calls : List C) (answers : List A) → Holds opening_of events relation v count value n
      → AreKept opening_of events relation value calls answers value' → MayEnd opening_of events relation n.0 value'
  may_end v count value value' n calls answers h kept =
      let all = turn v count value value' n calls answers h kept in
      let seen : h.seen ≡ n.0.seen = ap (λ (x : Seat'). x.0.seen) (sym h.after) in
      record {
        new = all.new;
        opened = ap (λ (x : Seat'). x.0.opening) h.after ∙ (h.opened ∙ ap Some (sym all.same));
        has = all.grown ∙ ap (λ l. l ++ all.new) (h.has ∙ ap events_of seen);
        legal = subst (λ (x : O). LegalFrom relation x (events_of n.0.seen) all.new) (sym all.same)
            (subst (λ (l : List E). LegalFrom relation (opening_of value) l all.new) (h.has ∙ ap events_of seen) all.legal);
      }

  -- what the pass knows after the calls
  pub calls_made : (v : View O E) (count : ℕ) (value value' : T) (n w : Seat') (call : C) (calls : List C) (answers : List A) → v.stage ≡ Idle → count ≡ length (call ∷ calls) → Holds opening_of events relation v count value n
      → AreKept opening_of events relation value (call ∷ calls) answers value'
      → w ≡ (having_ended n.0 (drop (length n.0.seen) (events value')), []) → AreCalled relation v (call ∷ calls) answers w.0
  calls_made v count value value' n w call calls [] idle all h kept made = absurd kept
  calls_made v count value value' n w call calls (answer ∷ answers) idle all h kept made =
      let so = turn v count value value' n (call ∷ calls) (answer ∷ answers) h kept in
      let u = having_seen v Idle h.seen in
      let rest' : drop (length h.seen) (events value') ≡ so.new = ap (λ (l : List E). drop (length h.seen) l) (so.grown ∙ ap (λ l. l ++ so.new) h.has) ∙ drop-own h.seen so.new in
      let P : Seat' → View O E = λ x. having_ended x.0 (drop (length x.0.seen) (events value')) in
      let after : w.0 ≡ having_called u (length (call ∷ calls)) so.new = ap (λ (x : Seat'). x.0) made ∙ (ap P h.after ∙ (ap (having_ended (having_begun v count h.seen)) rest' ∙ ap (λ (k : ℕ). having_called u k so.new) all)) in
      let made' : AreCalled relation u (call ∷ calls) (answer ∷ answers) w.0 = subst (AreCalled relation u (call ∷ calls) (answer ∷ answers)) (sym after) so.called in
      (made'.0, called_from v u call answer made'.0 refl h.begins made'.1, made'.2)

  -- the calls of a turn, if there are any
  pub all_made : (v : View O E) (count : ℕ) (value value' : T) (n w : Seat') (calls : List C) (answers : List A) → v.stage ≡ Idle → count ≡ length calls → 0 < count → Holds opening_of events relation v count value n
      → AreKept opening_of events relation value calls answers value'
      → w ≡ (having_ended n.0 (drop (length n.0.seen) (events value')), []) → AreCalled relation v calls answers w.0
  all_made v count value value' n w [] answers idle all some' h kept made = absurd (omega (arith, all, some'))
  all_made v count value value' n w (call ∷ calls) answers idle all some' h kept made = calls_made v count value value' n w call calls answers idle all h kept made

  kept_more : (t mid u : T) (calls : List C) (answers : List A) (call : C) (answer : A) → AreKept opening_of events relation t calls answers mid → Kept' opening_of events relation mid call answer u
      → AreKept opening_of events relation t (calls ++ call ∷ []) (answers ++ answer ∷ []) u
  kept_more t mid u [] [] call answer kept next = (u, subst (λ (x : T). Kept' opening_of events relation x call answer u) kept next, refl)
  kept_more t mid u [] (a ∷ answers) call answer kept next = absurd kept
  kept_more t mid u (c ∷ calls) [] call answer kept next = absurd kept
  kept_more t mid u (c ∷ calls) (a ∷ answers) call answer kept next = (kept.0, kept.1, kept_more kept.0 mid u calls answers call answer kept.2 next)

  -- one query more of a turn
  pub made_more : {Query Reply : Type 0} (asked : Query → C) (replied : Reply → A) (t mid u : T) (done done' : List Query) (replies replies' : List Reply) (query : Query) (reply : Reply)
      → AreKept opening_of events relation t (map asked done) (map replied replies) mid → Kept' opening_of events relation mid (asked query) (replied reply) u → done' ≡ done ++ query ∷ [] → replies' ≡ replies ++ reply ∷ []
      → AreKept opening_of events relation t (map asked done') (map replied replies') u
  made_more asked replied t mid u done done' replies replies' query reply kept next further grown =
      subst (λ (x : List C × List A). AreKept opening_of events relation t x.0 x.1 u) (λ i. ((sym (map-append asked done (query ∷ [])) ∙ ap (map asked) (sym further)) i, (sym (map-append replied replies (reply ∷ [])) ∙ ap (map replied) (sym grown)) i))
      (kept_more t mid u (map asked done) (map replied replies) (asked query) (replied reply) kept next)

  -- the end of a turn, once the value is back in the slot
  pub ends_turn_as : (slots id : ℕ) (m n : Seat') (value : T) → m.0.stage ≡ Turn → m.1 ≡ (0, None) ∷ [] → n ≡ (m.0, (0, Some value) ∷ Rattle.atomic_table.specs.Table.rest m.1) → MayEnd opening_of events relation m.0 value → slots ≡ 1
      → (st : Step (Option T)) → Allows Rule slots id n 0 (λ _. 0) (λ _. released opening_of events relation st n 0)
  ends_turn_as slots id m n value turn out back h one_slot st =
      let to : n ≡ (m.0, (0, Some value) ∷ []) = back ∙ ap (λ (l : List (ℕ × Option T)). (m.0, (0, Some value) ∷ Rattle.atomic_table.specs.Table.rest l)) out in
      subst (λ (x : Seat'). Allows Rule slots id x 0 (λ _. 0) (λ _. released opening_of events relation st x 0)) (sym to)
      (ends_turn slots id (m.0, (0, Some value) ∷ []) value h.new turn refl h.opened h.has h.legal one_slot st)

  -- one pass has taken in another
  pub both_seen : (v w : View O E) (m n : Seat') (st : Step (Option T)) → m.0 ≡ taking_in v w → learned relation st m 0 n → BothSeen relation v w n.0
  both_seen v w m n st is told = told.1 v w is

  pub both_seen_at : (v v' w w' n : View O E) → v' ≡ v → w' ≡ w → BothSeen relation v' w' n → BothSeen relation v w n
  both_seen_at v v' w w' n is is' b = subst (λ (x : View O E × View O E). BothSeen relation x.0 x.1 n) (λ i. (is i, is' i)) b

  pub called_at : (v v' w : View O E) (calls : List C) (answers : List A) → v' ≡ v → AreCalled relation v' calls answers w → AreCalled relation v calls answers w
  called_at v v' w calls answers is h = subst (λ (x : View O E). AreCalled relation x calls answers w) is h

  -- one call alone
  pub one_called : (v w : View O E) (call : C) (answer : A) → AreCalled relation v (call ∷ []) (answer ∷ []) w → Called relation v call answer w
  one_called v w call answer h = subst (Called relation v call answer) (sym h.2) h.1

  -- what is left, where the word was 0
  pub ends_with : (v v' : View O E) (id : ℕ) (ws : List ℕ) (xs : List (Option T)) (word : ℕ) (value : Option T) → v' ≡ v → v'.stage ≡ Idle → Final (Seen Rule id v') ws xs → get_elem? ws 0 ≡ some word → word ≡ 0 → get_elem? xs 0 ≡ some value
      → IfSome value (Ended opening_of events relation v)
  ends_with v v' id ws xs word None is idle end first free here = tt
  ends_with v v' id ws xs word (Some t) is idle end first free here = subst (λ (x : View O E). Ended opening_of events relation x t) is (ends v' id ws xs t idle end (read ws word first ∙ free) here)
    where
      read : (ws : List ℕ) (word : ℕ) → get_elem? ws 0 ≡ some word → get_or ws 0 0 ≡ word
      read [] word e = absurd (some-ne-none word (sym e))
      read (x ∷ xs) word e = some-injective x word e
