-- Lemmas on histories.
use Rattle.std.proofs.Common.{◌≡◌, ◌≢◌, ℕ, suc, List, [], ◌∷◌, ◌++◌, drop, length, cond, Some, Option, None, eqb, ne_eqb, eq-eqb, refl, ap, sym, ◌∙◌, subst, append_assoc, append-nil}
use Rattle.std.proofs.lemmas.List.Elements.{filter-append}
use mathlib.Core.List.{IsPrefix}
use Rattle.turn_lock.specs.History.{listed, tagged, events_of, entries_of, MayFollow, LegalFrom, IsLegal}

module _ {E : Type 0} where
  pub events_of-append : (xs ys : List (ℕ × E)) → events_of (xs ++ ys) ≡ events_of xs ++ events_of ys
  events_of-append [] ys = refl
  events_of-append (x ∷ xs) ys = ap (λ l. x.1 ∷ l) (events_of-append xs ys)

  pub events_of-tagged : (by : ℕ) (es : List E) → events_of (tagged by es) ≡ es
  events_of-tagged by [] = refl
  events_of-tagged by (e ∷ es) = ap (λ l. e ∷ l) (events_of-tagged by es)

  pub length-events_of : (xs : List (ℕ × E)) → length (events_of xs) ≡ length xs
  length-events_of [] = refl
  length-events_of (x ∷ xs) = ap suc (length-events_of xs)

  pub entries_of-append : (by : ℕ) (xs ys : List (ℕ × E)) → entries_of by (xs ++ ys) ≡ entries_of by xs ++ entries_of by ys
  entries_of-append by xs ys = filter-append (λ (x : ℕ × E). eqb x.0 by) xs ys

  pub entries_of-own : (by : ℕ) (es : List E) → entries_of by (tagged by es) ≡ tagged by es
  entries_of-own by [] = refl
  entries_of-own by (e ∷ es) = subst (λ b. cond b ((by, e) ∷ entries_of by (tagged by es)) (entries_of by (tagged by es)) ≡ (by, e) ∷ tagged by es) (sym (eq-eqb by by refl)) (ap (λ l. (by, e) ∷ l) (entries_of-own by es))

  pub entries_of-others : (by other : ℕ) (es : List E) → by ≢ other → entries_of other (tagged by es) ≡ []
  entries_of-others by other [] apart = refl
  entries_of-others by other (e ∷ es) apart = subst (λ b. cond b ((by, e) ∷ entries_of other (tagged by es)) (entries_of other (tagged by es)) ≡ []) (sym (ne_eqb by other apart)) (entries_of-others by other es apart)

  pub drop-own : (xs : List (ℕ × E)) (es : List E) → drop (length xs) (events_of xs ++ es) ≡ es
  drop-own [] es = refl
  drop-own (x ∷ xs) es = drop-own xs es

  pub prefix_self : (xs : List (ℕ × E)) → IsPrefix xs xs
  prefix_self xs = ([], append-nil xs)

  pub prefix_longer : (xs ys zs : List (ℕ × E)) → IsPrefix xs ys → IsPrefix xs (ys ++ zs)
  prefix_longer xs ys zs p = (p.0 ++ zs, sym (append_assoc xs p.0 zs) ∙ ap (λ w. w ++ zs) p.1)

  pub prefix_further : (xs ys zs : List (ℕ × E)) → IsPrefix xs ys → IsPrefix ys zs → IsPrefix xs zs
  prefix_further xs ys zs p q = subst (IsPrefix xs) q.1 (prefix_longer xs ys q.0 p)

  pub tagged-append : (by : ℕ) (es new : List E) → tagged by (es ++ new) ≡ tagged by es ++ tagged by new
  tagged-append by [] new = refl
  tagged-append by (e ∷ es) new = ap (λ l. (by, e) ∷ l) (tagged-append by es new)

module _ {O E C A : Type 0} (relation : O → List E → C → Option E → A → Type 0) where
  pub legal-push : (o : O) (before es : List E) (e : E) → LegalFrom relation o before es → MayFollow relation o (before ++ es) e → LegalFrom relation o before (es ++ e ∷ [])
  legal-push o before [] e l m = (subst (λ b. MayFollow relation o b e) (append-nil before) m, tt)
  legal-push o before (x ∷ es) e l m = (l.0, legal-push o (before ++ x ∷ []) es e l.1 (subst (λ b. MayFollow relation o b e) (sym (append_assoc before (x ∷ []) es)) m))

  -- an event that may follow, or none
  pub legal-more : (o : O) (call : C) (answer : A) (by : ℕ) (log : List (ℕ × E)) (e : Option E) → relation o (events_of log) call e answer → IsLegal relation o log → IsLegal relation o (log ++ tagged by (listed e))
  legal-more o call answer by log None r l = subst (IsLegal relation o) (sym (append-nil log)) l
  legal-more o call answer by log (Some e) r l = subst (LegalFrom relation o []) (sym (events_of-append log ((by, e) ∷ []))) (legal-push o [] (events_of log) e l (call, answer, r))

  -- a legal history, and what may follow it
  pub legal-both : (o : O) (before es new : List E) → LegalFrom relation o before es → LegalFrom relation o (before ++ es) new → LegalFrom relation o before (es ++ new)
  legal-both o before [] new l m = subst (λ b. LegalFrom relation o b new) (append-nil before) m
  legal-both o before (x ∷ es) new l m = (l.0, legal-both o (before ++ x ∷ []) es new l.1 (subst (λ b. LegalFrom relation o b new) (sym (append_assoc before (x ∷ []) es)) m))

  pub legal-longer : (o : O) (by : ℕ) (log : List (ℕ × E)) (new : List E) → LegalFrom relation o (events_of log) new → IsLegal relation o log → IsLegal relation o (log ++ tagged by new)
  legal-longer o by log new follows l = subst (LegalFrom relation o []) (sym (events_of-append log (tagged by new) ∙ ap (λ es. events_of log ++ es) (events_of-tagged by new))) (legal-both o [] (events_of log) new l follows)
