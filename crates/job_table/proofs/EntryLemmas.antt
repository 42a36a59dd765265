-- The jobs and the links in a map of which an entry was written.
use Rattle.std.proofs.Common.{◌≡◌, ℕ, Bool, true, false, cond, ◌==◌, List, [], ◌∷◌, Option, Some, None, option_map, refl, sym, ap, ◌∙◌, subst}
use Rattle.std.specs.Map.{lookup, set_value}
use Rattle.std.proofs.lemmas.Bool.{and_parts, eqb-true}
use Rattle.std.proofs.lemmas.Map.Steps.{set_value_same}
use Rattle.job_table.specs.Table.{is_key}
use Rattle.job_table.specs.Queue.{jobs_in, links_at, AreRelinked}
use Rattle.job_table.specs.declared.queue.Links.{Links}
use Rattle.job_table.specs.declared.queue.Linked.{Linked}
use Rattle.job_table.proofs.QueueLemmas.{key_sym}

pub jobs_lookup : {J : Type 0} (p : ℕ × ℕ → Bool) (es : List ((ℕ × ℕ) × Linked J)) → lookup p (jobs_in es) ≡ option_map (λ e. e.job) (lookup p es)
jobs_lookup p [] = refl
jobs_lookup p (e ∷ es) = case (p e.0) (jobs_lookup p es)
  where
    case : (b : Bool) → lookup p (jobs_in es) ≡ option_map (λ e. e.job) (lookup p es) → cond b (Some e.1.job) (lookup p (jobs_in es)) ≡ option_map (λ e. e.job) (cond b (Some e.1) (lookup p es))
    case true later = refl
    case false later = later

pub jobs_set : {J : Type 0} (p : ℕ × ℕ → Bool) (es : List ((ℕ × ℕ) × Linked J)) (w : Linked J) → jobs_in (set_value p es w) ≡ set_value p (jobs_in es) w.job
jobs_set p [] w = refl
jobs_set p (e ∷ es) w = case (p e.0) (jobs_set p es w)
  where
    case : (b : Bool) → jobs_in (set_value p es w) ≡ set_value p (jobs_in es) w.job
        → jobs_in (cond b ((e.0, w) ∷ es) (e ∷ set_value p es w)) ≡ cond b ((e.0, w.job) ∷ jobs_in es) ((e.0, e.1.job) ∷ set_value p (jobs_in es) w.job)
    case true later = refl
    case false later = ap (λ xs. (e.0, e.1.job) ∷ xs) later

-- the jobs stay where only links are written
pub jobs_stay : {J : Type 0} (p : ℕ × ℕ → Bool) (es news : List ((ℕ × ℕ) × Linked J)) (old w : Linked J) → lookup p es ≡ Some old → w.job ≡ old.job → news ≡ set_value p es w → jobs_in news ≡ jobs_in es
jobs_stay p es news old w found same is =
    ap jobs_in is ∙ jobs_set p es w ∙ set_value_same p (jobs_in es) w.job (jobs_lookup p es ∙ ap (option_map (λ e. e.job)) found ∙ ap Some (sym same))

-- links that are not changed
same : (o : Option Links) → o ≡ option_map (λ l. l) o
same None = refl
same (Some l) = refl

relinked_case : {J : Type 0} (t s u n : ℕ) (change : Links → Links) (es : List ((ℕ × ℕ) × Linked J)) (old w : Linked J) (b : Bool) → is_key t s (u, n) ≡ b → lookup (is_key t s) es ≡ Some old → w.links ≡ change old.links
    → option_map (λ e. e.links) (cond b (Some w) (lookup (is_key u n) es)) ≡ option_map (λ l. cond b (change l) l) (links_at u n es)
relinked_case t s u n change es old w true e found is =
    let parts = and_parts (t == u) (s == n) e in
    let t_is : t ≡ u = eqb-true t u parts.0 in
    let s_is : s ≡ n = eqb-true s n parts.1 in
    let here : lookup (is_key u n) es ≡ Some old = ap (λ v. lookup (is_key v n) es) (sym t_is) ∙ ap (λ m. lookup (is_key t m) es) (sym s_is) ∙ found in
    ap Some is ∙ ap (λ o. option_map change (option_map (λ e. e.links) o)) (sym here)
relinked_case t s u n change es old w false e found is = same (links_at u n es)

pub relinked : {J : Type 0} (t s : ℕ) (change : Links → Links) (es news : List ((ℕ × ℕ) × Linked J)) (old w : Linked J) → lookup (is_key t s) es ≡ Some old → w.links ≡ change old.links
    → ((u n : ℕ) → lookup (is_key u n) news ≡ cond (is_key t s (u, n)) (Some w) (lookup (is_key u n) es)) → AreRelinked (Some (t, s)) change es news
relinked t s change es news old w found is up u n =
    ap (option_map (λ e. e.links)) (up u n) ∙ relinked_case t s u n change es old w (is_key t s (u, n)) refl found is ∙ ap (λ b. option_map (λ l. cond b (change l) l) (links_at u n es)) (key_sym t s u n)

-- where a key is not there, nothing is written
absent_case : {J : Type 0} (t s u n : ℕ) (change : Links → Links) (es : List ((ℕ × ℕ) × Linked J)) (b : Bool) → is_key u n (t, s) ≡ b → lookup (is_key t s) es ≡ None
    → links_at u n es ≡ option_map (λ l. cond b (change l) l) (links_at u n es)
absent_case t s u n change es true e gone =
    let parts = and_parts (u == t) (n == s) e in
    let t_is : u ≡ t = eqb-true u t parts.0 in
    let s_is : n ≡ s = eqb-true n s parts.1 in
    let none : links_at u n es ≡ None = ap (λ v. links_at v n es) t_is ∙ ap (λ m. links_at t m es) s_is ∙ ap (option_map (λ e. e.links)) gone in
    none ∙ ap (option_map change) (sym none)
absent_case t s u n change es false e gone = same (links_at u n es)

pub absent : {J : Type 0} (t s : ℕ) (change : Links → Links) (es : List ((ℕ × ℕ) × Linked J)) → lookup (is_key t s) es ≡ None → AreRelinked (Some (t, s)) change es es
absent t s change es gone u n = absent_case t s u n change es (is_key u n (t, s)) refl gone

pub relinked_at : {J : Type 0} (key : ℕ × ℕ) (given : Option (ℕ × ℕ)) (change : Links → Links) (es news : List ((ℕ × ℕ) × Linked J)) → given ≡ Some key → AreRelinked (Some (key.0, key.1)) change es news → AreRelinked given change es news
relinked_at key given change es news is all = subst (λ o. AreRelinked o change es news) (sym is) all
