-- What a search of kind Sample shows, by its pass and the best of its whole passes.
use Rattle.std.proofs.Common.{◌≡◌, ℕ, ◌+◌, ◌-◌, ◌*◌, ◌/◌, ◌%◌, ◌<◌, false, List, [], length, map, fold, Option, Some, None, IfSome, option_map, arith, refl, sym, ap, ◌∙◌, subst}
use Rattle.std.specs.List.{range_with_len}
use Rattle.std.proofs.lemmas.Nat.{div-add-mod', div-mul-add, mod-mul-add, mod_below}
use Rattle.std.proofs.Math.Nat.{zero-mod, zero-div}
use Rattle.std.proofs.lemmas.List.FromFn.{map-range_with_len_more}
use Rattle.std.proofs.lemmas.List.Sums.{fold_push}
use Rattle.mrcpsp.specs.Project.{ProjectData, size}
use Rattle.mrcpsp.specs.Schedule.{ScheduleData}
use Rattle.mrcpsp.specs.Placed.{Placed, schedule_of}
use Rattle.strategy.specs.Words.{word_at}
use Rattle.strategy.specs.Pass.{chosen_at, placed_after, pass}
use Rattle.strategy.specs.Outcome.{better, best_pass, all_run, best_after}
use Rattle.strategy.specs.declared.plan.Plan.{Plan}
use Rattle.strategy.specs.declared.kind.Kind.{Kind}
use Rattle.strategy.specs.declared.kind.Kind.TheVariants.{Sample}
use Rattle.serial_pass.specs.Pass.{PassData, after_node}
use Rattle.serial_pass.proofs.PassLemmas.{after-node_more, after-length}
use Rattle.sample_search.specs.Words.{WordsData}
use Rattle.sample_search.specs.Draw.{after_words}

-- ---- passes one after another: k nodes are k / n whole passes and k % n nodes of the next

-- node k ends its pass, and the next node is in the next pass
pub record IsLastNode (k n : ℕ) : Type 0 where
  pub last : k % n + 1 ≡ n
  pub place : (k + 1) % n ≡ 0
  pub number : (k + 1) / n ≡ k / n + 1

-- the next node is in the same pass
pub record IsInnerNode (k n : ℕ) : Type 0 where
  pub place : (k + 1) % n ≡ k % n + 1
  pub number : (k + 1) / n ≡ k / n

inner-node : (k n : ℕ) → k % n + 1 < n → IsInnerNode k n
inner-node k n inner =
    let sum : k + 1 ≡ k / n * n + (k % n + 1) = omega (arith, div-add-mod' k n) in
    record {
      place = ap (λ m. m % n) sum ∙ mod-mul-add (k / n) n (k % n + 1) inner;
      number = ap (λ m. m / n) sum ∙ div-mul-add (k / n) n (k % n + 1) inner;
    }

last-node : (k n : ℕ) → 0 < n → k % n + 1 ≡ n → IsLastNode k n
last-node k n some last =
    let sum : k + 1 ≡ (k / n + 1) * n + 0 = omega (arith, div-add-mod' k n) in
    record {
      last = last;
      place = ap (λ m. m % n) sum ∙ mod-mul-add (k / n + 1) n 0 some;
      number = ap (λ m. m / n) sum ∙ div-mul-add (k / n + 1) n 0 some;
    }

-- the same by the nodes that the pass had left
pub ends-here : (k n left : ℕ) → 0 < n → left + k % n ≡ n → left - 1 ≡ 0 → IsLastNode k n
ends-here k n left some is none = last-node k n some (omega (arith, mod_below k n some))

pub goes-on-here : (k n left : ℕ) → 0 < n → left + k % n ≡ n → (left - 1 ≡ 0 → ⊥) → IsInnerNode k n
goes-on-here k n left some is more = inner-node k n (omega (arith, mod_below k n some))

-- ---- what is placed

-- the nodes of the present pass
abbrev pub placed_at : ProjectData → Kind → ℕ → Option (List Placed)
placed_at p kind k = placed_after p kind (k % size p) (k / size p * size p) []

words-node : (p : ProjectData) (seed i : ℕ) (placed : Option (List Placed)) → after_words p (word_at seed (2 * i)) (word_at seed (2 * i + 1)) placed ≡ after_node p (Sample seed) i placed
unfolding chosen_at
words-node p seed i None = refl
words-node p seed i (Some now) = refl

-- a node with its two words
pub node-placed : (p : ProjectData) (kind : Kind) (seed drawn k : ℕ) (placed : Option (List Placed)) → kind ≡ Sample seed → drawn ≡ 2 * k → placed ≡ placed_at p kind k
    → after_words p (word_at seed drawn) (word_at seed (drawn + 1)) placed ≡ placed_after p kind (k % size p + 1) (k / size p * size p) []
node-placed p kind seed drawn k placed is two known =
    let n = size p in
    let at : k / n * n + k % n ≡ k = div-add-mod' k n in
    ap (λ (d : ℕ). after_words p (word_at seed d) (word_at seed (d + 1)) placed) two
    ∙ words-node p seed k placed
    ∙ ap (λ (kind : Kind). after_node p kind k placed) (sym is)
    ∙ ap (after_node p kind k) known
    ∙ ap (λ (i : ℕ). after_node p kind i (placed_at p kind k)) (sym at)
    ∙ sym (after-node_more p kind (k % n) (k / n * n) [])

-- the same for the pass of a search, whose project is the plan's
pub run-placed : (plan : Plan) (words : WordsData) (before after : PassData) (k : ℕ) → plan.kind ≡ Sample words.seed → words.drawn ≡ 2 * k → before.project ≡ plan.project → before.placed ≡ placed_at plan.project plan.kind k
    → after ≡ record { project = before.project; placed = after_words before.project (word_at words.seed words.drawn) (word_at words.seed (words.drawn + 1)) before.placed }
    → after.placed ≡ placed_after plan.project plan.kind (k % size plan.project + 1) (k / size plan.project * size plan.project) []
run-placed plan words before after k kind two own known run =
    ap (λ (a : PassData). a.placed) run
    ∙ ap (λ (q : ProjectData). after_words q (word_at words.seed words.drawn) (word_at words.seed (words.drawn + 1)) before.placed) own
    ∙ node-placed plan.project plan.kind words.seed words.drawn k before.placed kind two known

-- after the last node of a pass all activities are placed, unless it is void
pub node-whole : (p : ProjectData) (kind : Kind) (k : ℕ) (placed : Option (List Placed)) → IsLastNode k (size p) → placed ≡ placed_after p kind (k % size p + 1) (k / size p * size p) [] → IfSome placed (λ now. length now ≡ size p)
node-whole p kind k placed ends known =
    let n = size p in
    let whole : IfSome (placed_after p kind (k % n + 1) (k / n * n) []) (λ now. length now ≡ length {A = Placed} [] + (k % n + 1)) = after-length p kind (k % n + 1) (k / n * n) [] in
    let sum : length {A = Placed} [] + (k % n + 1) ≡ n = omega (arith, ends.last) in
    let whole_at : ℕ → Type 0 = λ m. IfSome (placed_after p kind (k % n + 1) (k / n * n) []) (λ now. length now ≡ m) in
    let whole_of : Option (List Placed) → Type 0 = λ o. IfSome o (λ now. length now ≡ n) in
    subst whole_of (sym known) (subst whole_at sum whole)

-- ---- the best

-- after one pass more
pub best_pass-more : (p : ProjectData) (kind : Kind) (q : ℕ) → best_pass p kind (q + 1) ≡ better p (best_pass p kind q) (pass p kind q)
unfolding best_pass
best_pass-more p kind q =
    ap (fold (better p) None) (map-range_with_len_more (pass p kind) 0 q q (omega arith))
    ∙ fold_push (better p) None (map (pass p kind) (range_with_len 0 q)) (pass p kind q)

-- the best after a pass that has ended
pub best-ended : (p : ProjectData) (kind : Kind) (k : ℕ) (placed : Option (List Placed)) (best : Option ScheduleData) → IsLastNode k (size p) → placed ≡ placed_after p kind (k % size p + 1) (k / size p * size p) [] → best ≡ best_pass p kind (k / size p)
    → better p best (option_map (schedule_of (size p)) placed) ≡ best_pass p kind ((k + 1) / size p)
unfolding pass
best-ended p kind k placed best ends known shortest =
    let n = size p in
    let q = k / n in
    ap (λ (o : Option (List Placed)). better p best (option_map (schedule_of n) o)) known
    ∙ ap (λ (d : ℕ). better p best (option_map (schedule_of n) (placed_after p kind d (q * n) []))) ends.last
    ∙ ap (λ (b : Option ScheduleData). better p b (pass p kind q)) shortest
    ∙ sym (best_pass-more p kind q)
    ∙ ap (best_pass p kind) (sym ends.number)

-- ---- where a pass begins

pub placed-begins : (p : ProjectData) (kind : Kind) (k : ℕ) → k % size p ≡ 0 → Some [] ≡ placed_at p kind k
placed-begins p kind k begins = ap (λ (d : ℕ). placed_after p kind d (k / size p * size p) []) (sym begins)

pub first-placed : (p : ProjectData) (kind : Kind) → Some [] ≡ placed_at p kind 0
first-placed p kind = placed-begins p kind 0 (zero-mod (size p))

pub best-none : (p : ProjectData) (kind : Kind) → None ≡ best_pass p kind (0 / size p)
unfolding best_pass
best-none p kind = ap (λ (q : ℕ). fold (better p) None (map (pass p kind) (range_with_len 0 q))) (sym (zero-div (size p)))

-- and where it goes on
pub placed-goes-on : (p : ProjectData) (kind : Kind) (k : ℕ) → IsInnerNode k (size p) → placed_after p kind (k % size p + 1) (k / size p * size p) [] ≡ placed_at p kind (k + 1)
placed-goes-on p kind k inner =
    let n = size p in
    ap (λ (d : ℕ). placed_after p kind d (k / n * n) []) (sym inner.place)
    ∙ ap (λ (q : ℕ). placed_after p kind ((k + 1) % n) (q * n) []) (sym inner.number)

-- ---- what is shown

pub all-sample : (plan : Plan) (seed k : ℕ) → plan.kind ≡ Sample seed → false ≡ all_run plan.project plan.kind k
all-sample plan seed k kind = sym (ap (λ (kind : Kind). all_run plan.project kind k) kind)

pub best-sample : (plan : Plan) (seed k : ℕ) → plan.kind ≡ Sample seed → best_pass plan.project plan.kind (k / size plan.project) ≡ best_after plan k
unfolding best_after
best-sample plan seed k kind = rw kind refl
