-- One more predecessor, and one more line.
use Rattle.std.proofs.Common.{◌≡◌, ℕ, suc, ◌+◌, Bool, true, false, cond, List, [], ◌∷◌, ◌++◌, decimal, refl, sym, ap, ◌∙◌, append_assoc, subst, arith}
use Rattle.std.proofs.lemmas.List.{append-nil}
use Rattle.mrcpsp.specs.Project.{ProjectData, precedes}
use Rattle.mrcpsp.specs.Schedule.{ScheduleData}
use Rattle.plan_cli.specs.Table.{predecessors, behind, joined, is_empty, next_number, concat_below, IsBare, IsLine, AreLines}
use Rattle.plan_cli.specs.declared.layout.Layout.{Layout}

pub next_predecessor : (p : ProjectData) (j n : ℕ) → precedes p n j ≡ true → predecessors p j (n + 1) ≡ predecessors p j n ++ (n + 1) ∷ []
next_predecessor p j n is =
    let next : suc n ≡ n + 1 = omega arith in
    let P : ℕ → Type 0 = λ k. predecessors p j k ≡ predecessors p j n ++ (n + 1) ∷ [] in
    subst P next (ap (λ (b : Bool). predecessors p j n ++ cond b ((n + 1) ∷ []) []) is)

pub other_predecessor : (p : ProjectData) (j n : ℕ) → precedes p n j ≡ false → predecessors p j (n + 1) ≡ predecessors p j n
other_predecessor p j n is =
    let next : suc n ≡ n + 1 = omega arith in
    let P : ℕ → Type 0 = λ k. predecessors p j k ≡ predecessors p j n in
    subst P next (ap (λ (b : Bool). predecessors p j n ++ cond b ((n + 1) ∷ []) []) is ∙ append-nil (predecessors p j n))

behind_more : (xs : List ℕ) (n : ℕ) → behind (xs ++ n ∷ []) ≡ behind xs ++ 59 ∷ decimal n
behind_more [] n = ap (λ l. 59 ∷ l) (append-nil (decimal n))
behind_more (x ∷ xs) n = ap (λ l. 59 ∷ l) (ap (λ l. decimal x ++ l) (behind_more xs n) ∙ sym (append_assoc (decimal x) (behind xs) (59 ∷ decimal n)))

pub joined_more : (xs : List ℕ) (n : ℕ) → joined (xs ++ n ∷ []) ≡ joined xs ++ next_number (is_empty xs) n
joined_more [] n = append-nil (decimal n)
joined_more (x ∷ xs) n = ap (λ l. decimal x ++ l) (behind_more xs n) ∙ sym (append_assoc (decimal x) (behind xs) (59 ∷ decimal n))

pub not_empty : (xs : List ℕ) (n : ℕ) → is_empty (xs ++ n ∷ []) ≡ false
not_empty [] n = refl
not_empty (x ∷ xs) n = refl

-- one more text
pub concat_more : (f : ℕ → List ℕ) (n : ℕ) → concat_below f (n + 1) ≡ concat_below f n ++ f n
concat_more f n =
    let next : suc n ≡ n + 1 = omega arith in
    let P : ℕ → Type 0 = λ k. concat_below f k ≡ concat_below f n ++ f n in
    subst P next refl

-- one more line
pub lines_more : (layout : Layout) (p : ProjectData) (s : ScheduleData) (plain : Bool) (n : ℕ) (before line more : List ℕ) → IsBare plain more → AreLines layout p s plain n before
    → IsLine layout p s n more line → AreLines layout p s plain (n + 1) (before ++ line)
lines_more layout p s plain n before line more bare are is =
    let next : suc n ≡ n + 1 = omega arith in
    let P : ℕ → Type 0 = λ k. AreLines layout p s plain k (before ++ line) in
    subst P next (before, line, more, bare, are, is, refl)
