use Rattle.std.proofs.Common.{◌≡◌, ℕ, false, List, [], get_or, length, length-set, arith, ap, sym, ◌∙◌, set, ⊎_elim}
use Rattle.std.proofs.lemmas.Bool.{cases_eq}
use Rattle.std.proofs.lemmas.List.{get_or-set_same, get_or-set_other, get_or_default}
use Rattle.serial_sgs.specs.Waiting.{WaitingData}
use Rattle.serial_sgs.proofs.waiting.Waiting.restart.Goals as goal

pub loop-activity-preserved : goal.loop-activity-preserved
loop-activity-preserved c =
    let a : ℕ = c.loop-activity.activity in
    let flags = c.loop-activity.self.flags in
    let missing = c.loop-activity.self.missing in
    let so_far = c.loop-activity.invariant in
    let long : length flags ≡ length c.note.new.self.flags = sym (ap (λ (w : WaitingData). length w.flags) c.note.ensures.exact ∙ length-set flags a false) in
    let count : ℕ = length c.as_slice-missing.result.now in
    let written : c.note.new.self.missing ≡ set missing a count = ap (λ (w : WaitingData). w.missing) c.note.ensures.exact in
    let wide : length missing ≡ length flags = sym (ap length written ∙ length-set missing a count) ∙ c.note.ensures.same ∙ sym long in
    record {
      count = sym long ∙ so_far.count;
      none = λ j l.
          ⊎_elim
          (λ (e : j ≡ a). ap (λ (w : WaitingData). get_or w.flags j false) c.note.ensures.exact ∙ rw e (get_or-set_same flags a false false (omega (arith, so_far.count, c.loop-activity-test.true))))
          (λ (ne : j ≡ a → ⊥). ap (λ (w : WaitingData). get_or w.flags j false) c.note.ensures.exact ∙ get_or-set_other flags a j false false ne ∙ so_far.none j (omega arith))
          (cases_eq j a);
      each = λ j l.
          ⊎_elim
          (λ (e : j ≡ a). ap (λ (xs : List ℕ). get_or xs j 0) written ∙ rw e (get_or-set_same missing a count 0 (omega (arith, wide, so_far.count, c.loop-activity-test.true)) ∙ ap (λ (xs : List ℕ). length xs) (c.as_slice-missing.ensures ∙ c.index-before-activity.is ∙ get_or_default c.args.before.now a c.index-before-activity.result [] (omega (arith, so_far.count, c.loop-activity-test.true)))))
          (λ (ne : j ≡ a → ⊥). ap (λ (xs : List ℕ). get_or xs j 0) written ∙ get_or-set_other missing a j count 0 ne ∙ so_far.each j (omega arith))
          (cases_eq j a);
    }
