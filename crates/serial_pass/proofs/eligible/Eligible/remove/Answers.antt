use Rattle.std.proofs.Common.{◌≡◌, ⊎_elim, get_or, arith, refl, sym, ◌∙◌}
use Rattle.std.proofs.lemmas.Bool.{cases_eq}
use Rattle.serial_pass.proofs.FinishLemmas.{listed_finishes, sums_remove, sums_some}
use Rattle.serial_pass.proofs.eligible.Eligible.remove.Goals as goal

pub overflow_sub-self : goal.overflow_sub-self
overflow_sub-self c =
    let (p, are, sums, known) = c.requires.sums in
    omega (arith, (sums_some p c.args.self.now c.take_out.new.words c.args.activity are.project known c.requires.member c.take_out.ensures.own c.take_out.ensures.others sums).0)

pub overflow_sub-self-2 : goal.overflow_sub-self-2
overflow_sub-self-2 c =
    let (p, are, sums, known) = c.requires.sums in
    omega (arith, are.each c.args.activity known, (sums_some p c.args.self.now c.take_out.new.words c.args.activity are.project known c.requires.member c.take_out.ensures.own c.take_out.ensures.others sums).1)

pub returns-then-own-self-clause-sums : goal.returns-then-own-self-clause-sums
returns-then-own-self-clause-sums c p are was known =
    let words = c.take_out.new.words in
    sums_remove p c.args.self.now _ c.args.activity (get_or c.args.lfts.now c.args.activity 0) are.project known c.requires.member c.take_out.ensures.own c.take_out.ensures.others (are.each c.args.activity known) refl refl
    (λ e. c.greatest_of-self.ensures ∙ listed_finishes p words c.args.lfts.now are (λ j l is. ⊎_elim (λ (same : j ≡ c.args.activity). omega (arith, same, known)) (λ (ne : j ≡ c.args.activity → ⊥). was.inside j l (sym (c.take_out.ensures.others j ne) ∙ is)) (cases_eq j c.args.activity)))
    (λ ne. absurd (ne c.if-own-self.true)) was

pub returns-else-own-self-clause-sums : goal.returns-else-own-self-clause-sums
returns-else-own-self-clause-sums c p are was known =
    sums_remove p c.args.self.now _ c.args.activity (get_or c.args.lfts.now c.args.activity 0) are.project known c.requires.member c.take_out.ensures.own c.take_out.ensures.others (are.each c.args.activity known) refl refl (λ e. absurd (c.if-own-self.false e)) (λ ne. refl) was
