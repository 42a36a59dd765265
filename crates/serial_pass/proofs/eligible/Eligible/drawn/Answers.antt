use Rattle.std.proofs.Common.{◌≡◌, ℕ, ◌+◌, ◌-◌, length, get_or, arith, sym, ap, ◌∙◌}
use Rattle.strategy.specs.Pass.{drawn_at}
use Rattle.serial_pass.specs.Eligible.{from_word}
use Rattle.serial_pass.proofs.SetLemmas.{words_end, words_next}
use Rattle.serial_pass.proofs.FinishLemmas.{drawn_by, sums_few, word_greatest, word_listed}
use Rattle.serial_pass.proofs.eligible.Eligible.drawn.Goals as goal

pub overflow_add-most : goal.overflow_add-most
overflow_add-most c =
    let (p, are, sums) = c.requires in
    omega (arith, (sums_few p c.args.self.now are.project sums).greatest)

pub drawn_in-requires-clause-listed : goal.drawn_in-requires-clause-listed
drawn_in-requires-clause-listed c =
    let (p, are, sums) = c.requires in
    word_listed c.args.self.now.set c.loop-at.at (length c.args.lfts.now) c.loop-at-test.true (λ j l is. omega (arith, sums.inside j l is, are.count))

pub drawn_in-requires-clause-most : goal.drawn_in-requires-clause-most
drawn_in-requires-clause-most c =
    let (p, are, sums) = c.requires in
    word_greatest p c.args.self.now c.args.lfts.now c.loop-at.at c.loop-at-test.true are sums

pub returns-in-Ok : goal.returns-in-Ok
returns-in-Ok c p are sums =
    let e = c.args.self.now in
    let v : ℕ → ℕ = λ j. e.greatest + 1 - get_or c.args.lfts.now j 0 in
    sym (sym (drawn_by p e c.args.lfts.now c.args.word c.total.result are sums c.total.ensures.exact) ∙ c.loop-at.invariant
    ∙ ap (drawn_at v c.loop-at.left) (words_next e.set c.loop-at.at c.loop-at-test.true) ∙ c.in-Ok.ensures (from_word e.set (c.loop-at.at + 1)))

pub loop-at-preserved : goal.loop-at-preserved
loop-at-preserved c =
    let e = c.args.self.now in
    let v : ℕ → ℕ = λ j. e.greatest + 1 - get_or c.args.lfts.now j 0 in
    c.loop-at.invariant ∙ ap (drawn_at v c.loop-at.left) (words_next e.set c.loop-at.at c.loop-at-test.true) ∙ c.in-Err.ensures (from_word e.set (c.loop-at.at + 1))

pub returns : goal.returns
returns c p are sums =
    let e = c.args.self.now in
    let v : ℕ → ℕ = λ j. e.greatest + 1 - get_or c.args.lfts.now j 0 in
    let last : c.loop-at.at ≡ 4 = omega (arith, c.loop-at-test.false) in
    sym (sym (drawn_by p e c.args.lfts.now c.args.word c.total.result are sums c.total.ensures.exact) ∙ c.loop-at.invariant
    ∙ ap (λ (w : ℕ). drawn_at v c.loop-at.left (from_word e.set w)) last ∙ ap (drawn_at v c.loop-at.left) (words_end e.set))
