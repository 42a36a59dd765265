use Rattle.std.proofs.Common.{◌≡◌, ℕ, ◌+◌, List, map, length, get_or, arith, ap}
use Rattle.mrcpsp.specs.Numbers.{largest}
use Rattle.serial_pass.specs.Eligible.{from_word, in_word}
use Rattle.serial_pass.proofs.SetLemmas.{largest_append, words_end, words_next}
use Rattle.serial_pass.proofs.FinishLemmas.{word_listed}
use Rattle.serial_pass.proofs.eligible.greatest_of.Goals as goal

pub greatest_in-greatest-requires-clause-listed : goal.greatest_in-greatest-requires-clause-listed
greatest_in-greatest-requires-clause-listed c = word_listed c.args.set.now c.loop-word.word (length c.args.lfts.now) c.loop-word-test.true c.requires

pub loop-word-preserved : goal.loop-word-preserved
loop-word-preserved c =
    let v : ℕ → ℕ = λ j. get_or c.args.lfts.now j 0 in
    let w : ℕ = c.loop-word.word in
    let set = c.args.set.now in
    omega (arith, c.greatest_in-greatest.ensures, c.loop-word.invariant, ap (λ (xs : List ℕ). largest (map v xs)) (words_next set w c.loop-word-test.true), largest_append v (in_word (get_or set w 0) w) (from_word set (w + 1)))

pub returns : goal.returns
returns c =
    let last : c.loop-word.word ≡ 4 = omega (arith, c.loop-word-test.false) in
    omega (arith, c.loop-word.invariant, ap (λ (w : ℕ). largest (map (λ j. get_or c.args.lfts.now j 0) (from_word c.args.set.now w))) last, ap (λ (xs : List ℕ). largest (map (λ j. get_or c.args.lfts.now j 0) xs)) (words_end c.args.set.now))
