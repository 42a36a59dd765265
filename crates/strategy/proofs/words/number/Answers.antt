use Rattle.std.proofs.Common.{◌≡◌, ◌<◌, true, get_or, arith}
use Rattle.std.specs.Char.{is_ascii_digit}
use Rattle.std.proofs.lemmas.Grind.{common_steps}
use Rattle.strategy.proofs.NumberLemmas.{digit_fits, digit_small, digit_keeps_small, digit_more}
use Rattle.strategy.proofs.words.number.Goals as goal

pub overflow_mul-value : goal.overflow_mul-value
overflow_mul-value c =
    let early : c.loop-digit.digit-index < 18 = omega arith in
    let fits = digit_fits _ _ early c.loop-digit.invariant.small in
    omega arith

pub overflow_add-value : goal.overflow_add-value
overflow_add-value c =
    let early : c.loop-digit.digit-index < 18 = omega arith in
    let fits = digit_fits _ _ early c.loop-digit.invariant.small in
    let digit : is_ascii_digit (get_or c.args.word.now c.loop-digit.digit-index 0) ≡ true = cc in
    let small = digit_small (get_or c.args.word.now c.loop-digit.digit-index 0) digit in
    omega arith

pub loop-digit-preserved : goal.loop-digit-preserved
loop-digit-preserved c =
    let digit : is_ascii_digit (get_or c.args.word.now c.loop-digit.digit-index 0) ≡ true = cc in
    let small = digit_small (get_or c.args.word.now c.loop-digit.digit-index 0) digit in
    let below : c.from.result < 10 = omega arith in
    record {
      digits = grind (arith, common_steps);
      value = digit_more c.args.word.now c.loop-digit.digit-index c.loop-digit.value c.from.result c.loop-digit-test.true c.loop-digit.invariant.value digit c.from.ensures;
      small = digit_keeps_small _ _ _ below c.loop-digit.invariant.small;
    }
