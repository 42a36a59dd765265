-- A number that is read digit by digit.
use Rattle.std.proofs.Common.{◌≡◌, ℕ, ◌+◌, ◌*◌, ◌^◌, ◌<◌, ◌≤◌, ◌-◌, true, get_or, length, lit<, add-one, arith, List, take}
use Rattle.std.proofs.Math.Nat.{pow-le-pow_right, pow-suc}
use Rattle.std.proofs.lemmas.Bool.Decides.{nat_tests}
use Rattle.std.proofs.lemmas.Int.Digits.{digits_value_more}
use Rattle.std.specs.Char.{is_ascii_digit, digit_value}
use Rattle.std.specs.Str.Parse.{digits_value}

-- one more digit fits
pub digit_fits : (i v : ℕ) → i < 18 → v < 10 ^ i → v * 10 + 10 ≤ 1000000000000000000
digit_fits i v h small =
    let least : i ≤ 17 = omega arith in
    let most : 10 ^ i ≤ 100000000000000000 = pow-le-pow_right (lit< tt) least in
    omega arith

digit_is : (b : ℕ) → is_ascii_digit b ≡ true → digit_value b ≡ b - 48
digit_is b e = grind (arith, nat_tests)

pub digit_small : (b : ℕ) → is_ascii_digit b ≡ true → b - 48 < 10
digit_small b e = grind (arith, nat_tests)

pub digit_keeps_small : (i v d : ℕ) → d < 10 → v < 10 ^ i → v * 10 + d < 10 ^ (i + 1)
digit_keeps_small i v d h small = let e : 10 ^ (i + 1) ≡ 10 ^ i * 10 = rw add-one (pow-suc 10 i) in omega arith

-- the value with one more digit
pub digit_more : (word : List ℕ) (i v d : ℕ) → i < length word → v ≡ digits_value 10 (take i word) → is_ascii_digit (get_or word i 0) ≡ true → d ≡ get_or word i 0 - 48
    → v * 10 + d ≡ digits_value 10 (take (i + 1) word)
digit_more word i v d lt so_far digit e =
    let is = digit_is (get_or word i 0) digit in
    let more = digits_value_more 10 word i lt in
    omega arith
