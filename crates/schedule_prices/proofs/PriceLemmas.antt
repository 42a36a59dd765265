-- Prices are low enough for sums of costs.
use Rattle.std.proofs.Common.{◌≡◌, ℕ, ◌<◌, ◌≤◌, ◌^◌, true, List, length, get_or, take, arith, sum_by}
use Rattle.std.specs.Prelude.{nat_le}
use Rattle.std.proofs.lemmas.Bool.{and_parts, leb-true}
use Rattle.std.proofs.lemmas.List.Sums.{sum_by-take-le}
use Rattle.mrcpsp.specs.Project.{ProjectData}
use Rattle.mrcpsp.proofs.LimitLemmas.{all-from}
use Rattle.schedule_prices.specs.declared.row.Price.{Price}
use Rattle.schedule_prices.specs.declared.prices.TheConstants.{MOST_PRICES}
use Rattle.schedule_prices.specs.Rows.{is_row, are_rows}
use Rattle.schedule_prices.specs.Prices.{are_prices}

pub row-at : (p : ProjectData) (prices : List Price) (i : ℕ) (d : Price) → are_prices p prices ≡ true → i < length prices → is_row p (get_or prices i d).row ≡ true
row-at p prices i d e l = all-from (λ x. is_row p x.row) prices i d (and_parts (are_rows p prices) (nat_le (sum_by (λ x. x.price) prices) MOST_PRICES) e).0 l

pub prices-low : (p : ProjectData) (prices : List Price) (n : ℕ) → are_prices p prices ≡ true → sum_by (λ x. x.price) (take n prices) ≤ 2 ^ 40
prices-low p prices n e =
    omega (arith, sum_by-take-le (λ (x : Price). x.price) prices n, leb-true (sum_by (λ x. x.price) prices) MOST_PRICES (and_parts (are_rows p prices) (nat_le (sum_by (λ x. x.price) prices) MOST_PRICES) e).1)

pub ruleset price_rules = (row-at, prices-low)

pub prices_sum : (p : ProjectData) (prices : List Price) → are_prices p prices ≡ true → sum_by (λ x. x.price) prices ≤ 2 ^ 40
prices_sum p prices e = leb-true (sum_by (λ x. x.price) prices) MOST_PRICES (and_parts (are_rows p prices) (nat_le (sum_by (λ x. x.price) prices) MOST_PRICES) e).1

pub are-rows : (p : ProjectData) (prices : List Price) → are_prices p prices ≡ true → are_rows p prices ≡ true
are-rows p prices e = (and_parts (are_rows p prices) (nat_le (sum_by (λ x. x.price) prices) MOST_PRICES) e).0
