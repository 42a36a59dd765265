-- How many purses there are at least and at most.
use Rattle.std.proofs.Common.{◌<◌, ◌≤◌, List, length, arith}
use Rattle.std.specs.List.{range_with_len}
use Rattle.std.proofs.lemmas.List.{length-map}
use Rattle.std.proofs.lemmas.List.Sums.{length-filter, count_by-le-length}
use Rattle.std.proofs.lemmas.List.FromFn.{length-range_with_len}
use Rattle.farm_core.specs.declared.config.TenantLine.{TenantLine}
use Rattle.farm_core.specs.Purses.{is_first, purses}
use Rattle.farm_core.specs.Config.{purse_names}
use Rattle.farm_core.proofs.SharingLemmas.{counted}
use Rattle.farm_core.proofs.SeatLemmas.{named}

-- where there is a tenant there is a purse,
pub some_purse : (lines : List TenantLine) → 0 < length lines → 0 < purses (purse_names lines)
some_purse lines l = omega (arith, counted (purse_names lines) 0 (named lines 0 l))

-- and no more purses than tenants
pub most_purses : (lines : List TenantLine) → purses (purse_names lines) ≤ length lines
unfolding purses
most_purses lines =
    let all = range_with_len 0 (length (purse_names lines)) in
    let firsts = is_first (purse_names lines) in
    omega (
      arith,
      length-filter firsts all,
      count_by-le-length firsts all,
      length-range_with_len 0 (length (purse_names lines)),
      length-map lines (λ (line : TenantLine). line.purse),
    )
