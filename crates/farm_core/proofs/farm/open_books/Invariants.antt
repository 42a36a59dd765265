use Rattle.std.proofs.Common.{◌≡◌, map}
use Rattle.std.specs.List.{range_with_len}
use Rattle.tenant_book.specs.Book as ledger
use Rattle.farm_core.specs.Config.{member_lines, granted_by}
use Rattle.farm_core.proofs.farm.open_books.Given as goal

abbrev pub invariant-loop-purse : goal.invariant-loop-purse
invariant-loop-purse l = l.books.items ≡ map (λ p. ledger.opened (granted_by (member_lines l.config.tenants p))) (range_with_len 0 l.purse)
