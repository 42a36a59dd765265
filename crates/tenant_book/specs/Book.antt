-- The ledger of one purse's prepaid quanta.
use Rattle.std.specs.Prelude.{◌≡◌, ℕ, ◌+◌, ◌-◌, ◌≤◌}
use Rattle.tenant_book.specs.declared.book.TheConstants.{MOST_QUANTA}

-- the quanta granted, and of these the ones that are free, held by jobs, and spent on nodes
pub record BookData : Type 0 where
  pub granted : ℕ
  pub free : ℕ
  pub held : ℕ
  pub spent : ℕ

-- each quantum is in one place, and no purse has more than it may be granted
pub record IsBook (b : BookData) : Type 0 where
  pub whole : b.granted ≡ b.free + b.held + b.spent
  pub limited : b.granted ≤ MOST_QUANTA

-- the ledger of a purse that has spent nothing
abbrev pub opened : ℕ → BookData
opened n = record { granted = n; free = n; held = 0; spent = 0 }

-- n free quanta went to a job
abbrev pub after_hold : ℕ → BookData → BookData
after_hold n b = record b { free = b.free - n; held = b.held + n }

-- n held quanta paid for nodes
abbrev pub after_spend : ℕ → BookData → BookData
after_spend n b = record b { held = b.held - n; spent = b.spent + n }

-- n held quanta came back
abbrev pub after_free_up : ℕ → BookData → BookData
after_free_up n b = record b { free = b.free + n; held = b.held - n }
