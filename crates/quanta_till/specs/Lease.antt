-- What contracts see of a lease, by double entry (Pacioli 1494): what it drew, used and handed
-- back. What is left is drawn - used - back.
use Rattle.std.specs.Prelude.{◌≡◌, ℕ, ◌+◌, ◌-◌}
use Rattle.atomic_table.specs.Seated.{TableId}
use Rattle.quanta_till.specs.Till.{TillValue}

-- a lease: its till's table, its tenant, the depth of its seat, and its quanta
pub record LeaseValue : Type 0 where
  pub id : TableId
  pub tenant : ℕ
  pub depth : ℕ
  pub drawn : ℕ
  pub used : ℕ
  pub back : ℕ
  pub left : ℕ

-- a new lease of a seat of that depth: nothing was drawn, used or handed back
abbrev pub empty_lease : TillValue → ℕ → ℕ → LeaseValue
empty_lease t tenant depth = record { id = t.id; tenant = tenant; depth = depth; drawn = 0; used = 0; back = 0; left = 0 }

-- nothing was drawn, used or handed back yet
pub record IsEmpty (l : LeaseValue) : Type 0 where
  pub drawn : l.drawn ≡ 0
  pub used : l.used ≡ 0
  pub back : l.back ≡ 0
  pub left : l.left ≡ 0

-- n quanta were drawn from the till
abbrev pub after_draw : LeaseValue → ℕ → LeaseValue
after_draw l n = record l { drawn = l.drawn + n; left = l.left + n }

-- n quanta were used, of a lease that has n left
abbrev pub after_use : LeaseValue → ℕ → LeaseValue
after_use l n = record l { used = l.used + n; left = l.left - n }

-- the rest was handed back
abbrev pub after_settle : LeaseValue → LeaseValue
after_settle l = record l { back = l.back + l.left; left = 0 }

-- what a lease holds, whoever the tenant is
pub record HoldingValue : Type 0 where
  pub id : TableId
  pub depth : ℕ
  pub drawn : ℕ
  pub used : ℕ
  pub back : ℕ
  pub left : ℕ
