-- What contracts see of a desk, one thread's seat at a till. It draws nothing, and knows a word
-- only as it was when the desk loaded it.
use Rattle.std.specs.Prelude.{ℕ, ◌+◌}
use Rattle.atomic_table.specs.Seated.{TableId}

-- a desk: its number among the till's seats, from 0; how many seats lie between it and the till,
-- 0 for the first desk; the seats made from it; its loads, and the words that it found last
pub record DeskValue : Type 0 where
  pub id : TableId
  pub number : ℕ
  pub purse : ℕ
  pub granted : ℕ
  pub depth : ℕ
  pub seats : ℕ
  pub loads : ℕ
  pub pool : ℕ
  pub spent : ℕ

-- a desk that has done nothing yet
abbrev pub new_desk : TableId → ℕ → ℕ → ℕ → ℕ → DeskValue
new_desk id number purse granted depth = record { id = id; number = number; purse = purse; granted = granted; depth = depth; seats = 0; loads = 0; pool = 0; spent = 0 }

-- a desk or a lease was made from it
abbrev pub after_seat : DeskValue → DeskValue
after_seat d = record d { seats = d.seats + 1 }

-- it loaded the three words, and found POOL and SPENT
abbrev pub after_words : DeskValue → ℕ → ℕ → DeskValue
after_words d pool spent = record d { loads = d.loads + 3; pool = pool; spent = spent }
