use Rattle.std.proofs.Common.{arith}
use Rattle.schedule_prices.specs.Choices.{is_in}
use Rattle.schedule_prices.proofs.TableLemmas.{marks-set, marks-past}
use Rattle.schedule_prices.proofs.choices.bar_in.Goals as goal

pub returns-then-piece-len : goal.returns-then-piece-len
returns-then-piece-len c =
    marks-set c.args.activities.now.items c.args.piece.now.activity c.index_mut-choices.result.now c.bar.new.self (is_in c.args.piece.now)
    (omega (arith, c.args.activities.now.ok.0)) c.index_mut-choices.ensures.value c.bar.ensures

pub returns-else-piece-len : goal.returns-else-piece-len
returns-else-piece-len c = marks-past c.args.activities.now.items c.args.piece.now.activity (is_in c.args.piece.now) (omega (arith, c.args.activities.now.ok.0))
