use Rattle.std.proofs.Common.{◌≡◌, [], get_or, arith}
use Rattle.std.proofs.lemmas.List.{get_or_read}
use Rattle.schedule_prices.specs.Choices.{is_marked}
use Rattle.schedule_prices.specs.Dear.{is_above}
use Rattle.schedule_prices.proofs.TableLemmas.{marks-set, marks-past}
use Rattle.schedule_prices.proofs.choices.bar_above_in.Goals as goal

pub bar_above-requires-clause-ends : goal.bar_above-requires-clause-ends
unfolding is_marked
bar_above-requires-clause-ends c = λ m t known free.
    let choices = c.index_mut-choices.result.now in
    let same : choices ≡ get_or c.args.activities.now.items c.args.activity [] = get_or_read c.args.activities.now.items c.args.activity choices (omega (arith, c.args.activities.now.ok.0)) c.index_mut-choices.ensures.value [] in
    c.requires.ends m t known (rw same at free)

pub returns-then-activity-len : goal.returns-then-activity-len
returns-then-activity-len c =
    marks-set c.args.activities.now.items c.args.activity c.index_mut-choices.result.now c.bar_above.new.self (is_above c.args.costs.now c.args.most c.args.activity)
    (omega (arith, c.args.activities.now.ok.0)) c.index_mut-choices.ensures.value c.bar_above.ensures

pub returns-else-activity-len : goal.returns-else-activity-len
returns-else-activity-len c = marks-past c.args.activities.now.items c.args.activity (is_above c.args.costs.now c.args.most c.args.activity) (omega (arith, c.args.activities.now.ok.0))
