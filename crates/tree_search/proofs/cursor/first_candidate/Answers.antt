use Rattle.std.proofs.Common.{arith}
use Rattle.tree_search.proofs.MachineLemmas.{from-next, from-none}
use Rattle.tree_search.proofs.cursor.first_candidate.Goals as goal

pub returns-in_err-activity : goal.returns-in_err-activity
returns-in_err-activity c =
    rw c.from_residual.ensures (from-none c.args.path.now.project c.args.path.now.placed c.args.from c.requires.from c.in_err-activity.ensures)

pub returns : goal.returns
returns c =
    let p = c.args.path.now.project in
    let found = c.in_ok-activity.ensures in (
      record {
        activity = found.inside;
        mode = omega (arith, c.mode_count-modes.ensures.some, c.mode_count-modes.ensures.exact);
        few = omega arith;
        eligible = found.eligible;
      },
      from-next p c.args.path.now.placed c.args.from c.in_ok-activity.activity found.above found.first,
    )
