use Rattle.std.proofs.Common.{arith}
use Rattle.mrcpsp.specs.Project.{size, precedes}
use Rattle.serial_sgs.proofs.OrderLemmas.{count_small}
use Rattle.serial_pass.proofs.StateLemmas.{first_are, sources_are}
use Rattle.serial_pass.proofs.tables.PassTables.of.Goals as goal

pub first_waits-requires : goal.first_waits-requires
first_waits-requires c =
    let p = c.args.project.now in
    rw c.deref-3.ensures.value (λ j l. omega (arith, (c.in_ok-before.ensures.each j (omega (arith, l, c.in_ok-before.ensures.count))).count, count_small (λ i. precedes p i j) (size p), c.requires.project.few))

pub returns : goal.returns
returns c =
    let p = c.args.project.now in
    let own = rw c.deref.ensures.value at c.sources_of-sources.ensures.own in
    let others = rw c.deref.ensures.value at c.sources_of-sources.ensures.others in
    let sums = rw (c.deref.ensures.value, c.deref-2.ensures.value) at c.sources_of-sources.ensures.sums in
    let count = rw c.deref-3.ensures.value at c.in_ok-first.ensures.count in
    let each = rw c.deref-3.ensures.value at c.in_ok-first.ensures.each in
    record {
      project = c.requires.project;
      tabled = c.in_ok-rows.ensures;
      after = c.in_ok-after.ensures;
      finishes = c.in_ok-lfts.ensures;
      sources = sources_are p c.in_ok-before.before.items c.sources_of-sources.result.set c.in_ok-before.ensures own others;
      sums = sums p c.in_ok-lfts.ensures (omega (arith, c.in_ok-before.ensures.count));
      first = first_are p c.in_ok-before.before.items c.in_ok-first.first.items c.in_ok-before.ensures count each;
      slack = c.slack_of-slack.ensures;
    }
