use Rattle.std.proofs.Common.{◌≡◌, false, get_or, replicate, refl, arith, ap, sym, ◌∙◌}
use Rattle.mrcpsp.specs.Project.{size}
use Rattle.measures.proofs.ValueLemmas.{any_leads, follows_is, no_flags, leads_none, leads_more, leads_end}
use Rattle.measures.proofs.followers.followers_of.Goals as goal

pub loop-successor-init : goal.loop-successor-init
loop-successor-init c = record {
  fit = refl;
  rest = λ k l.
      leads_none (get_or (replicate 202 false) k false) (any_leads c.args.project.now k c.successors-successor-items.result.now) (no_flags 202 k)
      ∙ ap (any_leads c.args.project.now k) c.successors-successor-items.ensures.exact
      ∙ sym (follows_is c.args.project.now c.args.activity k c.requires.later.project);
}

pub loop-successor-preserved : goal.loop-successor-preserved
loop-successor-preserved c =
    let p = c.args.project.now in
    let xs = c.successors-successor-items.result.now in
    let i = c.loop-successor.successor-index in
    let above = (c.successors-successor-items.ensures.later i 0 c.loop-successor-test.true).0 in
    record {
      fit = c.add_followers.array_long;
      rest = λ k l. leads_more p k i (get_or c.loop-successor.row k false) (get_or c.add_followers.new.row k false) xs c.loop-successor-test.true (omega arith) (c.add_followers.ensures k l) ∙ c.loop-successor.invariant.rest k l;
    }

pub returns : goal.returns
returns c k l = leads_end c.args.project.now k c.loop-successor.successor-index _ c.successors-successor-items.result.now (omega (arith, c.loop-successor-test.false)) ∙ c.loop-successor.invariant.rest k l
