use Rattle.std.proofs.Common.{◌≡◌, ◌+◌, max, arith, ap, ◌∙◌}
use Rattle.mrcpsp.specs.Project.{size}
use Rattle.mrcpsp.specs.Values.{shortest, tail, bound}
use Rattle.measures.specs.Measures.{ValuesData}
use Rattle.measures.proofs.ValueLemmas.{bound_below, bound_more, value_is, shortest-small, tail_small}
use Rattle.measures.proofs.values.bound_of.Goals as goal

pub overflow_add-value-inside : goal.overflow_add-value-inside
overflow_add-value-inside c =
    let p = c.args.project.now in
    let j = c.loop-activity.activity in
    let is = value_is p j c.args.values.now c.index-values-activity.result c.requires (omega (arith, c.loop-activity-test.true, c.size-activity-end.ensures.exact)) c.index-values-activity.is in
    omega (arith, is.0, is.1, ap (λ (v : ValuesData). v.shortest) c.value.view_is, ap (λ (v : ValuesData). v.tail) c.value.view_is, shortest-small p j c.requires.project, tail_small p j c.requires.project)

pub loop-activity-preserved : goal.loop-activity-preserved
loop-activity-preserved c =
    let p = c.args.project.now in
    let j = c.loop-activity.activity in
    let is = value_is p j c.args.values.now c.index-values-activity.result c.requires (omega (arith, c.loop-activity-test.true, c.size-activity-end.ensures.exact)) c.index-values-activity.is in
    let x = c.value.inside.shortest + c.value.inside.tail in
    let e : x ≡ shortest p j + tail p j = omega (arith, is.0, is.1, ap (λ (v : ValuesData). v.shortest) c.value.view_is, ap (λ (v : ValuesData). v.tail) c.value.view_is) in
    let next : max c.loop-activity.bound x ≡ bound_below p (j + 1) = omega (arith, c.loop-activity.invariant, e, bound_more p j) in
    rw c.max-bound.ensures next

pub returns : goal.returns
unfolding bound
returns c =
    let p = c.args.project.now in
    let all : c.loop-activity.activity ≡ size p = omega (arith, c.loop-activity-test.false, c.size-activity-end.ensures.exact) in
    c.loop-activity.invariant ∙ ap (bound_below p) all
