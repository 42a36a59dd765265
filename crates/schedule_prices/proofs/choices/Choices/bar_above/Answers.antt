use Rattle.std.proofs.Common.{◌≡◌, ◌<◌, [], get_or, length, sym, ◌∙◌, true, false, ap, arith}
use Rattle.mrcpsp.specs.Project.{ProjectData, mode_count}
use Rattle.std.proofs.lemmas.List.{get_or_read}
use Rattle.schedule_prices.proofs.TableLemmas.{or-left-false}
use Rattle.schedule_prices.proofs.choices.Choices.bar_above.Goals as goal

pub bar_above-requires-clause-ends : goal.bar_above-requires-clause-ends
bar_above-requires-clause-ends c = λ t free.
    let starts = c.index_mut-starts.result.now in
    let inside : c.loop-mode.mode < length c.loop-mode.self-inside.modes.items = omega arith in
    let same : starts ≡ get_or c.loop-mode.self-inside.modes.items c.loop-mode.mode [] = get_or_read c.loop-mode.self-inside.modes.items c.loop-mode.mode starts inside c.index_mut-starts.ensures.value [] in
    let now : get_or (get_or c.loop-mode.self-inside.modes.items c.loop-mode.mode []) t true ≡ false = rw same at free in
    c.requires.ends c.loop-mode.mode t (omega (arith, ap (λ (q : ProjectData). mode_count q c.args.activity) c.project.ensures.exact)) (or-left-false _ _ (sym (c.loop-mode.invariant.2 c.loop-mode.mode t) ∙ now))
