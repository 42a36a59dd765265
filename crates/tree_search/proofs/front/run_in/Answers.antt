use Rattle.std.proofs.Common.{◌-◌, All, List, drop, take, sym, subst}
use Rattle.std.proofs.lemmas.List.Elements.{All-append, All-drop, All-take}
use Rattle.tree_search.specs.declared.front.Running.{Running}
use Rattle.tree_search.specs.Width.{IsNone}
use Rattle.tree_search.specs.Front.{IsRising}
use Rattle.tree_search.proofs.FrontLemmas.{range_behind}
use Rattle.tree_search.proofs.front.run_in.Goals as goal

pub returns-clause-rising : goal.returns-clause-rising
returns-clause-rising c =
    subst IsRising (sym (range_behind c.split_at_mut-before.result.0.now c.run_into.new.later c.args.span.end c.run_into.result c.split_at_mut-before.ensures.front_len)) c.run_into.ensures.rising

pub run_into-requires-clause-listed : goal.run_into-requires-clause-listed
run_into-requires-clause-listed c =
    let none : Running → Type 0 = λ a. IsNone c.args.lanes a.request in
    let before : List Running = c.split_at_mut-before.result.0.now in
    let span = c.args.span in
    let front : All none before = rw c.split_at_mut-before.ensures.front (All-take none span.end c.args.list.now c.requires.blank) in
    All-take none (span.end - span.begin) (drop span.begin before) (All-drop none span.begin before front)

pub run_into-requires-clause-blank : goal.run_into-requires-clause-blank
run_into-requires-clause-blank c =
    rw c.split_at_mut-before.ensures.back (All-drop (λ (a : Running). IsNone c.args.lanes a.request) c.args.span.end c.args.list.now c.requires.blank)

pub returns-clause-none : goal.returns-clause-none
returns-clause-none c kinds own all =
    let none : Running → Type 0 = λ a. IsNone kinds a.request in
    let before : List Running = c.split_at_mut-before.result.0.now in
    let behind : List Running = c.split_at_mut-before.result.1.now in
    let span = c.args.span in
    let front : All none before = rw c.split_at_mut-before.ensures.front (All-take none span.end c.args.list.now all) in
    let back : All none behind = rw c.split_at_mut-before.ensures.back (All-drop none span.end c.args.list.now all) in
    let part : All none (take (span.end - span.begin) (drop span.begin before)) = All-take none (span.end - span.begin) (drop span.begin before) (All-drop none span.begin before front) in
    All-append none before c.run_into.new.later front (c.run_into.ensures.none kinds own part back)
