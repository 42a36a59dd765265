use Rattle.std.proofs.Common.{◌≡◌, arith}
use Rattle.tree_search.proofs.PathLemmas.{members_copied}
use Rattle.tree_search.proofs.path.copy_words.Goals as goal

pub returns : goal.returns
returns c =
    let it = c.loop-word.invariant in
    let whole : c.loop-word.word ≡ c.args.count = omega (arith, c.loop-word-test.false, c.loop-word.auto.word-end) in
    members_copied c.args.words.now c.loop-word.words c.args.new.now c.args.count it.fit c.told-new (λ k l. it.done k (omega (arith, l, whole))) (λ k l. it.rest k (omega (arith, l, whole))) c.requires.rest
