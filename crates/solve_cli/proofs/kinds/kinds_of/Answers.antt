use Rattle.std.proofs.Common.{◌≡◌, ◌++◌, arith, subst, List, ℕ, Some, option_map, [], vec_len}
use Rattle.solve_cli.specs.SearchList.{words_in, searches_in, IsUnadded}
use Rattle.solve_cli.proofs.KindLemmas.{searches_next, unnamed, word_at}
use Rattle.solve_cli.proofs.kinds.kinds_of.Goals as goal

pub returns-in-Err-clause-fault : goal.returns-in-Err-clause-fault
returns-in-Err-clause-fault c =
    let i = c.loop-word.word-index in
    let words = words_in c.args.words.now in
    let at = word_at c.in-Ok.parts.items c.as_slice-word-items.result.now words i (record { ref_ptr = (0, 0); now = [] }) c.in-Ok.ensures c.as_slice-word-items.ensures.value c.loop-word-test.true in
    unnamed c.in-Err.fault words i (vec_len c.loop-word.kinds) c.loop-word.kinds.items (omega arith) at.0 c.loop-word.invariant.kinds c.loop-word.invariant.few
    (subst (λ (l : List ℕ). IsUnadded c.in-Err.fault (vec_len c.loop-word.kinds) l) at.1 c.in-Err.ensures.fault)

pub loop-word-preserved : goal.loop-word-preserved
loop-word-preserved c =
    let i = c.loop-word.word-index in
    let words = words_in c.args.words.now in
    let kinds = c.loop-word.kinds.items in
    let at = word_at c.in-Ok.parts.items c.as_slice-word-items.result.now words i (record { ref_ptr = (0, 0); now = [] }) c.in-Ok.ensures c.as_slice-word-items.ensures.value c.loop-word-test.true in
    record {
      kinds = searches_next words i kinds c.push_word.new.kinds.items at.0 c.loop-word.invariant.kinds
          (subst (λ (l : List ℕ). option_map (λ more. kinds ++ more) (searches_in l) ≡ Some c.push_word.new.kinds.items) at.1 c.in_default-push_word.ensures.added);
      few = c.in_default-push_word.ensures.few;
    }
