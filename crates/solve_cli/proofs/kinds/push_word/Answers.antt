use Rattle.solve_cli.specs.SearchList.{all_searches}
use Rattle.solve_cli.proofs.KindLemmas.{searches_all, searches_one, unadded}
use Rattle.std.proofs.Common.{vec_len, [], ◌∷◌, sym, ◌∙◌}
use Rattle.solve_cli.proofs.kinds.push_word.Goals as goal

pub returns-then-is_all-clause-fault : goal.returns-then-is_all-clause-fault
returns-then-is_all-clause-fault c =
    unadded c.push_kinds.result (vec_len c.args.kinds.now) c.args.word.now all_searches c.push_kinds.ensures.fault (searches_all c.args.word.now (sym c.is_all.ensures ∙ c.if-is_all.true))

pub returns-in-Some-clause-fault : goal.returns-in-Some-clause-fault
returns-in-Some-clause-fault c =
    unadded c.push_kinds-in-Some.result (vec_len c.args.kinds.now) c.args.word.now (c.in-Some.kind ∷ []) c.push_kinds-in-Some.ensures.fault (searches_one c.args.word.now c.in-Some.kind (sym c.is_all.ensures ∙ c.if-is_all.false) (sym c.parse.ensures ∙ c.in-Some.is))
