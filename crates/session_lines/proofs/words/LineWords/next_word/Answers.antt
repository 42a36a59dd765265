use Rattle.std.proofs.Common.{ℕ, List, sym, ap, ◌∙◌}
use Rattle.std.specs.List.{position_or_len}
use Rattle.psplib_mm.specs.Text.{is_blank}
use Rattle.session_lines.proofs.WordLemmas.{no_word, next_word}
use Rattle.session_lines.proofs.words.LineWords.next_word.Goals as goal

pub returns-in_err-word_start : goal.returns-in_err-word_start
returns-in_err-word_start c =
    let none = no_word c.self.inside.rest.now (sym c.word_start.ensures.place ∙ c.in_err-word_start.was) in
    let empty = sym c.self.view_is ∙ none in
    rw c.from_residual.ensures (empty, empty)

pub returns : goal.returns
returns c =
    let next = next_word c.in_ok-word_start.field-0 c.word_end.result c.self.inside.rest.now (sym c.word_start.ensures.place ∙ c.in_ok-word_start.was) (c.word_end.ensures.place ∙ ap (λ (xs : List ℕ). position_or_len is_blank xs) c.split_at.ensures.back) in
    rw (c.split_at-2.ensures.front, c.split_at-2.ensures.back, c.split_at.ensures.back) (sym c.self.view_is ∙ next)
