use Rattle.std.proofs.Common.{◌≡◌, ◌<◌, Some, ◌∷◌, length, sym, ap, ◌∙◌, rules}
use Rattle.psplib_mm.specs.Text.{Piece, number_of}
use Rattle.psplib_mm.proofs.Scans.{cap_of, up_to_word}
use Rattle.psplib_mm.proofs.numbers.push_words_up_to.Goals as goal

pub loop-words-preserved : goal.loop-words-preserved
loop-words-preserved c =
    let w : Piece = record { line = c.word.inside.line; bytes = c.word.inside.bytes.now } in
    let number : cap_of (number_of w.bytes) ≡ Some c.in-Some-number.number = sym c.number.ensures ∙ c.in-Some-number.is in
    let few : length c.loop-words.cells.items < c.args.most = search rules in
    let left : c.loop-words.words ≡ w ∷ c.next_word.new.self = c.in-Some.ensures ∙ ap (λ (p : Piece). p ∷ c.next_word.new.self) (sym c.word.view_is) in
    rw c.in_ok-push.ensures.items (up_to_word c.args.most c.in-Some-number.number c.loop-words.cells.items w c.next_word.new.self few number ∙ (rw left at c.loop-words.invariant))
