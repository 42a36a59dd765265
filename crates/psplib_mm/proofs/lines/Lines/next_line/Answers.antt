use Rattle.std.proofs.Common.{◌≡◌, ◌+◌, sym, ◌∙◌, rules}
use Rattle.std.specs.Option.{option_copied}
use Rattle.psplib_mm.specs.Text.{lines_from}
use Rattle.psplib_mm.specs.Scan.{lines_left}
use Rattle.psplib_mm.proofs.Cuts.{lines_last, lines_next, tail_is}
use Rattle.psplib_mm.proofs.lines.Lines.next_line.Goals as goal

pub returns-in_default : goal.returns-in_default
returns-in_default c =
    let shown : lines_left c.self.inside.number (option_copied c.self.inside.rest) ≡ lines_from c.self.inside.number c.in_ok-rest.rest.now = search rules in
    let last = lines_last c.self.inside.number c.in_ok-rest.rest.now (sym c.line_end.ensures ∙ c.in_default.is) in
    rw c.without_return.ensures (sym c.self.view_is ∙ shown ∙ last)

pub returns : goal.returns
returns c =
    let shown : lines_left c.self.inside.number (option_copied c.self.inside.rest) ≡ lines_from c.self.inside.number c.in_ok-rest.rest.now = search rules in
    let next = lines_next c.self.inside.number c.in-Some.end c.in_ok-rest.rest.now (sym c.line_end.ensures ∙ c.in-Some.is) in
    rw (tail_is (c.in-Some.end + 1) c.in_ok-rest.rest.now, c.without_return-2.ensures) (sym c.self.view_is ∙ shown ∙ next)
