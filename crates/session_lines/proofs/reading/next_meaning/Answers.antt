use Rattle.std.proofs.Common.{sym, subst, ◌∙◌, arith}
use Rattle.std.specs.Io.BufRead.{FillKeeps}
use Rattle.session_lines.proofs.FeedLemmas.{feed_some}
use Rattle.session_lines.proofs.CauseLemmas.{shown_long, long_last}
use Rattle.session_lines.proofs.ScanLemmas.{taken_line}
use Rattle.session_lines.proofs.reading.next_meaning.Goals as goal

pub returns-then-left-size-clause-cause : goal.returns-then-left-size-clause-cause
returns-then-left-size-clause-cause g c =
    let is = feed_some _ _ (sym c.feed_place.ensures.place ∙ c.in-Some.is) in
    shown_long _ (g.R.Read.remaining c.args.reader.now) _ _ c.in-Ok.ahead.now c.in-Ok.ensures.front (λ zs. long_last c.in-Ok.ahead.now c.in-Some.place zs is) c.if-left-size.true

pub returns-clause-taken : goal.returns-clause-taken
returns-clause-taken g c =
    let rested = c.fill.follows.lender-at-none in
    let filled = subst (FillKeeps _ (g.R.Read.remaining rested) (g.R.BufRead.consumable_len rested)) c.in-Ok.is c.fill.follows.holds-at-none in
    taken_line _ c.in-Ok.ahead.now c.in-Some.place (g.R.Read.remaining c.args.reader.now) (g.R.Read.remaining rested) (g.R.Read.remaining c.consume.new.self) _ _ _ (sym c.in-Some.is ∙ c.feed_place.ensures.place)
    c.in-Ok.ensures.front c.in-Ok.ensures.end filled.0 filled.1 c.consume.ensures.bytes c.judge-meaning.ensures (omega (arith, c.if-left-size.false))
