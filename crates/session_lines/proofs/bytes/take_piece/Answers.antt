use Rattle.std.proofs.Common.{◌≡◌, ◌+◌, ◌≤◌, take, length, le_refl, sym, subst, ◌∙◌, rules, arith, take_all, length-take-le}
use Rattle.std.specs.Io.KnownBytes.{Consumes}
use Rattle.std.specs.Io.BufRead.{FillKeeps}
use Rattle.std.proofs.BufReadLemmas.{Consumes_shown}
use Rattle.session_lines.proofs.FeedLemmas.{feed_none, feed_some}
use Rattle.session_lines.proofs.CauseLemmas.{shown_long, long_inside, long_last}
use Rattle.session_lines.proofs.bytes.take_piece.Goals as goal

pub returns-then-left-size-clause-cause : goal.returns-then-left-size-clause-cause
returns-then-left-size-clause-cause g c =
    let none = feed_none _ (sym c.feed_place.ensures.place ∙ c.in_default-feed_place.is) in
    shown_long _ (g.R.Read.remaining c.args.reader.now) _ (length c.in-Ok.shown.now) c.in-Ok.shown.now c.in-Ok.ensures.front (λ zs. long_inside c.in-Ok.shown.now zs none) c.if-left-size.true

pub returns-in_default-feed_place-clause-taken : goal.returns-in_default-feed_place-clause-taken
returns-in_default-feed_place-clause-taken g c =
    let shown = c.in-Ok.shown.now in
    let rested = c.fill.follows.lender-at-none in
    let filled = subst (FillKeeps _ (g.R.Read.remaining rested) (g.R.BufRead.consumable_len rested)) c.in-Ok.is c.fill.follows.holds-at-none in
    let none = feed_none _ (sym c.feed_place.ensures.place ∙ c.in_default-feed_place.is) in
    let moved = Consumes_shown _ _ _ _ shown (length shown) (le_refl _) c.in-Ok.ensures.front c.in-Ok.ensures.end filled.0 filled.1 c.consume.ensures.bytes in (
      shown,
      subst (Consumes (g.R.Read.remaining c.args.reader.now) (g.R.Read.remaining c.consume.new.self)) (take_all (length shown) shown (le_refl _)) moved.0,
      c.extend.ensures none,
      omega (arith, c.if-left-size.false),
      search rules,
    )

pub returns-then-left-size-2-clause-cause : goal.returns-then-left-size-2-clause-cause
returns-then-left-size-2-clause-cause g c =
    let is = feed_some _ _ (sym c.feed_place.ensures.place ∙ c.in-Some.is) in
    shown_long _ (g.R.Read.remaining c.args.reader.now) _ _ c.in-Ok.shown.now c.in-Ok.ensures.front (λ zs. long_last c.in-Ok.shown.now c.in-Some.place zs is) c.if-left-size-2.true

pub returns-clause-taken : goal.returns-clause-taken
returns-clause-taken g c =
    let shown = c.in-Ok.shown.now in
    let place = c.in-Some.place in
    let rested = c.fill.follows.lender-at-none in
    let filled = subst (FillKeeps _ (g.R.Read.remaining rested) (g.R.BufRead.consumable_len rested)) c.in-Ok.is c.fill.follows.holds-at-none in
    let is = feed_some _ _ (sym c.feed_place.ensures.place ∙ c.in-Some.is) in
    let within : place + 1 ≤ length shown = omega (arith, is.inside) in
    let moved = Consumes_shown _ _ _ _ shown (place + 1) within c.in-Ok.ensures.front c.in-Ok.ensures.end filled.0 filled.1 c.consume-2.ensures.bytes in
    let long : length (take place shown) ≡ place = length-take-le place shown (omega (arith, is.inside)) in (
      take place shown,
      subst (Consumes (g.R.Read.remaining c.args.reader.now) (g.R.Read.remaining c.consume-2.new.self)) is.feed moved.0,
      c.extend-2.ensures is.before,
      omega (arith, long, c.if-left-size-2.false),
    )
