use Rattle.std.proofs.Common.{◌≡◌, ◌∙◌, ◌==◌, true, false, rules, Err}
use Rattle.session_lines.proofs.ReadLemmas.{after_add, after_some, after_text, after_cut}
use Rattle.session_lines.proofs.CauseLemmas.{past_in_text}
use Rattle.session_lines.proofs.reading.read_text.Goals as goal

pub returns-then-is_whole-clause-takes : goal.returns-then-is_whole-clause-takes
returns-then-is_whole-clause-takes g c =
    let added = after_add (g.R.Read.remaining c.args.reader.now) (g.R.Read.remaining c.loop-found.reader) (g.R.Read.remaining c.next_text_line.new.reader) _ c.loop-found.text c.next_text_line.new.text _ _ _ c.loop-found.invariant.1 (rw c.if-not-found.false at c.in-Ok.ensures.taken) in
    let none : (c.next_text_line.new.text.left == 0) ≡ true = cc in
    after_text (g.R.Read.remaining c.args.reader.now) (g.R.Read.remaining c.next_text_line.new.reader) _ _ _ _ _ none c.submit.ensures.answers added

pub loop-found-preserved : goal.loop-found-preserved
loop-found-preserved g c =
    let added = after_add (g.R.Read.remaining c.args.reader.now) (g.R.Read.remaining c.loop-found.reader) (g.R.Read.remaining c.next_text_line.new.reader) _ c.loop-found.text c.next_text_line.new.text _ _ _ c.loop-found.invariant.1 (rw c.if-not-found.false at c.in-Ok.ensures.taken) in
    let some : (c.next_text_line.new.text.left == 0) ≡ false = cc in (
      c.in-Ok.ensures.kept ∙ c.loop-found.invariant.0,
      after_some (g.R.Read.remaining c.args.reader.now) (g.R.Read.remaining c.next_text_line.new.reader) _ _ _ _ some added,
    )

pub returns-then-not-found-clause-takes : goal.returns-then-not-found-clause-takes
returns-then-not-found-clause-takes g c =
    let none : c.in-Ok.found ≡ false = search rules in
    let same : c.next_text_line.new.text ≡ c.loop-found.text = c.in-Ok.ensures.stays none in
    after_cut (g.R.Read.remaining c.args.reader.now) (g.R.Read.remaining c.loop-found.reader) (g.R.Read.remaining c.next_text_line.new.reader) _ c.loop-found.text _ _ (Err c.cut.result) (λ said t. c.cut.ensures.answers said (rw same t)) c.loop-found.invariant.1 (rw none at c.in-Ok.ensures.taken)

pub returns-in_default-clause-cause : goal.returns-in_default-clause-cause
returns-in_default-clause-cause g c = past_in_text _ _ _ _ _ (g.R.Read.remaining c.args.reader.now) (g.R.Read.remaining c.loop-found.reader) c.loop-found.invariant.1 (rw c.loop-found.invariant.0 at c.in_default.ensures.cause)
