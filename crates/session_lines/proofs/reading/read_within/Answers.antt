use Rattle.std.proofs.Common.{◌≡◌, ◌∙◌}
use Rattle.watched_io.specs.Failure.{HasFailed}
use Rattle.session_lines.proofs.ReadLemmas.{after_line, after_blank, after_head, after_whole, after_long, after_bad, with_head}
use Rattle.session_lines.proofs.CauseLemmas.{past_between, head_given_up}
use Rattle.session_lines.proofs.reading.read_within.Goals as goal

pub returns-in-Whole-clause-takes : goal.returns-in-Whole-clause-takes
returns-in-Whole-clause-takes g c = after_whole (g.R.Read.remaining c.args.reader.now) (g.R.Read.remaining c.next_meaning.new.reader) _ _ _ (after_line (g.R.Read.remaining c.args.reader.now) (g.R.Read.remaining c.loop-found.reader) (g.R.Read.remaining c.next_meaning.new.reader) _ _ _ _ c.loop-found.invariant.1 (rw (c.in-Some.is, c.in-Whole.is) at c.in-Ok.ensures.taken))

pub returns-in-Opens-clause-takes : goal.returns-in-Opens-clause-takes
returns-in-Opens-clause-takes g c =
    with_head (g.R.Read.remaining c.args.reader.now) (g.R.Read.remaining c.next_meaning.new.reader) (g.R.Read.remaining c.read_text.new.reader) _ _ _ _ (after_head (g.R.Read.remaining c.args.reader.now) (g.R.Read.remaining c.next_meaning.new.reader) _ _ _ (after_line (g.R.Read.remaining c.args.reader.now) (g.R.Read.remaining c.loop-found.reader) (g.R.Read.remaining c.next_meaning.new.reader) _ _ _ _ c.loop-found.invariant.1 (rw (c.in-Some.is, c.in-Opens.is) at c.in-Ok.ensures.taken))) c.read_text.ensures.takes

pub returns-in-Long-clause-takes : goal.returns-in-Long-clause-takes
returns-in-Long-clause-takes g c = after_long (g.R.Read.remaining c.args.reader.now) (g.R.Read.remaining c.next_meaning.new.reader) _ _ (after_line (g.R.Read.remaining c.args.reader.now) (g.R.Read.remaining c.loop-found.reader) (g.R.Read.remaining c.next_meaning.new.reader) _ _ _ _ c.loop-found.invariant.1 (rw (c.in-Some.is, c.in-Long.is) at c.in-Ok.ensures.taken))

pub returns-in-Bad-clause-takes : goal.returns-in-Bad-clause-takes
returns-in-Bad-clause-takes g c = after_bad (g.R.Read.remaining c.args.reader.now) (g.R.Read.remaining c.next_meaning.new.reader) _ _ _ (after_line (g.R.Read.remaining c.args.reader.now) (g.R.Read.remaining c.loop-found.reader) (g.R.Read.remaining c.next_meaning.new.reader) _ _ _ _ c.loop-found.invariant.1 (rw (c.in-Some.is, c.in-Bad.is) at c.in-Ok.ensures.taken))

pub loop-found-preserved : goal.loop-found-preserved
loop-found-preserved g c = (
  c.in-Ok.ensures.kept ∙ c.loop-found.invariant.0,
  after_blank (g.R.Read.remaining c.args.reader.now) (g.R.Read.remaining c.next_meaning.new.reader) _ _ (after_line (g.R.Read.remaining c.args.reader.now) (g.R.Read.remaining c.loop-found.reader) (g.R.Read.remaining c.next_meaning.new.reader) _ _ _ _ c.loop-found.invariant.1 (rw (c.in-Some.is, c.in-Blank.is) at c.in-Ok.ensures.taken)),
)

pub returns-in_default-clause-cause : goal.returns-in_default-clause-cause
returns-in_default-clause-cause g c = past_between _ _ _ _ (g.R.Read.remaining c.args.reader.now) (g.R.Read.remaining c.loop-found.reader) c.loop-found.invariant.1 (rw c.loop-found.invariant.0 at c.in_default.ensures.cause)

pub returns-in-Opens-clause-cause : goal.returns-in-Opens-clause-cause
returns-in-Opens-clause-cause g c =
    let same : c.next_meaning.new.watch ≡ c.args.watch.now = c.in-Ok.ensures.kept ∙ c.loop-found.invariant.0 in
    head_given_up (HasFailed c.args.watch.now c.read_text.new.watch) _ _ _ (g.R.Read.remaining c.args.reader.now) (g.R.Read.remaining c.next_meaning.new.reader) _ (after_head (g.R.Read.remaining c.args.reader.now) (g.R.Read.remaining c.next_meaning.new.reader) _ _ _ (after_line (g.R.Read.remaining c.args.reader.now) (g.R.Read.remaining c.loop-found.reader) (g.R.Read.remaining c.next_meaning.new.reader) _ _ _ _ c.loop-found.invariant.1 (rw (c.in-Some.is, c.in-Opens.is) at c.in-Ok.ensures.taken))) (rw same at c.read_text.ensures.cause)
