use Rattle.std.proofs.Common.{rules, map}
use Rattle.schedule_files.proofs.ReadingLemmas.{words_unread, words_told, words_none}
use Rattle.schedule_files.proofs.reading.read_words.Goals as goal

pub returns-in_default-clause-none : goal.returns-in_default-clause-none
returns-in_default-clause-none c =
    words_unread c.args.text.now (map (λ word. word.now) c.ending.result.now) (search rules) (search rules)

pub returns-clause-told : goal.returns-clause-told
returns-clause-told c =
    words_told c.args.text.now (map (λ word. word.now) c.as_slice.result.now) (map (λ word. word.now) c.ending.result.now) c.in-Some.places.items
    c.in_ok-schedule.schedule c.filled.result (search rules) (search rules) (search rules) (search rules) (search rules)

pub returns-clause-none : goal.returns-clause-none
returns-clause-none c =
    words_none c.args.text.now (map (λ word. word.now) c.ending.result.now) c.in-Some.places.items
    c.in_ok-schedule.schedule c.filled.result (search rules) (search rules) (search rules) (search rules) (search rules)
