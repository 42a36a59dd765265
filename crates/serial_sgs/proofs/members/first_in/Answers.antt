use Rattle.std.proofs.Common.{◌*◌, ◌<◌, ◌≤◌, arith, ⊎_elim}
use Rattle.std.proofs.lemmas.Bool.{cases_lt}
use Rattle.serial_sgs.proofs.MemberLemmas.{word_found, word_over}
use Rattle.serial_sgs.proofs.members.first_in.Goals as goal

pub returns-then-bits-ne0 : goal.returns-then-bits-ne0
returns-then-bits-ne0 c =
    word_found c.args.words.now c.args.first c.loop-word.word (omega arith) (omega arith) (omega arith) (omega arith) c.loop-word.invariant

pub loop-word-preserved : goal.loop-word-preserved
loop-word-preserved c i l h =
    ⊎_elim
    (λ (before : i < c.loop-word.word * 64). c.loop-word.invariant i l before)
    (λ (here : c.loop-word.word * 64 ≤ i). word_over c.args.words.now c.loop-word.word (omega arith) i here h)
    (cases_lt i (c.loop-word.word * 64))
