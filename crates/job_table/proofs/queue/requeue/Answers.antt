use Rattle.std.proofs.Common.{◌≡◌, true, false, cond, ap, ◌∙◌}
use Rattle.job_table.specs.Queue.{line_of}
use Rattle.job_table.proofs.QueueLemmas.{times}
use Rattle.job_table.proofs.LineLemmas.{left, pushed, relinked_left, linked_as, changed_to, own_links}
use Rattle.job_table.proofs.queue.requeue.Goals as goal

pub returns-then-is-clause-linked : goal.returns-then-is-clause-linked
returns-then-is-clause-linked g c =
    let t = c.args.tenant in
    let s = c.args.seq in
    let es = c.args.jobs.now.entries in
    let queue = c.args.queue.now in
    let keys = line_of es queue in
    let now : (c.args.was ≡ false) × (c.args.is ≡ true) = changed_to c.args.was c.args.is true c.if-was-is.false c.if-is.true in
    let none : times t s keys ≡ 0 = c.requires.stood ∙ ap (λ b. cond b 1 0) now.0 in
    linked_as t s c.args.was c.args.is false true c.link_last.new.jobs.entries c.link_last.new.queue keys now.0 now.1
    (pushed t s es c.link_last.new.jobs.entries queue c.link_last.new.queue keys c.requires.linked none c.requires.there c.link_last.ensures.links c.link_last.ensures.queue)

pub returns-else-is-clause-linked : goal.returns-else-is-clause-linked
returns-else-is-clause-linked g c =
    let t = c.args.tenant in
    let s = c.args.seq in
    let es = c.args.jobs.now.entries in
    let queue = c.args.queue.now in
    let keys = line_of es queue in
    let now : (c.args.was ≡ true) × (c.args.is ≡ false) = changed_to c.args.was c.args.is false c.if-was-is.false c.if-is.false in
    let one : times t s keys ≡ 1 = c.requires.stood ∙ ap (λ b. cond b 1 0) now.0 in
    linked_as t s c.args.was c.args.is true false c.unlink.new.jobs.entries c.unlink.new.queue keys now.0 now.1
    (left t s es c.relink-links.new.jobs.entries c.unlink.new.jobs.entries queue c.unlink.new.queue keys c.relink-links.result c.requires.linked one
    (own_links t s es queue keys c.relink-links.result c.requires.linked c.requires.there c.relink-links.ensures.had)
    (relinked_left t s es c.relink-links.new.jobs.entries c.relink-links.ensures.links) c.unlink.ensures.links c.unlink.ensures.queue)
