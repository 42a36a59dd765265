use Rattle.std.specs.Prelude.{is_ok}
use Rattle.std.proofs.Common.{◌≡◌, ◌∙◌, ◌++◌, ◌∷◌, [], true, false, rules, refl, sym, ap, arith, length, length-append}
use Rattle.farm_service.proofs.BatchLemmas.{told_first, told_more, told_none}
use Rattle.farm_service.proofs.batch.+tell_all.Goals as goal

pub returns-then-is_err-clause-told : goal.returns-then-is_err-clause-told
returns-then-is_err-clause-told g t c =
    let bad : is_ok c.write_reply.result ≡ false = search rules in
    told_first c.args.batch.now.names.items c.pop.new.self.items c.args.batch.now.replies.items c.pop-2.new.self.items c.in-Some.name c.in-Some-pop.reply c.write_reply.result _ _ _ _ c.in-Some.ensures.items c.in-Some-pop.ensures.items bad
    (record { wrote = c.write_reply.ensures.writes; noted = c.write_reply.ensures.noted })

pub returns-clause-told : goal.returns-clause-told
returns-clause-told g t c =
    let good : is_ok c.write_reply.result ≡ true = search rules in
    told_more c.args.batch.now.names.items c.pop.new.self.items c.args.batch.now.replies.items c.pop-2.new.self.items c.in-Some.name c.in-Some-pop.reply c.write_reply.result c.tell_all.result _ _ _ _ _ _ c.in-Some.ensures.items c.in-Some-pop.ensures.items good
    (record { wrote = c.write_reply.ensures.writes; noted = c.write_reply.ensures.noted }) c.tell_all.ensures.told
