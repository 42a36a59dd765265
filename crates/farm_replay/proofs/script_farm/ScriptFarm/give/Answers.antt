use Rattle.std.proofs.Common.{◌<◌, length, subst, sym}
use Rattle.farm_replay.proofs.ScriptFarmLemmas.{IsRun, found_turn, found_floor, found_follows, found_told, never_strange, held_turn, told_none, lacks_turn}
use Rattle.farm_replay.proofs.script_farm.ScriptFarm.give.Goals as goal

pub returns-in_default-clause-told : goal.returns-in_default-clause-told
returns-in_default-clause-told g c =
    told_none g.J.Strategy.meaning c.args.self.now.farm c.args.tenant c.args.seq c.args.self.now.held.items c.requires.known c.requires.script_farm
    (lacks_turn c.args.tenant c.args.seq c.args.self.now.held.items (cc (c.place_of.ensures, c.deref.ensures.value, c.in_default.is)))

pub run-requires-after_bounds : goal.run-requires-after_bounds
run-requires-after_bounds g c κs within =
    let found = found_turn g.J.Strategy.meaning c.args.self.now.farm c.args.tenant c.args.seq c.args.self.now.held.items c.remove-turn.new.self.items c.in-Some.place c.remove-turn.result
    (cc (c.place_of.ensures, c.deref.ensures.value, c.in-Some.is)) c.remove-turn.ensures.value c.remove-turn.ensures.by_index.2 c.requires.script_farm in
    held_turn c.args.self.now.farm c.remove-turn.result.tenant c.remove-turn.result.seq c.remove-turn.result.slice c.remove-turn.result.ran (g.J.Strategy.meaning c.remove-turn.result.search) found.held found.ran

pub give-requires-clause-known : goal.give-requires-clause-known
give-requires-clause-known g c κs within =
    let found = found_turn g.J.Strategy.meaning c.args.self.now.farm c.args.tenant c.args.seq c.args.self.now.held.items c.remove-turn.new.self.items c.in-Some.place c.remove-turn.result
    (cc (c.place_of.ensures, c.deref.ensures.value, c.in-Some.is)) c.remove-turn.ensures.value c.remove-turn.ensures.by_index.2 c.requires.script_farm in
    subst (λ t. t < length c.args.self.now.farm.config.tenants) (sym c.run.ensures.tenant) found.known

pub returns-in-Ok-clause-told : goal.returns-in-Ok-clause-told
returns-in-Ok-clause-told g c =
    let found = found_turn g.J.Strategy.meaning c.args.self.now.farm c.args.tenant c.args.seq c.args.self.now.held.items c.remove-turn.new.self.items c.in-Some.place c.remove-turn.result
    (cc (c.place_of.ensures, c.deref.ensures.value, c.in-Some.is)) c.remove-turn.ensures.value c.remove-turn.ensures.by_index.2 c.requires.script_farm in
    let turn = c.run.new.self in
    let m = g.J.Strategy.meaning c.run.new.self.search in
    let run : IsRun g.J.Strategy.meaning c.remove-turn.result turn.tenant turn.seq turn.slice turn.ran c.run.result m =
    record { tenant_is = c.run.ensures.tenant; seq_is = c.run.ensures.seq; slice_is = c.run.ensures.slice; first = c.run.ensures.first; ran_is = c.run.ensures.ran; search = c.run.ensures.search } in
    found_told g.J.Strategy.meaning c.args.self.now.farm c.give.new.self c.args.tenant c.args.seq c.args.self.now.held.items c.remove-turn.new.self.items c.remove-turn.result
    turn.tenant turn.seq turn.slice turn.ran c.run.result m c.in-Ok.reply found run c.in-Ok.ensures.given.follows

pub returns-in-Ok-clause-script_farm : goal.returns-in-Ok-clause-script_farm
returns-in-Ok-clause-script_farm g c =
    let found = found_turn g.J.Strategy.meaning c.args.self.now.farm c.args.tenant c.args.seq c.args.self.now.held.items c.remove-turn.new.self.items c.in-Some.place c.remove-turn.result
    (cc (c.place_of.ensures, c.deref.ensures.value, c.in-Some.is)) c.remove-turn.ensures.value c.remove-turn.ensures.by_index.2 c.requires.script_farm in
    let turn = c.run.new.self in
    let m = g.J.Strategy.meaning c.run.new.self.search in
    let run : IsRun g.J.Strategy.meaning c.remove-turn.result turn.tenant turn.seq turn.slice turn.ran c.run.result m =
    record { tenant_is = c.run.ensures.tenant; seq_is = c.run.ensures.seq; slice_is = c.run.ensures.slice; first = c.run.ensures.first; ran_is = c.run.ensures.ran; search = c.run.ensures.search } in
    found_floor g.J.Strategy.meaning c.args.self.now.farm c.give.new.self c.args.tenant c.args.seq turn.ran c.in-Ok.reply c.args.self.now.held.items c.remove-turn.new.self.items
    c.remove-turn.result found
    (found_follows g.J.Strategy.meaning c.args.self.now.farm c.give.new.self c.args.tenant c.args.seq c.args.self.now.held.items c.remove-turn.new.self.items c.remove-turn.result
    turn.tenant turn.seq turn.slice turn.ran c.run.result m c.in-Ok.reply found run c.in-Ok.ensures.given.follows)
    c.requires.script_farm

pub returns-in-Err-clause-told : goal.returns-in-Err-clause-told
returns-in-Err-clause-told g c =
    let found = found_turn g.J.Strategy.meaning c.args.self.now.farm c.args.tenant c.args.seq c.args.self.now.held.items c.remove-turn.new.self.items c.in-Some.place c.remove-turn.result
    (cc (c.place_of.ensures, c.deref.ensures.value, c.in-Some.is)) c.remove-turn.ensures.value c.remove-turn.ensures.by_index.2 c.requires.script_farm in
    let turn = c.run.new.self in
    let m = g.J.Strategy.meaning c.run.new.self.search in
    let run : IsRun g.J.Strategy.meaning c.remove-turn.result turn.tenant turn.seq turn.slice turn.ran c.run.result m =
    record { tenant_is = c.run.ensures.tenant; seq_is = c.run.ensures.seq; slice_is = c.run.ensures.slice; first = c.run.ensures.first; ran_is = c.run.ensures.ran; search = c.run.ensures.search } in
    absurd (never_strange g.J.Strategy.meaning c.args.self.now.farm c.args.tenant c.args.seq c.args.self.now.held.items c.remove-turn.new.self.items c.remove-turn.result
    turn.tenant turn.seq turn.slice turn.ran c.run.result m found run c.in-Err.ensures.strange)

pub returns-in-Err-clause-script_farm : goal.returns-in-Err-clause-script_farm
returns-in-Err-clause-script_farm g c =
    let found = found_turn g.J.Strategy.meaning c.args.self.now.farm c.args.tenant c.args.seq c.args.self.now.held.items c.remove-turn.new.self.items c.in-Some.place c.remove-turn.result
    (cc (c.place_of.ensures, c.deref.ensures.value, c.in-Some.is)) c.remove-turn.ensures.value c.remove-turn.ensures.by_index.2 c.requires.script_farm in
    let turn = c.run.new.self in
    let m = g.J.Strategy.meaning c.run.new.self.search in
    let run : IsRun g.J.Strategy.meaning c.remove-turn.result turn.tenant turn.seq turn.slice turn.ran c.run.result m =
    record { tenant_is = c.run.ensures.tenant; seq_is = c.run.ensures.seq; slice_is = c.run.ensures.slice; first = c.run.ensures.first; ran_is = c.run.ensures.ran; search = c.run.ensures.search } in
    absurd (never_strange g.J.Strategy.meaning c.args.self.now.farm c.args.tenant c.args.seq c.args.self.now.held.items c.remove-turn.new.self.items c.remove-turn.result
    turn.tenant turn.seq turn.slice turn.ran c.run.result m found run c.in-Err.ensures.strange)
