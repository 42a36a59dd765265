use Rattle.std.proofs.Common.{ap, refl, [], ◌∷◌}
use Rattle.turn_lock.proofs.Keeps.{may_end, calls_made, called_at, one_called}
use Rattle.turn_lock.proofs.lock.TurnLock.with_turn.Goals as goal

pub end_turn-requires-clause-value : goal.end_turn-requires-clause-value
end_turn-requires-clause-value g c =
    let k = g.T.Kept in
    let kept = c.requires.keeps c.take-value.result c.apply-answer.result c.apply-answer.new.self c.apply-answer.ensures in
    may_end k.opening k.events k.relation c.args.self.now.opening c.pass.inside.seat.me.0 1 c.take-value.result c.apply-answer.new.self c.take-value.new.seat.me (g.T.Runs.said c.args.call ∷ []) (g.T.Runs.told c.apply-answer.result ∷ [])
    c.take-value.ensures.took (c.apply-answer.new.self, kept, refl)

pub returns-clause-called : goal.returns-clause-called
returns-clause-called g c =
    let k = g.T.Kept in
    let kept = c.requires.keeps c.take-value.result c.apply-answer.result c.apply-answer.new.self c.apply-answer.ensures in
    let said = g.T.Runs.said c.args.call in
    let told = g.T.Runs.told c.apply-answer.result in
    one_called k.opening k.events k.relation c.args.self.now.opening c.args.pass.now.view c.end_turn.new.seat.me.0 said told
    (called_at k.opening k.events k.relation c.args.self.now.opening c.args.pass.now.view c.pass.inside.seat.me.0 c.end_turn.new.seat.me.0 (said ∷ []) (told ∷ []) (ap (λ p. p.view) c.pass.view_is)
    (calls_made k.opening k.events k.relation c.args.self.now.opening c.pass.inside.seat.me.0 1 c.take-value.result c.apply-answer.new.self c.take-value.new.seat.me c.end_turn.new.seat.me said [] (told ∷ []) c.pass.invariant.1 refl
    c.take-value.ensures.took (c.apply-answer.new.self, kept, refl) c.end_turn.ensures.made))
