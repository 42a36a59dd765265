use Rattle.farm_service.proofs.SessionLemmas.{client_left, client_served}
use Rattle.farm_service.proofs.service.serve_connection.Goals as goal

pub returns-in_default-clause-served : goal.returns-in_default-clause-served
returns-in_default-clause-served g c =
    client_left c.args.service.now.shop.config.now (g.D.Shared.tells c.args.service.now.shared.now) (goal.M-post g c.args.service.now.shop.make.now) c.args.token.now
    c.args.own.now

pub returns-in_default-new-clause-served : goal.returns-in_default-new-clause-served
returns-in_default-new-clause-served g c =
    client_left c.args.service.now.shop.config.now (g.D.Shared.tells c.args.service.now.shared.now) (goal.M-post g c.args.service.now.shop.make.now) c.args.token.now
    c.args.own.now

pub returns-clause-served : goal.returns-clause-served
returns-clause-served g c =
    client_served c.args.service.now.shop.config.now (g.D.Shared.tells c.args.service.now.shared.now) (goal.M-post g c.args.service.now.shop.make.now) c.args.token.now
    c.session.new.token c.args.own.now c.session.new.till_desks _ _ _ _ c.session.ensures.served
