use Rattle.std.proofs.Common.{◌≡◌, ◌∙◌, ◌++◌, length, take, drop, sym, ap}
use Rattle.std.proofs.Math.Seq.{take-append_seam}
use Rattle.farm_service.proofs.service.run_role.Goals as goal

pub returns-in-Worker-clause-role : goal.returns-in-Worker-clause-role
returns-in-Worker-clause-role g c = rw c.in-Worker.is c.work.ensures.worked

-- the till desks are whole again once the session gives them back
pub returns-in-Client-clause-role : goal.returns-in-Client-clause-role
returns-in-Client-clause-role g c =
    let whole : take c.in-Client.own.len (c.serve_connection.new.own ++ drop (length c.serve_connection.new.own) c.in-Client.own.items) ≡ c.serve_connection.new.own =
    ap (λ n. take n (c.serve_connection.new.own ++ drop (length c.serve_connection.new.own) c.in-Client.own.items)) (sym (c.serve_connection.auto.own ∙ c.as_mut_slice.ensures.len))
    ∙ take-append_seam c.serve_connection.new.own (drop (length c.serve_connection.new.own) c.in-Client.own.items) in
    rw c.in-Client.is (rw (whole, ← c.as_mut_slice.ensures.value) c.serve_connection.ensures.served)
