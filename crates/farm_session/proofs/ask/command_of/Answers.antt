use Rattle.std.proofs.Common.{◌≡◌, ◌<◌, length, get_or, Some, None, ap, arith}
use Rattle.std.proofs.lemmas.List.{length-map}
use Rattle.farm_core.proofs.TillLemmas.{tills_length}
use Rattle.farm_session.specs.TillDesk.{TillDeskValue, tills_of, lease_at}
use Rattle.farm_session.proofs.FreshLemmas.{made_drawn, found_branch}
use Rattle.farm_session.proofs.TillLemmas.{submit_leased, set_found}
use Rattle.farm_session.proofs.ask.command_of.Goals as goal

pub bounds-till_desks-purse : goal.bounds-till_desks-purse
bounds-till_desks-purse g c =
    let count = tills_length c.args.shop.now.config.now (tills_of c.args.till_desks.now) c.requires.tills in
    let same = length-map c.args.till_desks.now (λ (b : TillDeskValue). b.till) in
    omega (arith, count, same, c.purse_of-purse.ensures.known)

pub returns-in-Some-clause-leased : goal.returns-in-Some-clause-leased
returns-in-Some-clause-leased g c =
    let till_desks = c.args.till_desks.now in
    let purse = c.purse_of-purse.result in
    let count = tills_length c.args.shop.now.config.now (tills_of till_desks) c.requires.tills in
    let same = length-map till_desks (λ (b : TillDeskValue). b.till) in
    let few : purse < length till_desks = omega (arith, count, same, c.purse_of-purse.ensures.known) in
    rw c.in-Submit.is
    (submit_leased (goal.M-post g c.args.shop.now.make.now) c.args.shop.now.config.now c.args.tenant c.in-Submit.quanta purse c.in-Submit.plan
    till_desks (get_or till_desks purse c.index-till_desks-purse.result) c.search_of.new.till_desk c.purse_of-purse.ensures.exact few
    (ap (get_or till_desks purse) c.index-till_desks-purse.is) c.search_of.result (Some c.in-Some.search) c.in-Some.is c.search_of.ensures)

pub returns-in-None-clause-leased : goal.returns-in-None-clause-leased
returns-in-None-clause-leased g c =
    let till_desks = c.args.till_desks.now in
    let purse = c.purse_of-purse.result in
    let count = tills_length c.args.shop.now.config.now (tills_of till_desks) c.requires.tills in
    let same = length-map till_desks (λ (b : TillDeskValue). b.till) in
    let few : purse < length till_desks = omega (arith, count, same, c.purse_of-purse.ensures.known) in
    rw c.in-Submit.is
    (submit_leased (goal.M-post g c.args.shop.now.make.now) c.args.shop.now.config.now c.args.tenant c.in-Submit.quanta purse c.in-Submit.plan
    till_desks (get_or till_desks purse c.index-till_desks-purse.result) c.search_of.new.till_desk c.purse_of-purse.ensures.exact few
    (ap (get_or till_desks purse) c.index-till_desks-purse.is) c.search_of.result None c.in-None.is c.search_of.ensures)

pub returns-in-Some-clause-drawn : goal.returns-in-Some-clause-drawn
returns-in-Some-clause-drawn g c meaning lease makes =
    let till_desks = c.args.till_desks.now in
    let purse = c.purse_of-purse.result in
    let here = get_or till_desks purse c.index-till_desks-purse.result in
    let count = tills_length c.args.shop.now.config.now (tills_of till_desks) c.requires.tills in
    let same = length-map till_desks (λ (b : TillDeskValue). b.till) in
    let few : purse < length till_desks = omega (arith, count, same, c.purse_of-purse.ensures.known) in
    let at = ap (get_or till_desks purse) c.index-till_desks-purse.is in
    rw (← c.purse_of-purse.ensures.exact)
    (found_branch till_desks purse here (λ till_desk. lease c.in-Some.search ≡ lease_at till_desk c.args.tenant) (set_found till_desks purse c.index-till_desks-purse.result few)
    (made_drawn meaning lease (goal.M-post g c.args.shop.now.make.now) makes here c.search_of.new.till_desk c.args.tenant _ c.search_of.result c.in-Some.search c.in-Some.is c.search_of.ensures))
