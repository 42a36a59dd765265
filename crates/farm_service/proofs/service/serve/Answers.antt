use Rattle.std.proofs.Common.{◌≡◌, ◌∙◌, None, map, ap, subst}
use Rattle.farm_core.specs.Tills.{opening_of, AreSeated}
use Rattle.farm_session.specs.TillDesk.{HaveSeated}
use Rattle.farm_session.proofs.TillLemmas.{tills_new}
use Rattle.farm_pool.specs.Settle.{books_of, words_at, first_unsettled}
use Rattle.farm_pool.specs.Worked.{Worked}
use Rattle.farm_service.specs.Tills.{IsSettled}
use Rattle.farm_service.proofs.SettledLemmas.{on_ok}
use Rattle.farm_service.proofs.service.serve.Goals as goal

pub run_threads-requires-clause-tills : goal.run_threads-requires-clause-tills
run_threads-requires-clause-tills g c κs within k d few =
    ap (map opening_of) (tills_new _ _ _ (c.in-Ok-connection_desks.ensures.new k d few) ∙ c.as_slice-tills.ensures.value) ∙ c.in-Ok-open_tills.ensures.tills

pub returns-in-Some-close : goal.returns-in-Some-close
returns-in-Some-close g c =
    on_ok c.settle.result (first_unsettled (books_of c.in-Some-close.farm) (map words_at c.settle.new.desks) ≡ None) (IsSettled c.args.config.now c.args.sessions)
    (λ settled. record {
      farm = c.in-Some-close.farm;
      served = c.run_threads.new.token.view;
      seen = c.work.new.pass.view;
      turns = c.work.result.turns;
      strangers = c.work.result.strangers;
      tills = c.in-Ok-open_tills.tills.items;
      before = c.connection_desks.new.desks;
      after = c.settle.new.desks;
      config_is = c.in-Some-close.ensures.config ∙ c.in-Ok.ensures.opening;
      worked = subst (λ n. Worked n c.run_threads.new.token.view c.work.result.turns c.work.result.strangers c.work.new.pass.view) c.in-Ok.ensures.slice c.work.ensures.worked;
      closed = c.in-Some-close.ensures.closed;
      own = c.in-Ok-open_tills.ensures.tills;
      seated = subst (λ ts. AreSeated ts c.connection_desks.new.desks) c.as_slice-tills.ensures.value c.connection_desks.ensures.seated;
      desks = subst (λ ds. HaveSeated c.args.sessions ds c.connection_desks.new.desks) (c.as_mut_slice-desks.ensures.value ∙ c.in-Ok-open_tills.ensures.unused) c.in-Ok-connection_desks.ensures.each;
      loaded = c.settle.ensures.loaded;
      settled = settled;
    })
    c.settle.ensures.settled
