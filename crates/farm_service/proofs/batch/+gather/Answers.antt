use Rattle.std.proofs.Common.{◌≡◌, ◌∙◌, ◌++◌, ◌∷◌, [], ◌-◌, ◌+◌, ◌≤◌, refl, sym, ap, arith, append-nil, append_assoc}
use Rattle.farm_service.specs.Batch.{HasRead, IsQueryRead}
use Rattle.farm_service.proofs.BatchLemmas.{query_known}
use Rattle.farm_service.proofs.batch.+gather.Goals as goal

pub returns-then-most-eq0-clause-read : goal.returns-then-most-eq0-clause-read
returns-then-most-eq0-clause-read g t c = ([], [], sym (append-nil c.args.batch.now.queries.items), sym (append-nil c.args.batch.now.names.items), (refl, refl))

pub returns-in-Err-clause-read : goal.returns-in-Err-clause-read
returns-in-Err-clause-read g t c = (
  [],
  [],
  sym (append-nil c.args.batch.now.queries.items),
  sym (append-nil c.args.batch.now.names.items),
  (
    omega (arith, c.if-most-eq0.false),
    record {
      read = c.read_request.result;
      takes = c.read_request.ensures.takes;
      cause = c.read_request.ensures.cause;
      counted = c.read_request.ensures.kept;
      is = c.in-Err.ensures.other ∙ c.route_call-routed.ensures.exact;
    },
  ),
)

pub returns-then-not-is_query_ahead-clause-read : goal.returns-then-not-is_query_ahead-clause-read
returns-then-not-is_query_ahead-clause-read g t c =
    let most = c.args.most in
    let one : (most - 1) + 1 ≡ most = omega (arith, c.if-most-eq0.false) in (
      c.in-Ok.it.0 ∷ [],
      c.in-Ok.it.1 ∷ [],
      c.push_reserved.ensures.items,
      c.push_reserved-2.ensures.items,
      (
        most - 1,
        one,
        g.I.Read.remaining c.read_request.new.reader,
        c.read_request.new.watch,
        record {
          routed = c.route_call-routed.result;
          is = c.in-Ok.ensures.query;
          known = query_known c.args.config.now c.route_call-routed.result c.in-Ok.it.0 c.in-Ok.it.1 c.in-Ok.ensures.query c.route_call-routed.ensures.known;
          read = record {
            read = c.read_request.result;
            takes = c.read_request.ensures.takes;
            cause = c.read_request.ensures.cause;
            counted = c.read_request.ensures.kept;
            is = c.route_call-routed.ensures.exact;
          };
        },
        (refl, refl),
      ),
    )

pub returns-clause-read : goal.returns-clause-read
returns-clause-read g t c =
    let most = c.args.most in
    let one : (most - 1) + 1 ≡ most = omega (arith, c.if-most-eq0.false) in
    let rest = c.gather.ensures.read in (
      c.in-Ok.it.0 ∷ rest.0,
      c.in-Ok.it.1 ∷ rest.1,
      rest.2 ∙ (ap (λ l. l ++ rest.0) c.push_reserved.ensures.items ∙ append_assoc c.args.batch.now.queries.items (c.in-Ok.it.0 ∷ []) rest.0),
      rest.3 ∙ (ap (λ l. l ++ rest.1) c.push_reserved-2.ensures.items ∙ append_assoc c.args.batch.now.names.items (c.in-Ok.it.1 ∷ []) rest.1),
      (
        most - 1,
        one,
        g.I.Read.remaining c.read_request.new.reader,
        c.read_request.new.watch,
        record {
          routed = c.route_call-routed.result;
          is = c.in-Ok.ensures.query;
          known = query_known c.args.config.now c.route_call-routed.result c.in-Ok.it.0 c.in-Ok.it.1 c.in-Ok.ensures.query c.route_call-routed.ensures.known;
          read = record {
            read = c.read_request.result;
            takes = c.read_request.ensures.takes;
            cause = c.read_request.ensures.cause;
            counted = c.read_request.ensures.kept;
            is = c.route_call-routed.ensures.exact;
          };
        },
        rest.4,
      ),
    )
