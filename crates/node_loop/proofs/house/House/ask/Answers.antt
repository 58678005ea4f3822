use Rattle.std.proofs.Common.{Some, refl, sym, ap, ◌∙◌, subst}
use Rattle.std.proofs.lemmas.Bool.{both_ways}
use Rattle.std.proofs.lemmas.Result.{on_ok_weaker, on_err_weaker}
use Rattle.client_port.specs.Messages.{request_in, query_in}
use Rattle.command_log.specs.Index.{HaveFourBytes}
use Rattle.world_model.specs.Agree.{rows_at}
use Rattle.node_loop.specs.Calls.{asks, asks_so, queried}
use Rattle.node_loop.specs.Wanting.{RequestMayWant}
use Rattle.node_loop.proofs.Indexing.{at_error}
use Rattle.node_loop.proofs.Querying.{query_fits, no_query_fits}
use Rattle.node_loop.proofs.Comings.{quietly, cleared, comes_at, comes_as, does_here, not_here, asks_query, asks_other}
use Rattle.node_loop.proofs.house.House.ask.Goals as goal

pub returns-in_default-clause-comes : goal.returns-in_default-clause-comes
returns-in_default-clause-comes g c = λ w es numbers ws p stand.
    not_here _ w es numbers c.args.self.now c.clear.new.self c.args.at (asks w es c.args.at c.args.conn c.args.bytes ws) ws p (quietly w es p) (c.in_default.ensures.place w es numbers stand.here) refl stand
    (cleared c.clear.new.self c.clear.ensures.none)

pub returns-in-Some-read_query-clause-comes : goal.returns-in-Some-read_query-clause-comes
returns-in-Some-read_query-clause-comes g c = λ w es numbers ws p stand.
    let placed = c.in-Some.ensures.place w es numbers stand.here in
    let at_is = c.clear.ensures.at in
    let at = c.args.at in
    let bytes = c.args.bytes in
    let position = c.in-Some-read_query.position in
    let is = asks_query w es at c.args.conn bytes ws position (ap query_in (sym c.as_slice.ensures) ∙ sym c.read_query.ensures ∙ c.in-Some-read_query.is) in
    on_ok_weaker c.query.result
    (λ comes. does_here _ w es numbers c.args.self.now c.query.new.output at (asks w es at c.args.conn bytes ws) ws (quietly w es p) placed.0
    (comes_as _ w es numbers c.args.self.now c.query.new.output (queried w es at c.args.conn position ws) (asks w es at c.args.conn bytes ws) (quietly w es p) (sym is)
    (comes_at _ w es numbers c.args.self.now c.query.new.output (λ k. queried w es k c.args.conn position ws) (λ k. quietly w es p (queried w es k c.args.conn position ws)) c.clear.new.self.at at at_is comes)))
    (c.query.ensures.comes w es numbers ws p stand (placed.1 ∙ ap (λ x. Some x) (sym at_is)) (cleared c.clear.new.self c.clear.ensures.none))

pub returns-in-None-clause-comes : goal.returns-in-None-clause-comes
returns-in-None-clause-comes g c = λ w es numbers ws p stand.
    let placed = c.in-Some.ensures.place w es numbers stand.here in
    let at_is = c.clear.ensures.at in
    let at = c.args.at in
    let bytes = c.args.bytes in
    let is = asks_other w es at c.args.conn bytes ws (ap query_in (sym c.as_slice.ensures) ∙ sym c.read_query.ensures ∙ c.in-None.is) in
    on_ok_weaker c.request.result
    (λ comes. does_here _ w es numbers c.request.new.self c.request.new.output at (asks w es at c.args.conn bytes ws) ws (quietly w es p) placed.0
    (comes_as _ w es numbers c.request.new.self c.request.new.output (asks_so w es at c.args.conn bytes ws (request_in bytes)) (asks w es at c.args.conn bytes ws) (quietly w es p) (sym is)
    (comes_at _ w es numbers c.request.new.self c.request.new.output
    (λ k. asks_so w es k c.args.conn bytes ws (request_in bytes)) (λ k. quietly w es p (asks_so w es k c.args.conn bytes ws (request_in bytes))) c.clear.new.self.at at at_is comes)))
    (c.request.ensures.comes w es numbers ws p stand (placed.1 ∙ ap (λ x. Some x) (sym at_is)) (cleared c.clear.new.self c.clear.ensures.none))

pub returns-in_default-clause-fits : goal.returns-in_default-clause-fits
returns-in_default-clause-fits g c = λ w es numbers stand correct. absurd (both_ways (w.is_correct c.args.at) (c.in_default.ensures.place w es numbers stand) correct)

pub returns-in-Some-read_query-clause-fits : goal.returns-in-Some-read_query-clause-fits
returns-in-Some-read_query-clause-fits g c = λ w es numbers stand.
    let placed = c.in-Some.ensures.place w es numbers stand in
    let at_is = c.clear.ensures.at in
    let fits = c.query.ensures.fits w es numbers stand (placed.1 ∙ ap (λ x. Some x) (sym at_is)) in
    query_fits w es c.args.at c.args.bytes c.in-Some-read_query.position (ap query_in (sym c.as_slice.ensures) ∙ sym c.read_query.ensures ∙ c.in-Some-read_query.is) fits.0
    (subst (λ k. HaveFourBytes (rows_at w es k)) at_is fits.1)

pub returns-in-None-clause-fits : goal.returns-in-None-clause-fits
returns-in-None-clause-fits g c = λ w es numbers stand.
    no_query_fits w es c.args.at c.args.bytes (ap query_in (sym c.as_slice.ensures) ∙ sym c.read_query.ensures ∙ c.in-None.is)

pub returns-in-Some-read_query-clause-memory : goal.returns-in-Some-read_query-clause-memory
returns-in-Some-read_query-clause-memory g c = λ w es numbers ws p stand.
    let is = ap query_in (sym c.as_slice.ensures) ∙ sym c.read_query.ensures ∙ c.in-Some-read_query.is in
    at_error c.query.result (record {
      here = (c.in-Some.ensures.place w es numbers stand.here).0;
      request = λ none. absurd (let e = sym is ∙ none in cc);
    })

pub returns-in-None-clause-memory : goal.returns-in-None-clause-memory
returns-in-None-clause-memory g c = λ w es numbers ws p stand.
    let placed = c.in-Some.ensures.place w es numbers stand.here in
    let at_is = c.clear.ensures.at in
    let bytes = c.args.bytes in
    on_err_weaker c.request.result
    (λ may. record { here = placed.0; request = λ none. subst (λ k. RequestMayWant w es k c.args.conn bytes ws (request_in bytes)) at_is may })
    (c.request.ensures.memory w es numbers ws p stand (placed.1 ∙ ap (λ x. Some x) (sym at_is)))
