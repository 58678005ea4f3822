use Rattle.std.proofs.Common.{Some, sym, ap, ◌∙◌}
use Rattle.std.proofs.lemmas.Bool.{both_ways}
use Rattle.std.proofs.lemmas.Result.{on_ok_weaker}
use Rattle.ritas_base.specs.declared.event.Event.TheVariants.{Turn}
use Rattle.node_loop.specs.Calls.{event_called}
use Rattle.node_loop.specs.Peers.{keep_all}
use Rattle.node_loop.specs.Resending.{nothing_more}
use Rattle.node_loop.specs.Serving.{frames_made_by}
use Rattle.node_loop.proofs.Indexing.{at_error}
use Rattle.node_loop.proofs.Comings.{cleared, comes_at}
use Rattle.node_loop.proofs.house.House.turn.Goals as goal

pub returns-in-Some-clause-comes : goal.returns-in-Some-clause-comes
returns-in-Some-clause-comes g c = λ w es numbers ws p stand right.
    let placed = c.in-Some.ensures.place w es numbers stand.here in
    let at_is = c.clear.ensures.at in
    on_ok_weaker c.call.result
    (comes_at _ w es numbers c.call.new.self c.call.new.output (λ k. event_called w es k (Turn c.args.at) ws) (λ k. nothing_more (keep_all w.mode.version (frames_made_by w es (Some (Turn c.args.at))) p)) c.clear.new.self.at c.args.at at_is)
    (c.call.ensures.comes w es numbers ws p stand (placed.1 ∙ ap (λ x. Some x) (sym at_is)) (sym at_is) (cleared c.clear.new.self c.clear.ensures.none))

pub returns-in-None-clause-comes : goal.returns-in-None-clause-comes
returns-in-None-clause-comes g c = λ w es numbers ws p stand right. absurd (both_ways (w.is_correct c.args.at) (c.in-None.ensures.place w es numbers stand.here) right)

pub returns-in-Some-clause-memory : goal.returns-in-Some-clause-memory
returns-in-Some-clause-memory g c = λ w es numbers stand. at_error c.call.result (c.in-Some.ensures.place w es numbers stand).0
