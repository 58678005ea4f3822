use Rattle.std.proofs.Common.{sym}
use Rattle.node_loop.proofs.Comings.{request_asked}
use Rattle.node_loop.proofs.asks.request_of.Goals as goal

pub returns : goal.returns
returns c = record {
  asked = let some = c.in_ok-request.ensures.parts in (λ none. cc, sym (request_asked c.args.at c.args.bytes.now _ some));
}
