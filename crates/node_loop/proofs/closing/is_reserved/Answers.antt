use Rattle.std.proofs.Common.{Bool, ◌==◌, ◌&&◌, ap}
use Rattle.command_log.specs.Rows.{closing_client}
use Rattle.node_loop.proofs.closing.is_reserved.Goals as goal

pub returns-then-is_chained : goal.returns-then-is_chained
returns-then-is_chained g c = record {
  reserved = λ w es i is. ap (λ (b : Bool). b && c.args.client == closing_client) (c.if-is_chained.ensures.chained w es i is);
}
