use Rattle.std.proofs.Common.{◌∙◌}
use Rattle.reliable_bcast.specs.Laws.Steps.{new_box}
use Rattle.reliable_bcast.proofs.broadcast.RbBroadcast.new.Goals as goal

pub returns : goal.returns
returns c = λ tags. c.make.ensures ∙ new_box (record { numbers = c.args.p.now; me = c.args._me; slot = c.args.slot })
