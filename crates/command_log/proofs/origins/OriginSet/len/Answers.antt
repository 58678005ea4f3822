use Rattle.std.proofs.Common.{◌∙◌, rules}
use Rattle.command_log.proofs.OriginSets.{whole_size}
use Rattle.command_log.proofs.origins.OriginSet.len.Goals as goal

pub returns : goal.returns
returns c = c.loop-set.invariant.0 ∙ whole_size c.args.self.now c.loop-set.set-index (search rules) c.loop-set-test.false
