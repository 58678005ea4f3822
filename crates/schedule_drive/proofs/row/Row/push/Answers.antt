use Rattle.std.proofs.Common.{false, [], ◌∷◌, ap, ◌∙◌, arith}
use Rattle.schedule_drive.specs.Choices.{open_in}
use Rattle.schedule_drive.proofs.Choosing.{open_append}
use Rattle.schedule_drive.proofs.row.Row.push.Goals as goal

pub invariant_of-self-2 : goal.invariant_of-self-2
invariant_of-self-2 c =
    let more = ap open_in c.in_ok-push.ensures.items ∙ open_append c.self.inside.flags.items (false ∷ []) in
    omega (arith, more, c.self.invariant)
