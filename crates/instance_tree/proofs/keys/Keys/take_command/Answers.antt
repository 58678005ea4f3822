use Rattle.std.proofs.Common.{Option, subst}
use Rattle.instance_tree.specs.SlotMaps.{is_command_below}
use Rattle.instance_tree.specs.Keys.{KeyedSlot, TakesSpotOut}
use Rattle.instance_tree.proofs.Rounds.{first_removed, no_round_of_command}
use Rattle.instance_tree.proofs.keys.Keys.take_command.Goals as goal

pub invariant_of-self-2 : goal.invariant_of-self-2
invariant_of-self-2 c =
    let slots = c.self.inside.slots in
    let gone = is_command_below c.args.origin c.args.below in
    let takes = subst (λ (o : Option KeyedSlot). TakesSpotOut gone slots c.take_command.new.self o) c.in_ok-key.was c.take_command.ensures in
    first_removed slots c.self.inside.rounds c.in_ok-key.field-0-0 c.self.invariant c.take_command.new.self
    (no_round_of_command c.args.origin c.args.below c.in_ok-key.field-0-0 takes.passes) takes.taken
