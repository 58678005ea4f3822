use Rattle.std.proofs.Common.{Option, subst}
use Rattle.instance_tree.specs.SlotMaps.{is_numbered_below}
use Rattle.instance_tree.specs.Keys.{KeyedSlot, TakesSpotOut}
use Rattle.instance_tree.proofs.Rounds.{both_removed, had_round}
use Rattle.instance_tree.proofs.keys.Keys.take_before.Goals as goal

pub invariant_of-self-2 : goal.invariant_of-self-2
invariant_of-self-2 c =
    let slots = c.self.inside.slots in
    let rounds = c.self.inside.rounds in
    let takes = subst (λ (o : Option KeyedSlot). TakesSpotOut (is_numbered_below c.args.round) rounds c.take_below.new.self o) c.in_ok-slot.was c.take_below.ensures in
    both_removed slots rounds c.in_ok-slot.slot c.self.invariant c.remove.new.self c.take_below.new.self
    (had_round slots rounds c.in_ok-slot.slot c.in_ok-slot.key c.self.invariant takes.had).0 c.remove.ensures takes.taken
