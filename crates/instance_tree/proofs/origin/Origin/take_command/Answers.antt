use Rattle.instance_tree.proofs.Owned.{commands_take, commands_placed}
use Rattle.instance_tree.proofs.origin.Origin.take_command.Goals as goal

pub invariant_of-self : goal.invariant_of-self
invariant_of-self c =
    commands_placed c.self.inside.span c.args.below c.self.inside.commands c.take_below.new.self c.self.inside.cells.items c.take_below.result c.self.invariant
    c.take_below.ensures

pub returns : goal.returns
returns c =
    commands_take c.self.inside.span c.args.below c.self.inside.commands c.take_below.new.self c.self.inside.cells.items c.args.self.now c.take_below.result c.self.invariant
    c.self.view_is c.take_below.ensures
