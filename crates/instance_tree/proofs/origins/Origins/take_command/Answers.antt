use Rattle.std.proofs.Common.{◌<◌, ℕ, length, set, refl, subst, arith}
use Rattle.instance_tree.specs.SlotMaps.{is_command_below}
use Rattle.instance_tree.specs.Keys.{TakesSpotOut}
use Rattle.instance_tree.specs.Places.{joined_map}
use Rattle.instance_tree.proofs.Joined.{read_there}
use Rattle.instance_tree.proofs.Owned.{origin_takes, origin_placed, origin_absent}
use Rattle.instance_tree.proofs.origins.Origins.take_command.Goals as goal

pub returns-then-place-len : goal.returns-then-place-len
returns-then-place-len c =
    (refl, origin_absent c.args.origin c.args.below c.self.inside.origins.items c.args.self.now c.self.invariant c.self.view_is (omega (arith, c.from-place.ensures)))

pub invariant_of-self : goal.invariant_of-self
invariant_of-self c =
    let ms = c.self.inside.origins.items in
    let m = c.index_mut.result.now in
    let within : c.from-place.result < length ms = omega arith in
    origin_placed c.from-place.result c.args.below ms m c.take_command.new.self c.args.self.now c.self.invariant c.self.view_is within
    (read_there ms c.from-place.result m within c.index_mut.ensures.value) c.take_command.result c.take_command.ensures

pub returns : goal.returns
returns c =
    let ms = c.self.inside.origins.items in
    let m = c.index_mut.result.now in
    let i = c.from-place.result in
    let after = c.take_command.new.self in
    let within : i < length ms = omega arith in
    subst (λ (origin : ℕ). TakesSpotOut (is_command_below origin c.args.below) c.args.self.now (joined_map (set ms i after)) c.take_command.result) c.from-place.ensures
    (origin_takes i c.args.below ms m after c.args.self.now c.self.invariant c.self.view_is within
    (read_there ms i m within c.index_mut.ensures.value) c.take_command.result c.take_command.ensures)
