use Rattle.std.proofs.Common.{◌≡◌, ◌<◌, ℕ, sym, subst, arith}
use Rattle.slab.specs.Slab.{slab_len}
use Rattle.instance_tree.specs.SlotMaps.{SlotMap, without_slots, is_before_round}
use Rattle.instance_tree.specs.Arena.{values_by_slot}
use Rattle.instance_tree.proofs.Tied.{dropping_fewer, dropping_more, all_dropped}
use Rattle.instance_tree.proofs.tree.Tree.drop_before.Goals as goal

pub loop-key-smaller : goal.loop-key-smaller
loop-key-smaller g c =
    let some : 0 < slab_len c.loop-key.self-inside.arena = omega (arith, c.remove.ensures.len) in
    dropping_fewer (is_before_round c.args.round) c.loop-key.self-inside.keys c.take_before.new.self c.loop-key.self-inside.arena c.in-Some.key c.loop-key.invariant.tied c.in-Some.ensures some

pub loop-key-preserved : goal.loop-key-preserved
loop-key-preserved g c =
    dropping_more (is_before_round c.args.round) c.args.self.now c.loop-key.self-inside.keys c.take_before.new.self c.loop-key.self-inside.arena c.remove.new.self c.in-Some.key
    c.loop-key.invariant c.in-Some.ensures c.remove.ensures.updates c.remove.ensures.len

pub returns : goal.returns
returns g c =
    let arena = c.loop-key.self-inside.arena in
    let end = c.in_default.ensures in
    subst (λ (keys : SlotMap ℕ). values_by_slot keys arena ≡ without_slots (is_before_round c.args.round) c.args.self.now) (sym end.0)
    (all_dropped (is_before_round c.args.round) c.args.self.now c.loop-key.self-inside.keys arena c.loop-key.invariant.stays end.1)
