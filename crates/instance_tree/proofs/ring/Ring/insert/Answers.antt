use Rattle.std.proofs.Common.{sym, ap, ◌∙◌, ℕ, arith}
use Rattle.std.specs.FinMap.{insert}
use Rattle.instance_tree.specs.SlotMaps.{SlotMap}
use Rattle.instance_tree.specs.Places.{place_in_ring}
use Rattle.instance_tree.proofs.Joined.{absent_there, joined_same, joined_inserted, any_err}
use Rattle.instance_tree.proofs.Walk.{ring_same, ring_inserted}
use Rattle.instance_tree.proofs.ring.Ring.insert.Goals as goal

pub insert_at-requires : goal.insert_at-requires
insert_at-requires c =
    absent_there (place_in_ring c.self.inside.width) c.self.inside.buckets.items c.args.self.now c.place_of-place.result c.args.slot c.self.invariant.placed c.self.view_is
    (sym c.place_of-place.ensures) c.requires

pub invariant_of-self : goal.invariant_of-self
invariant_of-self c = ring_same c.self.inside.width c.self.inside.low c.self.inside.buckets.items c.insert_at.new.buckets.items c.self.invariant c.in_err-insert_at.ensures.err

pub returns-in_err-insert_at-clause-err : goal.returns-in_err-insert_at-clause-err
returns-in_err-insert_at-clause-err c =
    any_err c.from_residual.result _
    (joined_same (place_in_ring c.self.inside.width) c.self.inside.buckets.items c.insert_at.new.buckets.items c.self.invariant.placed c.in_err-insert_at.ensures.err ∙ c.self.view_is)

pub invariant_of-self-2 : goal.invariant_of-self-2
invariant_of-self-2 c =
    ring_inserted c.self.inside.width c.self.inside.low c.min-self-inside.result c.self.inside.buckets.items c.insert_at.new.buckets.items c.place_of-place.result c.args.slot c.args.key
    c.self.invariant (sym c.place_of-place.ensures) c.in_ok-insert_at.ensures.ok (omega arith) (omega arith)

pub returns-clause-ok : goal.returns-clause-ok
returns-clause-ok c =
    joined_inserted (place_in_ring c.self.inside.width) c.self.inside.buckets.items c.insert_at.new.buckets.items c.place_of-place.result c.args.slot c.args.key
    c.self.invariant.placed (sym c.place_of-place.ensures) c.in_ok-insert_at.ensures.ok
    ∙ ap (λ (m : SlotMap ℕ). insert m c.args.slot c.args.key) c.self.view_is
