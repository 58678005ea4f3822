use Rattle.std.proofs.Common.{◌≡◌, ℕ, Some, sym, ap, ◌∙◌, subst}
use Rattle.std.specs.FinMap.{insert}
use Rattle.slab.specs.Slab.{Slab, Updates}
use Rattle.instance_tree.specs.SlotMaps.{SlotMap}
use Rattle.instance_tree.proofs.Tied.{unmade_key, same_tied, same_joined, make_tied, make_view}
use Rattle.instance_tree.proofs.tree.Tree.make.Goals as goal

pub insert-requires : goal.insert-requires
insert-requires g c = unmade_key c.self.inside.keys c.self.inside.arena c.args.slot c.args.self.now c.self.invariant c.self.view_is c.requires

pub invariant_of-self-in-Ok : goal.invariant_of-self-in-Ok
invariant_of-self-in-Ok g c =
    let keys = c.self.inside.keys in
    let arena = c.reserve.new.self in
    let same : arena.slots ≡ c.self.inside.arena.slots = ap (λ (s : Slab g.row.V.Denot). s.slots) c.reserve.ensures.rest_kept in
    let unmade = unmade_key keys c.self.inside.arena c.args.slot c.args.self.now c.self.invariant c.self.view_is c.requires in
    let key_is : c.insert_reserved.result ≡ c.vacant_key-key.result = c.insert_reserved.ensures.key ∙ sym c.vacant_key-key.ensures.value in
    make_tied keys c.insert.new.self arena c.insert_reserved.new.self c.args.slot c.vacant_key-key.result c.args.v
    (same_tied keys c.self.inside.arena arena same c.self.invariant) c.vacant_key-key.ensures.vacant unmade c.in-Ok.ensures.ok
    (subst (λ (k : ℕ). Updates arena c.insert_reserved.new.self k (Some c.args.v)) key_is c.insert_reserved.ensures.updates)
    c.insert_reserved.ensures.len

pub returns-in-Ok-clause-ok : goal.returns-in-Ok-clause-ok
returns-in-Ok-clause-ok g c =
    let keys = c.self.inside.keys in
    let arena = c.reserve.new.self in
    let same : arena.slots ≡ c.self.inside.arena.slots = ap (λ (s : Slab g.row.V.Denot). s.slots) c.reserve.ensures.rest_kept in
    let unmade = unmade_key keys c.self.inside.arena c.args.slot c.args.self.now c.self.invariant c.self.view_is c.requires in
    let key_is : c.insert_reserved.result ≡ c.vacant_key-key.result = c.insert_reserved.ensures.key ∙ sym c.vacant_key-key.ensures.value in
    make_view keys c.insert.new.self arena c.insert_reserved.new.self c.args.slot c.vacant_key-key.result c.args.v
    (same_tied keys c.self.inside.arena arena same c.self.invariant) c.vacant_key-key.ensures.vacant unmade c.in-Ok.ensures.ok
    (subst (λ (k : ℕ). Updates arena c.insert_reserved.new.self k (Some c.args.v)) key_is c.insert_reserved.ensures.updates)
    ∙ ap (λ (m : SlotMap g.row.V.Denot). insert m c.args.slot c.args.v) (same_joined keys c.self.inside.arena arena same ∙ c.self.view_is)
