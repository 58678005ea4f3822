use Rattle.std.proofs.Common.{◌≡◌, sym, ap, ◌∙◌, ℕ}
use Rattle.std.specs.FinMap.{get, insert}
use Rattle.instance_tree.specs.SlotMaps.{SlotMap}
use Rattle.instance_tree.proofs.Joined.{err_holds, ok_holds}
use Rattle.instance_tree.proofs.Rounds.{first_inserted, both_inserted, inserted_removed, rounds_same}
use Rattle.instance_tree.proofs.keys.Keys.insert.Goals as goal

pub invariant_of-self-then-not-is_of_round : goal.invariant_of-self-then-not-is_of_round
invariant_of-self-then-not-is_of_round c =
    first_inserted c.self.inside.slots c.self.inside.rounds c.args.slot c.self.invariant c.insert.new.self c.args.key
    (sym c.is_of_round.ensures ∙ c.if-not-is_of_round.true) c.in_ok-insert.ensures.ok

pub invariant_of-self-then-is_err : goal.invariant_of-self-then-is_err
invariant_of-self-then-is_err c =
    let none = ap (λ (m : SlotMap ℕ). get m c.args.slot) c.self.view_is ∙ c.requires in
    rounds_same c.self.inside.slots c.self.inside.rounds c.remove.new.self c.insert-2.new.self c.self.invariant
    (inserted_removed c.self.inside.slots c.insert.new.self c.remove.new.self c.args.slot c.args.key none c.in_ok-insert.ensures.ok c.remove.ensures)
    (err_holds c.insert-2.result (c.insert-2.new.self ≡ c.self.inside.rounds) (sym c.is_err.ensures.value ∙ c.if-is_err.true) c.insert-2.ensures.err)

pub returns-then-is_err-clause-err : goal.returns-then-is_err-clause-err
returns-then-is_err-clause-err c =
    let none = ap (λ (m : SlotMap ℕ). get m c.args.slot) c.self.view_is ∙ c.requires in
    inserted_removed c.self.inside.slots c.insert.new.self c.remove.new.self c.args.slot c.args.key none c.in_ok-insert.ensures.ok c.remove.ensures
    ∙ c.self.view_is

pub invariant_of-self-else-is_err : goal.invariant_of-self-else-is_err
invariant_of-self-else-is_err c =
    both_inserted c.self.inside.slots c.self.inside.rounds c.args.slot c.self.invariant c.insert.new.self c.insert-2.new.self c.args.key
    (sym c.is_of_round.ensures ∙ c.if-not-is_of_round.false) c.in_ok-insert.ensures.ok
    (ok_holds c.insert-2.result (c.insert-2.new.self ≡ insert c.self.inside.rounds c.args.slot c.args.key) (sym c.is_err.ensures.value ∙ c.if-is_err.false)
    c.insert-2.ensures.ok)
