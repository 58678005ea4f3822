use Rattle.std.proofs.Common.{Err}
use Rattle.std.proofs.lemmas.Result.{err_from_is_err_and}
use Rattle.keyed_channel.specs.KeyRow.{KeyRow}
use Rattle.ritas_core.specs.declared.fault.CoreFault.TheVariants as faults
use Rattle.ritas_core.specs.Stands.{Meaning}
use Rattle.replica.specs.declared.refusal.Refusal.TheVariants as refusals
use Rattle.replica.specs.Replica.{ReplicaStands, with_keys}
use Rattle.ritas_core.specs.Machine as core
use Rattle.replica.specs.Handling.{Frame}
use Rattle.replica.proofs.Passing.{passes, halted_handles}
use Rattle.replica.proofs.Opened.{found_call, refuses}
use Rattle.replica.proofs.Isolated.{opened_isolated}
use Rattle.replica.proofs.replica.Replica.on_opened.Goals as goal

pub returns-in_err-item-clause-does : goal.returns-in_err-item-clause-does
returns-in_err-item-clause-does g c = λ s r k st stands bytes seq opens.
    let read = c.in_err-item.ensures {u = tt} s r k st stands bytes seq opens in
    let p = err_from_is_err_and c.from_residual.result c.from_residual.ensures.1 in
    rw (p.1, p.2) (refuses s _ _ bytes _ r k st _ stands read)

pub returns-then-self-clause-does : goal.returns-then-self-clause-does
returns-then-self-clause-does g c = λ s r k st stands bytes seq opens.
    let found = c.in_ok-item.ensures {u = tt} s r k st stands bytes seq opens in
    halted_handles s _ _ (core.Frame c.in_ok-item.item) (Frame bytes) _ r k st stands c.if-self.true (found_call r k st bytes c.in_ok-item.item found)

pub returns-clause-does : goal.returns-clause-does
returns-clause-does g c = λ s r k st stands bytes seq opens.
    let found = c.in_ok-item.ensures {u = tt} s r k st stands bytes seq opens in
    passes s _ _ _ _ (core.Frame c.in_ok-item.item) (Frame bytes) _ _ _ _ _ _ r k st stands c.if-self.false (found_call r k st bytes c.in_ok-item.item found) found.good
    c.take-answer.ensures.tagger c.new-msgs.ensures.items c.take-answer.ensures.does c.finish.ensures

pub returns-in_err-item-clause-isolated : goal.returns-in_err-item-clause-isolated
returns-in_err-item-clause-isolated g c = λ s. opened_isolated _ _ _ _ _ _ _ _ (returns-in_err-item-clause-does g c s)

pub returns-then-self-clause-isolated : goal.returns-then-self-clause-isolated
returns-then-self-clause-isolated g c =
    let m : Meaning g.row.S.Denot g.row.E.Denot g.row.C.Denot KeyRow = with_keys g.S.Service.stands g.S.Service.rules g.S.Service.shown g.E.Broadcast.stands g.E.Broadcast.rules g.E.Broadcast.shown g.C.Coin.bits in
    λ s. opened_isolated (ReplicaStands s m) c.args.self.now c.args.self.now c.args.from c.args.body.now c.args.out.now.items c.args.out.now.items (Err (refusals.Core faults.Stopped))
    (returns-then-self-clause-does g c s)

pub returns-clause-isolated : goal.returns-clause-isolated
returns-clause-isolated g c = λ s. opened_isolated _ _ _ _ _ _ _ _ (returns-clause-does g c s)
