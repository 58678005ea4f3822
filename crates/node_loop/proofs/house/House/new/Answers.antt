use Rattle.std.proofs.Common.{◌≡◌, ap, length, sym, ◌∙◌, arith}
use Rattle.keyed_channel.specs.KeyRow.{KeyRow}
use Rattle.node_loop.proofs.Heres.{as_here}
use Rattle.node_loop.proofs.Wishing.{fresh_first, fresh_next, new_house}
use Rattle.node_loop.proofs.house.House.new.Goals as goal

pub loop-replica-init : goal.loop-replica-init
loop-replica-init g c = λ w es numbers stand. fresh_first w.mode.version w.numbers.n c.new-keepers.result.items c.new-keepers.ensures.items

pub loop-replica-preserved : goal.loop-replica-preserved
loop-replica-preserved g c = λ w es numbers stand.
    fresh_next _ w es numbers c.deref-replica-items.result.now c.loop-replica.replica-index c.replica-item.result c.version_of.result c.n.result c.in_ok-new.field-0 c.loop-replica.keepers.items c.push.new.self.items
    stand c.loop-replica-test.true c.replica-item.is (λ r row st stands. c.n.ensures.value ∙ ap (λ (k : KeyRow). k.n) (c.keys.ensures w.start r row st stands))
    (λ i is. c.version_of.ensures.version w es i is)
    (c.loop-replica.invariant w es numbers stand) (record { version_is = c.in_ok-new.ensures.none.0; kept = c.in_ok-new.ensures.none.1; marks = c.in_ok-new.ensures.none.2; pending = c.in_ok-new.ensures.none.3 }) c.in_ok-push.ensures.items

pub returns-clause-stands : goal.returns-clause-stands
returns-clause-stands g c = λ w es numbers stand.
    let read = c.deref-replica-items.result.now in
    let here = as_here _ w es numbers c.args.replicas.now.items read c.deref-replica-items.ensures.value stand in
    let all : c.loop-replica.replica-index ≡ length read = omega (arith, c.loop-replica-test.false, c.loop-replica.auto.replica-index-end) in
    new_house _ w es numbers (record { replicas = c.replace.result; waiting = c.new-3.result; keepers = c.loop-replica.keepers }) read c.loop-replica.replica-index
    here (ap (λ v. v.items) c.replace.ensures.value ∙ sym c.deref-replica-items.ensures.value) c.new-3.ensures.nobody all (c.loop-replica.invariant w es numbers here)
