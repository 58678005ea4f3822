use Rattle.std.proofs.Common.{◌≡◌, ap, ◌∙◌, arith}
use Rattle.keyed_channel.specs.KeyRow.{KeyRow}
use Rattle.keyed_channel.specs.Notes.{ack_note}
use Rattle.world_model.specs.World.{rules_at, states_of}
use Rattle.node_loop.specs.declared.output.More.TheVariants as mores
use Rattle.node_loop.proofs.Heres.{as_here, nowhere, read_at}
use Rattle.node_loop.proofs.house.House.acknowledge.Goals as goal

pub returns-then-frame-n-clause-note : goal.returns-then-frame-n-clause-note
returns-then-frame-n-clause-note g c = λ w es numbers at stand number below.
    let is = read_at _ w es numbers c.args.self.now.replicas.items c.deref.result.now c.args.place at c.in-Some.replica.now stand c.deref.ensures.value number c.in-Some.ensures.lookup.3.0 c.in-Some.ensures.lookup.1 in
    let keys = c.channel-channel.ensures w.start (rules_at w at) (w.keys at) (states_of w es at) is.stands in
    ap (λ bytes. mores.Note c.args.frame.from bytes) (c.seal_ack.ensures ∙ ap (λ (k : KeyRow). ack_note k c.args.frame.from c.args.frame.seq) keys)

pub returns-else-frame-n-clause-note : goal.returns-else-frame-n-clause-note
returns-else-frame-n-clause-note g c = λ w es numbers at stand number below.
    let is = read_at _ w es numbers c.args.self.now.replicas.items c.deref.result.now c.args.place at c.in-Some.replica.now stand c.deref.ensures.value number c.in-Some.ensures.lookup.3.0 c.in-Some.ensures.lookup.1 in
    let keys = c.channel-channel.ensures w.start (rules_at w at) (w.keys at) (states_of w es at) is.stands in
    let many : c.n.result ≡ w.numbers.n = c.n.ensures.value ∙ ap (λ (k : KeyRow). k.n) (c.keys.ensures ∙ keys) ∙ is.stands.many in
    absurd (omega (arith, below, many, c.if-frame-n.false))

pub returns-in_default-clause-note : goal.returns-in_default-clause-note
returns-in_default-clause-note g c = λ w es numbers at stand number below.
    absurd (nowhere _ w es numbers c.deref.result.now c.args.place at (as_here _ w es numbers c.args.self.now.replicas.items c.deref.result.now c.deref.ensures.value stand) number c.in_default.ensures.lookup.3)
