use Rattle.std.proofs.Common.{◌≡◌, ◌<◌, Some, None, refl, sym, ap, ◌∙◌, arith}
use Rattle.std.proofs.lemmas.Bool.{both_ways}
use Rattle.keyed_channel.specs.KeyRow.{KeyRow}
use Rattle.keyed_channel.specs.Notes.{noted}
use Rattle.keyed_channel.specs.declared.note.Note.TheVariants.{Ack, Again}
use Rattle.world_model.specs.World.{rules_at, states_of}
use Rattle.node_loop.specs.Resending.{nothing_more, acked_so, asked_so, noted_so}
use Rattle.node_loop.proofs.Comings.{nothing_comes, only_more}
use Rattle.node_loop.proofs.Heres.{as_here, nowhere, read_at}
use Rattle.node_loop.proofs.Hearing.{keeper_at, acked_elsewhere, asked_elsewhere, one_keeper, comes_with}
use Rattle.node_loop.proofs.house.House.note.Goals as goal

pub returns-in-Some-get_mut-clause-comes : goal.returns-in-Some-get_mut-clause-comes
returns-in-Some-get_mut-clause-comes g c = λ w es numbers ws p stand number clear.
    let at = c.args.output.now.at in
    let from = c.in-Some-Ack.from in
    let seq = c.in-Some-Ack.seq in
    let v = w.mode.version in
    let is = read_at _ w es numbers c.args.self.now.replicas.items c.deref.result.now c.args.place at c.in-Some.replica.now stand.here c.deref.ensures.value number c.in-Some.ensures.lookup.3.0 c.in-Some.ensures.lookup.1 in
    let keys = c.channel.ensures w.start (rules_at w at) (w.keys at) (states_of w es at) is.stands in
    let said : noted (w.keys at) c.args.bytes.now ≡ Some (Ack from seq) =
    sym (c.open_note.ensures ∙ ap (λ (k : KeyRow). noted k c.args.bytes.now) keys) ∙ c.in-Some-Ack.is ∙ ap (λ x. Some x) c.in-Some-Ack.field-0-is in
    let peer = ((c.noted_from_peer.ensures (w.keys at) c.args.bytes.now).0 from seq said).0 in
    let below : from < w.numbers.n = omega (arith, peer, is.stands.many) in
    let keeper = keeper_at _ w es numbers c.args.self.now ws p c.args.place at c.in-Some-get_mut.keeper.now stand number c.in-Some-get_mut.ensures.item.3.0 c.in-Some-get_mut.ensures.value in
    let goes = c.acked-output.ensures.acked w at p keeper below in
    comes_with _ w es numbers _ _ _ (acked_so v at from seq p) (noted_so v at p (noted (w.keys at) c.args.bytes.now)) (sym (ap (noted_so v at p) said))
    (only_more _ w es numbers _ c.args.output.now _ ws (acked_so v at from seq p)
    (one_keeper _ w es numbers c.args.self.now _ ws p (acked_so v at from seq p).peers c.args.place at c.in-Some-get_mut.keeper.now c.acked-output.new.self
    stand number c.in-Some-get_mut.ensures.item.3.0 c.in-Some-get_mut.ensures.value refl refl refl goes.0
    (λ i k other it. acked_elsewhere v w.numbers.n i at from seq k p other it)) clear goes.1
    (λ faulty. absurd (both_ways (w.is_correct at) faulty is.correct)) refl refl refl refl refl)

pub returns-in-Some-get_mut-2-clause-comes : goal.returns-in-Some-get_mut-2-clause-comes
returns-in-Some-get_mut-2-clause-comes g c = λ w es numbers ws p stand number clear.
    let at = c.args.output.now.at in
    let from = c.in-Some-Again.from in
    let seq = c.in-Some-Again.seq in
    let v = w.mode.version in
    let is = read_at _ w es numbers c.args.self.now.replicas.items c.deref.result.now c.args.place at c.in-Some.replica.now stand.here c.deref.ensures.value number c.in-Some.ensures.lookup.3.0 c.in-Some.ensures.lookup.1 in
    let keys = c.channel.ensures w.start (rules_at w at) (w.keys at) (states_of w es at) is.stands in
    let said : noted (w.keys at) c.args.bytes.now ≡ Some (Again from seq) =
    sym (c.open_note.ensures ∙ ap (λ (k : KeyRow). noted k c.args.bytes.now) keys) ∙ c.in-Some-Again.is ∙ ap (λ x. Some x) c.in-Some-Again.field-0-is in
    let peer = ((c.noted_from_peer.ensures (w.keys at) c.args.bytes.now).1 from seq said).0 in
    let below : from < w.numbers.n = omega (arith, peer, is.stands.many) in
    let keeper = keeper_at _ w es numbers c.args.self.now ws p c.args.place at c.in-Some-get_mut-2.keeper.now stand number c.in-Some-get_mut-2.ensures.item.3.0 c.in-Some-get_mut-2.ensures.value in
    let goes = c.asked-output.ensures.asked w at p keeper below in
    comes_with _ w es numbers _ _ _ (asked_so v at from seq p) (noted_so v at p (noted (w.keys at) c.args.bytes.now)) (sym (ap (noted_so v at p) said))
    (only_more _ w es numbers _ c.args.output.now _ ws (asked_so v at from seq p)
    (one_keeper _ w es numbers c.args.self.now _ ws p (asked_so v at from seq p).peers c.args.place at c.in-Some-get_mut-2.keeper.now c.asked-output.new.self
    stand number c.in-Some-get_mut-2.ensures.item.3.0 c.in-Some-get_mut-2.ensures.value refl refl refl goes.0
    (λ i k other it. asked_elsewhere v w.numbers.n i at from seq k p other it)) clear goes.1
    (λ faulty. absurd (both_ways (w.is_correct at) faulty is.correct)) refl refl refl refl refl)

pub returns-in-None-clause-comes : goal.returns-in-None-clause-comes
returns-in-None-clause-comes g c = λ w es numbers ws p stand number clear.
    let at = c.args.output.now.at in
    let v = w.mode.version in
    let is = read_at _ w es numbers c.args.self.now.replicas.items c.deref.result.now c.args.place at c.in-Some.replica.now stand.here c.deref.ensures.value number c.in-Some.ensures.lookup.3.0 c.in-Some.ensures.lookup.1 in
    let keys = c.channel.ensures w.start (rules_at w at) (w.keys at) (states_of w es at) is.stands in
    let said : noted (w.keys at) c.args.bytes.now ≡ None = sym (c.open_note.ensures ∙ ap (λ (k : KeyRow). noted k c.args.bytes.now) keys) ∙ c.in-None.is in
    comes_with _ w es numbers _ c.args.output.now _ (nothing_more p) (noted_so v at p (noted (w.keys at) c.args.bytes.now)) (sym (ap (noted_so v at p) said))
    (nothing_comes _ w es numbers _ c.args.output.now ws p stand clear)

pub returns-in_default-clause-comes : goal.returns-in_default-clause-comes
returns-in_default-clause-comes g c = λ w es numbers ws p stand number clear.
    absurd
    (nowhere _ w es numbers c.deref.result.now c.args.place c.args.output.now.at
    (as_here _ w es numbers c.args.self.now.replicas.items c.deref.result.now c.deref.ensures.value stand.here) number c.in_default.ensures.lookup.3)
