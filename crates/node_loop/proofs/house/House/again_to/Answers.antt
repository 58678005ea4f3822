use Rattle.std.proofs.Common.{◌≡◌, ap, sym, ◌∙◌, arith}
use Rattle.std.proofs.lemmas.Bool.{ltb-true}
use Rattle.keyed_channel.specs.KeyRow.{KeyRow}
use Rattle.world_model.specs.World.{rules_at, states_of}
use Rattle.node_loop.proofs.Heres.{read_at}
use Rattle.node_loop.proofs.Wishing.{again_is, keeper_at}
use Rattle.node_loop.proofs.house.House.again_to.Goals as goal

pub returns-then-peer-n : goal.returns-then-peer-n
returns-then-peer-n g c = record {
  note = λ w es numbers ws p at stands number below.
      let stand = stands.here in
      let is = read_at _ w es numbers c.args.self.now.replicas.items c.deref.result.now c.args.place at c.in-Some.replica.now stand c.deref.ensures.value number
      (ltb-true _ _ (sym c.in-Some.ensures.lookup.0)) c.in-Some.ensures.lookup.1 in
      let same = c.channel-channel.ensures w.start (rules_at w at) (w.keys at) (states_of w es at) is.stands in
      let many : c.n.result ≡ (w.keys at).n = c.n.ensures.value ∙ ap (λ (k : KeyRow). k.n) (c.keys.ensures ∙ same) in
      let own : (w.keys at).n ≡ w.numbers.n = (stand.kind.own at (stand.kind.within at is.correct)).1 in
      absurd (omega (arith, c.if-peer-n.true, many, own, below));
}

pub returns : goal.returns
returns g c = record {
  note = λ w es numbers ws p at stands number below.
      let stand = stands.here in
      let is = read_at _ w es numbers c.args.self.now.replicas.items c.deref.result.now c.args.place at c.in-Some.replica.now stand c.deref.ensures.value number
      (ltb-true _ _ (sym c.in-Some.ensures.lookup.0)) c.in-Some.ensures.lookup.1 in
      let same = c.channel-channel.ensures w.start (rules_at w at) (w.keys at) (states_of w es at) is.stands in
      let keeper = keeper_at _ w es numbers c.args.self.now ws p c.deref-2.result.now c.args.place at c.in-Some-get.keeper.now c.in-Some-get.keeper.now stands c.deref-2.ensures.value number
      (ltb-true _ _ (sym c.in-Some-get.ensures.lookup.0)) c.in-Some-get.ensures.lookup.1 in
      again_is w at c.args.peer c.wanted_from.result c.seal_again.result c.channel-channel.result.now c.in-Some-get.keeper.now p same c.seal_again.ensures
      c.wanted_from.ensures.from keeper below;
}
