use Rattle.std.proofs.Common.{◌≡◌, ap, ◌∙◌, arith}
use Rattle.keyed_channel.specs.KeyRow.{KeyRow}
use Rattle.ritas_core.specs.Rules.{seat_of}
use Rattle.ritas_core.specs.Parts.{parts}
use Rattle.world_model.specs.World.{rules_at, states_of}
use Rattle.node_loop.proofs.Keepers.{come_by, come_none, come_more}
use Rattle.node_loop.proofs.peers.progress_of.Goals as goal

pub loop-origin-init : goal.loop-origin-init
loop-origin-init g c = record {
  small = omega (arith, c.from-progress.ensures, c.completed.type_inv);
  is = λ w es i kind is.
      let core = c.core.ensures.live w.start (rules_at w i) (w.keys i) (states_of w es i) is.stands is.live in
      let stands = c.service-service.ensures.live (rules_at w i) (states_of w es i) core is.live in
      come_none w es i c.from-progress.result _ kind.words (c.from-progress.ensures ∙ c.completed.ensures.rules (seat_of (rules_at w i)) (parts (rules_at w i) (states_of w es i).history).words stands);
}

pub loop-origin-preserved : goal.loop-origin-preserved
loop-origin-preserved g c = record {
  small = omega (arith, c.loop-origin.invariant.small, c.from-progress-in-loop-origin.ensures, c.base.type_inv);
  is = λ w es i kind is.
      let core = c.core.ensures.live w.start (rules_at w i) (w.keys i) (states_of w es i) is.stands is.live in
      let stands = c.service-service.ensures.live (rules_at w i) (states_of w es i) core is.live in
      let number : (w.keys i).n ≡ w.numbers.n = (kind.own i (kind.within i is.correct)).1 in
      let many : c.n-origin-end.result ≡ (w.keys i).n = c.n-origin-end.ensures.value ∙ ap (λ (k : KeyRow). k.n) (c.keys.ensures w.start (rules_at w i) (w.keys i) (states_of w es i) is.stands) in
      come_more w es i c.loop-origin.origin c.loop-origin.progress c.from-progress-in-loop-origin.result _ kind.words (c.loop-origin.invariant.is w es i kind is)
      (c.from-progress-in-loop-origin.ensures
      ∙ c.base.ensures.rules (seat_of (rules_at w i)) (parts (rules_at w i) (states_of w es i).history).words stands (omega (arith, c.loop-origin-test.true, many, number)));
}

pub returns : goal.returns
returns g c = record {
  progress = λ w es i kind is.
      let number : (w.keys i).n ≡ w.numbers.n = (kind.own i (kind.within i is.correct)).1 in
      let many : c.n-origin-end.result ≡ (w.keys i).n = c.n-origin-end.ensures.value ∙ ap (λ (k : KeyRow). k.n) (c.keys.ensures w.start (rules_at w i) (w.keys i) (states_of w es i) is.stands) in
      let end : c.loop-origin.origin ≡ w.numbers.n = omega (arith, c.loop-origin-test.false, c.loop-origin.auto.origin-end, many, number) in
      c.loop-origin.invariant.is w es i kind is ∙ ap (come_by (rules_at w i) (states_of w es i)) end;
}
