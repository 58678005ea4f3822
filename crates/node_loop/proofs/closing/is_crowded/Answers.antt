use Rattle.std.proofs.Common.{◌≡◌, ◌<◌, Bool, ◌&&◌, not, ap, ap₂, ◌∙◌, arith}
use Rattle.ritas_core.specs.Rules.{seat_of}
use Rattle.world_model.specs.Agree.{words_of}
use Rattle.world_model.specs.World.{rules_at, states_of}
use Rattle.node_loop.specs.Chains.{has_clients_place, least_number_at, next_number_at}
use Rattle.node_loop.proofs.Chaining.{least_is, number_is}
use Rattle.node_loop.proofs.closing.is_crowded.Goals as goal

pub returns-then-is_chained : goal.returns-then-is_chained
returns-then-is_chained g c = record {
  crowded = λ w es i kind is.
      let core = c.core.ensures.live w.start (rules_at w i) (w.keys i) (states_of w es i) is.stands is.live in
      let stands = c.service-service.ensures.live (rules_at w i) (states_of w es i) core is.live in
      let within = kind.within i is.correct in
      let own : c.number_of.result ≡ i = c.number_of.ensures.number w (states_of w es) i is ∙ (kind.own i within).0 in
      let place = c.has_clients_place.ensures.value
      ∙ ap₂ has_clients_place
      (least_is w es i _ kind.words c.number_of.result c.base.result own (c.base.ensures.rules (seat_of (rules_at w i)) (words_of w es i) stands (omega (arith, own, within))))
      (number_is w es i _ kind.words c.next_number.result (c.next_number.ensures.rules (seat_of (rules_at w i)) (words_of w es i) stands)) in
      ap not place ∙ ap (λ (b : Bool). b && not (has_clients_place (least_number_at w es i) (next_number_at w es i))) (c.if-is_chained.ensures.chained w es i is);
}
