use Rattle.std.proofs.Common.{◌≡◌, true, false, nat_le, sym, ap, ◌∙◌}
use Rattle.std.proofs.lemmas.Bool.{le-leb, lt-leb}
use Rattle.ritas_core.specs.Rules.{seat_of}
use Rattle.world_model.specs.Agree.{words_of}
use Rattle.world_model.specs.World.{rules_at, states_of}
use Rattle.node_loop.proofs.Chaining.{completed_is, may_early, may_now}
use Rattle.node_loop.proofs.closing.may_close.Goals as goal

pub returns-then-completed-rounds : goal.returns-then-completed-rounds
returns-then-completed-rounds g c = record {
  may = λ w es i kind is.
      let core = c.core.ensures.live w.start (rules_at w i) (w.keys i) (states_of w es i) is.stands is.live in
      let stands = c.service.ensures.live (rules_at w i) (states_of w es i) core is.live in
      let completed = completed_is w es i _ kind.words c.completed.result (c.completed.ensures.rules (seat_of (rules_at w i)) (words_of w es i) stands) in
      may_early w c.args.rounds es i (sym (c.if-not-is_chained.ensures.chained w es i is))
      (ap (nat_le c.args.rounds) (sym completed) ∙ lt-leb c.args.rounds c.completed.result c.if-completed-rounds.true);
}

pub returns : goal.returns
returns g c = record {
  may = λ w es i kind is.
      let core = c.core.ensures.live w.start (rules_at w i) (w.keys i) (states_of w es i) is.stands is.live in
      let stands = c.service.ensures.live (rules_at w i) (states_of w es i) core is.live in
      let completed = completed_is w es i _ kind.words c.completed.result (c.completed.ensures.rules (seat_of (rules_at w i)) (words_of w es i) stands) in
      may_now w c.args.rounds es i c.has_place_at.result (sym (c.if-not-is_chained.ensures.chained w es i is))
      (ap (nat_le c.args.rounds) (sym completed) ∙ le-leb c.args.rounds c.completed.result c.if-completed-rounds.false)
      (sym (c.has_ended.ensures.ended w es i is) ∙ c.if-has_ended.false) (c.has_place_at.ensures.place w es i kind is);
}
