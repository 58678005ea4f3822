use Rattle.std.proofs.Common.{◌∷◌, []}
use Rattle.layer_api.specs.Words.{Hear}
use Rattle.multivalued.specs.Consensus.{bench_of, bit_words}
use Rattle.multivalued.proofs.StepLaws.{votes}
use Rattle.multivalued.proofs.mvc.Mvc.hear_vote.Goals as goal

pub returns-clause-ok : goal.returns-clause-ok
returns-clause-ok g c = λ at w h coin may.
    let s = c.args.slot.now in
    let bench = bench_of at in
    let words = bit_words at.scope w in
    let more = Hear c.args.slot.now (c.args.vote ∷ []) ∷ bit_words at.scope w in
    let stood = c.in_ok-heard.ensures.grows bench words h.reached.stood (coin, may) in
    let said = c.in_ok-heard.ensures.made bench words h.reached.stood (coin, may) in
    votes g.B.BinaryBox.stands g.B.BinaryBox.rules at w s (c.args.vote ∷ []) may.slot.class c.args.self.now c.heard.new.self c.decision.result c.decide.result c.args.made.now.items c.heard.new.says.items
    h stood said c.round.result (c.round.ensures.rules bench more stood) (c.decision.ensures.rules bench more stood) c.decide.ensures
