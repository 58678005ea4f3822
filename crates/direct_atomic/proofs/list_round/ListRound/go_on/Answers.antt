use Rattle.std.proofs.Common.{◌∙◌, ◌+◌, ap, arith, ℕ, ◌∷◌, take, nat_le}
use Rattle.ritas_base.specs.Numbers.{Numbers}
use Rattle.frame_codec.specs.Limits.{most_ids}
use Rattle.frame_codec.specs.Values.{ids_bytes}
use Rattle.layer_api.specs.RoundLists.{props, present}
use Rattle.ordered_rounds.specs.Identifiers.{in_order, passing_ids}
use Rattle.layer_api.specs.Proposals.{backers}
use Rattle.ordered_rounds.specs.Rounds.{entry_ids}
use Rattle.direct_atomic.specs.Lists.{inner_desk, inner_words}
use Rattle.direct_atomic.proofs.Going.{went_as, near_ok, near_err}
use Rattle.direct_atomic.proofs.list_round.ListRound.go_on.Goals as goal

pub returns-in_err-propose-clause-near : goal.returns-in_err-propose-clause-near
returns-in_err-propose-clause-near g c = λ at w d h quiet.
    let es = present (props at.scope (d ∷ w)) in
    let is = c.as_slice.ensures ∙ (c.in_ok-list.ensures es h.noted
    ∙ ap (λ (f : ℕ). ids_bytes (take most_ids (passing_ids (λ x. nat_le (f + 1) (backers es x)) (in_order (entry_ids es))))) (c.f.ensures.value ∙ ap (λ (p : Numbers). p.f) h.params)) in
    near_err g.M.MultiBox.stands g.M.MultiBox.rules g.met.M.MultiBox.multi_laws g.M.MultiBox.live g.M.MultiBox.shown g.met.M.MultiBox.shows c.args.self.now at w d h quiet
    c.if-self.false c.if-not-self.false (omega arith) c.propose.new.self c.as_slice.result.now is (λ may. c.in_err-propose.ensures.shows (inner_desk at) (inner_words at.scope w) h.inner may)

pub returns-clause-ok : goal.returns-clause-ok
returns-clause-ok g c = λ at w d h quiet.
    let es = present (props at.scope (d ∷ w)) in
    let is = c.as_slice.ensures ∙ (c.in_ok-list.ensures es h.noted
    ∙ ap (λ (f : ℕ). ids_bytes (take most_ids (passing_ids (λ x. nat_le (f + 1) (backers es x)) (in_order (entry_ids es))))) (c.f.ensures.value ∙ ap (λ (p : Numbers). p.f) h.params)) in
    went_as g.M.MultiBox.stands g.M.MultiBox.rules g.met.M.MultiBox.multi_laws g.M.MultiBox.live g.M.MultiBox.shown g.met.M.MultiBox.shows c.args.self.now at w d h quiet
    c.if-self.false c.if-not-self.false (omega arith) c.propose.new.self c.as_slice.result.now is c.args.made.now.items c.propose.new.says.items
    (λ may. c.in_ok-propose.ensures.grows (inner_desk at) (inner_words at.scope w) h.inner may)
    (λ may. c.in_ok-propose.ensures.made (inner_desk at) (inner_words at.scope w) h.inner may)

pub returns-clause-near : goal.returns-clause-near
returns-clause-near g c = λ at w d h quiet.
    let es = present (props at.scope (d ∷ w)) in
    let is = c.as_slice.ensures ∙ (c.in_ok-list.ensures es h.noted
    ∙ ap (λ (f : ℕ). ids_bytes (take most_ids (passing_ids (λ x. nat_le (f + 1) (backers es x)) (in_order (entry_ids es))))) (c.f.ensures.value ∙ ap (λ (p : Numbers). p.f) h.params)) in
    near_ok g.M.MultiBox.stands g.M.MultiBox.rules g.met.M.MultiBox.multi_laws g.M.MultiBox.live g.M.MultiBox.shown g.met.M.MultiBox.shows c.args.self.now at w d h quiet
    c.if-self.false c.if-not-self.false (omega arith) c.propose.new.self c.as_slice.result.now is
    (λ may. c.in_ok-propose.ensures.grows (inner_desk at) (inner_words at.scope w) h.inner may)
