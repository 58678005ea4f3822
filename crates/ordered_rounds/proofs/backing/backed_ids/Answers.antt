use Rattle.std.proofs.Common.{◌≡◌, ◌∙◌, ◌+◌, ap, ℕ, nat_le}
use Rattle.std.proofs.lemmas.Result.{IfOk-weaker}
use Rattle.ordered_rounds.specs.Identifiers.{passing_ids, in_order}
use Rattle.layer_api.specs.Proposals.{backers}
use Rattle.ordered_rounds.specs.Rounds.{entry_ids, backed}
use Rattle.ordered_rounds.proofs.backing.backed_ids.Goals as goal
use Rattle.frame_codec.specs.Values.{vector_entries}

pub returns : goal.returns
returns c =
    let vector = c.args.vector.now in
    let lists = vector_entries vector in
    IfOk-weaker c.with_backers.result _ (λ ids. ids.items ≡ backed c.args.p.now (vector_entries vector))
    (λ ids had.
    had lists c.in_ok-noted.ensures ∙ ap (λ (f : ℕ). passing_ids (λ x. nat_le (f + 1) (backers lists x)) (in_order (entry_ids lists))) c.f.ensures.value)
    c.with_backers.ensures
