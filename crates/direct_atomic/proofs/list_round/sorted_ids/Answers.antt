use Rattle.std.proofs.Common.{◌≡◌, ◌∙◌, ◌∷◌, []}
use Rattle.std.proofs.lemmas.Result.{IfOk-weaker}
use Rattle.frame_codec.specs.Values.{ids_of}
use Rattle.ordered_rounds.specs.Identifiers.{in_order}
use Rattle.direct_atomic.proofs.Counting.{alone_noted, alone_backed}
use Rattle.direct_atomic.proofs.list_round.sorted_ids.Goals as goal

pub returns : goal.returns
returns c =
    let v = c.args.list.now in
    IfOk-weaker c.with_backers.result _ (λ ids. ids.items ≡ in_order (ids_of v))
    (λ ids had. had (v ∷ []) (alone_noted c.new-noted.result c.note_list.new.noted v c.new-noted.ensures.empty c.in_ok-note_list.ensures) ∙ alone_backed v)
    c.with_backers.ensures
