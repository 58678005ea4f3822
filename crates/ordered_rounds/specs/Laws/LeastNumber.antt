-- Of an origin one number alone is the least that isn't in a log.
use Rattle.std.specs.Prelude.{◌≡◌, ℕ, List}
use Rattle.std.proofs.Common.{inl, inr}
use Rattle.std.proofs.lemmas.Bool.{cases_order, both_ways}
use Rattle.ritas_base.specs.declared.id.Id.{Id}
use Rattle.layer_api.specs.Service.{IsBase}
use Rattle.ordered_rounds.specs.Rounds.{least_without}
use Rattle.ordered_rounds.specs.Laws.LogGrows.{is_in, least_is}

pub least_from : (xs : List Id) (o b : ℕ) → IsBase (is_in xs o) b → b ≡ least_without xs o
least_from xs o b least =
    let is = least_is xs o in
    elim (cases_order b (least_without xs o)) [
      | inl same ↦ same
      | inr (inl less) ↦ absurd (both_ways _ least.missing (is.below b less))
      | inr (inr more) ↦ absurd (both_ways _ is.missing (least.below (least_without xs o) more))
    ]
