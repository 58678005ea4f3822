use Rattle.std.proofs.Common.{◌≡◌, ◌+◌, List, ◌∷◌, Option, sym, ◌∙◌, subst}
use Rattle.std.proofs.lemmas.List.{with_items_is}
use Rattle.std.specs.Vec.{with_items}
use Rattle.command_log.specs.Rows.{Row}
use Rattle.observer.specs.Giving.{Passed}
use Rattle.observer.specs.Places.{Window, first_place, IsCleared, StandsForSteps}
use Rattle.observer.proofs.Taken.{cleared_as}
use Rattle.observer.proofs.Giving.{stands_passed}
use Rattle.observer.proofs.given.GivenRows.pass.Goals as goal

pub returns-clause-passed : goal.returns-clause-passed
returns-clause-passed c = λ p first h stands.
    let w : Window = record { numbers = record { n = c.self.inside.n; f = c.self.inside.f }; len = c.self.inside.len; places = c.self.inside.places.items } in
    let before : StandsForSteps p first h w = subst (λ (v : Window). StandsForSteps p first h v) (sym c.self.view_is) stands in
    let cleared : IsCleared (first_place w.len) w.places c.clear.new.places =
    cleared_as c.first_place.result (first_place w.len) c.as_mut_slice.result.now w.places c.clear.new.places c.first_place.ensures.value c.as_mut_slice.ensures.value c.clear.ensures in
    let left : (with_items c.self.inside.places c.clear.new.places).items ≡ c.clear.new.places =
    with_items_is c.self.inside.places c.clear.new.places (c.clear.auto.places ∙ c.as_mut_slice.ensures.len) in
    subst (λ (l : List (Option Row)). StandsForSteps p first (Passed ∷ h) (record w { len = w.len + 1; places = l })) (sym left)
    (stands_passed p first h w c.clear.new.places before cleared)
