use Rattle.std.proofs.Common.{List, [], ◌∷◌, ◌++◌, refl, ap, ◌∙◌}
use Rattle.outside.specs.declared.course.Did.{Did}
use Rattle.outside.specs.declared.course.Did.TheVariants.{Start}
use Rattle.outside.proofs.Coursing.{fits_start, told_start, state_more}
use Rattle.outside.proofs.course.Course.started.Goals as goal

pub invariant_of-self-2 : goal.invariant_of-self-2
invariant_of-self-2 c =
    let did = c.push_reserved.ensures.items ∙ ap (λ (x : List Did). x ++ Start ∷ []) c.reserve.ensures.items in
    fits_start _ _ _ _ _ _ _ _ _ did c.in_ok-push.ensures.items c.self.invariant

pub returns-clause-ok : goal.returns-clause-ok
returns-clause-ok c =
    let did = c.push_reserved.ensures.items ∙ ap (λ (x : List Did). x ++ Start ∷ []) c.reserve.ensures.items in
    rw (← c.in_ok-plan.ensures) (state_more (λ x. x) _ _ _ _ _ _ refl (told_start _ _ _ _ _ _ _ _ did c.in_ok-push.ensures.items) c.self.view_is)
