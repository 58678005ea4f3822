use Rattle.std.proofs.Common.{List, [], ◌∷◌, ◌++◌, refl, ap, ◌∙◌}
use Rattle.outside.specs.declared.course.Did.{Did}
use Rattle.outside.specs.declared.course.Did.TheVariants.{Send}
use Rattle.outside.proofs.Coursing.{fits_send, told_send, state_more}
use Rattle.outside.proofs.course.Course.sent.Goals as goal

pub invariant_of-self-2 : goal.invariant_of-self-2
invariant_of-self-2 c =
    let did = c.push_reserved.ensures.items ∙ ap (λ (x : List Did). x ++ Send ∷ []) c.reserve.ensures.items in
    fits_send _ _ _ _ _ _ _ _ _ did c.in_ok-push.ensures.items c.self.invariant

pub returns-clause-ok : goal.returns-clause-ok
returns-clause-ok c =
    let did = c.push_reserved.ensures.items ∙ ap (λ (x : List Did). x ++ Send ∷ []) c.reserve.ensures.items in
    rw (← c.in_ok-bytes.ensures) (state_more (λ x. x) _ _ _ _ _ _ refl (told_send _ _ _ _ _ _ _ _ did c.in_ok-push.ensures.items) c.self.view_is)
