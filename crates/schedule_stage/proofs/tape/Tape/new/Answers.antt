use Rattle.std.proofs.Common.{[], ◌∙◌, ap, subst, refl}
use Rattle.schedule_file.specs.ReadHeader.{heading}
use Rattle.schedule_file.specs.Spelling.{FrontOf, IsHeading}
use Rattle.schedule_file.specs.declared.header.Header.{Header}
use Rattle.schedule_stage.proofs.Taping.{none_yet}
use Rattle.schedule_stage.proofs.tape.Tape.new.Goals as goal

pub returns : goal.returns
returns c = (
  c.new.ensures,
  λ w p same.
      none_yet w p c.args.what _ (subst (λ (h : Header). IsHeading (heading h)) same c.requires) refl refl refl
      (λ is. c.in_ok-file.ensures is ∙ ap (λ (h : Header). FrontOf (heading h) []) same),
)
