use Rattle.std.proofs.Common.{sym, ◌∙◌, refl}
use Rattle.world_model.proofs.HashedSteps.{input_put, input_again, never_there}
use Rattle.world_model.proofs.hashed.Hashed.add_entry.Goals as goal

pub returns-in-Some : goal.returns-in-Some
returns-in-Some c =
    input_again c.args.self.now _ c.args.input c.args.entry c.in-Some.other c.differ.result (sym c.in-Some.is ∙ c.in_ok-other.ensures.old)
    c.differ.ensures.same c.differ.ensures.apart (λ v. refl) (λ e. refl) c.in_ok-other.ensures.updates.0

pub returns-in-None : goal.returns-in-None
returns-in-None c =
    input_put c.args.self.now _ c.args.input c.args.entry (never_there _ c.args.input (sym c.in-None.is ∙ c.in_ok-other.ensures.old)) (λ v. refl) (λ e. refl) c.in_ok-other.ensures.updates.0
