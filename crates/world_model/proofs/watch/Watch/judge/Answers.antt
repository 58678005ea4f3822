use Rattle.std.proofs.Common.{◌≡◌, sym, ◌∙◌, ap, subst}
use Rattle.std.specs.Option.{option_copied}
use Rattle.world_model.specs.declared.audit.Audit.{Audit}
use Rattle.world_model.specs.declared.audit.Audit.TheVariants as audits
use Rattle.world_model.specs.World.{after_call}
use Rattle.world_model.specs.Watch.{WatchStands, verdict_after}
use Rattle.world_model.proofs.Watching.{nothing_watched}
use Rattle.world_model.proofs.watch.Watch.judge.Goals as goal

pub returns-in-None-clause-finds : goal.returns-in-None-clause-finds
returns-in-None-clause-finds c = λ w states call verdict seats within told stand.
    let holds : verdict ≡ audits.Holds = sym stand.found ∙ c.in-Holds.is in
    let P : Audit → Type 0 = λ v. WatchStands w states v c.args.self.now → WatchStands w (after_call w states call) (verdict_after w states call v c.args.number) c.args.self.now in
    subst P (sym holds)
    (nothing_watched w states call c.args.self.now c.args.number (sym told.frame ∙ c.if-forged.false) (sym told.item ∙ ap option_copied c.in-None.is) told.good) stand
