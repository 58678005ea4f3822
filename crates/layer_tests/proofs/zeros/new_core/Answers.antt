use Rattle.std.proofs.Common.{◌≡◌, Bool, false, cond, sym, ◌∙◌, ap}
use Rattle.std.proofs.Math.Dec.{eqb}
use Rattle.std.proofs.lemmas.Bool.{ne_eqb}
use Rattle.ritas_base.specs.declared.mode.Mode.{Mode}
use Rattle.ritas_base.specs.declared.mode.Vect.{Vect}
use Rattle.ritas_base.specs.declared.mode.Vect.TheVariants.{Echo, Reliable}
use Rattle.ritas_base.specs.declared.mode.FrameVersion.{FrameVersion}
use Rattle.ritas_base.specs.declared.mode.FrameVersion.TheVariants.{One}
use Rattle.ritas_base.specs.Versions.{reliable_form}
use Rattle.ritas_core.specs.Rules.{other_form}
use Rattle.layer_tests.proofs.zeros.new_core.Goals as goal

form_is : (mode : Mode) → eqb mode.root 2 ≡ false → mode.vect ≡ Reliable → mode.version ≡ One → other_form mode ≡ 1
unfolding other_form
form_is mode other vect version =
    ap (λ (b : Bool). cond b 2 (elim mode.vect [ Echo ↦ 2 | Reliable ↦ reliable_form mode.version 4 ])) other
    ∙ (ap (λ (v : Vect). elim v [ Echo ↦ 2 | Reliable ↦ reliable_form mode.version 4 ]) vect ∙ ap (λ (v : FrameVersion). reliable_form v 4) version)

pub new-requires-in-Some-clause-form : goal.new-requires-in-Some-clause-form
new-requires-in-Some-clause-form g c =
    let is = c.in-Some.ensures.some in
    sym (form_is c.in-Some.mode (ne_eqb c.in-Some.mode.root 2 (λ echoes. c.if-root-eq2.false (sym is.0 ∙ echoes))) is.1 is.2)
