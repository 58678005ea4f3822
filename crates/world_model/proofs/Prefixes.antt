-- The audit of a prefix.
use Rattle.std.proofs.Common.{◌≡◌, List, [], ◌∷◌, ◌++◌, length, ◌∙◌, ap, if◌then◌else◌}
use Rattle.ritas_base.specs.declared.event.Event.{Event}
use Rattle.world_model.specs.declared.audit.Audit.TheVariants as audits
use Rattle.world_model.specs.World.{Setting}
use Rattle.world_model.specs.Audit.{has_too_many, first_broken, is_forged, is_colliding, audit_of}
use Rattle.world_model.proofs.Worlds.{judged_holds}
use Rattle.world_model.proofs.Law.{audit_parts}

broken_before : (w : Setting) (later es : List Event) → first_broken w (later ++ es) ≡ audits.Holds → first_broken w es ≡ audits.Holds
unfolding first_broken
broken_before w [] es holds = holds
broken_before w (e ∷ later) es holds =
    broken_before w later es
    (judged_holds (first_broken w (later ++ es)) (is_forged w (later ++ es) e) (is_colliding w (e ∷ later ++ es)) (length (later ++ es)) holds).0

pub holds_before : (w : Setting) (later es : List Event) → audit_of w (later ++ es) ≡ audits.Holds → audit_of w es ≡ audits.Holds
holds_before w later es holds =
    let audit = audit_parts (has_too_many w) (first_broken w (later ++ es)) holds in
    ap (λ b. if b then audits.TooManyFaulty else first_broken w es) audit.0 ∙ broken_before w later es audit.1
