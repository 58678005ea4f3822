use Rattle.world_model.proofs.Untouched.{quiet_law, others_law}
use Rattle.world_model.proofs.faces.quiet.Goals as goal

pub returns : goal.returns
returns c = record { none = quiet_law c.made_by_entry.ensures; others = others_law }
