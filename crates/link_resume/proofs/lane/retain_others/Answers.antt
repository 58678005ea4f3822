use Rattle.std.specs.Prelude.{not, ◌==◌}
use Rattle.std.proofs.Common.{rules}
use Rattle.link_resume.proofs.Places.{retained}
use Rattle.link_resume.proofs.lane.retain_others.Goals as goal

pub returns : goal.returns
returns c = retained _ (λ k. not (k.seq == c.args.seq)) _ _ _ (λ k v b w g called. search rules) c.retain.ensures.filtered
