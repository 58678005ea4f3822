use Rattle.std.proofs.Common.{not, ◌==◌, ◌<◌, ◌≤◌, subst, sym, length}
use Rattle.link_resume.specs.declared.kept.Kept.{Kept}
use Rattle.link_resume.specs.Lists.{Keepings, bytes_in}
use Rattle.link_resume.proofs.Places.{fewer_bytes}
use Rattle.link_resume.proofs.Within.{less_within}
use Rattle.link_resume.proofs.resume.Resume.acked.Goals as goal

pub invariant_of-self : goal.invariant_of-self
invariant_of-self c =
    less_within c.self.inside.limit c.self.inside.lanes.items c.args.peer c.index_mut.result.now c.acked.new.self c.self.invariant
    (subst (λ (k : Keepings). c.args.peer < length k.lists) (sym c.self.view_is) c.requires)
    c.index_mut.ensures.value
    (subst (λ (l : _). bytes_in l ≤ bytes_in c.index_mut.result.now) (sym c.acked.ensures) (fewer_bytes (λ (k : Kept). not (k.seq == c.args.seq)) c.index_mut.result.now))
