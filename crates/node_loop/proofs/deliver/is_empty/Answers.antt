use Rattle.std.proofs.Common.{◌==◌, List, length, sym, ap, ◌∙◌}
use Rattle.link_resume.specs.declared.kept.Kept.{Kept}
use Rattle.node_loop.specs.Resending.{part_of}
use Rattle.node_loop.proofs.deliver.is_empty.Goals as goal

pub returns-in-Some : goal.returns-in-Some
returns-in-Some g c = record {
  nothing = λ w es numbers ws p stands fits.
      c.is_nothing.ensures.nothing ∙ ap (λ (kept : List Kept). length (part_of c.args.part kept) == 0) (c.in-Some.ensures.kept w es numbers ws p c.args.part stands fits);
}

pub returns-in-None : goal.returns-in-None
returns-in-None g c = record {
  nothing = λ w es numbers ws p stands fits. sym (ap (λ (kept : List Kept). length kept == 0) (c.in-None.ensures.kept w es numbers ws p c.args.part stands fits));
}
