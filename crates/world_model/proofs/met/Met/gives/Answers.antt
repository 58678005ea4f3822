use Rattle.std.proofs.Common.{◌∙◌, ap}
use Rattle.world_model.specs.Met.{MetEntries}
use Rattle.world_model.proofs.Pairs.{gives_some}
use Rattle.world_model.proofs.met.Met.gives.Goals as goal

pub returns : goal.returns
returns c =
    c.some_gives.ensures
    ∙ gives_some c.args.self.now c.as_slice.result.now c.args.entry.now (c.as_slice.ensures.value ∙ ap (λ (x : MetEntries). x.pairs) c.self.view_is)
