use Rattle.std.proofs.Common.{ap, ◌∙◌, refl}
use Rattle.std.specs.Fn.{FnReturnsAt}
use Rattle.std.proofs.lemmas.Fn.{says_at}
use Rattle.ooc_buffers.specs.Lists.{HeldItem}
use Rattle.ooc_buffers.proofs.entry.Entry.passes.Goals as goal

pub returns : goal.returns
returns g c = λ t computes.
    let said : FnReturnsAt g.F.Fn c.args.test.now c.self.inside.item c.test.result = says_at g.F.Fn c.test.ensures refl in
    computes c.self.inside.item c.test.result said ∙ ap (λ (k : HeldItem). t k.item) c.self.view_is
