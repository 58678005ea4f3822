use Rattle.std.proofs.Common.{◌∙◌, ap, ap₂, List, ℕ}
use Rattle.std.specs.Map.{values_of}
use Rattle.std.specs.BTreeMap.Range.{entries_between}
use Rattle.std.specs.Ordering.{nat_cmp}
use Rattle.std.specs.declared.ops.Bound.{Bound}
use Rattle.link_resume.specs.declared.kept.Kept.{Kept}
use Rattle.link_resume.specs.Lists.{between}
use Rattle.link_resume.proofs.Batches.{by_places, by_any}
use Rattle.link_resume.proofs.lane.Lane.span.Goals as goal

pub returns-then-self : goal.returns-then-self
returns-then-self c =
    let after = c.args.after in
    let last = c.args.last in
    let es = c.self.inside.kept.entries in
    ap (λ (l : List (ℕ × Kept)). between after last (values_of l))
    (c.range.ensures.between tt ∙ ap₂ (λ (low high : Bound ℕ). entries_between nat_cmp low high es) c.start.ensures c.end.ensures)
    ∙ (by_places after last es (c.self.invariant.places c.if-self.true) ∙ ap (between after last) c.self.view_is)

pub returns-else-self : goal.returns-else-self
returns-else-self c =
    ap (λ (es : List (ℕ × Kept)). between c.args.after c.args.last (values_of es)) (c.range-else-self.ensures.between tt)
    ∙ (by_any c.args.after c.args.last c.self.inside.kept.entries ∙ ap (between c.args.after c.args.last) c.self.view_is)
