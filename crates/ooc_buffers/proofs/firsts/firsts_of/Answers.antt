use Rattle.std.proofs.Common.{◌≡◌, ◌∙◌, sym, ap, subst, arith, false, length}
use Rattle.std.specs.declared.ops.Bound.TheVariants.{Excluded}
use Rattle.std.specs.Ordering.{is_gt}
use Rattle.ooc_buffers.specs.Lists.{HeldItem}
use Rattle.ooc_buffers.specs.Spots.{spot_cmp, rest_from, spot_behind}
use Rattle.ooc_buffers.specs.Firsts.{likeness}
use Rattle.ooc_buffers.specs.declared.group.Spot.{Spot}
use Rattle.ooc_buffers.proofs.Walks.{shorter}
use Rattle.ooc_buffers.proofs.FirstOnes.{IsReached, reached_none, reached_more, reached_last}
use Rattle.ooc_buffers.proofs.firsts.firsts_of.Goals as goal

pub loop-spot-init : goal.loop-spot-init
loop-spot-init c = λ next ats. reached_none c.new-firsts.result c.args.items.now.entries c.new-firsts.ensures.empty

pub loop-spot-smaller : goal.loop-spot-smaller
loop-spot-smaller c =
    let is = sym (c.range.ensures.between tt) ∙ c.in-Some.ensures.steps in
    let b = spot_behind c.in-Some.spot.now in
    let low : is_gt (spot_cmp c.in-Some.spot.now b) ≡ false =
    subst (λ (s : Spot). is_gt (spot_cmp c.in-Some.spot.now s) ≡ false) c.behind.ensures.spot c.behind.ensures.later in
    let less = shorter c.loop-spot.from c.args.items.now.entries (c.in-Some.spot.now, c.in-Some.entry.now) _ b is low in
    let same : length (rest_from (Excluded c.behind.result) c.args.items.now.entries) ≡ length (rest_from (Excluded b) c.args.items.now.entries) =
    ap (λ (s : Spot). length (rest_from (Excluded s) c.args.items.now.entries)) c.behind.ensures.spot in
    omega (arith, less, same)

pub loop-spot-preserved : goal.loop-spot-preserved
loop-spot-preserved c = λ next ats.
    let is = sym (c.range.ensures.between tt) ∙ c.in-Some.ensures.steps in
    let like : c.likeness.result ≡ likeness c.in-Some.entry.now.item = c.likeness.ensures ∙ ap (λ (k : HeldItem). likeness k.item) c.entry.view_is in
    subst (λ (s : Spot). IsReached c.note.new.firsts (Excluded s) c.args.items.now.entries) (sym c.behind.ensures.spot)
    (reached_more c.loop-spot.firsts c.note.new.firsts next c.loop-spot.from c.args.items.now.entries (c.in-Some.spot.now, c.in-Some.entry.now) _ c.likeness.result
    c.range.ensures.ordered is ats like c.in_ok-note.ensures (c.loop-spot.invariant next ats))

pub returns : goal.returns
returns c = λ next ats.
    reached_last c.loop-spot.firsts c.loop-spot.from c.args.items.now.entries (sym (c.range.ensures.between tt) ∙ c.in_default.ensures.steps.0) (c.loop-spot.invariant next ats)
