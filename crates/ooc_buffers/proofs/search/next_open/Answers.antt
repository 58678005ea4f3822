use Rattle.std.proofs.Common.{◌≡◌, ◌∙◌, sym, ap, subst, arith, refl, false, length, IsSome, Option}
use Rattle.std.specs.declared.ops.Bound.TheVariants.{Excluded}
use Rattle.std.specs.Ordering.{is_gt}
use Rattle.ooc_buffers.specs.Lists.{HeldItem}
use Rattle.ooc_buffers.specs.Spots.{spot_cmp, pass, rest_from, spot_behind}
use Rattle.ooc_buffers.specs.declared.group.Spot.{Spot}
use Rattle.ooc_buffers.proofs.Walks.{itself_no_less, shorter, found, gone_on, first_there}
use Rattle.ooc_buffers.proofs.search.next_open.Goals as goal

pub loop-spot-init : goal.loop-spot-init
loop-spot-init g c = record { fewer = omega arith; same = λ t right next computes goes ats rights. refl }

pub returns-then-passes-clause-found : goal.returns-then-passes-clause-found
returns-then-passes-clause-found g c = λ t right next computes goes ats rights.
    let is = sym (c.range.ensures.between tt) ∙ c.in-Some.ensures.steps in
    let passes = sym (c.passes.ensures t computes) ∙ c.if-passes.true in
    record {
      item = c.in-Some.entry.now;
      is = (first_there _ c.args.items.now _ _ _ c.in-Some.ensures.steps (c.range.ensures.in_range tt).1).1;
      passes = passes;
      first = sym (c.loop-spot.invariant.same t right next computes goes ats rights)
          ∙ found t c.loop-spot.from c.args.items.now.entries (c.in-Some.spot.now, c.in-Some.entry.now) _ c.range.ensures.ordered is passes;
    }

pub returns-then-passes-clause-steps : goal.returns-then-passes-clause-steps
returns-then-passes-clause-steps g c =
    let is = sym (c.range.ensures.between tt) ∙ c.in-Some.ensures.steps in
    let less = shorter c.loop-spot.from c.args.items.now.entries (c.in-Some.spot.now, c.in-Some.entry.now) _ c.in-Some.spot.now is (itself_no_less c.in-Some.spot.now) in
    record {
      is = subst (λ (o : Option HeldItem). IsSome o) (sym (first_there _ c.args.items.now _ _ _ c.in-Some.ensures.steps (c.range.ensures.in_range tt).1).1) refl;
      fewer = omega (arith, less, c.loop-spot.invariant.fewer);
    }

pub loop-spot-smaller : goal.loop-spot-smaller
loop-spot-smaller g c =
    let is = sym (c.range.ensures.between tt) ∙ c.in-Some.ensures.steps in
    let b = spot_behind c.in-Some.spot.now in
    let low : is_gt (spot_cmp c.in-Some.spot.now b) ≡ false =
    subst (λ (s : Spot). is_gt (spot_cmp c.in-Some.spot.now s) ≡ false) c.behind.ensures.spot c.behind.ensures.later in
    let less = shorter c.loop-spot.from c.args.items.now.entries (c.in-Some.spot.now, c.in-Some.entry.now) _ b is low in
    let same : length (rest_from (Excluded c.behind.result) c.args.items.now.entries) ≡ length (rest_from (Excluded b) c.args.items.now.entries) =
    ap (λ (s : Spot). length (rest_from (Excluded s) c.args.items.now.entries)) c.behind.ensures.spot in
    omega (arith, less, same)

pub loop-spot-preserved : goal.loop-spot-preserved
loop-spot-preserved g c =
    let is = sym (c.range.ensures.between tt) ∙ c.in-Some.ensures.steps in
    let b = spot_behind c.in-Some.spot.now in
    let low : is_gt (spot_cmp c.in-Some.spot.now b) ≡ false =
    subst (λ (s : Spot). is_gt (spot_cmp c.in-Some.spot.now s) ≡ false) c.behind.ensures.spot c.behind.ensures.later in
    let less = shorter c.loop-spot.from c.args.items.now.entries (c.in-Some.spot.now, c.in-Some.entry.now) _ b is low in
    let same : length (rest_from (Excluded c.behind.result) c.args.items.now.entries) ≡ length (rest_from (Excluded b) c.args.items.now.entries) =
    ap (λ (s : Spot). length (rest_from (Excluded s) c.args.items.now.entries)) c.behind.ensures.spot in
    record {
      fewer = omega (arith, less, same, c.loop-spot.invariant.fewer);
      same = λ t right next computes goes ats rights.
          let fails = sym (c.passes.ensures t computes) ∙ c.if-passes.false in
          ap (λ (s : Spot). pass t (rest_from (Excluded s) c.args.items.now.entries)) c.behind.ensures.spot
          ∙ (gone_on t right next c.loop-spot.from c.args.items.now.entries (c.in-Some.spot.now, c.in-Some.entry.now) _ c.range.ensures.ordered is low fails goes ats rights
          ∙ c.loop-spot.invariant.same t right next computes goes ats rights);
    }

pub returns-clause-found : goal.returns-clause-found
returns-clause-found g c = λ t right next computes goes ats rights.
    sym (c.loop-spot.invariant.same t right next computes goes ats rights)
    ∙ ap (pass t) (sym (c.range.ensures.between tt) ∙ c.in_default.ensures.steps.0)
