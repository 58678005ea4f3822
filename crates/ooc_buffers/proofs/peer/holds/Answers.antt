use Rattle.std.proofs.Common.{◌≡◌, ◌∙◌, sym, ap, refl, Bool, false, ◌||◌, List}
use Rattle.std.specs.List.{list_any}
use Rattle.ooc_buffers.specs.Lists.{HeldItem, is_same_item}
use Rattle.ooc_buffers.specs.Spots.{Spotted, held_in}
use Rattle.ooc_buffers.specs.declared.group.Spot.{Spot}
use Rattle.ooc_buffers.proofs.Ranges.{any_alike}
use Rattle.ooc_buffers.proofs.peer.holds.Goals as goal

pub loop-entry-init : goal.loop-entry-init
loop-entry-init c = record {
  can = tt;
  finite = tt;
  same = λ ats mark.
      let first : Spot = record { group = c.of.result; bround = c.args.item.now.slot.bround; mark = c.args.mark; stamp = 0 } in
      ap (λ (l : List Spotted). list_any (λ (k : HeldItem). is_same_item c.args.item.now k.item) (held_in l))
      (c.into_iter-entry-iterator.ensures.into_iter_gives ∙ c.range-entry-items.ensures.between tt)
      ∙ any_alike c.args.next c.args.item.now first c.args.items.now.entries ats c.of.ensures refl mark;
}

pub loop-entry-preserved : goal.loop-entry-preserved
loop-entry-preserved c = record {
  can = tt;
  finite = tt;
  same = λ ats mark.
      let fails : is_same_item c.args.item.now c.in-Some.entry.now.item ≡ false =
      sym (c.is_same.ensures ∙ ap (λ (k : HeldItem). is_same_item c.args.item.now k.item) c.entry.view_is) ∙ c.if-is_same.false in
      ap (λ (b : Bool). b || list_any (λ (k : HeldItem). is_same_item c.args.item.now k.item) (held_in c.next.new.self)) (sym fails)
      ∙ (sym (ap (λ (l : List Spotted). list_any (λ (k : HeldItem). is_same_item c.args.item.now k.item) (held_in l)) c.in-Some.ensures.steps)
      ∙ c.loop-entry.invariant.same ats mark);
}

pub returns : goal.returns
returns c = λ ats mark.
    sym (ap (λ (l : List Spotted). list_any (λ (k : HeldItem). is_same_item c.args.item.now k.item) (held_in l)) c.in-None.ensures.steps.0)
    ∙ c.loop-entry.invariant.same ats mark
