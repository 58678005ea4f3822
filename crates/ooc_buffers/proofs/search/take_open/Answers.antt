use Rattle.std.proofs.Common.{◌+◌, ◌∙◌, ap, arith, refl, length, List, sum_by}
use Rattle.std.specs.VecDeque.{deque_len}
use Rattle.ooc_buffers.specs.Spots.{Spotted, held_in}
use Rattle.ooc_buffers.proofs.Leaving.{left_more, left_none, moving_more, moving_none, left_first, moving_first, sum_more, ats_left, fewer_left, few_left}
use Rattle.ooc_buffers.proofs.Sorting.{apart_left}
use Rattle.ooc_buffers.proofs.search.take_open.Goals as goal

pub loop-from-init : goal.loop-from-init
loop-from-init g c = record {
  same = λ f. refl;
  ats = λ next ats. ats;
  apart = λ apart. apart;
  left = λ t right next computes goes ats rights. left_first t right next c.args.items.now.entries ats rights;
  moving = λ t right next computes goes ats rights. moving_first t c.args.items.now.entries c.args.moved.now.items (deque_len c.args.moved.now);
  capacity = omega arith;
}

pub returns-in_default-clause-same : goal.returns-in_default-clause-same
returns-in_default-clause-same g c = λ f.
    ap (λ (l : List Spotted). sum_by f (held_in c.loop-from.moved.items) + sum_by f (held_in l)) c.in_default.ensures.stays ∙ c.loop-from.invariant.same f

pub returns-in_default-clause-ats : goal.returns-in_default-clause-ats
returns-in_default-clause-ats g c = λ next ats. rw c.in_default.ensures.stays (c.loop-from.invariant.ats next ats)

pub returns-in_default-clause-apart : goal.returns-in_default-clause-apart
returns-in_default-clause-apart g c = λ apart. rw c.in_default.ensures.stays (c.loop-from.invariant.apart apart)

pub returns-in_default-clause-moves : goal.returns-in_default-clause-moves
returns-in_default-clause-moves g c = λ t right next computes goes ats rights room.
    let left = c.loop-from.invariant.left t right next computes goes ats rights in
    let moving = c.loop-from.invariant.moving t right next computes goes ats rights in
    let none = ap length (c.in_default.ensures.next t right next computes goes left.ats left.rights left.behind) in
    (c.in_default.ensures.stays ∙ left_none t right next _ _ _ none left, moving_none t _ _ _ _ _ _ _ none moving)

pub returns-in_default-clause-capacity : goal.returns-in_default-clause-capacity
returns-in_default-clause-capacity g c = c.loop-from.invariant.capacity

pub loop-from-smaller : goal.loop-from-smaller
loop-from-smaller g c = let one = fewer_left _ _ _ c.in-Some.ensures.leaves in omega (arith, one)

pub loop-from-preserved : goal.loop-from-preserved
loop-from-preserved g c =
    record {
      same = λ f. sum_more f _ _ _ _ _ _ c.in-Some.ensures.leaves c.push_back_reserved.ensures.items (c.loop-from.invariant.same f);
      ats = λ next ats. ats_left next _ _ _ c.in-Some.ensures.leaves (c.loop-from.invariant.ats next ats);
      apart = λ apart. apart_left _ _ _ c.in-Some.ensures.leaves (c.loop-from.invariant.apart apart);
      left = λ t right next computes goes ats rights.
          let left = c.loop-from.invariant.left t right next computes goes ats rights in
          left_more t right next _ _ _ _ _ _ c.in-Some.ensures.leaves (c.in-Some.ensures.next t right next computes goes left.ats left.rights left.behind) left;
      moving = λ t right next computes goes ats rights.
          let left = c.loop-from.invariant.left t right next computes goes ats rights in
          moving_more t _ _ _ _ _ _ _ _ _ _ _ _ c.push_back_reserved.ensures.items c.push_back_reserved.ensures.len
          (c.in-Some.ensures.next t right next computes goes left.ats left.rights left.behind) (c.loop-from.invariant.moving t right next computes goes ats rights);
      capacity = omega (arith, c.loop-from.invariant.capacity, c.push_back_reserved.ensures.capacity);
    }

pub returns-clause-same : goal.returns-clause-same
returns-clause-same g c = c.loop-from.invariant.same

pub returns-clause-ats : goal.returns-clause-ats
returns-clause-ats g c = c.loop-from.invariant.ats

pub returns-clause-apart : goal.returns-clause-apart
returns-clause-apart g c = c.loop-from.invariant.apart

pub returns-clause-moves : goal.returns-clause-moves
returns-clause-moves g c = λ t right next computes goes ats rights room.
    let left = c.loop-from.invariant.left t right next computes goes ats rights in
    let moving = c.loop-from.invariant.moving t right next computes goes ats rights in
    let count = moving.count in
    let none = few_left _ _ _ _ _ _ count (omega (arith, c.loop-from-test.false, c.len.ensures, c.capacity.ensures)) c.loop-from.invariant.capacity room in
    (left_none t right next _ _ _ none left, moving_none t _ _ _ _ _ _ _ none moving)

pub returns-clause-capacity : goal.returns-clause-capacity
returns-clause-capacity g c = c.loop-from.invariant.capacity
