use Rattle.std.proofs.Common.{◌≡◌, ◌-◌, ◌∙◌, sym, ap, arith, refl, cond, length, List, ◌++◌, [], sum_by, ℕ}
use Rattle.std.proofs.lemmas.List.Sums.{sum_by-cons}
use Rattle.ooc_buffers.specs.declared.key.Key.{Key}
use Rattle.ooc_buffers.specs.Lists.{HeldItem}
use Rattle.ooc_buffers.specs.Keys.{item_key, key_eq, count_at}
use Rattle.ooc_buffers.specs.Spots.{Spotted, held_in}
use Rattle.ooc_buffers.proofs.Leaving.{empty_of}
use Rattle.ooc_buffers.proofs.Clearing.{counted_out, passing_more, passing_room, passing_all}
use Rattle.ooc_buffers.proofs.peer.pass_on.Goals as goal

pub loop-entry-init : goal.loop-entry-init
loop-entry-init c = record {
  counts = λ others given. given;
  bytes = λ small. omega arith;
  capacity = refl;
  room = refl;
  items = λ room. record { items = refl; count = refl };
}

pub loop-entry-smaller-then-len-capacity : goal.loop-entry-smaller-then-len-capacity
loop-entry-smaller-then-len-capacity c = let one = ap length c.in-Some.ensures.items in omega (arith, one)

pub loop-entry-preserved-then-len-capacity : goal.loop-entry-preserved-then-len-capacity
loop-entry-preserved-then-len-capacity c =
    let key : c.of.result ≡ item_key c.in-Some.entry.item = c.of.ensures ∙ ap (λ (k : HeldItem). item_key k.item) c.entry.view_is in
    record {
      counts = λ others given.
          counted_out c.loop-entry.index c.count_out.new.index c.in-Some.entry _ (held_in c.pop_front.new.self.items ++ others)
          (ap (λ (l : List Spotted). held_in l ++ others) c.in-Some.ensures.items) (c.loop-entry.invariant.counts others given)
          (λ q. c.count_out.ensures q ∙ ap (λ (k : Key). count_at c.loop-entry.index q - cond {A = ℕ} (key_eq q k) 1 0) key);
      bytes = λ small.
          let before = c.loop-entry.invariant.bytes small in
          let next = ap (λ (l : List Spotted). sum_by (λ (k : HeldItem). k.len) (held_in l)) c.in-Some.ensures.items
          ∙ sum_by-cons (λ (k : HeldItem). k.len) c.in-Some.entry (held_in c.pop_front.new.self.items) in
          let len = ap (λ (k : HeldItem). k.len) c.entry.view_is in
          omega (arith, before, next, len, small, c.saturating_add-bytes.ensures);
      capacity = c.in-Some.ensures.capacity ∙ c.loop-entry.invariant.capacity;
      room = c.push_back_reserved.ensures.capacity ∙ c.loop-entry.invariant.room;
      items = λ room.
          passing_more _ _ _ _ _ _ _ _ _ _ _ c.in-Some.ensures.items (ap (λ (k : HeldItem). k.item) c.entry.view_is) c.push_back_reserved.ensures.items
          c.push_back_reserved.ensures.len (c.loop-entry.invariant.items room);
    }

pub loop-entry-smaller : goal.loop-entry-smaller
loop-entry-smaller c = let one = ap length c.in-Some.ensures.items in omega (arith, one)

pub loop-entry-preserved : goal.loop-entry-preserved
loop-entry-preserved c =
    let key : c.of.result ≡ item_key c.in-Some.entry.item = c.of.ensures ∙ ap (λ (k : HeldItem). item_key k.item) c.entry.view_is in
    record {
      counts = λ others given.
          counted_out c.loop-entry.index c.count_out.new.index c.in-Some.entry _ (held_in c.pop_front.new.self.items ++ others)
          (ap (λ (l : List Spotted). held_in l ++ others) c.in-Some.ensures.items) (c.loop-entry.invariant.counts others given)
          (λ q. c.count_out.ensures q ∙ ap (λ (k : Key). count_at c.loop-entry.index q - cond {A = ℕ} (key_eq q k) 1 0) key);
      bytes = λ small.
          let before = c.loop-entry.invariant.bytes small in
          let next = ap (λ (l : List Spotted). sum_by (λ (k : HeldItem). k.len) (held_in l)) c.in-Some.ensures.items
          ∙ sum_by-cons (λ (k : HeldItem). k.len) c.in-Some.entry (held_in c.pop_front.new.self.items) in
          let len = ap (λ (k : HeldItem). k.len) c.entry.view_is in
          omega (arith, before, next, len, small, c.saturating_add-bytes.ensures);
      capacity = c.in-Some.ensures.capacity ∙ c.loop-entry.invariant.capacity;
      room = c.loop-entry.invariant.room;
      items = λ room.
          let fits = passing_room _ _ _ _ _ _ _ _ _ c.in-Some.ensures.items room (c.loop-entry.invariant.items room) in
          absurd (omega (arith, fits, c.if-len-capacity.false, c.len.ensures, c.capacity.ensures, c.loop-entry.invariant.room));
    }

pub returns-clause-counts : goal.returns-clause-counts
returns-clause-counts c = λ others given.
    let few : length c.loop-entry.moved.items ≡ 0 = omega (arith, c.in_default.ensures.cases.0, c.loop-entry.moved.ok.0) in
    let none : c.loop-entry.moved.items ≡ [] = empty_of c.loop-entry.moved.items few in
    rw none at (c.loop-entry.invariant.counts others given)

pub returns-clause-bytes : goal.returns-clause-bytes
returns-clause-bytes c = λ small.
    let few : length c.loop-entry.moved.items ≡ 0 = omega (arith, c.in_default.ensures.cases.0, c.loop-entry.moved.ok.0) in
    let none : c.loop-entry.moved.items ≡ [] = empty_of c.loop-entry.moved.items few in
    let gone = ap (λ (l : List Spotted). sum_by (λ (k : HeldItem). k.len) (held_in l)) none in
    omega (arith, gone, c.loop-entry.invariant.bytes small)

pub returns-clause-empty : goal.returns-clause-empty
returns-clause-empty c =
    let few : length c.loop-entry.moved.items ≡ 0 = omega (arith, c.in_default.ensures.cases.0, c.loop-entry.moved.ok.0) in
    let none : c.loop-entry.moved.items ≡ [] = empty_of c.loop-entry.moved.items few in
    sym c.in_default.ensures.items ∙ none

pub returns-clause-capacity : goal.returns-clause-capacity
returns-clause-capacity c = c.in_default.ensures.capacity ∙ c.loop-entry.invariant.capacity

pub returns-clause-room : goal.returns-clause-room
returns-clause-room c = c.loop-entry.invariant.room

pub returns-clause-items : goal.returns-clause-items
returns-clause-items c = λ room.
    let few : length c.loop-entry.moved.items ≡ 0 = omega (arith, c.in_default.ensures.cases.0, c.loop-entry.moved.ok.0) in
    let none : c.loop-entry.moved.items ≡ [] = empty_of c.loop-entry.moved.items few in
    passing_all _ _ _ _ _ _ none (c.loop-entry.invariant.items room)
