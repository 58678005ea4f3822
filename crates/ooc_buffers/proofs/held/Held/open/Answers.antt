use Rattle.std.proofs.Common.{◌≡◌, ◌+◌, ◌≤◌, ◌++◌, sym, ◌∙◌, ap, ap₂, arith, length, List}
use Rattle.std.specs.VecDeque.{deque_len, deque_capacity}
use Rattle.std.proofs.lemmas.List.{append-nil}
use Rattle.ritas_base.specs.declared.item.Item.{Item}
use Rattle.ooc_buffers.specs.Lists.{HeldItem, failing, released, remaining, busy_peers}
use Rattle.ooc_buffers.proofs.Peers.{none_released, idle_released, idle_remaining, all_kept, no_items}
use Rattle.ooc_buffers.proofs.held.Held.open.Goals as goal

pub returns-then-self-eq0-clause-moved : goal.returns-then-self-eq0-clause-moved
returns-then-self-eq0-clause-moved g c = λ t right computes goes rights.
    let idle : busy_peers c.args.self.now ≡ 0 = sym (ap busy_peers c.self.view_is) ∙ (sym c.self.invariant ∙ c.if-self-eq0.true) in
    sym (append-nil c.args.inbox.now.items) ∙ ap (λ (l : List Item). c.args.inbox.now.items ++ l) (sym (idle_released t c.args.self.now idle))

pub returns-then-self-eq0-clause-kept : goal.returns-then-self-eq0-clause-kept
returns-then-self-eq0-clause-kept g c = λ t right computes goes rights.
    sym (idle_remaining t c.args.self.now (sym (ap busy_peers c.self.view_is) ∙ (sym c.self.invariant ∙ c.if-self-eq0.true)))

pub returns-then-room-eq0-clause-kept : goal.returns-then-room-eq0-clause-kept
returns-then-room-eq0-clause-kept g c = λ t right computes goes rights.
    let here : c.as_slice.result.now ≡ c.args.self.now = c.as_slice.ensures.value ∙ c.self.view_is in
    let none : length (released t c.args.self.now) ≡ 0 =
    sym (ap (λ (l : List (List HeldItem)). length (released t l)) here) ∙ (sym (c.in_ok-room.ensures t right computes goes (rw here rights)) ∙ c.if-room-eq0.true) in
    sym (none_released t c.args.self.now none)

pub returns-then-room-eq0-clause-moved : goal.returns-then-room-eq0-clause-moved
returns-then-room-eq0-clause-moved g c = λ t right computes goes rights.
    let here : c.as_slice.result.now ≡ c.args.self.now = c.as_slice.ensures.value ∙ c.self.view_is in
    let none : length (released t c.args.self.now) ≡ 0 =
    sym (ap (λ (l : List (List HeldItem)). length (released t l)) here) ∙ (sym (c.in_ok-room.ensures t right computes goes (rw here rights)) ∙ c.if-room-eq0.true) in
    sym (append-nil c.args.inbox.now.items) ∙ ap (λ (l : List Item). c.args.inbox.now.items ++ l) (sym (no_items (released t c.args.self.now) none))

pub returns-clause-moved : goal.returns-clause-moved
returns-clause-moved g c = λ t right computes goes rights.
    let first : c.as_slice.result.now ≡ c.args.self.now = c.as_slice.ensures.value ∙ c.self.view_is in
    let here : c.as_mut_slice.result.now ≡ c.args.self.now = c.as_mut_slice.ensures.value ∙ c.self.view_is in
    let count : c.in_ok-room.room ≡ length (released t c.as_slice.result.now) = c.in_ok-room.ensures t right computes goes (rw first rights) in
    let before = ap (λ (l : List (List HeldItem)). length (released t l)) first in
    let same = ap (λ (l : List (List HeldItem)). length (released t l)) here in
    let few : length (released t c.as_mut_slice.result.now) ≤ deque_capacity c.in_ok-moved.moved = omega (arith, count, before, same, c.in_ok-moved.ensures.capacity) in
    let fits : deque_len c.reserve.new.self + length (released t c.as_mut_slice.result.now) ≤ deque_capacity c.reserve.new.self =
    omega (arith, count, before, same, c.in_ok-reserve.ensures.ok) in
    let did = c.release_all.ensures t right computes goes (rw here rights) few fits in
    did.1 ∙ ap₂ (λ (l : List Item) (h : List (List HeldItem)). l ++ released t h) c.in_ok-reserve.ensures.items here

pub returns-clause-kept : goal.returns-clause-kept
returns-clause-kept g c = λ t right computes goes rights.
    let first : c.as_slice.result.now ≡ c.args.self.now = c.as_slice.ensures.value ∙ c.self.view_is in
    let here : c.as_mut_slice.result.now ≡ c.args.self.now = c.as_mut_slice.ensures.value ∙ c.self.view_is in
    let count : c.in_ok-room.room ≡ length (released t c.as_slice.result.now) = c.in_ok-room.ensures t right computes goes (rw first rights) in
    let before = ap (λ (l : List (List HeldItem)). length (released t l)) first in
    let same = ap (λ (l : List (List HeldItem)). length (released t l)) here in
    let few : length (released t c.as_mut_slice.result.now) ≤ deque_capacity c.in_ok-moved.moved = omega (arith, count, before, same, c.in_ok-moved.ensures.capacity) in
    let fits : deque_len c.reserve.new.self + length (released t c.as_mut_slice.result.now) ≤ deque_capacity c.reserve.new.self =
    omega (arith, count, before, same, c.in_ok-reserve.ensures.ok) in
    let did = c.release_all.ensures t right computes goes (rw here rights) few fits in
    let many : length c.as_mut_slice.result.now ≡ c.self.inside.peers.len = omega arith in
    all_kept (failing t) c.self.inside.peers.len c.as_mut_slice.result.now c.release_all.new.peers _ did.0 many
    ∙ ap (remaining t) here
