use Rattle.std.proofs.Common.{◌≡◌, ◌-◌, ◌∙◌, ap, arith, cond, length, ℕ}
use Rattle.ooc_buffers.specs.declared.key.Key.{Key}
use Rattle.ooc_buffers.specs.Lists.{HeldItem}
use Rattle.ooc_buffers.specs.Keys.{item_key, key_eq, count_at}
use Rattle.ooc_buffers.proofs.Leaving.{left_more, left_none, left_first, sum_left, ats_left, fewer_left, counts_left}
use Rattle.ooc_buffers.proofs.Sorting.{apart_left}
use Rattle.ooc_buffers.proofs.search.drop_open.Goals as goal

pub loop-entry-init : goal.loop-entry-init
loop-entry-init g c = record {
  counts = λ given. given;
  bytes = λ small. omega arith;
  ats = λ next ats. ats;
  apart = λ apart. apart;
  left = λ t right next computes goes ats rights. left_first t right next c.args.items.now.entries ats rights;
}

pub loop-entry-smaller : goal.loop-entry-smaller
loop-entry-smaller g c = let one = fewer_left _ _ _ c.in-Some.ensures.leaves in omega (arith, one)

pub loop-entry-preserved : goal.loop-entry-preserved
loop-entry-preserved g c =
    let key : c.of.result ≡ item_key c.in-Some.entry.item = c.of.ensures ∙ ap (λ (k : HeldItem). item_key k.item) c.entry.view_is in
    record {
      counts = λ given.
          counts_left c.loop-entry.index c.count_out.new.index _ _ _ c.in-Some.ensures.leaves (c.loop-entry.invariant.counts given)
          (λ q. c.count_out.ensures q ∙ ap (λ (k : Key). count_at c.loop-entry.index q - cond {A = ℕ} (key_eq q k) 1 0) key);
      bytes = λ small.
          let before = c.loop-entry.invariant.bytes small in
          let next = sum_left (λ (k : HeldItem). k.len) _ _ _ c.in-Some.ensures.leaves in
          let len = ap (λ (k : HeldItem). k.len) c.entry.view_is in
          omega (arith, before, next, len, small, c.saturating_add-bytes.ensures);
      ats = λ next ats. ats_left next _ _ _ c.in-Some.ensures.leaves (c.loop-entry.invariant.ats next ats);
      apart = λ apart. apart_left _ _ _ c.in-Some.ensures.leaves (c.loop-entry.invariant.apart apart);
      left = λ t right next computes goes ats rights.
          let left = c.loop-entry.invariant.left t right next computes goes ats rights in
          left_more t right next _ _ _ _ _ _ c.in-Some.ensures.leaves (c.in-Some.ensures.next t right next computes goes left.ats left.rights left.behind) left;
    }

pub returns-clause-counts : goal.returns-clause-counts
returns-clause-counts g c = λ given. rw c.in_default.ensures.stays (c.loop-entry.invariant.counts given)

pub returns-clause-bytes : goal.returns-clause-bytes
returns-clause-bytes g c = λ small. rw c.in_default.ensures.stays (c.loop-entry.invariant.bytes small)

pub returns-clause-ats : goal.returns-clause-ats
returns-clause-ats g c = λ next ats. rw c.in_default.ensures.stays (c.loop-entry.invariant.ats next ats)

pub returns-clause-apart : goal.returns-clause-apart
returns-clause-apart g c = λ apart. rw c.in_default.ensures.stays (c.loop-entry.invariant.apart apart)

pub returns-clause-kept : goal.returns-clause-kept
returns-clause-kept g c = λ t right next computes goes ats rights.
    let left = c.loop-entry.invariant.left t right next computes goes ats rights in
    let none = ap length (c.in_default.ensures.next t right next computes goes left.ats left.rights left.behind) in
    c.in_default.ensures.stays ∙ left_none t right next _ _ _ none left
