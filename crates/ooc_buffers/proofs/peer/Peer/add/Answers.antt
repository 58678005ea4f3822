use Rattle.std.proofs.Common.{rules, ◌≡◌, ◌<◌, ◌+◌, ◌∙◌, sym, ap, arith, refl, cond, List, [], ◌∷◌, ◌++◌, sum_by, ℕ}
use Rattle.ooc_buffers.specs.Lists.{HeldItem}
use Rattle.ooc_buffers.specs.Keys.{key_eq, count_at}
use Rattle.ooc_buffers.specs.Spots.{held_in, IsAt, Leaves}
use Rattle.ooc_buffers.specs.declared.group.Spot.{Spot}
use Rattle.ooc_buffers.specs.declared.key.Key.{Key}
use Rattle.ooc_buffers.proofs.Leaving.{sum_left}
use Rattle.ooc_buffers.proofs.InOrder.{order_sum, order_more, ats_more, counts_more, counts_same}
use Rattle.ooc_buffers.proofs.Sorting.{apart_more}
use Rattle.ooc_buffers.proofs.FirstOnes.{firsts_more}
use Rattle.ooc_buffers.proofs.peer.Peer.add.Goals as goal

pub overflow_add-self : goal.overflow_add-self
overflow_add-self c =
    let whole : c.self.inside.bytes ≡ sum_by (λ (k : HeldItem). k.len) (held_in c.self.inside.items.entries) = c.self.invariant.spotted.keyed.sum in
    let all = sym (order_sum (λ (k : HeldItem). k.len) c.self.inside.items.entries) ∙ ap (λ (l : List HeldItem). sum_by (λ (k : HeldItem). k.len) l) c.self.view_is in
    let small : c.self.inside.bytes + c.args.len < 4294967296 = omega (arith, whole, all, c.requires) in
    search rules

pub invariant_of-self-in-Ok : goal.invariant_of-self-in-Ok
invariant_of-self-in-Ok c =
    let spot : Spot = record { group = c.of.result; bround = c.args.item.slot.bround; mark = c.of-key.result.mark; stamp = c.self.inside.next } in
    let held : HeldItem = record { item = c.args.item; len = c.args.len } in
    let left : Leaves (spot, held) c.keep.new.items.entries c.self.inside.items.entries = c.in-Ok.ensures.ok c.self.inside.next refl c.self.invariant.spotted.ats in
    let next : c.in_ok-next.next ≡ c.self.inside.next + 1 = search rules in
    let kept = c.self.invariant.spotted.keyed in
    let sum = sum_left (λ (k : HeldItem). k.len) (spot, held) c.keep.new.items.entries c.self.inside.items.entries left in
    let whole : c.self.inside.bytes ≡ sum_by (λ (k : HeldItem). k.len) (held_in c.self.inside.items.entries) = kept.sum in
    let at : IsAt (c.self.inside.next + 1) (spot, held) = record {
      group = c.of.ensures;
      bround = refl;
      mark = ap (λ (k : Key). k.mark) c.of-key.ensures;
      stamp = omega arith;
    } in
    record {
      spotted = record {
        ats = rw next (ats_more c.self.inside.next (spot, held) c.self.inside.items.entries c.keep.new.items.entries left
            at c.self.invariant.spotted.ats);
        apart = apart_more (spot, held) c.self.inside.items.entries c.keep.new.items.entries left c.self.invariant.spotted.ats c.self.invariant.spotted.apart;
        keyed = record {
          counts = counts_more c.self.inside.index c.count_in.new.index (spot, held) c.self.inside.items.entries c.keep.new.items.entries left kept.counts
              (λ q. c.in_ok-count_in.ensures.ok q ∙ ap (λ (k : Key). count_at c.self.inside.index q + cond {A = ℕ} (key_eq q k) 1 0) c.of-key.ensures);
          sum = omega (arith, sum, whole);
        };
      };
      known = λ fresh.
          let both = c.note_if-self-inside.ensures fresh in
          firsts_more c.self.inside.firsts c.note_if-self-inside.new.firsts (c.self.inside.next + 1) (spot, held) c.self.inside.items.entries c.keep.new.items.entries c.likeness.result
          left at c.likeness.ensures both.1 (c.self.invariant.known both.0);
    }

pub returns-in-Ok-clause-ok : goal.returns-in-Ok-clause-ok
returns-in-Ok-clause-ok c =
    let spot : Spot = record { group = c.of.result; bround = c.args.item.slot.bround; mark = c.of-key.result.mark; stamp = c.self.inside.next } in
    let held : HeldItem = record { item = c.args.item; len = c.args.len } in
    let left : Leaves (spot, held) c.keep.new.items.entries c.self.inside.items.entries = c.in-Ok.ensures.ok c.self.inside.next refl c.self.invariant.spotted.ats in
    order_more (spot, held) c.self.inside.items.entries c.keep.new.items.entries left c.self.invariant.spotted.ats
    ∙ ap (λ (l : List HeldItem). l ++ held ∷ []) c.self.view_is

pub invariant_of-self-in-Err : goal.invariant_of-self-in-Err
invariant_of-self-in-Err c =
    let kept = c.self.invariant.spotted.keyed in
    rw c.in-Err.ensures.err (record {
      spotted = record {
        ats = c.self.invariant.spotted.ats;
        apart = c.self.invariant.spotted.apart;
        keyed = record {
          counts = counts_same c.self.inside.index c.count_in.new.index c.count_out.new.index c.of-key.result (held_in c.self.inside.items.entries) kept.counts
              c.in_ok-count_in.ensures.ok c.count_out.ensures;
          sum = kept.sum;
        };
      };
      known = λ fresh. absurd (cc);
    })
