use Rattle.std.proofs.Common.{◌≡◌, ◌∙◌, sym, ap, subst, arith, refl, ◌+◌, length, List, [], ◌++◌, map, sum_by, ℕ}
use Rattle.std.specs.VecDeque.{deque_len}
use Rattle.std.proofs.lemmas.List.{append-nil}
use Rattle.ooc_buffers.specs.Lists.{HeldItem, passing, failing}
use Rattle.ooc_buffers.specs.Spots.{Spotted, held_in, in_order, pass, put_all, AreApart}
use Rattle.ooc_buffers.proofs.InOrder.{order_pass, order_fail, order_count, order_rights, counts_both, length_moved, sums_moved}
use Rattle.ooc_buffers.proofs.Sorting.{apart_filter}
use Rattle.ooc_buffers.proofs.peer.Peer.release.Goals as goal

pub invariant_of-self : goal.invariant_of-self
invariant_of-self g c =
    let taken = λ (f : HeldItem → ℕ). sums_moved f c.args.moved.now.items c.take_open.new.moved.items c.self.inside.items.entries c.take_open.new.items.entries c.requires.empty (c.take_open.ensures.same f) in
    let same = λ (f : HeldItem → ℕ). ap (λ (n : ℕ). n + sum_by f (held_in c.take_open.new.items.entries)) (c.sort.ensures.same f) ∙ taken f in
    let kept = c.self.invariant.spotted.keyed in
    let all = same (λ (k : HeldItem). k.len) in
    let whole : c.self.inside.bytes ≡ sum_by (λ (k : HeldItem). k.len) (held_in c.self.inside.items.entries) = kept.sum in
    let bytes = c.pass_on.ensures.bytes (omega (arith, all, whole, c.self.ranges)) in
    record {
      spotted = record {
        ats = c.take_open.ensures.ats _ c.self.invariant.spotted.ats;
        apart = c.take_open.ensures.apart c.self.invariant.spotted.apart;
        keyed = record {
          counts = c.pass_on.ensures.counts (held_in c.take_open.new.items.entries)
              (counts_both c.self.inside.index c.self.inside.items.entries c.sort.new.moved.items c.take_open.new.items.entries same kept.counts);
          sum = omega (arith, all, whole, bytes);
        };
      };
      known = λ fresh. absurd (cc);
    }

pub returns-then-not-may_open-clause-moves : goal.returns-then-not-may_open-clause-moves
returns-then-not-may_open-clause-moves g c = λ t right computes goes rights room fits.
    let no = c.if-not-may_open.ensures t right computes goes rights refl in
    let few = ap length no.none in
    record {
      kept = sym no.same;
      moved = sym (append-nil c.args.inbox.now.items) ∙ ap (λ (l : List HeldItem). c.args.inbox.now.items ++ map (λ (k : HeldItem). k.item) l) (sym no.none);
      len = omega (arith, few);
    }

pub returns-clause-moves : goal.returns-clause-moves
returns-clause-moves g c = λ t right computes goes rights room fits.
    let fine = order_rights right c.self.inside.items.entries c.args.self.now c.self.view_is rights in
    let count = sym (order_count t c.self.inside.items.entries) ∙ ap (λ (l : List HeldItem). length (passing t l)) c.self.view_is in
    let empty = ap length c.requires.empty in
    let none : deque_len c.args.moved.now ≡ 0 = omega (arith, empty, c.args.moved.now.ok.0) in
    let did = c.take_open.ensures.moves t right c.self.inside.next computes goes c.self.invariant.spotted.ats fine (omega (arith, none, count, room)) in
    let taken : c.take_open.new.moved.items ≡ pass t c.self.inside.items.entries =
    did.1 ∙ ap (λ (l : List Spotted). l ++ pass t c.self.inside.items.entries) c.requires.empty in
    let apart = subst (λ (l : List Spotted). AreApart l) (sym taken) (apart_filter (λ e. t e.1.item) c.self.inside.items.entries c.self.invariant.spotted.apart) in
    let there : c.sort.new.moved.items ≡ put_all [] (pass t c.self.inside.items.entries) =
    c.sort.ensures.order apart ∙ ap (λ (l : List Spotted). put_all [] l) taken in
    let many = ap length there ∙ length_moved (pass t c.self.inside.items.entries) in
    let on = c.pass_on.ensures.items (omega (arith, many, count, fits)) in
    record {
      kept = ap (λ (l : List Spotted). in_order l) did.0 ∙ (sym (order_fail t c.self.inside.items.entries) ∙ ap (failing t) c.self.view_is);
      moved = on.0
          ∙ (ap (λ (l : List Spotted). c.args.inbox.now.items ++ map (λ (k : HeldItem). k.item) (held_in l)) there
          ∙ ap (λ (l : List HeldItem). c.args.inbox.now.items ++ map (λ (k : HeldItem). k.item) l) (sym (order_pass t c.self.inside.items.entries) ∙ ap (passing t) c.self.view_is));
      len = omega (arith, on.1, many, count);
    }
