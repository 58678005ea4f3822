use Rattle.std.proofs.Common.{◌≡◌, ◌∙◌, sym, ap, arith, refl, List, sum_by}
use Rattle.ooc_buffers.specs.Lists.{HeldItem, failing}
use Rattle.ooc_buffers.specs.Spots.{Spotted, held_in, in_order}
use Rattle.ooc_buffers.proofs.InOrder.{order_fail, order_rights}
use Rattle.ooc_buffers.proofs.peer.Peer.forget.Goals as goal

pub invariant_of-self : goal.invariant_of-self
invariant_of-self g c =
    let kept = c.self.invariant.spotted.keyed in
    let whole : c.self.inside.bytes ≡ sum_by (λ (k : HeldItem). k.len) (held_in c.self.inside.items.entries) = kept.sum in
    let bytes = c.drop_open.ensures.bytes (omega (arith, whole, c.self.ranges)) in
    record {
      spotted = record {
        ats = c.drop_open.ensures.ats _ c.self.invariant.spotted.ats;
        apart = c.drop_open.ensures.apart c.self.invariant.spotted.apart;
        keyed = record {
          counts = c.drop_open.ensures.counts kept.counts;
          sum = omega (arith, whole, bytes);
        };
      };
      known = λ fresh. absurd (cc);
    }

pub returns-then-not-may_open : goal.returns-then-not-may_open
returns-then-not-may_open g c = λ t right computes goes rights.
    let no = c.if-not-may_open.ensures t right computes goes rights refl in
    sym no.same

pub returns : goal.returns
returns g c = λ t right computes goes rights.
    let fine = order_rights right c.self.inside.items.entries c.args.self.now c.self.view_is rights in
    ap (λ (l : List Spotted). in_order l) (c.drop_open.ensures.kept t right c.self.inside.next computes goes c.self.invariant.spotted.ats fine)
    ∙ (sym (order_fail t c.self.inside.items.entries) ∙ ap (failing t) c.self.view_is)
