use Rattle.std.proofs.Common.{Bool, ◌&&◌, not, ap, ◌∙◌}
use Rattle.node_loop.specs.Calls.{is_waited_for}
use Rattle.node_loop.specs.Chains.{closing_asked}
use Rattle.node_loop.proofs.Heres.{as_here, nowhere, read_at}
use Rattle.node_loop.proofs.house.House.wishes_at.Goals as goal

pub returns-then-may_close : goal.returns-then-may_close
returns-then-may_close g c = record {
  wishes = λ w es numbers ws p stands number.
      let at = c.args.number in
      let is = read_at _ w es numbers c.args.self.now.replicas.items c.deref.result.now c.args.place at c.in-Some.replica.now stands.here c.deref.ensures.value number c.in-Some.ensures.lookup.3.0 c.in-Some.ensures.lookup.1 in
      ap not (c.has.ensures.waits ws stands.waiting)
      ∙ ap (λ (b : Bool). b && not (is_waited_for (ws (closing_asked at c.args.closing.epoch)))) (c.if-may_close.ensures.may w es at stands.here.kind is);
}

pub returns-else-may_close : goal.returns-else-may_close
returns-else-may_close g c = record {
  wishes = λ w es numbers ws p stands number.
      let at = c.args.number in
      let is = read_at _ w es numbers c.args.self.now.replicas.items c.deref.result.now c.args.place at c.in-Some.replica.now stands.here c.deref.ensures.value number c.in-Some.ensures.lookup.3.0 c.in-Some.ensures.lookup.1 in
      c.if-may_close.false
      ∙ ap (λ (b : Bool). b && not (is_waited_for (ws (closing_asked at c.args.closing.epoch)))) (c.if-may_close.ensures.may w es at stands.here.kind is);
}

pub returns-in_default : goal.returns-in_default
returns-in_default g c = record {
  wishes = λ w es numbers ws p stands number.
      absurd (nowhere _ w es numbers c.deref.result.now c.args.place c.args.number (as_here _ w es numbers c.args.self.now.replicas.items c.deref.result.now c.deref.ensures.value stands.here) number c.in_default.ensures.lookup.3);
}
