use Rattle.std.proofs.Common.{refl}
use Rattle.node_loop.specs.Peers.{marked_early}
use Rattle.node_loop.specs.Resending.{mark_at}
use Rattle.node_loop.proofs.Heres.{as_here, nowhere, read_at}
use Rattle.node_loop.proofs.Hearing.{keeper_at, early_there, early_elsewhere, one_keeper, marked_so}
use Rattle.node_loop.proofs.house.House.mark.Goals as goal

pub returns-in-Some-get_mut : goal.returns-in-Some-get_mut
returns-in-Some-get_mut g c = record {
  marks = λ w es numbers ws p at stand number.
      let is = read_at _ w es numbers c.args.self.now.replicas.items c.deref.result.now c.args.place at c.in-Some.replica.now stand.here c.deref.ensures.value number c.in-Some.ensures.lookup.3.0 c.in-Some.ensures.lookup.1 in
      let mark = c.mark_of-mark.ensures.mark w es at stand.here.kind is in
      let keeper = keeper_at _ w es numbers c.args.self.now ws p c.args.place at c.in-Some-get_mut.keeper.now stand number c.in-Some-get_mut.ensures.item.3.0 c.in-Some-get_mut.ensures.value in
      let from = c.args.frame.from in
      let seq = c.args.frame.seq in
      marked_so _ w es numbers _ ws at from seq c.mark_of-mark.result (mark_at w es at from) p mark
      (one_keeper _ w es numbers c.args.self.now _ ws p (marked_early at from seq c.mark_of-mark.result p) c.args.place at c.in-Some-get_mut.keeper.now c.mark.new.self
      stand number c.in-Some-get_mut.ensures.item.3.0 c.in-Some-get_mut.ensures.value refl refl refl
      (early_there w.mode.version w.numbers.n at from seq c.mark_of-mark.result c.in-Some-get_mut.keeper.now c.mark.new.self p keeper c.mark.ensures.rest c.mark.ensures.marks)
      (λ i k other it. early_elsewhere w.mode.version w.numbers.n i at from seq c.mark_of-mark.result k p other it));
}

pub returns-in_default : goal.returns-in_default
returns-in_default g c = record {
  marks = λ w es numbers ws p at stand number.
      absurd (nowhere _ w es numbers c.deref.result.now c.args.place at (as_here _ w es numbers c.args.self.now.replicas.items c.deref.result.now c.deref.ensures.value stand.here) number c.in_default.ensures.lookup.3);
}
