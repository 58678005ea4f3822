use Rattle.std.proofs.Common.{None, refl, sym}
use Rattle.std.proofs.lemmas.Bool.{ltb-true, ltb-false}
use Rattle.node_loop.specs.Peers.{with_mark}
use Rattle.node_loop.proofs.Wishing.{seen_there, keeper_at, keeper_set, marked_there, marked_elsewhere, in_house}
use Rattle.node_loop.proofs.house.House.unmark.Goals as goal

pub returns-in-Some : goal.returns-in-Some
returns-in-Some g c = record {
  unmarks = λ w es numbers ws p at stands number.
      let old = c.in-Some.keeper.now in
      let ks = c.args.self.now.keepers.items in
      let within = ltb-true _ _ (sym c.in-Some.ensures.item.0) in
      let keeper = keeper_at _ w es numbers c.args.self.now ws p ks c.args.place at old old stands refl number within c.in-Some.ensures.item.1 in
      keeper_set _ w es numbers c.args.self.now _ ws p (with_mark at c.args.peer None p) c.args.place at old c.unmark.new.self
      stands number (seen_there ks c.args.place old old within c.in-Some.ensures.item.1) stands.here stands.waiting refl
      (marked_there w.mode.version w.numbers.n at c.args.peer None old c.unmark.new.self p keeper c.unmark.ensures.rest c.unmark.ensures.marks)
      (λ i other apart is. marked_elsewhere w.mode.version w.numbers.n at i c.args.peer None other p apart is);
}

pub returns-in_default : goal.returns-in_default
returns-in_default g c = record {
  unmarks = λ w es numbers ws p at stands number.
      absurd (in_house _ w es numbers c.args.self.now ws p c.args.self.now.keepers.items c.args.place at stands refl number (ltb-false _ _ (sym c.in_default.ensures.item.0)));
}
