use Rattle.std.proofs.Common.{refl, length, subst}
use Rattle.std.specs.VecDeque.{deque_with_item}
use Rattle.std.proofs.lemmas.Option.{slice_get_read}
use Rattle.ordered_rounds.specs.BoxCalls.{RoundHears}
use Rattle.ordered_rounds.proofs.OlderBoxes.{exchanged, the_box, no_box}
use Rattle.ordered_rounds.proofs.boxes.Boxes.older_heard.Goals as goal

pub returns-in-Some : goal.returns-in-Some
returns-in-Some g c = λ k same one is.
    let b = c.args.self.now in
    let l = c.in-Some.ensures.item.3.0 in
    let there = slice_get_read b.older.items (length b.older.items) c.args.place c.in-Some.one.now refl l c.in-Some.ensures.value in (
      c.heard.new.self,
      exchanged b (record b { older = deque_with_item b.older c.args.place c.heard.new.self }) c.args.place c.heard.new.self l refl refl k same,
      subst (λ (z : g.row.V.Denot). RoundHears g.V.RoundBox.stands g.V.RoundBox.rules g.V.RoundBox.live g.V.RoundBox.shown (g.C.Coin.bits c.args.coin.now)
          z c.heard.new.self c.args.slot.now c.args.value.now c.args.made.now.items c.heard.new.says.items c.heard.result)
          (the_box b b c.args.place one c.in-Some.one.now k same is there) c.heard.ensures,
    )

pub returns-in-None : goal.returns-in-None
returns-in-None g c = λ k same one is.
    absurd (no_box c.args.self.now c.args.self.now c.args.place one k same is c.in-None.ensures.item.3)
