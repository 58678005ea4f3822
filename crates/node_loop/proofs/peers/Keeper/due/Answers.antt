use Rattle.std.proofs.Common.{◌≡◌, ◌<◌, false, ap, sym, ◌∙◌, arith}
use Rattle.keyed_channel.specs.KeyRow.{KeyRow}
use Rattle.world_model.specs.World.{rules_at, states_of}
use Rattle.node_loop.proofs.Busy.{below_next}
use Rattle.node_loop.proofs.Keepers.{is_due_at, none_due, first_due, no_marks, due_read}
use Rattle.node_loop.proofs.peers.Keeper.due.Goals as goal

pub returns-then-has_no_marks : goal.returns-then-has_no_marks
returns-then-has_no_marks g c = record {
  first = λ w es i p kind is keeps. no_marks w es p i c.args.self.now keeps (c.has_no_marks.ensures.none c.if-has_no_marks.true);
}

pub returns-then-is_due : goal.returns-then-is_due
returns-then-is_due g c = record {
  first = λ w es i p kind is keeps.
      let number : (w.keys i).n ≡ w.numbers.n = (kind.own i (kind.within i is.correct)).1 in
      let many : c.n-peer-end.result ≡ (w.keys i).n = c.n-peer-end.ensures.value ∙ ap (λ (k : KeyRow). k.n) (c.keys.ensures w.start (rules_at w i) (w.keys i) (states_of w es i) is.stands) in
      let below : c.loop-peer.peer < w.numbers.n = omega (arith, c.loop-peer-test.true, many, number) in
      let core = c.core.ensures.live w.start (rules_at w i) (w.keys i) (states_of w es i) is.stands is.live in
      first_due w es p i c.loop-peer.peer below
      (sym (due_read w es p i c.loop-peer.peer c.progress_of-progress.result c.held_of-held.result c.args.self.now c.mark_for.result c.is_due.result keeps below
      (c.progress_of-progress.ensures.progress w es i kind is) (c.held_of-held.ensures (rules_at w i) (states_of w es i) core) c.mark_for.ensures.mark c.is_due.ensures.due) ∙ c.if-is_due.true)
      (c.loop-peer.invariant w es i p kind is keeps);
}

pub loop-peer-preserved : goal.loop-peer-preserved
loop-peer-preserved g c = λ w es i p kind is keeps.
    let number : (w.keys i).n ≡ w.numbers.n = (kind.own i (kind.within i is.correct)).1 in
    let many : c.n-peer-end.result ≡ (w.keys i).n = c.n-peer-end.ensures.value ∙ ap (λ (k : KeyRow). k.n) (c.keys.ensures w.start (rules_at w i) (w.keys i) (states_of w es i) is.stands) in
    let below : c.loop-peer.peer < w.numbers.n = omega (arith, c.loop-peer-test.true, many, number) in
    let core = c.core.ensures.live w.start (rules_at w i) (w.keys i) (states_of w es i) is.stands is.live in
    below_next (λ k. is_due_at w es p i k ≡ false) c.loop-peer.peer (c.loop-peer.invariant w es i p kind is keeps)
    (sym (due_read w es p i c.loop-peer.peer c.progress_of-progress.result c.held_of-held.result c.args.self.now c.mark_for.result c.is_due.result keeps below
    (c.progress_of-progress.ensures.progress w es i kind is) (c.held_of-held.ensures (rules_at w i) (states_of w es i) core) c.mark_for.ensures.mark c.is_due.ensures.due) ∙ c.if-is_due.false)

pub returns : goal.returns
returns g c = record {
  first = λ w es i p kind is keeps.
      let number : (w.keys i).n ≡ w.numbers.n = (kind.own i (kind.within i is.correct)).1 in
      let many : c.n-peer-end.result ≡ (w.keys i).n = c.n-peer-end.ensures.value ∙ ap (λ (k : KeyRow). k.n) (c.keys.ensures w.start (rules_at w i) (w.keys i) (states_of w es i) is.stands) in
      none_due w es p i (λ j within. c.loop-peer.invariant w es i p kind is keeps j (omega (arith, within, c.loop-peer-test.false, many, number)));
}
