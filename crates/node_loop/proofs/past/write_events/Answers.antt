use Rattle.std.proofs.Common.{List, ℕ, refl, sym, ap, ◌∙◌, subst, arith, reverse, take}
use Rattle.std.proofs.lemmas.List.{take_all}
use Rattle.std.proofs.lemmas.List.Elements.{All-from_recursion}
use Rattle.std.proofs.lemmas.Result.{err_from_is_err_and, on_ok_weaker, on_err_weaker}
use Rattle.ritas_base.specs.declared.event.Event.{Event}
use Rattle.outside.specs.Faults.{count_after}
use Rattle.schedule_file.specs.Spelling.{IsSized}
use Rattle.node_loop.specs.Outs.{events_text}
use Rattle.node_loop.specs.Pieces.{TookAllBut}
use Rattle.node_loop.proofs.Pieces.{no_piece, all_went}
use Rattle.node_loop.proofs.Stepping.{text_more, text_front}
use Rattle.node_loop.proofs.past.write_events.Goals as goal

pub loop-event-init : goal.loop-event-init
loop-event-init g c = record { faults = refl; taken = λ t. rw c.new-piece.ensures (no_piece (g.K.Sink.taken c.args.tape.now)) }

pub loop-event-preserved : goal.loop-event-preserved
loop-event-preserved g c = record {
  faults = c.in_ok-put.ensures.whole.0 ∙ c.loop-event.invariant.faults;
  taken = λ t.
      let es = c.args.events.now in
      let i = c.loop-event.event-index in
      subst (λ (l : List ℕ). TookAllBut (g.K.Sink.taken c.args.tape.now) (g.K.Sink.taken c.put.new.tape) l c.put.new.piece.taken)
      (text_more es i c.event-item.result c.loop-event-test.true c.event-item.is)
      (c.in_ok-put.ensures.whole.1 t (g.K.Sink.taken c.args.tape.now) (events_text (reverse (take i es))) (c.loop-event.invariant.taken t));
}

pub put-requires : goal.put-requires
put-requires g c = record {
  sized =
      subst (λ (x : Event). IsSized x) (sym c.event-item.is)
      (All-from_recursion IsSized c.args.events.now c.requires.sized c.loop-event.event-index c.event-item.result c.loop-event-test.true);
}

pub returns-in_err-put-clause-front : goal.returns-in_err-put-clause-front
returns-in_err-put-clause-front g c =
    let failed = err_from_is_err_and c.from_residual.result c.from_residual.ensures.1 in
    let same = c.loop-event.invariant.faults in
    let es = c.args.events.now in
    let i = c.loop-event.event-index in
    let front = c.in_err-put.ensures.front in
    rw failed.1 (
      front.0 ∙ ap count_after same,
      omega (arith, same, front.1),
      λ t. text_front es i c.event-item.result _ _ c.loop-event-test.true c.event-item.is (front.2 t _ (events_text (reverse (take i es))) (c.loop-event.invariant.taken t)),
    )

-- the last piece

pub returns-clause-whole : goal.returns-clause-whole
returns-clause-whole g c =
    let same = c.loop-event.invariant.faults in
    let es = c.args.events.now in
    let all = take_all c.loop-event.event-index es c.loop-event-test.false in
    let held = rw all at c.loop-event.invariant.taken in
    on_ok_weaker c.hand_on.result (λ went. (went.0 ∙ same, λ t. all_went _ _ _ (went.1 t _ (events_text (reverse es)) (held t)))) c.hand_on.ensures.whole

pub returns-clause-front : goal.returns-clause-front
returns-clause-front g c =
    let same = c.loop-event.invariant.faults in
    let es = c.args.events.now in
    let all = take_all c.loop-event.event-index es c.loop-event-test.false in
    let held = rw all at c.loop-event.invariant.taken in
    on_err_weaker c.hand_on.result
    (λ stopped. (stopped.0 ∙ ap count_after same, omega (arith, same, stopped.1), λ t. stopped.2 t _ (events_text (reverse es)) (held t))) c.hand_on.ensures.front
