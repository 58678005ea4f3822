use Rattle.std.proofs.Common.{List, refl, sym, subst, ◌∙◌, take_all}
use Rattle.std.specs.List.{All}
use Rattle.std.proofs.lemmas.List.Elements.{All-more, recursion_from_All}
use Rattle.ritas_base.specs.declared.event.Event.{Event}
use Rattle.event_journal.specs.Journal.{IsRecord}
use Rattle.node_loop.proofs.archive.takes_all.Goals as goal

pub loop-event-preserved : goal.loop-event-preserved
loop-event-preserved c =
    let me = c.args.journal.now.me in
    let taken = (c.if-not-takes.ensures.0 refl).1 in
    All-more (IsRecord me) c.args.events.now c.loop-event.event-index c.event-item.result c.loop-event-test.true c.loop-event.invariant
    (subst (λ (e : Event). IsRecord me e) c.event-item.is taken)

pub returns : goal.returns
returns c = record {
  takes = λ live.
      let me = c.args.journal.now.me in (
        sym c.live.ensures ∙ live,
        recursion_from_All (IsRecord me) c.args.events.now
            (subst (λ (es : List Event). All (IsRecord me) es) (take_all c.loop-event.event-index c.args.events.now c.loop-event-test.false) c.loop-event.invariant),
      );
}
