use Rattle.std.proofs.Common.{◌∷◌, ◌∙◌, sym}
use Rattle.ordered_rounds.specs.Rounds.{delivered_ids}
use Rattle.ordered_rounds.specs.Stepping.{log_now}
use Rattle.ordered_rounds.proofs.Beginning.{began_before, no_round_left, nothing_waits, round_begins}
use Rattle.ordered_rounds.proofs.ordered.Ordered.begin.Goals as goal
use Rattle.ordered_rounds.proofs.ordered.Ordered.begin.Goals.{then-is_some-via-then-is_some, then-is_some-via-else-is_some+then-self-ge-NUMBER_LIMIT, then-is_some-via-else-is_some+else-self-ge-NUMBER_LIMIT+then-not-has_pending}

pub returns-then-is_some-clause-ok : goal.returns-then-is_some-clause-ok
returns-then-is_some-clause-ok g c = λ seat w d p.
    elim c.then-is_some.branch [
      | then-is_some-via-then-is_some h ↦
          began_before g.V.RoundBox.stands g.V.RoundBox.rules g.met.V.RoundBox.round_laws g.V.RoundBox.live g.V.RoundBox.shown g.met.V.RoundBox.shows
          c.args.self.now seat w d p c.args.made.now.items (sym c.is_some.ensures ∙ h.if-is_some.true)
      | then-is_some-via-else-is_some+then-self-ge-NUMBER_LIMIT h ↦
          no_round_left g.V.RoundBox.stands g.V.RoundBox.rules g.met.V.RoundBox.round_laws g.V.RoundBox.live g.V.RoundBox.shown g.met.V.RoundBox.shows
          c.args.self.now seat w d p c.args.made.now.items (sym c.is_some.ensures ∙ h.if-is_some.false) h.if-self-ge-NUMBER_LIMIT.true
      | then-is_some-via-else-is_some+else-self-ge-NUMBER_LIMIT+then-not-has_pending h ↦
          nothing_waits g.V.RoundBox.stands g.V.RoundBox.rules g.met.V.RoundBox.round_laws g.V.RoundBox.live g.V.RoundBox.shown g.met.V.RoundBox.shows
          c.args.self.now seat w d p c.args.made.now.items h.has_pending.result (sym c.is_some.ensures ∙ h.if-is_some.false)
          (h.has_pending.ensures (delivered_ids (d ∷ w)) (log_now g.V.RoundBox.rules seat (d ∷ w)) p.ledger) h.if-not-has_pending.true
    ]

pub returns-clause-ok : goal.returns-clause-ok
returns-clause-ok g c = λ seat w d p.
    round_begins g.V.RoundBox.stands g.V.RoundBox.rules g.met.V.RoundBox.round_laws g.V.RoundBox.live g.V.RoundBox.shown g.met.V.RoundBox.shows
    c.args.self.now seat w d p c.has_pending.result c.in_ok-one.one c.args.made.now.items c.begin_round.new.made.items (sym c.is_some.ensures ∙ c.if-is_some.false)
    c.if-self-ge-NUMBER_LIMIT.false (c.has_pending.ensures (delivered_ids (d ∷ w)) (log_now g.V.RoundBox.rules seat (d ∷ w)) p.ledger) c.if-not-has_pending.false c.in_ok-one.ensures
