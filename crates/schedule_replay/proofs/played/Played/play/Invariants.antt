use Rattle.std.proofs.Common.{◌≡◌, ◌≤◌, ◌+◌, ◌-◌, List, true}
use Rattle.ritas_base.specs.declared.event.Event.{Event}
use Rattle.schedule_file.specs.declared.stage.Stage.TheVariants.{Open}
use Rattle.schedule_file.specs.FileBytes.{limit}
use Rattle.schedule_file.specs.Place.{spot}
use Rattle.schedule_file.specs.ReadEvents.{events_at}
use Rattle.world_model.specs.Counts.{total}
use Rattle.schedule_replay.specs.Layers.{layers_by}
use Rattle.schedule_replay.specs.Onto.{read_onto}
use Rattle.schedule_replay.specs.Played.{PlayedStandsFor}
use Rattle.schedule_replay.proofs.played.Played.play.Given as goal

abbrev pub invariant-loop : goal.invariant-loop
invariant-loop g l =
    let m = layers_by g.S.Service.stands g.S.Service.rules g.S.Service.shown g.E.Broadcast.stands g.E.Broadcast.rules g.E.Broadcast.shown in
    (l.reader.stage ≡ Open)
    × (l.reader.scope ≡ l.initial.reader.scope)
    × (l.self.header ≡ l.initial.self.header)
    × (g.I.Source.faults l.input ≡ g.I.Source.faults l.initial.input)
    × (total l.self.counts ≤ l.counter)
    × (g.I.Source.tells ≡ true → (before : List Event) → PlayedStandsFor m l.initial.self before →
    (h : List Event) × PlayedStandsFor m l.self h
    × (read_onto h (events_at (limit + 1 - l.counter) l.reader.scope (spot l.reader.held (g.I.Source.left l.input)))
    ≡ read_onto before (events_at (limit + 1) l.initial.reader.scope (spot l.initial.reader.held (g.I.Source.left l.initial.input)))))
