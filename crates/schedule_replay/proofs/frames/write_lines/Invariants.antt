use Rattle.std.proofs.Common.{◌≡◌, List, [], true, take, string_bytes}
use Rattle.std.specs.List.{flat_map}
use Rattle.ritas_base.specs.declared.event.Event.{Event}
use Rattle.keyed_channel.specs.Keyed.{tags_of}
use Rattle.ritas_core.specs.Stands.{meaning}
use Rattle.world_model.specs.MadeOrder.{all_made}
use Rattle.world_model.specs.Stands.{WorldStands}
use Rattle.world_model.specs.World.{Setting}
use Rattle.schedule_replay.specs.Frames.{frame_line, HoldsRest}
use Rattle.schedule_replay.proofs.frames.write_lines.Given as goal

abbrev pub invariant-loop-at : goal.invariant-loop-at
invariant-loop-at g l =
    let m = meaning g.S.Service.stands g.S.Service.rules g.S.Service.shown g.E.Broadcast.stands g.E.Broadcast.rules g.E.Broadcast.shown g.C.Coin.bits (λ k. k.me) tags_of in
    record {
      same : g.K.Sink.faults l.sink ≡ g.K.Sink.faults l.initial.sink;
      lines : g.K.Sink.tells ≡ true → (w : Setting) (es : List Event) → WorldStands m l.world w es → string_bytes l.initial.text ≡ []
          → HoldsRest (g.K.Sink.taken l.initial.sink) (g.K.Sink.taken l.sink) (string_bytes l.text) (flat_map frame_line (take l.at (all_made w es)));
    }
