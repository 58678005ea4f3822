use Rattle.std.proofs.Common.{◌≡◌, ◌++◌, List, string_bytes}
use Rattle.std.specs.List.{flat_map, range_with_len}
use Rattle.ritas_base.specs.declared.event.Event.{Event}
use Rattle.keyed_channel.specs.Keyed.{tags_of}
use Rattle.ritas_core.specs.Stands.{meaning}
use Rattle.world_model.specs.World.{Setting}
use Rattle.world_model.specs.Stands.{WorldStands}
use Rattle.schedule_replay.specs.Layers.{AreCoresOf}
use Rattle.schedule_replay.specs.Replicas.{lines_at}
use Rattle.schedule_replay.proofs.Written.{chosen}
use Rattle.schedule_replay.proofs.replicas.add_replicas.Given as goal

abbrev pub invariant-loop-i : goal.invariant-loop-i
invariant-loop-i g l =
    let m = meaning g.S.Service.stands g.S.Service.rules g.S.Service.shown g.E.Broadcast.stands g.E.Broadcast.rules g.E.Broadcast.shown g.C.Coin.bits (λ k. k.me) tags_of in
    (w : Setting) (es : List Event) → WorldStands m l.world w es → l.n ≡ w.numbers.n → AreCoresOf g.S.Service.rules g.E.Broadcast.rules w
    → string_bytes l.text ≡ string_bytes l.initial.text ++ flat_map (chosen w.is_correct (lines_at l.lines w es)) (range_with_len 0 l.i)
