use Rattle.std.proofs.Common.{◌≡◌, ◌≤◌, ◌++◌, true, string_bytes}
use Rattle.std.specs.List.{flat_map, range_with_len}
use Rattle.keyed_channel.specs.Keyed.{tags_of}
use Rattle.ritas_core.specs.CoreOf.{IsCoreOf}
use Rattle.ritas_core.specs.Machine.{CoreState}
use Rattle.ritas_core.specs.Rules.{Rules}
use Rattle.ritas_core.specs.Stands.{meaning, CoreStands}
use Rattle.schedule_replay.specs.Report.{origin_lines, commands_delivered}
use Rattle.schedule_replay.proofs.report.add_outs.Given as goal

abbrev pub invariant-loop-origin : goal.invariant-loop-origin
invariant-loop-origin g l =
    let m = meaning g.S.Service.stands g.S.Service.rules g.S.Service.shown g.E.Broadcast.stands g.E.Broadcast.rules g.E.Broadcast.shown g.C.Coin.bits (λ k. k.me) tags_of in
    (r : Rules) (st : CoreState) → CoreStands m l.core r st → st.live ≡ true → IsCoreOf g.S.Service.rules g.E.Broadcast.rules r → r.mode.root ≤ 2
    → string_bytes l.text ≡ string_bytes l.initial.text ++ flat_map (λ origin. origin_lines (commands_delivered r st.history origin) origin) (range_with_len 0 l.origin)
