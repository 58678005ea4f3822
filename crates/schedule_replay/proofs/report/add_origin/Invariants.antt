use Rattle.std.proofs.Common.{◌≡◌, ◌≤◌, ◌++◌, true, string_bytes}
use Rattle.std.specs.List.{flat_map, range_with_len}
use Rattle.keyed_channel.specs.Keyed.{tags_of}
use Rattle.ritas_core.specs.Machine.{CoreState}
use Rattle.ritas_core.specs.Rules.{Rules}
use Rattle.ritas_core.specs.Stands.{meaning, CoreStands}
use Rattle.schedule_replay.specs.Report.{out_line, commands_delivered}
use Rattle.schedule_replay.proofs.report.add_origin.Given as goal

abbrev pub invariant-loop-num : goal.invariant-loop-num
invariant-loop-num g l =
    let m = meaning g.S.Service.stands g.S.Service.rules g.S.Service.shown g.E.Broadcast.stands g.E.Broadcast.rules g.E.Broadcast.shown g.C.Coin.bits (λ k. k.me) tags_of in
    (r : Rules) (st : CoreState) → CoreStands m l.core r st → st.live ≡ true → r.mode.root ≤ 2
    → string_bytes l.text ≡ string_bytes l.initial.text ++ flat_map (λ num. out_line l.origin num (commands_delivered r st.history l.origin num)) (range_with_len 0 l.num)
