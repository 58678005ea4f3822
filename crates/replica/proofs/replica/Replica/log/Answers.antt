use Rattle.std.proofs.Common.{List, inl, inr, sym, subst}
use Rattle.keyed_channel.specs.KeyRow.{KeyRow}
use Rattle.layer_api.specs.Service.{IsPart}
use Rattle.command_log.specs.Rows.{Row}
use Rattle.ritas_core.specs.Machine.{with_lost}
use Rattle.ritas_core.specs.Stands.{Meaning}
use Rattle.replica.specs.CommandRows.{history_rows}
use Rattle.replica.specs.Replica.{with_keys}
use Rattle.replica.proofs.Feeding.{rows_are, lost_rows}
use Rattle.replica.proofs.Growing.{part_itself}
use Rattle.replica.proofs.replica.Replica.log.Goals as goal

pub returns-clause-near : goal.returns-clause-near
returns-clause-near g c =
    let b = g.E.Broadcast in
    let m : Meaning g.row.S.Denot g.row.E.Denot g.row.C.Denot KeyRow = with_keys g.S.Service.stands g.S.Service.rules g.S.Service.shown b.stands b.rules b.shown g.C.Coin.bits in
    λ s r k st stands. elim stands.state [
      | inl on ↦
          subst (λ (log : List Row). IsPart (history_rows s r st.history) log × IsPart log (history_rows s r (with_lost st))) (sym (rows_are on.log)) (
            part_itself (history_rows s r st.history),
            lost_rows s m g.met.E.Broadcast.value_laws g.met.S.Service.word_laws c.history_laws.ensures.proper c.args.self.now.core r st on.core,
          )
      | inr off ↦ off.log
    ]

pub returns-clause-start : goal.returns-clause-start
returns-clause-start g c = λ s r k st stands. elim stands.state [ inl on ↦ on.log.start | inr off ↦ off.start ]
