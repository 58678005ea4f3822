use Rattle.std.proofs.Common.{◌≡◌, ◌<◌, true, List, ◌∷◌, length, reverse, inl, inr, arith, ◌∙◌, ap}
use Rattle.std.proofs.lemmas.Result.{err_from_is_err_and}
use Rattle.std.proofs.lemmas.List.{length-reverse}
use Rattle.keyed_channel.specs.KeyRow.{KeyRow}
use Rattle.command_log.specs.Rows.{Start}
use Rattle.ritas_core.specs.Rules.{Rules, seat_of}
use Rattle.ritas_core.specs.Parts.{Entry, parts}
use Rattle.ritas_core.specs.Machine.{CoreState}
use Rattle.ritas_core.specs.Stands.{Meaning, CoreStands}
use Rattle.replica.specs.CommandRows.{ids_at, Follows}
use Rattle.replica.specs.Replica.{with_keys}
use Rattle.replica.proofs.Feeding.{rest_of, more_left, done_by, not_short, have_all, has_room, stood, follows_now, lies_between, follows_between}
use Rattle.replica.proofs.replica.Replica.feed.Goals as goal

pub returns-clause-ok : goal.returns-clause-ok
returns-clause-ok g c =
    let b = g.E.Broadcast in
    let m : Meaning g.row.S.Denot g.row.E.Denot g.row.C.Denot KeyRow = with_keys g.S.Service.stands g.S.Service.rules g.S.Service.shown b.stands b.rules b.shown g.C.Coin.bits in
    let values = g.met.E.Broadcast.value_laws in
    let words = g.met.S.Service.word_laws in
    let proper = c.history_laws.ensures.proper in
    let core = c.args.self.now.core in
    let done = c.done-done.result.now in
    let found = c.in-Some.ensures.lookup.0 in
    let rest = rest_of done c.in-Some.ids.now c.args.self.now.fed found.0 found.2 in
    let followed = λ (s : Start) (r : Rules) (st : CoreState) (e : Entry) (h : List Entry) (stands : CoreStands m core r st) (live : st.live ≡ true) (is : st.history ≡ e ∷ h)
    (before : Follows s r h c.args.self.now.log c.args.self.now.fed) (shows : done ≡ reverse (ids_at r st.history)).
    follows_now s m values words proper core r st stands e h is done shows c.args.self.now.log c.args.self.now.fed before c.in-Some.ids.now rest c.follow.new.log c.follow.ensures.f c.follow.ensures.start
    (c.in_ok-follow.ensures.ok r st stands live
    (have_all s m values words proper core r st stands e h is done shows c.args.self.now.log c.args.self.now.fed before c.in-Some.ids.now rest) (ids_at r h)
    (has_room s m values words proper core r st stands e h is done shows c.args.self.now.log c.args.self.now.fed before c.in-Some.ids.now rest)
    (stood s m values words proper core r st stands e h is done shows c.args.self.now.log c.args.self.now.fed before)) in
    record {
      follows = λ s r st e h stands live is before.
          let shows = done_by m core r st stands done (c.done-done.ensures.rules (seat_of r) (parts r st.history).words (c.service.ensures.live r st stands live)) in
          followed s r st e h stands live is before shows;
      some = λ s r st e h stands live is before.
          let shows = done_by m core r st stands done (c.done-done.ensures.rules (seat_of r) (parts r st.history).words (c.service.ensures.live r st stands live)) in
          let now = followed s r st e h stands live is before shows in
          (now.start, follows_between s m values words proper core r st stands e h is done shows c.args.self.now.log c.args.self.now.fed before c.follow.new.log _ now);
    }

pub returns-in_default-clause-ok : goal.returns-in_default-clause-ok
returns-in_default-clause-ok g c =
    let b = g.E.Broadcast in
    let m : Meaning g.row.S.Denot g.row.E.Denot g.row.C.Denot KeyRow = with_keys g.S.Service.stands g.S.Service.rules g.S.Service.shown b.stands b.rules b.shown g.C.Coin.bits in
    let values = g.met.E.Broadcast.value_laws in
    let words = g.met.S.Service.word_laws in
    let proper = c.history_laws.ensures.proper in
    let core = c.args.self.now.core in
    let done = c.done-done.result.now in
    let short : length done < c.args.self.now.fed = elim c.in_default.ensures.lookup.0 [ inl less ↦ less | inr less ↦ absurd (omega (arith, less)) ] in
    record {
      follows = λ s r st e h stands live is before.
          let shows = done_by m core r st stands done (c.done-done.ensures.rules (seat_of r) (parts r st.history).words (c.service.ensures.live r st stands live)) in
          absurd (not_short s m values words proper core r st stands e h is done shows c.args.self.now.log c.args.self.now.fed before short);
      some = λ s r st e h stands live is before.
          let shows = done_by m core r st stands done (c.done-done.ensures.rules (seat_of r) (parts r st.history).words (c.service.ensures.live r st stands live)) in
          absurd (not_short s m values words proper core r st stands e h is done shows c.args.self.now.log c.args.self.now.fed before short);
    }

pub returns-in_err-follow-clause-err : goal.returns-in_err-follow-clause-err
returns-in_err-follow-clause-err g c =
    let b = g.E.Broadcast in
    let m : Meaning g.row.S.Denot g.row.E.Denot g.row.C.Denot KeyRow = with_keys g.S.Service.stands g.S.Service.rules g.S.Service.shown b.stands b.rules b.shown g.C.Coin.bits in
    let values = g.met.E.Broadcast.value_laws in
    let words = g.met.S.Service.word_laws in
    let proper = c.history_laws.ensures.proper in
    let core = c.args.self.now.core in
    let done = c.done-done.result.now in
    let found = c.in-Some.ensures.lookup.0 in
    let rest = rest_of done c.in-Some.ids.now c.args.self.now.fed found.0 found.2 in
    let p = err_from_is_err_and c.from_residual.result c.from_residual.ensures.1 in
    rw p.1 (λ s r st e h stands live is before.
    let shows = done_by m core r st stands done (c.done-done.ensures.rules (seat_of r) (parts r st.history).words (c.service.ensures.live r st stands live)) in (
      c.follow.ensures.start ∙ before.start,
      lies_between s m values words proper core r st stands e h is done shows c.args.self.now.log c.args.self.now.fed before c.in-Some.ids.now rest c.follow.new.log.rows
          (c.in_err-follow.ensures.err r st stands live
          (have_all s m values words proper core r st stands e h is done shows c.args.self.now.log c.args.self.now.fed before c.in-Some.ids.now rest) (ids_at r h)
          (has_room s m values words proper core r st stands e h is done shows c.args.self.now.log c.args.self.now.fed before c.in-Some.ids.now rest)
          (stood s m values words proper core r st stands e h is done shows c.args.self.now.log c.args.self.now.fed before)),
    ))

pub returns-in_err-follow-clause-memory : goal.returns-in_err-follow-clause-memory
returns-in_err-follow-clause-memory g c =
    let b = g.E.Broadcast in
    let m : Meaning g.row.S.Denot g.row.E.Denot g.row.C.Denot KeyRow = with_keys g.S.Service.stands g.S.Service.rules g.S.Service.shown b.stands b.rules b.shown g.C.Coin.bits in
    let core = c.args.self.now.core in
    let done = c.done-done.result.now in
    let found = c.in-Some.ensures.lookup.0 in
    let rest = rest_of done c.in-Some.ids.now c.args.self.now.fed found.0 found.2 in
    let more = more_left done c.in-Some.ids.now c.args.self.now.fed rest c.in_err-follow.ensures.memory in
    let p = err_from_is_err_and c.from_residual.result c.from_residual.ensures.1 in
    rw p.1 (λ r st stands live.
    let shows = done_by m core r st stands done (c.done-done.ensures.rules (seat_of r) (parts r st.history).words (c.service.ensures.live r st stands live)) in
    omega (arith, more, ap length shows, length-reverse (ids_at r st.history)))
