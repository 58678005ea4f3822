use Rattle.std.proofs.Common.{ℕ, List, ◌++◌, sym, ◌∙◌, ap, subst}
use Rattle.keyed_channel.specs.KeyRow.{KeyRow}
use Rattle.ritas_core.specs.Stands.{Meaning}
use Rattle.replica.specs.Out.{OutFrame}
use Rattle.replica.specs.Replica.{ReplicaStands, with_keys}
use Rattle.replica.specs.Stands.{ReplicaRunsOut}
use Rattle.replica.proofs.Sealed.{halted_with, seals_none, seals_all, of_err, of_ok}
use Rattle.replica.proofs.replica.Replica.seal.Goals as goal

pub returns-then-is_err : goal.returns-then-is_err
returns-then-is_err g c =
    let m : Meaning g.row.S.Denot g.row.E.Denot g.row.C.Denot KeyRow = with_keys g.S.Service.stands g.S.Service.rules g.S.Service.shown g.E.Broadcast.stands g.E.Broadcast.rules g.E.Broadcast.shown g.C.Coin.bits in
    let old = c.args.self.now in
    let before = c.args.out.now.items in
    let failed = sym c.is_err.ensures.value ∙ c.if-is_err.true in
    let some = of_err c.append_bytes.result failed c.append_bytes.ensures.only in
    let kept = of_err c.append_bytes.result failed c.append_bytes.ensures.err in
    λ s first call same does r k st stands.
    let stops = seals_none s m g.met.E.Broadcast.value_laws g.met.S.Service.word_laws c.history_laws.ensures.proper first old call c.args.made.items before c.args.answer r k st stands
    (λ none. some (c.as_slice.ensures.value ∙ none)) (does r k st stands) in
    subst (λ (n : ℕ). ReplicaRunsOut (ReplicaStands s m) (halted_with n old) call before c.append_bytes.new.out.items r k st) same
    (subst (λ (after : List OutFrame). ReplicaRunsOut (ReplicaStands s m) (halted_with first.sent old) call before after r k st) (sym kept) stops)

pub returns : goal.returns
returns g c =
    let m : Meaning g.row.S.Denot g.row.E.Denot g.row.C.Denot KeyRow = with_keys g.S.Service.stands g.S.Service.rules g.S.Service.shown g.E.Broadcast.stands g.E.Broadcast.rules g.E.Broadcast.shown g.C.Coin.bits in
    let before = c.args.out.now.items in
    let appended = of_ok c.append_bytes.result (sym c.is_err.ensures.value ∙ c.if-is_err.false) c.append_bytes.ensures.ok in
    λ s first call same does r k st stands.
    seals_all (ReplicaStands s m) c.args.self.now call c.args.made.items before c.append_bytes.new.out.items c.args.answer r k st
    (appended ∙ ap (λ (xs : List OutFrame). before ++ xs) c.as_slice.ensures.value) (does r k st stands)
