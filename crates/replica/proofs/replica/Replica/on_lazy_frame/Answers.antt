use Rattle.std.proofs.Common.{Err, ap, sym, ◌∙◌}
use Rattle.keyed_channel.specs.KeyRow.{KeyRow}
use Rattle.keyed_channel.specs.Frames.{opening}
use Rattle.ritas_core.specs.Stands.{Meaning}
use Rattle.replica.specs.Replica.{ReplicaStands, with_keys}
use Rattle.replica.specs.declared.refusal.Refusal.TheVariants as refusals
use Rattle.replica.proofs.Opened.{refuses}
use Rattle.replica.proofs.Isolated.{isolated}
use Rattle.replica.proofs.replica.Replica.on_lazy_frame.Goals as goal

pub returns-in-Ok-clause-does : goal.returns-in-Ok-clause-does
returns-in-Ok-clause-does g c = λ s r k st stands.
    let bytes = c.args.frame.now in
    let opens = ap (λ (x : KeyRow). opening x bytes) (sym (c.tagger.ensures.value ∙ stands.keys)) ∙ c.in-Ok.ensures in
    c.on_opened.ensures.does s r k st stands bytes c.in-Ok.opened.seq opens

pub returns-in-Ok-clause-isolated : goal.returns-in-Ok-clause-isolated
returns-in-Ok-clause-isolated g c = λ s. isolated _ c.args.self.now c.on_opened.new.self c.args.frame.now c.args.out.now.items c.on_opened.new.out.items c.on_opened.result
    (returns-in-Ok-clause-does g c s)

pub returns-in-Err-clause-does : goal.returns-in-Err-clause-does
returns-in-Err-clause-does g c = λ s r k st stands.
    let bytes = c.args.frame.now in
    let fails = ap (λ (x : KeyRow). opening x bytes) (sym (c.tagger.ensures.value ∙ stands.keys)) ∙ c.in-Err.ensures in
    refuses s _ _ bytes c.args.out.now.items r k st (refusals.Open c.in-Err.fault) stands fails

pub returns-in-Err-clause-isolated : goal.returns-in-Err-clause-isolated
returns-in-Err-clause-isolated g c =
    let m : Meaning g.row.S.Denot g.row.E.Denot g.row.C.Denot KeyRow = with_keys g.S.Service.stands g.S.Service.rules g.S.Service.shown g.E.Broadcast.stands g.E.Broadcast.rules g.E.Broadcast.shown g.C.Coin.bits in
    λ s. isolated (ReplicaStands s m) c.args.self.now c.args.self.now c.args.frame.now c.args.out.now.items c.args.out.now.items (Err (refusals.Open c.in-Err.fault))
    (returns-in-Err-clause-does g c s)
