use Rattle.std.proofs.Common.{◌≡◌, ℕ, ◌+◌, ◌∙◌, suc, ap, sym, add-one, take, arith}
use Rattle.ooc_buffers.specs.Lists.{held_bytes}
use Rattle.ritas_core.specs.Shown.{all_bytes}
use Rattle.ritas_core.specs.Stands.{Meaning, meaning}
use Rattle.ritas_core.proofs.GetterSteps.{bytes_all, bytes_more}
use Rattle.ritas_core.proofs.kernel.Core.held.Goals as goal

pub returns : goal.returns
returns g c =
    let b = g.E.Broadcast in
    let m : Meaning g.row.S.Denot g.row.E.Denot g.row.C.Denot g.row.T.Denot =
    meaning g.S.Service.stands g.S.Service.rules g.S.Service.shown b.stands b.rules b.shown g.C.Coin.bits g.T.Tagger.me g.T.Tagger.tags in
    let core = c.args.self.now in
    let whole : core.layers.params.n ≡ c.loop-peer.peer = omega arith in
    λ r st stands. c.loop-peer.invariant.sum ∙ bytes_all m core c.loop-peer.peer whole r st stands

pub loop-peer-preserved : goal.loop-peer-preserved
loop-peer-preserved g c =
    let more = bytes_more c.args.self.now.held c.loop-peer.peer in
    let next : c.from-sum.result ≡ held_bytes c.args.self.now.held c.loop-peer.peer = c.from-sum.ensures ∙ c.bytes.ensures in
    let sum : all_bytes (take (suc c.loop-peer.peer) c.args.self.now.held) ≡ c.loop-peer.sum + c.from-sum.result =
    more ∙ ap (λ (n : ℕ). n + held_bytes c.args.self.now.held c.loop-peer.peer) (sym c.loop-peer.invariant.sum)
    ∙ ap (λ (n : ℕ). c.loop-peer.sum + n) (sym next) in
    record { sum = rw add-one (sym sum); small = omega arith }
