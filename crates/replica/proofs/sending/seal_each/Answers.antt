use Rattle.std.proofs.Common.{rules, arith, ◌≡◌, ℕ, ◌%◌, ◌^◌, Bool, not, ◌&&◌, ◌==◌, List, ap, sym, ◌∙◌}
use Rattle.keyed_channel.specs.KeyRow.{KeyRow}
use Rattle.keyed_channel.specs.Frames.{sealed}
use Rattle.ritas_base.specs.Messages.{reaches}
use Rattle.replica.specs.Out.{OutFrame}
use Rattle.replica.specs.Frames.{frame_for, body_of}
use Rattle.replica.proofs.Sealing.{frames_more, pushed, left_out}
use Rattle.replica.proofs.sending.seal_each.Goals as goal
use Rattle.replica.proofs.sending.seal_each.Goals.{then-is_receiver+in_ok-bytes+in_ok-push, else-is_receiver}

pub loop-j-preserved : goal.loop-j-preserved
loop-j-preserved c = λ count are.
    let k = c.args.channel.now in
    let own : c.me-me.result ≡ k.me = c.me-me.ensures.value ∙ ap (λ (x : KeyRow). x.me) c.keys-keys.ensures in
    let test : ℕ → ℕ → Bool = λ me j. reaches c.args.msg.to j && not (j == me) in
    let same = ap (λ me. test me c.loop-j.j) (sym own) in
    frames_more (test k.me) (λ j. frame_for k j (count j) c.args.msg) _ _ _ c.loop-j.j (c.loop-j.invariant count are)
    (elim c.if-is_receiver.branch [
      | then-is_receiver+in_ok-bytes+in_ok-push w ↦
          let e = are.each c.loop-j.j (omega (arith, ap (λ (x : KeyRow). x.n) c.keys-keys.ensures)) in
          let bytes : w.in_ok-bytes.bytes ≡ sealed k c.loop-j.j (count c.loop-j.j % 2 ^ 64) (body_of k.me c.args.msg) = cc (w.in_ok-bytes.ensures, c.in_ok-body.ensures.ok, c.in_ok-text.ensures, e) in
          let frame : List ℕ → OutFrame = λ b. record { to = c.loop-j.j; bytes = b } in
          pushed _ _ _ (frame w.in_ok-bytes.bytes) _ (same ∙ sym (w.if-is_receiver.ensures {u = tt})) (search rules) (ap frame bytes)
      | else-is_receiver w ↦ left_out _ _ _ _ (same ∙ sym (w.if-is_receiver.ensures {u = tt})) (search rules)
    ])
