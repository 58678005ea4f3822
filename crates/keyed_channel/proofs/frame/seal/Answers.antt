-- The front as it was written, and its tag under the receiver's key.
use Rattle.std.proofs.Common.{ℕ, List, ◌++◌, ◌∙◌, ap₂}
use Rattle.std.proofs.lemmas.Result.{IfOk-weaker}
use Rattle.ritas_base.specs.declared.mode.FrameVersion.{FrameVersion}
use Rattle.keyed_channel.specs.Hmac.{hmac_of}
use Rattle.keyed_channel.specs.Frames.{frame_front}
use Rattle.keyed_channel.proofs.frame.seal.Goals as goal

pub returns : goal.returns
returns c =
    let front = c.in_ok-front.ensures ∙ ap₂ (λ (v : FrameVersion) (me : ℕ). frame_front v me c.args.to c.args.seq c.args.body.now) c.version.ensures c.me.ensures.value in
    let tag = c.hmac-tag.ensures ∙ ap₂ hmac_of c.key.ensures (c.as_slice.ensures.value ∙ front) in
    IfOk-weaker c.tagged.result _ _ (λ frame is. is ∙ ap₂ (λ (x y : List ℕ). x ++ y) front tag) c.tagged.ensures
