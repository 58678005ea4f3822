-- The front as it was written, and its tag under the receiver's key.
use Rattle.std.proofs.Common.{ℕ, List, ◌++◌, ◌∙◌, ap, ap₂}
use Rattle.keyed_channel.specs.Hmac.{hmac_of}
use Rattle.keyed_channel.specs.Notes.{note_front}
use Rattle.keyed_channel.proofs.note.seal_note.Goals as goal

pub returns : goal.returns
returns c =
    let front = c.note_front-front.ensures ∙ ap (λ (me : ℕ). note_front me c.args.to c.args.form c.args.number) c.me.ensures.value in
    let tag = c.hmac-tag.ensures ∙ ap₂ hmac_of c.key.ensures front in
    c.tagged_note.ensures ∙ ap₂ (λ (x y : List ℕ). x ++ y) front tag
