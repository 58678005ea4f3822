-- The front as it was written, and its tag under the receiver's key.
use Rattle.std.proofs.Common.{ℕ, List, ◌++◌, ◌∙◌, ap, ap₂}
use Rattle.keyed_channel.specs.Hmac.{hmac_of}
use Rattle.keyed_channel.specs.KeyRow.{KeyRow, key_with}
use Rattle.keyed_channel.specs.Notes.{note_front}
use Rattle.keyed_channel.proofs.channel.Channel.seal_note.Goals as goal

pub returns : goal.returns
returns c =
    let front = c.note_front-front.ensures ∙ ap (λ (me : ℕ). note_front me c.args.to c.args.form c.args.number) (c.me.ensures.value ∙ ap (λ (k : KeyRow). k.me) c.self.view_is) in
    let tag = c.tag-tag.ensures ∙ ap (hmac_of (key_with c.args.self.now c.args.to)) front in
    c.tagged_note.ensures ∙ ap₂ (λ (x y : List ℕ). x ++ y) front tag
