-- The tests that need no key, and then the tag.
use Rattle.std.proofs.Common.{◌≡◌, sym, ◌∙◌, ap, ap₂}
use Rattle.std.specs.Str.{bytes_eq}
use Rattle.ritas_base.specs.declared.mode.FrameVersion.{FrameVersion}
use Rattle.keyed_channel.specs.Hmac.{hmac_of}
use Rattle.keyed_channel.specs.KeyRow.{KeyRow, key_with}
use Rattle.keyed_channel.specs.Frames.{sender_of, is_tagged}
use Rattle.keyed_channel.specs.Notes.{is_plain_note, note_of, note_form, note_number}
use Rattle.keyed_channel.proofs.Opens.{false_from_not, true_from_not}
use Rattle.keyed_channel.proofs.Noting.{note_plain, note_untagged, note_tagged}
use Rattle.keyed_channel.proofs.channel.Channel.open_note.Goals as goal

pub returns-then-not-is_plain_note : goal.returns-then-not-is_plain_note
returns-then-not-is_plain_note c =
    sym (note_plain _ _ (ap (λ (k : KeyRow). is_plain_note k c.args.bytes.now) (sym c.self.view_is) ∙ sym c.is_plain_note.ensures.value ∙ c.if-not-is_plain_note.true))

pub returns-then-ne : goal.returns-then-ne
returns-then-ne c =
    let bytes = c.args.bytes.now in
    let plain = ap (λ (k : KeyRow). is_plain_note k bytes) (sym c.self.view_is) ∙ sym c.is_plain_note.ensures.value ∙ c.if-not-is_plain_note.false in
    let wanted = c.as_slice.ensures ∙ c.tag-right.ensures ∙ ap (hmac_of (key_with c.args.self.now (sender_of bytes))) c.split_at.ensures.front in
    let same : bytes_eq c.as_slice.result.now c.split_at.result.1.now ≡ is_tagged c.args.self.now bytes =
    ap₂ bytes_eq wanted c.split_at.ensures.back in
    sym (note_untagged _ _ plain (sym same ∙ false_from_not _ _ c.ne.ensures c.if-ne.true))

pub returns : goal.returns
returns c =
    let bytes = c.args.bytes.now in
    let plain = ap (λ (k : KeyRow). is_plain_note k bytes) (sym c.self.view_is) ∙ sym c.is_plain_note.ensures.value ∙ c.if-not-is_plain_note.false in
    let wanted = c.as_slice.ensures ∙ c.tag-right.ensures ∙ ap (hmac_of (key_with c.args.self.now (sender_of bytes))) c.split_at.ensures.front in
    let same : bytes_eq c.as_slice.result.now c.split_at.result.1.now ≡ is_tagged c.args.self.now bytes =
    ap₂ bytes_eq wanted c.split_at.ensures.back in
    let version : _ ≡ c.args.self.now.version = c.version.ensures ∙ ap (λ (k : KeyRow). k.version) c.self.view_is in
    c.note_of.ensures ∙ (ap (λ (v : FrameVersion). note_of v (sender_of bytes) (note_form bytes) (note_number bytes)) version
    ∙ sym (note_tagged _ _ plain (sym same ∙ true_from_not _ _ c.ne.ensures c.if-ne.false)))
