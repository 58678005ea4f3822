-- Both tests, and then the parts.
use Rattle.std.proofs.Common.{sym, ◌∙◌, ap}
use Rattle.ritas_base.specs.declared.mode.FrameVersion.{FrameVersion}
use Rattle.keyed_channel.specs.Frames.{sender_of}
use Rattle.keyed_channel.specs.Notes.{note_of, note_form, note_number}
use Rattle.keyed_channel.proofs.Noting.{note_wrong, note_right}
use Rattle.keyed_channel.proofs.note.open_note.Goals as goal

pub returns-then-not-is_right_note : goal.returns-then-not-is_right_note
returns-then-not-is_right_note c = sym (note_wrong _ _ (sym c.is_right_note.ensures.value ∙ c.if-not-is_right_note.true))

pub returns : goal.returns
returns c =
    c.note_of.ensures
    ∙ ap (λ (v : FrameVersion). note_of v (sender_of c.args.bytes.now) (note_form c.args.bytes.now) (note_number c.args.bytes.now)) c.version.ensures
    ∙ sym (note_right _ _ (sym c.is_right_note.ensures.value ∙ c.if-not-is_right_note.false))
