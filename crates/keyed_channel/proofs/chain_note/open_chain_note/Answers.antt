-- Both tests, and then the parts.
use Rattle.std.proofs.Common.{sym, ◌∙◌}
use Rattle.keyed_channel.proofs.ChainNoting.{chain_note_wrong, chain_note_right}
use Rattle.keyed_channel.proofs.chain_note.open_chain_note.Goals as goal

pub returns-then-not-is_right_note : goal.returns-then-not-is_right_note
returns-then-not-is_right_note c = sym (chain_note_wrong _ _ (sym c.is_right_note.ensures.value ∙ c.if-not-is_right_note.true))

pub returns : goal.returns
returns c = c.chain_note_of.ensures ∙ sym (chain_note_right _ _ (sym c.is_right_note.ensures.value ∙ c.if-not-is_right_note.false))
