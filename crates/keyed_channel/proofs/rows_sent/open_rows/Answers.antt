-- The tests that need no key, and then the tag.
use Rattle.std.proofs.Common.{sym, ◌∙◌}
use Rattle.keyed_channel.proofs.RowsSending.{rows_not_plain, rows_untagged, rows_tagged}
use Rattle.keyed_channel.proofs.rows_sent.open_rows.Goals as goal

pub returns-then-not-is_plain_rows : goal.returns-then-not-is_plain_rows
returns-then-not-is_plain_rows c = rows_not_plain _ _ (sym c.is_plain_rows.ensures.value ∙ c.if-not-is_plain_rows.true)

pub returns-then-not-is_tagged : goal.returns-then-not-is_tagged
returns-then-not-is_tagged c = rows_untagged _ _ (sym c.is_tagged.ensures ∙ c.if-not-is_tagged.true)

pub returns : goal.returns
returns c =
    let plain = sym c.is_plain_rows.ensures.value ∙ c.if-not-is_plain_rows.false in
    let tagged = sym c.is_tagged.ensures ∙ c.if-not-is_tagged.false in
    rows_tagged _ _ _ _ _ plain tagged c.parts-from.ensures.0 c.parts-from.ensures.1 c.parts-from.ensures.2
