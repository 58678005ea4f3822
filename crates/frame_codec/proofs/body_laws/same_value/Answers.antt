use Rattle.frame_codec.proofs.Items.{same_kinds, same_senders, value_from, item_from}
use Rattle.frame_codec.proofs.body_laws.same_value.Goals as goal

pub returns-clause-kinds : goal.returns-clause-kinds
returns-clause-kinds c = same_kinds

pub returns-clause-senders : goal.returns-clause-senders
returns-clause-senders c = same_senders

pub returns-clause-value : goal.returns-clause-value
returns-clause-value c = value_from

pub returns-clause-item : goal.returns-clause-item
returns-clause-item c = item_from
