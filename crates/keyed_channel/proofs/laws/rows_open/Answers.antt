use Rattle.keyed_channel.proofs.RowsSending.{rows_open_holds}
use Rattle.keyed_channel.proofs.laws.rows_open.Goals as goal

pub returns : goal.returns
returns c = rows_open_holds
