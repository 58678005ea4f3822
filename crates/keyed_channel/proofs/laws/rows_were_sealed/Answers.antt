use Rattle.keyed_channel.proofs.RowsSending.{rows_were_sealed_holds}
use Rattle.keyed_channel.proofs.laws.rows_were_sealed.Goals as goal

pub returns : goal.returns
returns c = rows_were_sealed_holds
