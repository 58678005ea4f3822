use Rattle.ritas_base.proofs.SlotBytes.{as_bytes}
use Rattle.ritas_base.proofs.laws.order_of_bytes.Goals as goal

pub returns : goal.returns
returns c = as_bytes
