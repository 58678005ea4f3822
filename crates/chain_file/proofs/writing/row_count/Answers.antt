use Rattle.std.proofs.Common.{arith}
use Rattle.chain_file.proofs.Lists.{since_count}
use Rattle.chain_file.proofs.writing.row_count.Goals as goal

pub returns : goal.returns
returns c = omega (arith, c.saturating_sub.ensures, c.len.ensures, since_count c.args.rows.now c.args.first)
