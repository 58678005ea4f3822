use Rattle.std.proofs.Common.{sym}
use Rattle.command_log.proofs.Bases.{whole_base}
use Rattle.command_log.proofs.Confirming.{stands_begun}
use Rattle.command_log.proofs.log.Log.begin.Goals as goal

pub returns-clause-stands : goal.returns-clause-stands
returns-clause-stands c = stands_begun _ (sym (whole_base c.args.rows c.len.result c.len.ensures)) c.new.ensures
