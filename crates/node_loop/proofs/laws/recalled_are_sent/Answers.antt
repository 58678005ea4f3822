use Rattle.node_loop.proofs.Reopening.{recalled_sent, recalled_open}
use Rattle.node_loop.proofs.laws.recalled_are_sent.Goals as goal

pub returns-clause-sent : goal.returns-clause-sent
returns-clause-sent c = recalled_sent

pub returns-clause-again : goal.returns-clause-again
returns-clause-again c = recalled_open
