use Rattle.tcp_link.proofs.Apart.{tokens_apart, pairs_apart}
use Rattle.tcp_link.proofs.laws.tokens_are_apart.Goals as goal

pub returns-clause-tokens : goal.returns-clause-tokens
returns-clause-tokens c = tokens_apart

pub returns-clause-pairs : goal.returns-clause-pairs
returns-clause-pairs c = pairs_apart
