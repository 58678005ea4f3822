use Rattle.epoch_world.proofs.Chains.{world_chains_agree, world_chains_once, world_chains_confirmed, worlds_are_marked}
use Rattle.epoch_world.proofs.Served.{served_is_same, served_audit, served_is_chain, served_ends}
use Rattle.epoch_world.proofs.Nodes.{served_agree, served_is_kept, served_closes}
use Rattle.epoch_world.proofs.laws.chains_of_worlds.Goals as goal

pub returns-clause-agree : goal.returns-clause-agree
returns-clause-agree c = world_chains_agree c.chain_laws.ensures.agree

pub returns-clause-once : goal.returns-clause-once
returns-clause-once c = world_chains_once c.chain_laws.ensures.once

pub returns-clause-confirmed : goal.returns-clause-confirmed
returns-clause-confirmed c = world_chains_confirmed c.chain_laws.ensures.confirmed

pub returns-clause-marked : goal.returns-clause-marked
returns-clause-marked c = worlds_are_marked

pub returns-clause-same : goal.returns-clause-same
returns-clause-same c = served_is_same

pub returns-clause-audit : goal.returns-clause-audit
returns-clause-audit c = served_audit

pub returns-clause-chain : goal.returns-clause-chain
returns-clause-chain c = served_is_chain c.log_is_chain.ensures.rows

pub returns-clause-ends : goal.returns-clause-ends
returns-clause-ends c = served_ends c.log_is_chain.ensures.over

pub returns-clause-served : goal.returns-clause-served
returns-clause-served c = served_agree c.log_is_chain.ensures.rows (world_chains_agree c.chain_laws.ensures.agree)

pub returns-clause-kept : goal.returns-clause-kept
returns-clause-kept c = served_is_kept c.log_is_chain.ensures.over

pub returns-clause-closes : goal.returns-clause-closes
returns-clause-closes c = served_closes c.log_is_chain.ensures.over c.chain_laws.ensures.closed
