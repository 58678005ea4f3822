use Rattle.cluster_config.proofs.Ranges.{drive_version, node_version, cluster_version}
use Rattle.cluster_config.proofs.laws.config_versions.Goals as goal

pub returns-clause-drive : goal.returns-clause-drive
returns-clause-drive c = drive_version

pub returns-clause-node : goal.returns-clause-node
returns-clause-node c = node_version

pub returns-clause-cluster : goal.returns-clause-cluster
returns-clause-cluster c = cluster_version
