use Rattle.cluster_config.proofs.Ranges.{drive_read, node_read, cluster_read, submit_read, watch_read}
use Rattle.cluster_config.proofs.laws.config_ranges.Goals as goal

pub returns-clause-drive : goal.returns-clause-drive
returns-clause-drive c = drive_read

pub returns-clause-node : goal.returns-clause-node
returns-clause-node c = node_read

pub returns-clause-cluster : goal.returns-clause-cluster
returns-clause-cluster c = cluster_read

pub returns-clause-submit : goal.returns-clause-submit
returns-clause-submit c = submit_read

pub returns-clause-watch : goal.returns-clause-watch
returns-clause-watch c = watch_read
