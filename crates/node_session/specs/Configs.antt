-- The sessions that configurations describe.
use Rattle.std.specs.Prelude.{◌^◌, ◌-◌, None}
use Rattle.outside.specs.declared.link.LinkItem.{LinkItem}
use Rattle.outside.specs.declared.link.LinkItem.TheVariants as items
use Rattle.outside.specs.declared.link.LinkPlan.{LinkPlan}
use Rattle.outside.specs.declared.link.LinkPlan.TheVariants as plans
use Rattle.schedule_file.specs.declared.header.Header.{Header}
use Rattle.schedule_file.specs.declared.header.HeaderKeys.TheVariants.{Master, Row}
use Rattle.client_port.specs.Messages.{request_bytes}
use Rattle.cluster_config.specs.declared.node.NodeConfig.{NodeConfig}
use Rattle.cluster_config.specs.declared.cluster.ClusterConfig.{ClusterConfig}
use Rattle.cluster_config.specs.declared.requests.Request.{Request}
use Rattle.node_session.specs.declared.session.Session.{Session}

-- ---- one replica

-- the replica alone is correct, and the keys are its own
abbrev pub node_header : NodeConfig → Header
node_header config = record {
  session = config.session;
  p = config.p;
  mode = config.mode;
  correct = 2 ^ config.me;
  keys = Row config.me config.key_row config.coin_key;
}

abbrev pub node_plan : NodeConfig → LinkPlan
node_plan config = plans.Node config.me config.peers config.client

abbrev pub node_session : NodeConfig → Session
node_session config = record {
  header = node_header config;
  plan = node_plan config;
  limits = record { items = config.limit; rows = config.until; closing = None };
}

-- ---- all replicas

-- all are correct
abbrev pub cluster_header : ClusterConfig → Header
cluster_header config = record {
  session = config.session;
  p = config.p;
  mode = config.mode;
  correct = 2 ^ config.p.n - 1;
  keys = Master config.master;
}

abbrev pub cluster_plan : ClusterConfig → LinkPlan
cluster_plan config = plans.Cluster config.peers

-- a request as a message of a client to the replica that it names
abbrev pub first_item : Request → LinkItem
first_item r = items.Client r.at 0 (request_bytes (record { client = r.client; request = r.request; payload = r.payload }))

abbrev pub cluster_session : ClusterConfig → Session
cluster_session config = record {
  header = cluster_header config;
  plan = cluster_plan config;
  limits = record { items = config.limit; rows = config.until; closing = None };
}
