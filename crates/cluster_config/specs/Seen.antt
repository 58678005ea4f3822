-- What the parts of a text say together, before they are copied.
use Rattle.cluster_config.specs.declared.node.NodeView.{NodeView}
use Rattle.cluster_config.specs.declared.cluster.ClusterView.{ClusterView}
use Rattle.cluster_config.specs.declared.submit.SubmitView.{SubmitView}
use Rattle.cluster_config.specs.declared.submit.SubmitConfig.{SubmitConfig}
use Rattle.cluster_config.specs.declared.watch.WatchView.{WatchView}
use Rattle.cluster_config.specs.declared.watch.WatchConfig.{WatchConfig}
use Rattle.cluster_config.specs.Node.{NodeText}
use Rattle.cluster_config.specs.Cluster.{ClusterText}
use Rattle.cluster_config.specs.Views.{viewed_request}

abbrev pub node_seen : NodeView → NodeText
node_seen view = record {
  session = view.session;
  p = view.p;
  root = view.mode.root;
  vect = view.mode.vect;
  version = view.mode.version;
  me = view.me;
  key_row = view.key_row;
  coin_key = view.coin_key;
  peers = view.peers;
  client = view.client.now;
  limit = view.limit;
  until = view.until;
  journal = view.journal;
}

abbrev pub cluster_seen : ClusterView → ClusterText
cluster_seen view = record {
  session = view.session;
  p = view.p;
  root = view.mode.root;
  vect = view.mode.vect;
  version = view.mode.version;
  master = view.master;
  peers = view.peers;
  limit = view.limit;
  until = view.until;
  requests = view.requests;
}

abbrev pub submit_seen : SubmitView → SubmitConfig
submit_seen view = record { p = view.p; peers = view.peers; request = viewed_request view.request }

abbrev pub watch_seen : WatchView → WatchConfig
watch_seen view = record { p = view.p; peers = view.peers; until = view.until }
