-- What a configuration says determines it.
use Rattle.std.proofs.Common.{◌≡◌, ◌≤◌, ap₂, subst}
use Rattle.std.proofs.Math.Bridge.{le_prop}
use Rattle.ritas_base.specs.RootServices.{most_root}
use Rattle.ritas_base.specs.declared.plan.Plan.{Plan}
use Rattle.cluster_config.specs.declared.cluster.ClusterConfig.{ClusterConfig}
use Rattle.cluster_config.specs.declared.node.NodeConfig.{NodeConfig}
use Rattle.cluster_config.specs.Cluster.{ClusterText, cluster_text}
use Rattle.cluster_config.specs.Drive.{Planned, planned}
use Rattle.cluster_config.specs.Node.{NodeText, node_text}

-- ---- plans

abbrev plan_by : (x : Planned) → 1 ≤ x.root → x.root ≤ most_root → Plan
plan_by x low high = record {
  session = x.session;
  p = x.p;
  mode = record { root = x.root; vect = x.vect; version = x.version; low = low; high = high };
  master = x.master;
  order = x.order;
  attack = x.attack;
  start_number = x.start;
  commands = x.commands;
  copies = x.copies;
}

same_plan : (p : Plan) (x : Planned) → planned p ≡ x → (low : 1 ≤ x.root) (high : x.root ≤ most_root) → p ≡ plan_by x low high
same_plan p x e =
    subst (λ (x : Planned). (low : 1 ≤ x.root) (high : x.root ≤ most_root) → p ≡ plan_by x low high) e
    (λ low high. ap₂ (plan_by (planned p)) (le_prop p.mode.low low) (le_prop p.mode.high high))

pub one_plan : (p q : Plan) → planned p ≡ planned q → p ≡ q
one_plan p q e = same_plan p (planned q) e q.mode.low q.mode.high

-- ---- nodes

abbrev node_by : (x : NodeText) → 1 ≤ x.root → x.root ≤ most_root → NodeConfig
node_by x low high = record {
  session = x.session;
  p = x.p;
  mode = record { root = x.root; vect = x.vect; version = x.version; low = low; high = high };
  me = x.me;
  key_row = x.key_row;
  coin_key = x.coin_key;
  peers = x.peers;
  client = x.client;
  limit = x.limit;
  until = x.until;
  journal = x.journal;
}

same_node : (c : NodeConfig) (x : NodeText) → node_text c ≡ x → (low : 1 ≤ x.root) (high : x.root ≤ most_root) → c ≡ node_by x low high
same_node c x e =
    subst (λ (x : NodeText). (low : 1 ≤ x.root) (high : x.root ≤ most_root) → c ≡ node_by x low high) e
    (λ low high. ap₂ (node_by (node_text c)) (le_prop c.mode.low low) (le_prop c.mode.high high))

pub one_node : (c d : NodeConfig) → node_text c ≡ node_text d → c ≡ d
one_node c d e = same_node c (node_text d) e d.mode.low d.mode.high

-- ---- clusters

abbrev cluster_by : (x : ClusterText) → 1 ≤ x.root → x.root ≤ most_root → ClusterConfig
cluster_by x low high = record {
  session = x.session;
  p = x.p;
  mode = record { root = x.root; vect = x.vect; version = x.version; low = low; high = high };
  master = x.master;
  peers = x.peers;
  limit = x.limit;
  until = x.until;
  requests = x.requests;
}

same_cluster : (c : ClusterConfig) (x : ClusterText) → cluster_text c ≡ x → (low : 1 ≤ x.root) (high : x.root ≤ most_root) → c ≡ cluster_by x low high
same_cluster c x e =
    subst (λ (x : ClusterText). (low : 1 ≤ x.root) (high : x.root ≤ most_root) → c ≡ cluster_by x low high) e
    (λ low high. ap₂ (cluster_by (cluster_text c)) (le_prop c.mode.low low) (le_prop c.mode.high high))

pub one_cluster : (c d : ClusterConfig) → cluster_text c ≡ cluster_text d → c ≡ d
one_cluster c d e = same_cluster c (cluster_text d) e d.mode.low d.mode.high
