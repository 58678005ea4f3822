-- What the configurations that are read keep to, beside their lines.
use Rattle.std.specs.Prelude.{◌≡◌, ◌↔◌, ℕ, true, List, ◌++◌, codes, ◌<◌, ◌≤◌, ◌-◌, length, drop, replicate}
use Rattle.std.specs.List.{AllByRecursion}
use Rattle.ritas_base.specs.Limits.{longest_payload}
use Rattle.ritas_base.specs.Slots.{is_atomic}
use Rattle.ritas_base.specs.declared.mode.FrameVersion.{FrameVersion}
use Rattle.ritas_base.specs.declared.mode.FrameVersion.TheVariants.{One, Two, Three}
use Rattle.cluster_config.specs.declared.submit.SubmitConfig.{SubmitConfig}
use Rattle.cluster_config.specs.declared.watch.WatchConfig.{WatchConfig}
use Rattle.cluster_config.specs.Drive.{Planned}
use Rattle.cluster_config.specs.Node.{NodeText}
use Rattle.cluster_config.specs.Cluster.{ClusterText, most_requests}

-- the text begins so
abbrev pub StartsWith : List ℕ → List ℕ → Type 0
StartsWith front text = (rest : List ℕ) × (text ≡ front ++ rest)

-- the version of frames is that of the text's first line
pub record IsVersionOf (text : List ℕ) (version : FrameVersion) : Type 0 where
  pub first : (version ≡ One) ↔ StartsWith (codes "ritas 1\n") text
  pub second : (version ≡ Two) ↔ StartsWith (codes "ritas 2\n") text
  pub third : (version ≡ Three) ↔ StartsWith (codes "ritas 3\n") text

-- a plan: each command is given to at least one replica, and to no more than there are
pub record FitsPlan (x : Planned) : Type 0 where
  pub least : 1 ≤ x.copies
  pub most : x.copies ≤ x.p.n

-- the configuration of a replica: its root service orders commands, its number is below n, there is a peer for each of n replicas,
-- and the places of its keys from n on are zero
pub record FitsNode (x : NodeText) : Type 0 where
  pub root : is_atomic x.root ≡ true
  pub me : x.me < x.p.n
  pub peers : length x.peers ≡ x.p.n
  pub rest : drop x.p.n x.key_row ≡ replicate (31 - x.p.n) (replicate 32 0)
  pub keys : AllByRecursion (λ key. length key ≡ 32) x.key_row

-- that of all replicas: the same of the root service and the peers, and there are at most `most_requests` requests, each
-- of at most `longest_payload` bytes and for one of the n replicas
pub record FitsCluster (x : ClusterText) : Type 0 where
  pub root : is_atomic x.root ≡ true
  pub peers : length x.peers ≡ x.p.n
  pub many : length x.requests ≤ most_requests
  pub short : AllByRecursion (λ r. length r.payload ≤ longest_payload) x.requests
  pub here : AllByRecursion (λ r. r.at < x.p.n) x.requests

-- that of a request that is to be handed in: there is a peer for each of n replicas, and it has at most `longest_payload` bytes
pub record FitsSubmit (x : SubmitConfig) : Type 0 where
  pub peers : length x.peers ≡ x.p.n
  pub short : length x.request.payload ≤ longest_payload

-- that of a log that is to be watched: there is a peer for each of n replicas, and at least one row is waited for
pub record FitsWatch (x : WatchConfig) : Type 0 where
  pub peers : length x.peers ≡ x.p.n
  pub least : 1 ≤ x.until
