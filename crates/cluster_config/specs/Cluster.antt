-- The configuration of all replicas of a session: its lines, in their order.
use Rattle.std.specs.Prelude.{ℕ, List, codes, refl}
use Rattle.ritas_base.specs.Numbers.{Numbers}
use Rattle.ritas_base.specs.RootServices.{most_root}
use Rattle.ritas_base.specs.declared.mode.FrameVersion.{FrameVersion}
use Rattle.ritas_base.specs.declared.mode.Vect.{Vect}
use Rattle.cluster_config.specs.declared.cluster.ClusterConfig.{ClusterConfig}
use Rattle.cluster_config.specs.declared.requests.Request.{Request}
use Rattle.cluster_config.specs.Values.{most, number_in, vect_in, key_in, address_in, request_of_line}
use Rattle.cluster_config.specs.Columns.{Column, Line, lines_of, lines_up_to}
use Rattle.cluster_config.specs.Front.{session_lines, numbers_lines}

-- what the configuration of all replicas says
pub record ClusterText : Type 0 where
  pub session : ℕ
  pub p : Numbers
  pub root : ℕ
  pub vect : Vect
  pub version : FrameVersion
  pub master : List ℕ
  pub peers : List (List ℕ)
  pub limit : ℕ
  pub until : ℕ
  pub requests : List Request

abbrev pub cluster_text : ClusterConfig → ClusterText
cluster_text config = record {
  session = config.session;
  p = config.p;
  root = config.mode.root;
  vect = config.mode.vect;
  version = config.mode.version;
  master = config.master;
  peers = config.peers;
  limit = config.limit;
  until = config.until;
  requests = config.requests;
}

-- it has at most so many requests
abbrev pub most_requests : ℕ
most_requests = 64

-- its lines
unfoldable pub cluster_column : Column ClusterText
cluster_column =
    session_lines (λ version session.
    numbers_lines (λ p.
    Line (codes "root") refl (number_in 6 most_root) (λ root.
    Line (codes "vect") refl vect_in (λ vect.
    Line (codes "master") refl key_in (λ master.
    lines_of (codes "peer") refl address_in p.n (λ peers.
    Line (codes "limit") refl (number_in 1 most) (λ limit.
    Line (codes "until") refl (number_in 0 4294967295) (λ until.
    lines_up_to (codes "request") refl (request_of_line p.n) most_requests (λ requests.
    record { session = session; p = p; root = root; vect = vect; version = version; master = master; peers = peers; limit = limit; until = until; requests = requests })))))))))
