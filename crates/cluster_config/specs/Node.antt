-- The configuration of a replica: its lines, in their order.
use Rattle.std.specs.Prelude.{ℕ, ◌-◌, Bool, List, codes, refl}
use Rattle.ritas_base.specs.Numbers.{Numbers}
use Rattle.ritas_base.specs.RootServices.{most_root}
use Rattle.ritas_base.specs.declared.mode.FrameVersion.{FrameVersion}
use Rattle.ritas_base.specs.declared.mode.Vect.{Vect}
use Rattle.cluster_config.specs.declared.node.NodeConfig.{NodeConfig}
use Rattle.cluster_config.specs.Values.{most, number_in, vect_in, key_in, row_in, address_in}
use Rattle.cluster_config.specs.Columns.{Column, Line, lines_of}
use Rattle.cluster_config.specs.Front.{session_lines, numbers_lines, journal_line}

-- what the configuration of a replica says
pub record NodeText : Type 0 where
  pub session : ℕ
  pub p : Numbers
  pub root : ℕ
  pub vect : Vect
  pub version : FrameVersion
  pub me : ℕ
  pub key_row : List (List ℕ)
  pub coin_key : List ℕ
  pub peers : List (List ℕ)
  pub client : List ℕ
  pub limit : ℕ
  pub until : ℕ
  pub journal : Bool

abbrev pub node_text : NodeConfig → NodeText
node_text config = record {
  session = config.session;
  p = config.p;
  root = config.mode.root;
  vect = config.mode.vect;
  version = config.mode.version;
  me = config.me;
  key_row = config.key_row;
  coin_key = config.coin_key;
  peers = config.peers;
  client = config.client;
  limit = config.limit;
  until = config.until;
  journal = config.journal;
}

-- its lines
unfoldable pub node_column : Column NodeText
node_column =
    session_lines (λ version session.
    numbers_lines (λ p.
    Line (codes "root") refl (number_in 6 most_root) (λ root.
    Line (codes "vect") refl vect_in (λ vect.
    Line (codes "me") refl (number_in 0 (p.n - 1)) (λ me.
    Line (codes "row") refl (row_in p.n) (λ row.
    Line (codes "coin") refl key_in (λ coin.
    lines_of (codes "peer") refl address_in p.n (λ peers.
    Line (codes "client") refl address_in (λ client.
    Line (codes "limit") refl (number_in 1 most) (λ limit.
    Line (codes "until") refl (number_in 0 4294967295) (λ until.
    journal_line (λ journal.
    record { session = session; p = p; root = root; vect = vect; version = version; me = me; key_row = row; coin_key = coin; peers = peers; client = client; limit = limit; until = until; journal = journal }))))))))))))
