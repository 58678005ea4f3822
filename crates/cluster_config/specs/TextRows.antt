-- Worked rows of the texts of keys, of a replica, of all replicas and of a request, where there is one replica.
use Rattle.std.specs.Prelude.{◌≡◌, ℕ, true, false, List, [], ◌∷◌, ◌++◌, codes, replicate, flat_map, Ok, Err, refl}
use Rattle.hex.specs.Hex.{decode_pairs}
use Rattle.ritas_base.specs.declared.mode.FrameVersion.TheVariants.{One, Two, Three}
use Rattle.ritas_base.specs.declared.mode.Vect.TheVariants.{Echo, Reliable}
use Rattle.cluster_config.specs.Lines.{line_at, text_end_at, line_value_at, field_at}
use Rattle.cluster_config.specs.Columns.{lines_of, lines_up_to, read_by, read_text}
use Rattle.cluster_config.specs.Front.{session_lines, numbers_lines, journal_line}
use Rattle.cluster_config.specs.Keys.{keys_column}
use Rattle.cluster_config.specs.Node.{NodeText, node_column}
use Rattle.cluster_config.specs.Cluster.{ClusterText, cluster_column}
use Rattle.cluster_config.specs.Submit.{submit_column}
use Rattle.cluster_config.specs.Watch.{watch_column}

-- the lines behind the first, up to the root service
abbrev session_7 : List ℕ
session_7 = codes "session 7\nn 1\nf 0\n"

abbrev front : List ℕ
front = codes "ritas 1\n" ++ session_7

-- a key of 64 zeros
abbrev key : List ℕ
key = replicate 64 48

-- ---- keys

keys : read_text keys_column (front ++ codes "master " ++ key ++ codes "\n") ≡ Ok (record { session = 7; p = record { n = 1; f = 0 }; master = replicate 32 0 })
unfolding read_text read_by keys_column session_lines numbers_lines field_at line_value_at line_at text_end_at decode_pairs
keys = refl

-- the same keys in sessions of versions 2 and 3, and no other versions
keys_of_two : read_text keys_column (codes "ritas 2\n" ++ session_7 ++ codes "master " ++ key ++ codes "\n") ≡ Ok (record { session = 7; p = record { n = 1; f = 0 }; master = replicate 32 0 })
unfolding read_text read_by keys_column session_lines numbers_lines field_at line_value_at line_at text_end_at decode_pairs
keys_of_two = refl

keys_of_three : read_text keys_column (codes "ritas 3\n" ++ session_7 ++ codes "master " ++ key ++ codes "\n") ≡ Ok (record { session = 7; p = record { n = 1; f = 0 }; master = replicate 32 0 })
unfolding read_text read_by keys_column session_lines numbers_lines field_at line_value_at line_at text_end_at decode_pairs
keys_of_three = refl

keys_of_four : read_text keys_column (codes "ritas 4\nsession 7\n") ≡ Err 1
unfolding read_text read_by keys_column session_lines numbers_lines field_at line_value_at line_at text_end_at
keys_of_four = refl

keys_alone : read_text keys_column front ≡ Err 5
unfolding read_text read_by keys_column session_lines numbers_lines field_at line_value_at line_at text_end_at
keys_alone = refl

short_key : read_text keys_column (front ++ codes "master 00\n") ≡ Err 5
unfolding read_text read_by keys_column session_lines numbers_lines field_at line_value_at line_at text_end_at decode_pairs
short_key = refl

more_than_keys : read_text keys_column (front ++ codes "master " ++ key ++ codes "\norder sweep\n") ≡ Err 6
unfolding read_text read_by keys_column session_lines numbers_lines field_at line_value_at line_at text_end_at decode_pairs
more_than_keys = refl

-- ---- a replica

-- the lines of a replica behind the first, up to the peers
abbrev node_keys : List ℕ
node_keys = session_7 ++ codes "root 6\nvect echo\nme 0\nrow " ++ key ++ codes "\ncoin " ++ key ++ codes "\n"

abbrev node_front : List ℕ
node_front = codes "ritas 1\n" ++ node_keys

abbrev one_node : NodeText
one_node = record {
  session = 7;
  p = record { n = 1; f = 0 };
  root = 6;
  vect = Echo;
  version = One;
  me = 0;
  key_row = replicate 31 (replicate 32 0);
  coin_key = replicate 32 0;
  peers = codes "10.0.0.1:4000" ∷ [];
  client = codes "10.0.0.1:80";
  limit = 1;
  until = 0;
  journal = false;
}

-- the lines from the peers on
abbrev node_back : List ℕ
node_back = codes "peer 10.0.0.1:4000\nclient 10.0.0.1:80\nlimit 1\nuntil 0\n"

node : read_text node_column (node_front ++ node_back) ≡ Ok one_node
unfolding read_text read_by node_column session_lines numbers_lines lines_of journal_line field_at line_value_at line_at text_end_at decode_pairs
node = refl

-- in a session of version 2
node_of_two : read_text node_column (codes "ritas 2\n" ++ node_keys ++ node_back) ≡ Ok (record one_node { version = Two })
unfolding read_text read_by node_column session_lines numbers_lines lines_of journal_line field_at line_value_at line_at text_end_at decode_pairs
node_of_two = refl

-- and of version 3
node_of_three : read_text node_column (codes "ritas 3\n" ++ node_keys ++ node_back) ≡ Ok (record one_node { version = Three })
unfolding read_text read_by node_column session_lines numbers_lines lines_of journal_line field_at line_value_at line_at text_end_at decode_pairs
node_of_three = refl

-- what is said of a journal
with_journal : read_text node_column (node_front ++ node_back ++ codes "journal yes\n") ≡ Ok (record one_node { journal = true })
unfolding read_text read_by node_column session_lines numbers_lines lines_of journal_line field_at line_value_at line_at text_end_at decode_pairs
with_journal = refl

without_journal : read_text node_column (node_front ++ node_back ++ codes "journal no\n") ≡ Ok one_node
unfolding read_text read_by node_column session_lines numbers_lines lines_of journal_line field_at line_value_at line_at text_end_at decode_pairs
without_journal = refl

no_word : read_text node_column (node_front ++ node_back ++ codes "journal\n") ≡ Err 14
unfolding read_text read_by node_column session_lines numbers_lines lines_of journal_line field_at line_value_at line_at text_end_at decode_pairs
no_word = refl

other_word : read_text node_column (node_front ++ node_back ++ codes "journal maybe\n") ≡ Err 14
unfolding read_text read_by node_column session_lines numbers_lines lines_of journal_line field_at line_value_at line_at text_end_at decode_pairs
other_word = refl

-- and a line behind that
behind_journal : read_text node_column (node_front ++ node_back ++ codes "journal yes\njournal yes\n") ≡ Err 15
unfolding read_text read_by node_column session_lines numbers_lines lines_of journal_line field_at line_value_at line_at text_end_at decode_pairs
behind_journal = refl

-- the other root service that orders commands, and two that a replica can't have
abbrev node_lines_of : List ℕ → List ℕ
node_lines_of root = front ++ codes "root " ++ root ++ codes "\nvect echo\nme 0\nrow " ++ key ++ codes "\ncoin " ++ key ++ codes "\n" ++ node_back

node_of_direct : read_text node_column (node_lines_of (codes "7")) ≡ Ok (record one_node { root = 7 })
unfolding read_text read_by node_column session_lines numbers_lines lines_of journal_line field_at line_value_at line_at text_end_at decode_pairs
node_of_direct = refl

other_root : read_text node_column (front ++ codes "root 5\n") ≡ Err 5
unfolding read_text read_by node_column session_lines numbers_lines field_at line_value_at line_at text_end_at
other_root = refl

root_of_none : read_text node_column (front ++ codes "root 8\n") ≡ Err 5
unfolding read_text read_by node_column session_lines numbers_lines field_at line_value_at line_at text_end_at
root_of_none = refl

no_such_replica : read_text node_column (front ++ codes "root 6\nvect echo\nme 1\n") ≡ Err 7
unfolding read_text read_by node_column session_lines numbers_lines field_at line_value_at line_at text_end_at
no_such_replica = refl

-- a peer too many
two_peers : read_text node_column (node_front ++ codes "peer 10.0.0.1:4000\npeer 10.0.0.2:4000\nclient 10.0.0.1:80\n") ≡ Err 11
unfolding read_text read_by node_column session_lines numbers_lines lines_of field_at line_value_at line_at text_end_at decode_pairs
two_peers = refl

-- and none
no_peer : read_text node_column (node_front ++ codes "client 10.0.0.1:80\n") ≡ Err 10
unfolding read_text read_by node_column session_lines numbers_lines lines_of field_at line_value_at line_at text_end_at decode_pairs
no_peer = refl

-- ---- all replicas

-- the lines of all replicas behind the first, up to the requests
abbrev cluster_back : List ℕ
cluster_back = session_7 ++ codes "root 6\nvect reliable\nmaster " ++ key ++ codes "\npeer 10.0.0.1:4000\nlimit 1\nuntil 2\n"

abbrev cluster_front : List ℕ
cluster_front = codes "ritas 1\n" ++ cluster_back

abbrev one_cluster : ClusterText
one_cluster = record {
  session = 7;
  p = record { n = 1; f = 0 };
  root = 6;
  vect = Reliable;
  version = One;
  master = replicate 32 0;
  peers = codes "10.0.0.1:4000" ∷ [];
  limit = 1;
  until = 2;
  requests = record { at = 0; client = 1; request = 2; payload = [] } ∷ record { at = 0; client = 1; request = 3; payload = 10 ∷ [] } ∷ [];
}

cluster : read_text cluster_column (cluster_front ++ codes "request 0 1 2 -\nrequest 0 1 3 0a\n") ≡ Ok one_cluster
unfolding read_text read_by cluster_column session_lines numbers_lines lines_of lines_up_to field_at line_value_at line_at text_end_at decode_pairs
cluster = refl

-- in a session of version 2
cluster_of_two : read_text cluster_column (codes "ritas 2\n" ++ cluster_back ++ codes "request 0 1 2 -\nrequest 0 1 3 0a\n") ≡ Ok (record one_cluster { version = Two })
unfolding read_text read_by cluster_column session_lines numbers_lines lines_of lines_up_to field_at line_value_at line_at text_end_at decode_pairs
cluster_of_two = refl

-- and of version 3
cluster_of_three : read_text cluster_column (codes "ritas 3\n" ++ cluster_back ++ codes "request 0 1 2 -\nrequest 0 1 3 0a\n") ≡ Ok (record one_cluster { version = Three })
unfolding read_text read_by cluster_column session_lines numbers_lines lines_of lines_up_to field_at line_value_at line_at text_end_at decode_pairs
cluster_of_three = refl

limit_zero : read_text cluster_column (front ++ codes "root 6\nvect echo\nmaster " ++ key ++ codes "\npeer 10.0.0.1:4000\nlimit 0\n") ≡ Err 9
unfolding read_text read_by cluster_column session_lines numbers_lines lines_of field_at line_value_at line_at text_end_at decode_pairs
limit_zero = refl

-- the second request is wrong
wrong_request : read_text cluster_column (cluster_front ++ codes "request 0 1 2 -\nrequest 1 1 2 -\n") ≡ Err 12
unfolding read_text read_by cluster_column session_lines numbers_lines lines_of lines_up_to field_at line_value_at line_at text_end_at decode_pairs
wrong_request = refl

-- the 65th request
too_many_requests : read_text cluster_column (cluster_front ++ flat_map (λ request. request) (replicate 65 (codes "request 0 1 2 -\n"))) ≡ Err 75
unfolding read_text read_by cluster_column session_lines numbers_lines lines_of lines_up_to field_at line_value_at line_at text_end_at decode_pairs
too_many_requests = refl

-- ---- a request

submit : read_text submit_column (codes "ritas 1\nn 1\nf 0\npeer 10.0.0.1:4000\nrequest 0 1 2 -\n")
    ≡ Ok (record { p = record { n = 1; f = 0 }; peers = codes "10.0.0.1:4000" ∷ []; request = record { at = 0; client = 1; request = 2; payload = [] } })
unfolding read_text read_by submit_column numbers_lines lines_of field_at line_value_at line_at text_end_at
submit = refl

-- requests of sessions of versions 2 and 3, and of no other version
submit_of_two : read_text submit_column (codes "ritas 2\nn 1\nf 0\npeer 10.0.0.1:4000\nrequest 0 1 2 -\n")
    ≡ Ok (record { p = record { n = 1; f = 0 }; peers = codes "10.0.0.1:4000" ∷ []; request = record { at = 0; client = 1; request = 2; payload = [] } })
unfolding read_text read_by submit_column numbers_lines lines_of field_at line_value_at line_at text_end_at
submit_of_two = refl

submit_of_three : read_text submit_column (codes "ritas 3\nn 1\nf 0\npeer 10.0.0.1:4000\nrequest 0 1 2 -\n")
    ≡ Ok (record { p = record { n = 1; f = 0 }; peers = codes "10.0.0.1:4000" ∷ []; request = record { at = 0; client = 1; request = 2; payload = [] } })
unfolding read_text read_by submit_column numbers_lines lines_of field_at line_value_at line_at text_end_at
submit_of_three = refl

submit_of_four : read_text submit_column (codes "ritas 4\nn 1\n") ≡ Err 1
unfolding read_text read_by submit_column numbers_lines field_at line_value_at line_at text_end_at
submit_of_four = refl

no_request : read_text submit_column (codes "ritas 1\nn 1\nf 0\npeer 10.0.0.1:4000\n") ≡ Err 5
unfolding read_text read_by submit_column numbers_lines lines_of field_at line_value_at line_at text_end_at
no_request = refl

two_requests : read_text submit_column (codes "ritas 1\nn 1\nf 0\npeer 10.0.0.1:4000\nrequest 0 1 2 -\nrequest 0 1 2 -\n") ≡ Err 6
unfolding read_text read_by submit_column numbers_lines lines_of field_at line_value_at line_at text_end_at
two_requests = refl

-- there is no session
session : read_text submit_column front ≡ Err 2
unfolding read_text read_by submit_column numbers_lines field_at line_value_at line_at text_end_at
session = refl

-- ---- a log that is to be watched

-- of a session of any version
watch : read_text watch_column (codes "ritas 1\nn 1\nf 0\npeer 10.0.0.1:4000\nuntil 3\n")
    ≡ Ok (record { p = record { n = 1; f = 0 }; peers = codes "10.0.0.1:4000" ∷ []; until = 3 })
unfolding read_text read_by watch_column numbers_lines lines_of field_at line_value_at line_at text_end_at
watch = refl

watch_of_two : read_text watch_column (codes "ritas 2\nn 1\nf 0\npeer 10.0.0.1:4000\nuntil 3\n")
    ≡ Ok (record { p = record { n = 1; f = 0 }; peers = codes "10.0.0.1:4000" ∷ []; until = 3 })
unfolding read_text read_by watch_column numbers_lines lines_of field_at line_value_at line_at text_end_at
watch_of_two = refl

watch_of_three : read_text watch_column (codes "ritas 3\nn 1\nf 0\npeer 10.0.0.1:4000\nuntil 3\n")
    ≡ Ok (record { p = record { n = 1; f = 0 }; peers = codes "10.0.0.1:4000" ∷ []; until = 3 })
unfolding read_text read_by watch_column numbers_lines lines_of field_at line_value_at line_at text_end_at
watch_of_three = refl

-- at least one row is waited for
until_zero : read_text watch_column (codes "ritas 1\nn 1\nf 0\npeer 10.0.0.1:4000\nuntil 0\n") ≡ Err 5
unfolding read_text read_by watch_column numbers_lines lines_of field_at line_value_at line_at text_end_at
until_zero = refl

two_untils : read_text watch_column (codes "ritas 1\nn 1\nf 0\npeer 10.0.0.1:4000\nuntil 3\nuntil 3\n") ≡ Err 6
unfolding read_text read_by watch_column numbers_lines lines_of field_at line_value_at line_at text_end_at
two_untils = refl
