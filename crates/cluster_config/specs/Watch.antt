-- The configuration of whoever watches a session's log: its lines, in their order. Queries and pieces are alike in
-- all versions of frames.
use Rattle.std.specs.Prelude.{codes, refl}
use Rattle.cluster_config.specs.declared.watch.WatchConfig.{WatchConfig}
use Rattle.cluster_config.specs.Values.{address_in, number_in, version_in}
use Rattle.cluster_config.specs.Columns.{Column, Done, Line, lines_of}
use Rattle.cluster_config.specs.Front.{numbers_lines}

unfoldable pub watch_column : Column WatchConfig
watch_column =
    Line (codes "ritas") refl version_in (λ version.
    numbers_lines (λ p.
    lines_of (codes "peer") refl address_in p.n (λ peers.
    Line (codes "until") refl (number_in 1 4294967295) (λ until.
    Done (record { p = p; peers = peers; until = until })))))
