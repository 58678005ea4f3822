-- The configuration of a request that is to be handed in: its lines, in their order. Requests are alike in all versions of frames.
use Rattle.std.specs.Prelude.{codes, refl}
use Rattle.cluster_config.specs.declared.submit.SubmitConfig.{SubmitConfig}
use Rattle.cluster_config.specs.Values.{address_in, request_of_line, version_in}
use Rattle.cluster_config.specs.Columns.{Column, Done, Line, lines_of}
use Rattle.cluster_config.specs.Front.{numbers_lines}

unfoldable pub submit_column : Column SubmitConfig
submit_column =
    Line (codes "ritas") refl version_in (λ version.
    numbers_lines (λ p.
    lines_of (codes "peer") refl address_in p.n (λ peers.
    Line (codes "request") refl (request_of_line p.n) (λ request.
    Done (record { p = p; peers = peers; request = request })))))
