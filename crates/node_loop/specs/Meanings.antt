-- What the traits mean that serving is generic over: words over the bounds of a function.
use Rattle.std.specs.Prelude.{ℕ, List}
use Rattle.ritas_base.specs.declared.event.Event.{Event}
use Rattle.ritas_base.specs.declared.tagger.Coin.{Ghosts as CoinGhosts}
use Rattle.layer_api.specs.declared.broadcast.Broadcast.{Ghosts as BroadcastGhosts}
use Rattle.layer_api.specs.declared.service.Service.{Ghosts as ServiceGhosts}
use Rattle.keyed_channel.specs.KeyRow.{KeyRow}
use Rattle.ritas_core.specs.Stands.{Meaning}
use Rattle.outside.specs.declared.link.Link.{Ghosts as LinkGhosts}
use Rattle.outside.specs.declared.sink.Sink.{Ghosts as SinkGhosts}
use Rattle.replica.specs.Replica.{with_keys}
use Rattle.node_loop.specs.declared.archive.Archive.{Ghosts as ArchiveGhosts}
use Rattle.node_loop.specs.declared.server.Server.{Server}
use Rattle.node_loop.specs.Archives.{Moment, moment}
use Rattle.node_loop.specs.Outs.{Outs, Tells, outs_of, tells_of}

-- what a service, the broadcast beside the reliable one and a coin mean, of the bounds of each
abbrev pub meaning_of : {S E C : Type 0} → ServiceGhosts S → BroadcastGhosts E → CoinGhosts C → Meaning S E C KeyRow
meaning_of service cast coin = with_keys service.stands service.rules service.shown cast.stands cast.rules cast.shown coin.bits

-- the moment at which an archive and its disk are so, of what they were before the first of the given events
abbrev pub moment_at : {A D : Type 0} → ArchiveGhosts A D → List ℕ → D → List Event → Outs → A → D → Moment
moment_at archive head before past outs now disk = moment outs (archive.stands head before past now disk) (archive.fails head before past now disk)

-- what all bounds of a server mean: of its layers, whether its tape and its link tell, and which moment it is
pub record Senses (S E C L K A D : Type 0) : Type 1 where
  pub layers : Meaning S E C KeyRow
  pub tells : Tells
  pub moment : List ℕ → D → List Event → Server L K A D → Moment

abbrev pub senses_of : {S E C L K A D : Type 0} → ServiceGhosts S → BroadcastGhosts E → CoinGhosts C → LinkGhosts L → SinkGhosts K → ArchiveGhosts A D
    → Senses S E C L K A D
senses_of service cast coin connection sink archive = record {
  layers = meaning_of service cast coin;
  tells = tells_of sink connection;
  moment = λ head before past server.
      moment_at archive head before past (outs_of sink connection server.tape.now server.link.now) server.archive.now server.disk.now;
}
