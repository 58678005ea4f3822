-- What the traits' laws say of the layers of a core.
use Rattle.std.proofs.Common.{◌≡◌, Bool, true, List}
use Rattle.ritas_base.specs.Messages.{Place}
use Rattle.ritas_base.specs.Tags.{Tags}
use Rattle.ritas_base.specs.History.{Call}
use Rattle.layer_api.specs.BroadcastCalls.{ShowsCast}
use Rattle.layer_api.specs.OneValue.{ValueLaws}
use Rattle.layer_api.specs.Service.{Seat, WordLaws}
use Rattle.layer_api.specs.Words.{Word}
use Rattle.layer_api.specs.ServiceCalls.{Shows}
use Rattle.ritas_base.specs.declared.tagger.Coin as coin
use Rattle.ritas_base.specs.declared.tagger.Tagger as tagger
use Rattle.layer_api.specs.declared.broadcast.Broadcast as broadcast
use Rattle.layer_api.specs.declared.service.Service as service
use Rattle.ritas_core.specs.Stands.{Meaning, meaning}
use Rattle.ritas_core.proofs.ShownLayers.{MeansWell}

-- what a service, a broadcast, a coin and a tagger mean
abbrev pub means_by : {S E C T : Type 0} → service.Ghosts S → broadcast.Ghosts E → coin.Ghosts C → tagger.Ghosts T → Meaning S E C T
means_by s e c t = meaning s.stands s.rules s.shown e.stands e.rules e.shown c.bits t.me t.tags

-- and that the traits' laws hold of it
pub means_well : {S E C T : Type 0} (m : Meaning S E C T) (live : E → Bool) → ValueLaws m.cast → WordLaws m.service →
    ((s : S) (seat : Seat) (w : List Word) → m.service_stands s seat w → Shows m.service seat w (m.service_shown s)) →
    ((e : E) (at : Place) (tags : Tags) (h : List Call) → m.cast_stands e at tags h → (live e ≡ true) × ShowsCast m.cast at tags h (m.cast_shown e)) →
    MeansWell m
means_well m live values words service_shows cast_shows = record {
  values = values;
  words = words;
  service_shows = service_shows;
  live = live;
  cast_shows = cast_shows;
}
