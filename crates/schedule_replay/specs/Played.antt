-- What the value of a schedule's world stands for.
use Rattle.std.specs.Prelude.{◌≡◌, ℕ, List}
use Rattle.ritas_base.specs.declared.event.Event.{Event}
use Rattle.keyed_channel.specs.KeyRow.{KeyRow}
use Rattle.keyed_channel.specs.Keyed.{CoinSeed}
use Rattle.ritas_core.specs.Stands.{Meaning}
use Rattle.schedule_file.specs.ReadHeader.{heading}
use Rattle.schedule_file.specs.Spelling.{IsHeading}
use Rattle.schedule_file.specs.declared.header.Header.{Header}
use Rattle.world_model.specs.Counts.{counts_of, total}
use Rattle.world_model.specs.Stands.{WorldStands}
use Rattle.schedule_replay.specs.declared.played.Played.{Played}
use Rattle.schedule_replay.specs.Layers.{setting_by}

-- its header
abbrev pub header_in : {S E : Type 0} → Played S E → Header
header_in x = x.header

-- how many events it answered
abbrev pub answered : {S E : Type 0} → Played S E → ℕ
answered x = total x.counts

-- it stands for these events of its header's world, with these layers
pub record PlayedStandsFor {S E : Type 0} (m : Meaning S E CoinSeed KeyRow) (x : Played S E) (es : List Event) : Type 0 where
  pub header : IsHeading (heading x.header)
  pub world : WorldStands m x.world (setting_by m.service m.cast x.header) es
  pub counts : x.counts ≡ counts_of (setting_by m.service m.cast x.header) es
