-- What is left when a stage is done.
use Rattle.std.proofs.Common.{◌≡◌, ℕ, List, refl, sym, subst}
use Rattle.ritas_base.specs.declared.event.Event.{Event}
use Rattle.ritas_base.specs.declared.plan.Plan.{Plan}
use Rattle.ritas_base.specs.declared.what.DriveWhat.{DriveWhat}
use Rattle.ritas_base.specs.declared.what.DriveWhat.TheVariants as drives
use Rattle.keyed_channel.specs.Keyed.{CoinSeed}
use Rattle.keyed_channel.specs.KeyRow.{KeyRow}
use Rattle.ritas_core.specs.Stands.{Meaning}
use Rattle.schedule_file.specs.declared.header.Header.{Header}
use Rattle.schedule_file.specs.ReadHeader.{heading}
use Rattle.schedule_file.specs.Spelling.{IsHeading}
use Rattle.world_model.specs.declared.counts.Counts.{Counts}
use Rattle.world_model.specs.declared.world.World.{World}
use Rattle.world_model.specs.Counts.{counts_of}
use Rattle.world_model.specs.Stands.{WorldStands}
use Rattle.schedule_replay.specs.declared.played.Played.{Played}
use Rattle.schedule_replay.specs.Layers.{setting_by}
use Rattle.schedule_replay.specs.Played.{PlayedStandsFor}
use Rattle.schedule_plan.specs.Plans.{header_of}
use Rattle.schedule_stage.specs.Stage.{IsKeptFile}
use Rattle.schedule_stage.specs.Worlds.{world_in}

-- the file is kept where it is wanted
pub kept_so : (what : DriveWhat) (file front : List ℕ) → (what ≡ drives.Schedule → file ≡ front) → IsKeptFile what file front
kept_so drives.Report file front kept = tt
kept_so drives.Schedule file front kept = kept refl

-- what stands for the events of a header's world does so for those of the plan that has this header
pub played_so : {S E : Type 0} (m : Meaning S E CoinSeed KeyRow) (p : Plan) (world : World S E CoinSeed) (counts : Counts) (played : Played S E) (h : Header) (es : List Event)
    → h ≡ header_of p
    → (IsHeading (heading h) → WorldStands m world (setting_by m.service m.cast h) es → counts ≡ counts_of (setting_by m.service m.cast h) es → PlayedStandsFor m played es)
    → IsHeading (heading (header_of p)) → WorldStands m world (world_in m p) es → counts ≡ counts_of (world_in m p) es → PlayedStandsFor m played es
played_so m p world counts played h es same =
    subst
    (λ (x : Header).
    (IsHeading (heading x) → WorldStands m world (setting_by m.service m.cast x) es → counts ≡ counts_of (setting_by m.service m.cast x) es → PlayedStandsFor m played es)
    → IsHeading (heading (header_of p)) → WorldStands m world (world_in m p) es → counts ≡ counts_of (world_in m p) es → PlayedStandsFor m played es)
    (sym same) (λ stands. stands)
