-- What an archive keeps of the events that are served, moment by moment. Lists of events have the newest first.
use Rattle.std.specs.Prelude.{List, ◌⊎◌}
use Rattle.ritas_base.specs.declared.event.Event.{Event}
use Rattle.outside.specs.Links.{LinkAct}
use Rattle.node_loop.specs.declared.archive.ArchiveFault.{ArchiveFault}
use Rattle.node_loop.specs.declared.archive.ArchiveFault.TheVariants as archive
use Rattle.node_loop.specs.declared.end.Fault.{Fault}
use Rattle.node_loop.specs.declared.end.Fault.TheVariants as faults
use Rattle.node_loop.specs.declared.end.ServeEnd.{ServeEnd}
use Rattle.node_loop.specs.declared.end.ServeEnd.TheVariants as ends
use Rattle.node_loop.specs.Outs.{Outs, Tells, AllWritten, NoneCame, NoneSent}

-- a moment: what the tape and the link have, for which events the archive stands, and over which group of them, behind which, it failed how
pub record Moment : Type 1 where
  pub outs : Outs
  pub stands : List Event → Type 0
  pub fails : ArchiveFault → List Event → List Event → Type 0

abbrev pub moment : Outs → (List Event → Type 0) → (ArchiveFault → List Event → List Event → Type 0) → Moment
moment outs stands fails = record { outs = outs; stands = stands; fails = fails }

-- How far the tape and the link came with the newest group: all events were written; nothing came of it; nothing of it went out.
pub record Reach : Type 1 where
  pub whole : Type 0
  pub older : Type 0
  pub none : Type 0

-- of the events before the newest group's, of all, and of the link's calls before that group's
abbrev pub reach : Tells → Outs → Outs → List Event → List Event → List LinkAct → Reach
reach tells base now earlier events sooner = record {
  whole = AllWritten tells base now events;
  older = NoneCame tells base now earlier sooner;
  none = NoneSent tells base now sooner;
}

-- What it stands for at a fault, of these kept events, which are those of the newest group and the older ones. Where the link fails, it is for all
-- where all were written, and for the older ones where nothing came of the group. So it is where memory runs out, or it ran out in keeping them: then
-- all were written, and nothing went out.
abbrev pub ArchiveLeftAt : Moment → Reach → List Event → List Event → List Event → Fault → Type 0
ArchiveLeftAt now far kept group older faults.Link = (far.whole × now.stands kept) ⊎ (far.older × now.stands older)
ArchiveLeftAt now far kept group older faults.Tape = now.stands older
ArchiveLeftAt now far kept group older faults.Disk = now.fails archive.Disk group older
ArchiveLeftAt now far kept group older (faults.Full x) = now.fails (archive.Full x) group older
ArchiveLeftAt now far kept group older faults.Mem =
    (far.whole × (now.stands kept ⊎ (far.none × now.fails archive.Mem group older))) ⊎ (far.older × now.stands older)

-- the same at an end
abbrev pub KeptAt : Moment → Reach → List Event → List Event → List Event → ServeEnd → Type 0
KeptAt now far kept group older ends.Over = now.stands kept
KeptAt now far kept group older ends.Done = now.stands kept
KeptAt now far kept group older ends.Limit = now.stands kept
KeptAt now far kept group older ends.End = now.stands kept
KeptAt now far kept group older (ends.KeptFull x) = now.stands kept
KeptAt now far kept group older ends.LinkFault = ArchiveLeftAt now far kept group older faults.Link
KeptAt now far kept group older ends.TapeFault = ArchiveLeftAt now far kept group older faults.Tape
KeptAt now far kept group older ends.Mem = ArchiveLeftAt now far kept group older faults.Mem
KeptAt now far kept group older ends.DiskFault = ArchiveLeftAt now far kept group older faults.Disk
KeptAt now far kept group older (ends.JournalFull x) = ArchiveLeftAt now far kept group older (faults.Full x)
