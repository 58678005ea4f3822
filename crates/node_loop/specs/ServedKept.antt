-- How serving ends, where an archive keeps events.
use Rattle.std.specs.Prelude.{ℕ, List}
use Rattle.ritas_base.specs.declared.event.Event.{Event}
use Rattle.keyed_channel.specs.KeyRow.{KeyRow}
use Rattle.ritas_core.specs.Stands.{Meaning}
use Rattle.replica.specs.declared.replica.Replica.{Replica}
use Rattle.outside.specs.Links.{LinkAct}
use Rattle.world_model.specs.World.{Setting}
use Rattle.node_loop.specs.declared.end.Fault.TheVariants as faults
use Rattle.node_loop.specs.declared.end.ServeEnd.{ServeEnd}
use Rattle.node_loop.specs.declared.end.ServeEnd.TheVariants as ends
use Rattle.node_loop.specs.declared.limits.Limits.{Limits}
use Rattle.node_loop.specs.Archives.{Moment, KeptAt, reach}
use Rattle.node_loop.specs.Keeping.{kept_of}
use Rattle.node_loop.specs.Outs.{Outs, Tells, StopsPartway}
use Rattle.node_loop.specs.Queries.{QueriesFit}
use Rattle.node_loop.specs.Served.{AreHere, EndsSo}
use Rattle.node_loop.specs.Serving.{Serving, so_far, Want, wants, Round}
use Rattle.node_loop.specs.Told.{AreGroups, after_groups, newest_calls, sooner, before_newest, newest_events}

-- it broke at a fault of the archive
abbrev pub BreaksOff : Tells → Outs → Outs → ServeEnd → List Event → List Event → List LinkAct → List LinkAct → Type 0
BreaksOff tells base now ends.DiskFault earlier events sooner news = StopsPartway tells base now faults.Disk earlier events sooner news
BreaksOff tells base now (ends.JournalFull x) earlier events sooner news = StopsPartway tells base now (faults.Full x) earlier events sooner news
BreaksOff tells base now end earlier events sooner news = ⊥

-- each end: where the archive fails, the newest group's events were written, and nothing of them went out
abbrev pub EndsKept : {S E C : Type 0} → Meaning S E C KeyRow → Setting → List Event → List ℕ → List (Replica S E C) → Tells → Outs → Outs → ServeEnd → List Event
    → Serving → List LinkAct → List LinkAct → Want → Type 0
EndsKept m w past numbers here tells base now ends.DiskFault earlier s sooner news rule =
    BreaksOff tells base now ends.DiskFault earlier s.events sooner news × AreHere m w (so_far past s) numbers here
EndsKept m w past numbers here tells base now (ends.JournalFull x) earlier s sooner news rule =
    BreaksOff tells base now (ends.JournalFull x) earlier s.events sooner news × AreHere m w (so_far past s) numbers here
EndsKept m w past numbers here tells base now end earlier s sooner news rule = EndsSo m w past numbers here tells base now end earlier s sooner news rule

-- of the newest group's events, those that are kept, and of those before
abbrev pub newest_kept : Setting → List Event → Serving → List (List Round) → List Event
newest_kept w past start groups = kept_of w (so_far past (before_newest w past start groups)) (newest_events w past start groups)

abbrev pub earlier_kept : Setting → List Event → Serving → List (List Round) → List Event
earlier_kept w past start groups = kept_of w past (before_newest w past start groups).events

-- of serving that begins so there are groups of rounds, each round what the rules said, and each
-- query such as fits a piece, after which it ended so, and the archive stands for what is kept of
-- their events
pub record ServesKept {S E C : Type 0} (m : Meaning S E C KeyRow) (w : Setting) (past : List Event) (numbers : List ℕ) (here : List (Replica S E C))
    (tells : Tells) (base : Outs) (now : Moment) (end : ServeEnd) (limits : Limits) (start : Serving) : Type 0 where
  pub groups : List (List Round)
  pub are : AreGroups w past limits start groups
  pub queries : QueriesFit w past start groups
  pub so : EndsKept m w past numbers here tells base now.outs end (before_newest w past start groups).events (after_groups w past start groups)
      (sooner w past start groups) (newest_calls w past start groups) (wants w past limits (after_groups w past start groups))
  pub kept : KeptAt now (reach tells base now.outs (before_newest w past start groups).events (after_groups w past start groups).events (sooner w past start groups))
      (kept_of w past (after_groups w past start groups).events) (newest_kept w past start groups) (earlier_kept w past start groups) end
