-- How serving ends that began after events that a journal kept.
use Rattle.std.specs.Prelude.{◌≡◌, ℕ, true, List, [], reverse}
use Rattle.ritas_base.specs.declared.event.Event.{Event}
use Rattle.keyed_channel.specs.KeyRow.{KeyRow}
use Rattle.ritas_core.specs.Stands.{Meaning}
use Rattle.replica.specs.declared.replica.Replica.{Replica}
use Rattle.event_journal.specs.Appending.{JournalState}
use Rattle.outside.specs.declared.disk.Disk.{Ghosts as DiskGhosts}
use Rattle.world_model.specs.World.{Setting}
use Rattle.node_loop.specs.declared.end.ServeEnd.{ServeEnd}
use Rattle.node_loop.specs.declared.limits.Limits.{Limits}
use Rattle.node_loop.specs.Archives.{Moment, KeptAt, reach}
use Rattle.node_loop.specs.Journals.{OpenedAs, journal_moment}
use Rattle.node_loop.specs.Keeping.{kept_of}
use Rattle.node_loop.specs.Outs.{Outs, Tells}
use Rattle.node_loop.specs.Queries.{QueriesFit}
use Rattle.node_loop.specs.Recovering.{earlier_with, recovered, with_past}
use Rattle.node_loop.specs.Served.{AreHere}
use Rattle.node_loop.specs.ServedKept.{EndsKept, earlier_kept, newest_kept}
use Rattle.node_loop.specs.Serving.{so_far, wants, Round}
use Rattle.node_loop.specs.Told.{AreGroups, after_groups, newest_calls, sooner}

-- The past events, which a journal kept, happened again: the tape takes them in front of the
-- others, and nothing of them goes to the link. Then there are groups of rounds, each round what
-- the rules said, after which it ended so, and the archive stands for what is kept of their events.
-- A tape that fails over the past ones, and want of memory there, are ends before any round; where
-- memory ran out there, none was written. Each query, and the log that it found, fits a piece.
pub record ServesAgain {S E C : Type 0} (m : Meaning S E C KeyRow) (w : Setting) (past : List Event) (numbers : List ℕ) (here : List (Replica S E C))
    (tells : Tells) (base : Outs) (now : Moment) (end : ServeEnd) (limits : Limits) : Type 0 where
  pub groups : List (List Round)
  pub are : AreGroups w past limits (recovered w past) groups
  pub queries : QueriesFit w past (recovered w past) groups
  pub so : EndsKept m w [] numbers here tells base now.outs end (earlier_with w past groups) (with_past past (after_groups w past (recovered w past) groups))
      (sooner w past (recovered w past) groups) (newest_calls w past (recovered w past) groups)
      (wants w past limits (after_groups w past (recovered w past) groups))
  pub kept : KeptAt now
      (reach tells base now.outs (earlier_with w past groups) (so_far past (after_groups w past (recovered w past) groups)) (sooner w past (recovered w past) groups))
      (kept_of w past (after_groups w past (recovered w past) groups).events) (newest_kept w past (recovered w past) groups)
      (earlier_kept w past (recovered w past) groups) end

-- ---- of the values that it has

-- the replicas, the journal and its disk, and what the tape and the link have
pub record Life (S E C D : Type 0) : Type 0 where
  pub replicas : List (Replica S E C)
  pub journal : JournalState
  pub disk : D
  pub outs : Outs

abbrev pub life : {S E C D : Type 0} → List (Replica S E C) → JournalState → D → Outs → Life S E C D
life replicas journal disk outs = record {
  replicas = replicas;
  journal = journal;
  disk = disk;
  outs = outs;
}

-- Where the replicas are those of a world before any event, the journal's is one of them, and the
-- journal was opened as the recovered events, which stand in their order, it ended so.
abbrev pub ServesAfter : {S E C D : Type 0} → Meaning S E C KeyRow → DiskGhosts D → Tells
    → List Event → Life S E C D → Life S E C D → ServeEnd → Limits → Type 0
ServesAfter m storage tells recovered old new end limits =
    (head : List ℕ) (w : Setting) (numbers : List ℕ)
    → AreHere m w [] numbers old.replicas → w.is_correct old.journal.me ≡ true
    → OpenedAs storage head (reverse recovered) old.journal old.disk
    → ServesAgain m w (reverse recovered) numbers new.replicas tells old.outs
    (journal_moment storage head (reverse recovered) old.journal.me old.disk new.outs
    new.journal new.disk) end limits
