-- A session whose replica has a journal: a life of it, which begins with the events that the journal kept in those before. Lists of events and of
-- the link's calls have the newest first.
use Rattle.std.specs.Prelude.{◌≡◌, ◌≢◌, ◌⊎◌, ℕ, ◌+◌, ◌-◌, ◌^◌, ◌<◌, ◌≤◌, min, Bool, true, List, [], ◌∷◌, ◌++◌, length, Result, Ok, Err}
use Rattle.ritas_base.specs.declared.event.Event.{Event}
use Rattle.outside.specs.Disks.{DiskState, LeavesOnly, disk_state_of}
use Rattle.outside.specs.Faults.{count_after}
use Rattle.outside.specs.Links.{LinkAct, Starts}
use Rattle.outside.specs.Writing.{TookFront}
use Rattle.outside.specs.declared.disk.Disk.{Ghosts as DiskGhosts}
use Rattle.outside.specs.declared.link.LinkPlan.{LinkPlan}
use Rattle.schedule_file.specs.FileBytes.{limit}
use Rattle.schedule_file.specs.ReadHeader.{heading}
use Rattle.schedule_file.specs.Spelling.{FrontOf, header_text}
use Rattle.schedule_file.specs.declared.header.Header.{Header}
use Rattle.world_model.specs.World.{Setting}
use Rattle.cluster_config.specs.declared.node.NodeConfig.{NodeConfig}
use Rattle.event_journal.specs.Appending.{AllOpen}
use Rattle.event_journal.specs.Head.{head_of}
use Rattle.event_journal.specs.Journal.{OpensAs, closed_front, records}
use Rattle.event_journal.specs.Reading.{IsBroken, IsForeign, OpensAsKept}
use Rattle.event_journal.specs.declared.fault.JournalFault.{JournalFault}
use Rattle.event_journal.specs.declared.fault.JournalFault.TheVariants as journal_faults
use Rattle.node_loop.specs.declared.archive.ArchiveFault.{ArchiveFault}
use Rattle.node_loop.specs.declared.archive.ArchiveFault.TheVariants as archive
use Rattle.node_loop.specs.declared.end.ServeEnd.{ServeEnd}
use Rattle.node_loop.specs.declared.end.ServeEnd.TheVariants as ends
use Rattle.node_loop.specs.Archives.{Moment, Reach, KeptAt, moment}
use Rattle.node_loop.specs.Journals.{OpensNewest, OpensSome}
use Rattle.node_loop.specs.Keeping.{kept_of}
use Rattle.node_loop.specs.Outs.{Outs, Tells, NoneFailed}
use Rattle.node_loop.specs.Recovering.{earlier_with, recovered, recalled_deeds, with_past}
use Rattle.node_loop.specs.ServedKept.{BreaksOff, earlier_kept, newest_kept}
use Rattle.node_loop.specs.Serving.{Serving, so_far, Want, wants, Round}
use Rattle.node_loop.specs.Told.{AreGroups, after_groups, told_from, newest_calls, sooner, deeds_from}
use Rattle.schedule_replay.specs.Layers.{setting_of}
use Rattle.node_session.specs.Configs.{node_header, node_session}
use Rattle.node_session.specs.Opening.{HasBegun}
use Rattle.node_session.specs.Session.{IsTrueSession, SessionEnds, TookPart}
use Rattle.node_session.specs.declared.session.Session.{Session}

-- ---- the disk

-- a disk before a call and after it: whether it tells, its states, and its counts of faults
pub record DiskSeen : Type 0 where
  pub tells : Bool
  pub before : List DiskState
  pub now : List DiskState
  pub few : ℕ
  pub many : ℕ

abbrev pub disk_seen : {D : Type 0} → DiskGhosts D → D → D → DiskSeen
disk_seen storage old new = record {
  tells = storage.tells;
  before = storage.told old;
  now = storage.told new;
  few = storage.faults old;
  many = storage.faults new;
}

-- an image is one from before or opens as one of these, or it opens as the past events and the first of the given ones
abbrev pub IsOfLife : ℕ → List ℕ → List Event → List Event → DiskState → List ℕ → Type 0
IsOfLife me head past given s image = OpensAsKept me head s image ⊎ OpensSome me head past given image

-- every image opens now as the past and the given events, and at each moment as the past ones and the first of the given, or as one from before; and no
-- call of the disk failed
pub record DiskKeeps (me : ℕ) (head : List ℕ) (past : List Event) (d : DiskSeen) (given : List Event) : Type 0 where
  pub images : d.tells ≡ true → AllOpen me head (given ++ past) (disk_state_of d.now)
  pub since : d.tells ≡ true → LeavesOnly (IsOfLife me head past given (disk_state_of d.before)) d.before d.now
  pub none_failed : d.many ≡ d.few

-- with the newest group of events the file would be so long, up to 2^64 - 1, which is too long: every image opens as the others
abbrev pub IsJournalTooLong : ℕ → List ℕ → List Event → DiskSeen → List Event → List Event → ℕ → Type 0
IsJournalTooLong me head past d group older x = (limit < x)
    × (d.tells ≡ true → (x ≡ min (length (closed_front head (older ++ past)) + 1 + length (records group)) (2 ^ 64 - 1)) × AllOpen me head (older ++ past) (disk_state_of d.now))

-- The newest group of the given events couldn't be kept: every image opens as the others, with all of it or with none. One call of the disk failed where
-- that was the cause, and else none.
pub record DiskBreaks (me : ℕ) (head : List ℕ) (past : List Event) (d : DiskSeen) (fault : ArchiveFault) (group older : List Event) : Type 0 where
  pub left : d.tells ≡ true → OpensNewest me head past group older (disk_state_of d.now)
  pub since : d.tells ≡ true → LeavesOnly (IsOfLife me head past (group ++ older) (disk_state_of d.before)) d.before d.now
  pub later : d.few ≤ d.many
  pub one_failed : fault ≡ archive.Disk → d.many ≡ count_after d.few
  pub none_failed : fault ≢ archive.Disk → d.many ≡ d.few
  pub full : (x : ℕ) → fault ≡ archive.Full x → IsJournalTooLong me head past d group older x

-- ---- the ends

-- serving broke at a fault of the journal, where no call of the output or the link failed
pub record BrokeAt (h : Header) (plan : LinkPlan) (tells : Tells) (base now : Outs) (end : ServeEnd) (earlier events : List Event) (sooner news : List LinkAct) : Type 0 where
  pub mid : Outs
  pub begun : HasBegun (heading h) plan tells base mid
  pub stops : BreaksOff tells mid now end earlier events sooner news

-- each end: as of any session, or the newest group couldn't be kept
abbrev pub LifeEnds : Header → LinkPlan → Tells → Outs → Outs → ServeEnd → List Event → Serving → List LinkAct → List LinkAct → Want → Type 0
LifeEnds h plan tells base now ends.DiskFault earlier s sooner news rule =
    NoneFailed base now × TookPart h plan tells base now s.events (news ++ sooner) × BrokeAt h plan tells base now ends.DiskFault earlier s.events sooner news
LifeEnds h plan tells base now (ends.JournalFull x) earlier s sooner news rule =
    NoneFailed base now × TookPart h plan tells base now s.events (news ++ sooner) × BrokeAt h plan tells base now (ends.JournalFull x) earlier s.events sooner news
LifeEnds h plan tells base now end earlier s sooner news rule = SessionEnds h plan tells base now end earlier s sooner news rule

-- what is kept at each end: where the output failed, all events, or all before the newest group, of which nothing went out
abbrev pub LifeKept : Moment → Reach → List Event → List Event → List Event → ServeEnd → Type 0
LifeKept now far kept group older ends.TapeFault = now.stands kept ⊎ (far.none × now.stands older)
LifeKept now far kept group older end = KeptAt now far kept group older end

-- the output took the header and the text of these events
abbrev pub HasRecord : Header → Tells → Outs → Outs → List Event → Type 0
HasRecord h tells base now events = tells.tape ≡ true → now.taken ≡ base.taken ++ FrontOf (heading h) events

-- nothing went to the link behind its start and these calls
abbrev pub NothingMore : LinkPlan → Tells → Outs → Outs → List LinkAct → Type 0
NothingMore plan tells base now sooner = tells.link ≡ true → (now.told ≡ sooner ++ Starts plan ∷ base.told) ⊎ (now.told ≡ base.told)

-- the link wasn't started, and the output took the header at most
pub record NotBegun (h : Header) (tells : Tells) (base now : Outs) : Type 0 where
  pub taken : tells.tape ≡ true → TookFront base.taken now.taken (header_text (heading h))
  pub told : tells.link ≡ true → now.told ≡ base.told

-- nothing came of the newest group: the output took exactly the events before it, and nothing went to the link behind these calls; or there are no events
-- before it, and the session wasn't begun
abbrev pub NothingCame : Header → LinkPlan → Tells → Outs → Outs → List Event → List LinkAct → Type 0
NothingCame h plan tells base now earlier sooner =
    (HasRecord h tells base now earlier × (tells.link ≡ true → now.told ≡ sooner ++ Starts plan ∷ base.told)) ⊎ ((earlier ≡ []) × NotBegun h tells base now)

-- how far the output and the link came with the newest group
abbrev pub life_reach : Header → LinkPlan → Tells → Outs → Outs → List Event → List Event → List LinkAct → Reach
life_reach h plan tells base now earlier events sooner = record {
  whole = HasRecord h tells base now events;
  older = NothingCame h plan tells base now earlier sooner;
  none = NothingMore plan tells base now sooner;
}

-- There are groups of rounds of serving that began after the past events, each round what the rules say, after which the session ended so. The output
-- took the past events too, in front of the others.
pub record ServesLife (s : Session) (past : List Event) (w : Setting) (tells : Tells) (base : Outs) (now : Moment) (end : ServeEnd) : Type 0 where
  pub groups : List (List Round)
  pub are : AreGroups w past s.limits (recovered w past) groups
  pub so : LifeEnds s.header s.plan tells base now.outs end (earlier_with w past groups) (with_past past (after_groups w past (recovered w past) groups))
      (sooner w past (recovered w past) groups) (newest_calls w past (recovered w past) groups)
      (wants w past s.limits (after_groups w past (recovered w past) groups))
  pub kept : LifeKept now
      (life_reach s.header s.plan tells base now.outs (earlier_with w past groups) (so_far past (after_groups w past (recovered w past) groups)) (sooner w past (recovered w past) groups))
      (kept_of w past (after_groups w past (recovered w past) groups).events) (newest_kept w past (recovered w past) groups)
      (earlier_kept w past (recovered w past) groups) end
  pub true_of : IsTrueSession s.header w (so_far past (after_groups w past (recovered w past) groups)) (recalled_deeds w past)
      (deeds_from w past (recovered w past) [] groups) (told_from w past (recovered w past) groups)
  pub tape_later : base.tape_faults ≤ now.outs.tape_faults
  pub link_later : base.link_faults.failed ≤ now.outs.link_faults.failed

-- ---- a node

-- the head of the journal of a configuration's replica
abbrev pub head_in : NodeConfig → List ℕ
head_in config = head_of config.session config.p config.mode config.me config.key_row config.coin_key

-- The disk's file opened as past events, and a life began with these.
pub record ServesNode (config : NodeConfig) (tells : Tells) (base now : Outs) (d : DiskSeen) (end : ServeEnd) : Type 0 where
  pub past : List Event
  pub opened : d.tells ≡ true → OpensAs config.me (head_in config) (disk_state_of d.before).seen past
  pub life : ServesLife (node_session config) past (setting_of (node_header config)) tells base
      (moment now (DiskKeeps config.me (head_in config) past d) (DiskBreaks config.me (head_in config) past d)) end

-- the journal's fault is that of the disk's file, or one call of the disk failed
abbrev pub IsFaultOf : ℕ → List ℕ → DiskSeen → JournalFault → Type 0
IsFaultOf me head d (journal_faults.Foreign p) = d.tells ≡ true → IsForeign head (disk_state_of d.before).seen p
IsFaultOf me head d (journal_faults.Broken p) = d.tells ≡ true → IsBroken me head (disk_state_of d.before).seen p
IsFaultOf me head d (journal_faults.Full x) = (x ≡ limit + 1) × (d.tells ≡ true → limit < length (disk_state_of d.before).seen)
IsFaultOf me head d journal_faults.Disk = d.many ≡ count_after d.few
IsFaultOf me head d journal_faults.Mem = Unit {0}

-- The journal couldn't be opened, or memory ran out: every image is one from before, or opens as one of these. No call of the disk failed, unless that
-- was the cause.
pub record Unopened (config : NodeConfig) (d : DiskSeen) (fault : JournalFault) : Type 0 where
  pub cause : IsFaultOf config.me (head_in config) d fault
  pub since : d.tells ≡ true → LeavesOnly (OpensAsKept config.me (head_in config) (disk_state_of d.before)) d.before d.now
  pub later : d.few ≤ d.many
  pub none_failed : fault ≢ journal_faults.Disk → d.many ≡ d.few

-- ---- the cause

-- the disk failed while the journal was opened or kept
abbrev pub HasDiskFailed : Result ServeEnd JournalFault → Type 0
HasDiskFailed result = (result ≡ Ok ends.DiskFault) ⊎ (result ≡ Err journal_faults.Disk)
