-- What a tape took and a link told while it was served, against what serving says.
use Rattle.std.specs.Prelude.{◌≡◌, ℕ, ◌≤◌, Bool, true, List, ◌++◌, reverse, Result, Ok, Err, OnOk, ◌⊎◌}
use Rattle.std.specs.List.{flat_map}
use Rattle.ritas_base.specs.declared.event.Event.{Event}
use Rattle.outside.specs.Faults.{count_after}
use Rattle.outside.specs.Links.{LinkAct, failed_once, short_once}
use Rattle.outside.specs.LinkCalls.{TookBack}
use Rattle.outside.specs.Writing.{TookFront}
use Rattle.outside.specs.declared.link.FaultCounts.{FaultCounts}
use Rattle.outside.specs.declared.link.Link.{Ghosts as LinkGhosts}
use Rattle.outside.specs.declared.sink.Sink.{Ghosts as SinkGhosts}
use Rattle.outside.specs.declared.link.LinkFault.{LinkFault}
use Rattle.outside.specs.declared.link.LinkFault.TheVariants as link_faults
use Rattle.schedule_file.specs.Spelling.{event_text}
use Rattle.node_loop.specs.declared.end.Fault.{Fault}
use Rattle.node_loop.specs.declared.end.Fault.TheVariants as faults

-- the bytes of events, in the order of the file
abbrev pub events_text : List Event → List ℕ
events_text events = flat_map event_text (reverse events)

-- a tape and a link: what was taken, what was told, how many calls of each failed, and how many of the link's were without memory
pub record Outs : Type 0 where
  pub taken : List ℕ
  pub tape_faults : ℕ
  pub told : List LinkAct
  pub link_faults : FaultCounts

-- a tape and a link as they are
abbrev pub outs_of : {K L : Type 0} → SinkGhosts K → LinkGhosts L → K → L → Outs
outs_of sink connection tape link = record {
  taken = sink.taken tape;
  tape_faults = sink.faults tape;
  told = connection.told link;
  link_faults = connection.faults link;
}

-- How often calls of a link failed or were without memory, where they ended so: as often as before, or once more. Where memory ran out it
-- may have been before a call, as a frame was made ready for it.
abbrev pub IsCounted : FaultCounts → FaultCounts → Result (Unit {0}) LinkFault → Type 0
IsCounted before now (Ok done) = now ≡ before
IsCounted before now (Err link_faults.Failed) = now ≡ failed_once before
IsCounted before now (Err link_faults.Mem) = (now ≡ before) ⊎ (now ≡ short_once before)

-- these calls of a link were to be made, the newest first: all were, or as many as came before a fault
pub record LinkGiven (tells : Bool) (acts old new : List LinkAct) (before now : FaultCounts) (result : Result (Unit {0}) LinkFault) : Type 0 where
  pub whole : tells ≡ true → OnOk result (new ≡ acts ++ old)
  pub back : tells ≡ true → TookBack old new acts
  pub later : before.failed ≤ now.failed
  pub count : IsCounted before now result

-- a link was given these calls, the newest first, or as many of them as came before a fault
abbrev pub LinkTook : {L : Type 0} → LinkGhosts L → List LinkAct → L → L → Result (Unit {0}) LinkFault → Type 0
LinkTook connection acts old new result =
    LinkGiven connection.tells acts (connection.told old) (connection.told new) (connection.faults old) (connection.faults new) result

-- no call of them failed, and none of the link was without memory
abbrev pub NoneFailed : Outs → Outs → Type 0
NoneFailed base now = (now.tape_faults ≡ base.tape_faults) × (now.link_faults ≡ base.link_faults)

-- one call of the tape failed, and none of the link did or was without memory
abbrev pub TapeFailed : Outs → Outs → Type 0
TapeFailed base now = (now.tape_faults ≡ count_after base.tape_faults) × (now.link_faults ≡ base.link_faults)

-- one call of the link failed, none was without memory, and none of the tape failed
abbrev pub LinkFailed : Outs → Outs → Type 0
LinkFailed base now = (now.tape_faults ≡ base.tape_faults) × (now.link_faults ≡ failed_once base.link_faults)

-- no call of them failed, and at most one of the link was without memory
abbrev pub FellShort : Outs → Outs → Type 0
FellShort base now = (now.tape_faults ≡ base.tape_faults) × ((now.link_faults ≡ base.link_faults) ⊎ (now.link_faults ≡ short_once base.link_faults))

-- whether a tape and a link tell
pub record Tells : Type 0 where
  pub tape : Bool
  pub link : Bool

-- of a tape and a link, by the bounds of each
abbrev pub tells_of : {K L : Type 0} → SinkGhosts K → LinkGhosts L → Tells
tells_of sink connection = record { tape = sink.tells; link = connection.tells }

-- since base, the tape took these events, the link told these calls, and none failed or was without memory
pub record Agrees (tells : Tells) (base now : Outs) (events : List Event) (acts : List LinkAct) : Type 0 where
  pub taken : tells.tape ≡ true → now.taken ≡ base.taken ++ events_text events
  pub told : tells.link ≡ true → now.told ≡ acts ++ base.told
  pub tape_stands : now.tape_faults ≡ base.tape_faults
  pub link_stands : now.link_faults ≡ base.link_faults

-- ---- at a fault, where the events before the newest group's are `earlier`, the calls of that group are `news`, and those before are `sooner`

-- it holds where the tape or the link failed
abbrev pub IfFailed : Fault → Type 0 → Type 0
IfFailed faults.Tape P = P
IfFailed faults.Link P = P
IfFailed faults.Mem P = Unit {0}
IfFailed faults.Disk P = P
IfFailed (faults.Full x) P = P

-- what ended it is the one call that failed, or, where memory ran out, at most one call of the link was without it; where it was what keeps
-- events, no call of the tape or the link failed
abbrev pub HasCauses : Outs → Outs → Fault → Type 0
HasCauses base now faults.Tape = TapeFailed base now
HasCauses base now faults.Link = LinkFailed base now
HasCauses base now faults.Mem = FellShort base now
HasCauses base now faults.Disk = NoneFailed base now
HasCauses base now (faults.Full x) = NoneFailed base now

-- the tape took all events
abbrev pub AllWritten : Tells → Outs → Outs → List Event → Type 0
AllWritten tells base now events = tells.tape ≡ true → now.taken ≡ base.taken ++ events_text events

-- the link told nothing of the newest group
abbrev pub NoneSent : Tells → Outs → Outs → List LinkAct → Type 0
NoneSent tells base now sooner = tells.link ≡ true → now.told ≡ sooner ++ base.told

-- nothing came of the newest group: the tape took exactly the events before it, and the link told nothing of it
abbrev pub NoneCame : Tells → Outs → Outs → List Event → List LinkAct → Type 0
NoneCame tells base now earlier sooner = AllWritten tells base now earlier × NoneSent tells base now sooner

-- The events of a group are written, and then kept, before its frames and its replies go out: where the tape fails none of these did; where the
-- link fails, or memory runs out, all events were written, unless it was while the group was gathered, as the link was asked for an item that joins
-- it: then nothing came of the group. Where the newest can't be kept they were written, and nothing went out.
abbrev pub InOrder : Tells → Outs → Outs → Fault → List Event → List Event → List LinkAct → Type 0
InOrder tells base now faults.Tape earlier events sooner = NoneSent tells base now sooner
InOrder tells base now faults.Link earlier events sooner = AllWritten tells base now events ⊎ NoneCame tells base now earlier sooner
InOrder tells base now faults.Mem earlier events sooner = AllWritten tells base now events ⊎ NoneCame tells base now earlier sooner
InOrder tells base now faults.Disk earlier events sooner = AllWritten tells base now events × NoneSent tells base now sooner
InOrder tells base now (faults.Full x) earlier events sooner = AllWritten tells base now events × NoneSent tells base now sooner

-- the tape took a front of the events' text, and the link told the calls that are sooner, and of the news a part
pub record StopsPartway (tells : Tells) (base now : Outs) (fault : Fault) (earlier events : List Event) (sooner news : List LinkAct) : Type 0 where
  pub taken : tells.tape ≡ true → TookFront base.taken now.taken (events_text events)
  pub told : tells.link ≡ true → TookBack (sooner ++ base.told) now.told news
  pub order : InOrder tells base now fault earlier events sooner
  pub tape_later : base.tape_faults ≤ now.tape_faults
  pub link_later : base.link_faults.failed ≤ now.link_faults.failed
  pub cause : HasCauses base now fault

-- ---- each outcome of a step that leads to these events and calls

abbrev pub StepsInOrder : {A : Type 0} → Tells → Outs → Outs → Result A Fault → List Event → List Event → List LinkAct → List LinkAct → List LinkAct → Type 0
StepsInOrder tells base now (Ok done) earlier events acts sooner news = Agrees tells base now events acts
StepsInOrder tells base now (Err fault) earlier events acts sooner news = StopsPartway tells base now fault earlier events sooner news
