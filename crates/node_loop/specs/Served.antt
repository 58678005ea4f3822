-- What serving leaves, and how it ends.
use Rattle.std.specs.Prelude.{◌≡◌, ℕ, true, ◌==◌, ◌<◌, ◌^◌, List, ◌∷◌, ◌++◌, length, Some}
use Rattle.std.specs.List.{slice_get, list_any}
use Rattle.ritas_base.specs.Slots.{is_atomic}
use Rattle.ritas_base.specs.declared.event.Event.{Event}
use Rattle.keyed_channel.specs.KeyRow.{KeyRow}
use Rattle.ritas_core.specs.Stands.{Meaning}
use Rattle.replica.specs.declared.replica.Replica.{Replica}
use Rattle.outside.specs.declared.link.LinkItem.{LinkItem}
use Rattle.outside.specs.declared.link.LinkItem.TheVariants as items
use Rattle.outside.specs.Links.{LinkAct, Gives}
use Rattle.world_model.specs.World.{Setting, states_of}
use Rattle.world_model.specs.EveryWorld.{IsWorld}
use Rattle.world_model.specs.Stands.{NoneStops, IsReplica}
use Rattle.node_loop.specs.declared.limits.Limits.{Limits}
use Rattle.node_loop.specs.declared.end.Fault.TheVariants as faults
use Rattle.node_loop.specs.declared.end.ServeEnd.{ServeEnd}
use Rattle.node_loop.specs.declared.end.ServeEnd.TheVariants as ends
use Rattle.node_loop.specs.Serving.{Serving, begin, so_far, Want, Ends, Finishes, Overflows, Halts, Asks, wants, Round}
use Rattle.node_loop.specs.Told.{AreGroups, after_groups, before_newest, newest_calls, sooner}
use Rattle.node_loop.specs.Outs.{Outs, Tells, Agrees, StopsPartway}
use Rattle.node_loop.specs.Queries.{QueriesFit}

-- The replicas of a world that are here are its correct ones: replica k of the list is that of the k-th number, as it stands after these
-- events, and none is stopped.
pub record AreHere {S E C : Type 0} (m : Meaning S E C KeyRow) (w : Setting) (es : List Event) (numbers : List ℕ) (here : List (Replica S E C)) : Type 0 where
  pub kind : IsWorld m.service m.cast w
  pub going : NoneStops w
  pub atomic : is_atomic w.mode.root ≡ true
  pub many : length here ≡ length numbers
  pub apart : (j k i : ℕ) → slice_get numbers j ≡ Some i → slice_get numbers k ≡ Some i → j ≡ k
  pub named : (i : ℕ) → w.is_correct i ≡ list_any (λ j. j == i) numbers
  pub each : (k i : ℕ) (rep : Replica S E C) → slice_get numbers k ≡ Some i → slice_get here k ≡ Some rep → IsReplica m w (states_of w es) i rep

-- an item with which serving may begin
abbrev pub MayBegin : LinkItem → Type 0
MayBegin (items.Client at conn bytes) = length bytes < 2 ^ 16
MayBegin item = ⊥

-- serving ended for a reason: the tape took all its events, the link told all its calls, and the replicas stand where these leave them
pub record Whole {S E C : Type 0} (m : Meaning S E C KeyRow) (w : Setting) (past : List Event) (numbers : List ℕ) (here : List (Replica S E C))
    (tells : Tells) (base now : Outs) (s : Serving) (acts : List LinkAct) (rule reason : Want) : Type 0 where
  pub why : rule ≡ reason
  pub agrees : Agrees tells base now s.events acts
  pub stand : AreHere m w (so_far past s) numbers here

-- it broke at a fault
abbrev pub Breaks : Tells → Outs → Outs → ServeEnd → List Event → List Event → List LinkAct → List LinkAct → Type 0
Breaks tells base now ends.LinkFault earlier events sooner news = StopsPartway tells base now faults.Link earlier events sooner news
Breaks tells base now ends.TapeFault earlier events sooner news = StopsPartway tells base now faults.Tape earlier events sooner news
Breaks tells base now ends.Mem earlier events sooner news = StopsPartway tells base now faults.Mem earlier events sooner news
Breaks tells base now end earlier events sooner news = ⊥

-- Each end of serving that keeps no events, where the events before the newest group's are `earlier`, that group's calls are `news`, and those before
-- are `sooner`. Unless memory ran out, the replicas stand where all events leave them, also those that weren't written.
abbrev pub EndsSo : {S E C : Type 0} → Meaning S E C KeyRow → Setting → List Event → List ℕ → List (Replica S E C) → Tells → Outs → Outs → ServeEnd → List Event
    → Serving → List LinkAct → List LinkAct → Want → Type 0
EndsSo m w past numbers here tells base now ends.Over earlier s sooner news rule = Whole m w past numbers here tells base now s (news ++ sooner) rule Ends
EndsSo m w past numbers here tells base now ends.Done earlier s sooner news rule = Whole m w past numbers here tells base now s (news ++ sooner) rule Finishes
EndsSo m w past numbers here tells base now ends.Limit earlier s sooner news rule = Whole m w past numbers here tells base now s (news ++ sooner) rule Halts
EndsSo m w past numbers here tells base now ends.End earlier s sooner news rule = Whole m w past numbers here tells base now s (Gives items.End ∷ (news ++ sooner)) rule Asks
EndsSo m w past numbers here tells base now (ends.KeptFull x) earlier s sooner news rule = Whole m w past numbers here tells base now s (news ++ sooner) rule (Overflows x)
EndsSo m w past numbers here tells base now ends.LinkFault earlier s sooner news rule =
    Breaks tells base now ends.LinkFault earlier s.events sooner news × AreHere m w (so_far past s) numbers here
EndsSo m w past numbers here tells base now ends.TapeFault earlier s sooner news rule =
    Breaks tells base now ends.TapeFault earlier s.events sooner news × AreHere m w (so_far past s) numbers here
EndsSo m w past numbers here tells base now ends.Mem earlier s sooner news rule = Breaks tells base now ends.Mem earlier s.events sooner news
EndsSo m w past numbers here tells base now ends.DiskFault earlier s sooner news rule = ⊥
EndsSo m w past numbers here tells base now (ends.JournalFull x) earlier s sooner news rule = ⊥

-- There are groups of rounds, each round what the rules said, after which serving ended so. The
-- items that these took are those that the link gave, before its end: where it tells, each call but
-- those of the newest group is told. Each query of them, and the log that it found, fits a piece.
pub record Serves {S E C : Type 0} (m : Meaning S E C KeyRow) (w : Setting) (past : List Event) (numbers : List ℕ) (here : List (Replica S E C))
    (tells : Tells) (base now : Outs) (end : ServeEnd) (limits : Limits) (first : List LinkItem) : Type 0 where
  pub groups : List (List Round)
  pub are : AreGroups w past limits (begin first) groups
  pub queries : QueriesFit w past (begin first) groups
  pub so : EndsSo m w past numbers here tells base now end (before_newest w past (begin first) groups).events (after_groups w past (begin first) groups)
      (sooner w past (begin first) groups) (newest_calls w past (begin first) groups) (wants w past limits (after_groups w past (begin first) groups))
