-- Serving under way.
use Rattle.std.specs.Prelude.{◌≡◌, ℕ, List, [], ◌++◌, length}
use Rattle.ritas_base.specs.declared.event.Event.{Event}
use Rattle.keyed_channel.specs.KeyRow.{KeyRow}
use Rattle.ritas_core.specs.Stands.{Meaning}
use Rattle.outside.specs.declared.link.LinkItem.{LinkItem}
use Rattle.world_model.specs.World.{Setting}
use Rattle.node_loop.specs.declared.end.Fault.{Fault}
use Rattle.node_loop.specs.declared.end.Fault.TheVariants as faults
use Rattle.node_loop.specs.declared.house.House.{House}
use Rattle.node_loop.specs.declared.limits.Limits.{Limits}
use Rattle.node_loop.specs.declared.rounds.Next.{Next}
use Rattle.node_loop.specs.declared.rounds.Next.TheVariants as next
use Rattle.node_loop.specs.Serving.{Serving, so_far, Want, Ends, Finishes, Overflows, Turns, Closes, Halts, Reminds, Asks, Round, after_from, AreWantedFrom}
use Rattle.node_loop.specs.Queries.{RoundsFit, QueriesFit}
use Rattle.node_loop.specs.Told.{AreGroups, IsNewestOver, after_groups, given_in, told_from}
use Rattle.node_loop.specs.Outs.{Outs, Tells, Agrees}
use Rattle.node_loop.specs.Archives.{Moment}
use Rattle.node_loop.specs.declared.group.Group.{Group}
use Rattle.node_loop.specs.Groups.{Under}
use Rattle.node_loop.specs.Keeping.{kept_of}
use Rattle.node_loop.specs.Standing.{HouseStands}

-- it serves: these are the groups so far, whose queries fit, of its first items these are left, and
-- the archive stands for what is kept
pub record Running {S E C : Type 0} (m : Meaning S E C KeyRow) (w : Setting) (past : List Event) (numbers : List ℕ) (house : House S E C)
    (tells : Tells) (base : Outs) (now : Moment) (taken : ℕ) (limits : Limits) (start : Serving) (left : List LinkItem) : Type 0 where
  pub groups : List (List Round)
  pub are : AreGroups w past limits start groups
  pub queries : QueriesFit w past start groups
  pub over : IsNewestOver w past limits start groups
  pub rest : (after_groups w past start groups).left ≡ left
  pub count : taken ≡ (after_groups w past start groups).taken
  pub stands : HouseStands m w (so_far past (after_groups w past start groups)) numbers house (after_groups w past start groups).waiting (after_groups w past start groups).peers
  pub agrees : Agrees tells base now.outs (after_groups w past start groups).events (told_from w past start groups)
  pub kept : now.stands (kept_of w past (after_groups w past start groups).events)

-- A group is under way, behind older ones: each of its rounds is what the rules said, and fits, the
-- house stands after them, and the group holds what came of them. It has so many. Nothing of it was
-- delivered yet; the link gave its items.
pub record Gathered {S E C : Type 0} (m : Meaning S E C KeyRow) (w : Setting) (past : List Event) (numbers : List ℕ) (house : House S E C) (group : Group)
    (tells : Tells) (base : Outs) (now : Moment) (taken : ℕ) (limits : Limits) (start : Serving) (left : List LinkItem) (many : ℕ) : Type 0 where
  pub older : List (List Round)
  pub newest : List Round
  pub some : newest ≡ [] → ⊥
  pub count : length newest ≡ many
  pub before : AreGroups w past limits start older
  pub queries : QueriesFit w past start older
  pub over : IsNewestOver w past limits start older
  pub wanted : AreWantedFrom w past limits (after_groups w past start older) newest
  pub fit : RoundsFit w past (after_groups w past start older) newest
  pub rest : (after_from w past (after_groups w past start older) newest).left ≡ left
  pub items : taken ≡ (after_from w past (after_groups w past start older) newest).taken
  pub under : Under m w past numbers (after_groups w past start older) newest house group
  pub agrees : Agrees tells base now.outs (after_groups w past start older).events (given_in newest ++ told_from w past start older)
  pub kept : now.stands (kept_of w past (after_groups w past start older).events)

-- a fault of the tape
abbrev pub IsOfTape : Fault → Type 0
IsOfTape faults.Tape = Unit {0}
IsOfTape faults.Mem = ⊥
IsOfTape faults.Link = ⊥
IsOfTape faults.Disk = ⊥
IsOfTape (faults.Full x) = ⊥

-- what is done next is what is wanted, where none of the first items is left
abbrev pub IsNext : Want → Next → Type 0
IsNext Ends next.End = Unit {0}
IsNext Finishes next.Finish = Unit {0}
IsNext (Overflows x) (next.Overflow y) = x ≡ y
IsNext (Turns i) (next.Turn j) = i ≡ j
IsNext (Closes i a) (next.Close j b) = (i ≡ j) × (a ≡ b)
IsNext Halts next.Halt = Unit {0}
IsNext (Reminds i j) (next.Remind pair) = (i ≡ pair.at) × (j ≡ pair.peer)
IsNext Asks next.Ask = Unit {0}
IsNext want done = ⊥
