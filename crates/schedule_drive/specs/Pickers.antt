-- What a picker knows of the choices that are open.
use Rattle.std.specs.Prelude.{◌≡◌, ◌≢◌, ℕ, ◌+◌, ◌≤◌, Bool, not, List, ◌∷◌, map, length, take, Option, Some, None, Result, Ok, Err, if◌then◌else◌}
use Rattle.std.specs.List.{slice_get}
use Rattle.ritas_base.specs.declared.plan.Plan.{Plan}
use Rattle.world_model.specs.World.{Setting}
use Rattle.world_model.specs.declared.player.Player.{Player}
use Rattle.world_model.specs.Players.{Step, Give, Go, Carry, Throw, AreSteps, state_at, scene_of}
use Rattle.schedule_plan.specs.Plans.{cast_of, players_of, linked_from}
use Rattle.schedule_plan.specs.Sweeps.{FrameCounts, frame_counts}
use Rattle.schedule_plan.specs.Picks.{Passed, has_some, has_passed, passes_once}
use Rattle.schedule_plan.specs.Picks as picks
use Rattle.schedule_plan.specs.Picks.{Picking}
use Rattle.ritas_base.specs.declared.what.DriveWhat.{DriveWhat}
use Rattle.keyed_channel.specs.Keyed.{CoinSeed}
use Rattle.keyed_channel.specs.KeyRow.{KeyRow}
use Rattle.ritas_core.specs.Stands.{Meaning}
use Rattle.schedule_stage.specs.declared.halt.Halt.{Halt}
use Rattle.schedule_stage.specs.declared.stage.Stage.{Stage}
use Rattle.schedule_stage.specs.Stage.{IsStage}
use Rattle.schedule_stage.specs.Worlds.{world_in, HaltsBy}
use Rattle.schedule_drive.specs.declared.picker.Choice.{Choice}
use Rattle.schedule_drive.specs.declared.picker.Choice.TheVariants as choices
use Rattle.schedule_drive.specs.declared.picker.Picker.{Picker}
use Rattle.schedule_drive.specs.declared.sender.Link.{Link}
use Rattle.schedule_drive.specs.declared.sender.Sender.{Sender}
use Rattle.schedule_drive.specs.declared.sender.Sent.{Sent}
use Rattle.schedule_drive.specs.Lanes.{numbers_left, has_left, IsLane}
use Rattle.schedule_drive.specs.Choices.{open_in, open_all, IsNth}

-- ---- after some steps of a plan

-- whether something waits at a player
abbrev pub waits_in : Setting → Plan → List Step → Player → Bool
waits_in w p steps y = has_some (state_at w (scene_of w (cast_of p.attack) steps) y).inbox

-- how many frames each player has made for each other
abbrev pub counts_in : Setting → Plan → List Step → FrameCounts
counts_in w p steps = frame_counts w (cast_of p.attack) (scene_of w (cast_of p.attack) steps)

-- ---- one player

-- whether a frame hasn't passed
abbrev pub is_left : List Passed → Player → Player → ℕ → Bool
is_left passed x y m = not (has_passed passed x y m)

-- the frames of one player for another that haven't passed
abbrev pub open_numbers : (Player → ℕ) → List Passed → Player → Player → List ℕ
open_numbers count passed x y = numbers_left (count y) (is_left passed x y)

-- what has passed after this frame, if it is one
abbrev pub passed_after : List Passed → ℕ → Player → Player → Option ℕ → List Passed
passed_after passed u x y None = passed
passed_after passed u x y (Some m) = if passes_once u then record { from = x; to = y; number = m } ∷ passed else passed

-- the frames of x for a player, of which there are so many with those that passed, and whether there is one that hasn't
pub record IsLink (p : Plan) (x : Player) (count : Player → ℕ) (passed : List Passed) (link : Link) (flag : Option Bool) : Type 0 where
  pub place : slice_get (players_of p) link.place ≡ Some link.player
  pub lane : IsLane link.lane (count link.player) (is_left passed x link.player)
  pub flag_is : flag ≡ Some (has_left (count link.player) (is_left passed x link.player))

-- the frames of a player for each that it is linked to
pub record IsSender (p : Plan) (count : Player → ℕ) (passed : List Passed) (s : Sender) : Type 0 where
  pub linked : map (λ l. l.player) s.links.items ≡ linked_from p s.player
  pub many : length s.row ≡ length s.links.items
  pub each : (i : ℕ) (link : Link) → slice_get s.links.items i ≡ Some link → IsLink p s.player count passed link (slice_get s.row i)

-- the frame of this number of x for y, if there is one
abbrev pub IsSent : Plan → Player → Player → Option ℕ → Option Sent → Type 0
IsSent p x y number None = number ≡ None
IsSent p x y number (Some sent) = (number ≡ Some sent.number) × (sent.from ≡ x) × (sent.to ≡ y) × (slice_get (players_of p) sent.place ≡ Some y)

-- ---- all players

-- what waits, how many frames there are and which have passed
pub record IsPicker (p : Plan) (waits : Player → Bool) (counts : FrameCounts) (passed : List Passed) (picker : Picker) : Type 0 where
  pub players : map (λ s. s.player) picker.senders.items ≡ players_of p
  pub many : length picker.turns ≡ length picker.senders.items
  pub turns : (r : ℕ) (s : Sender) → slice_get picker.senders.items r ≡ Some s → slice_get picker.turns r ≡ Some (waits s.player)
  pub senders : (r : ℕ) (s : Sender) → slice_get picker.senders.items r ≡ Some s → IsSender p (counts s.player) passed s

-- of each player to which others there is a frame
abbrev pub open_rows : Picker → List (List Bool)
open_rows picker = map (λ s. s.row) picker.senders.items

-- the open choice of this number, from 0, among the frames
pub record IsFrame (rows : List (List Bool)) (number from to : ℕ) : Type 0 where
  pub row : List Bool
  pub place : slice_get rows from ≡ Some row
  pub rest : ℕ
  pub number_is : number ≡ open_all (take from rows) + rest
  pub nth : IsNth row rest to

-- and among all choices: turns come first
abbrev pub IsChosen : Picker → ℕ → Choice → Type 0
IsChosen picker number (choices.Turn place) = IsNth picker.turns number place
IsChosen picker number (choices.Frame from to) = (k : ℕ) × (number ≡ open_in picker.turns + k) × IsFrame (open_rows picker) k from to

-- which choice of a plan that is
abbrev pub IsChoice : Plan → Choice → picks.Choice → Type 0
IsChoice p (choices.Turn place) (picks.Turning y) = slice_get (players_of p) place ≡ Some y
IsChoice p (choices.Frame from to) (picks.Passing x y) = (slice_get (players_of p) from ≡ Some x) × (slice_get (linked_from p x) to ≡ Some y)
IsChoice p _ _ = ⊥

-- ---- as steps are taken

-- what waits, and how many frames there are
pub record KnownFrames : Type 0 where
  pub waits : Player → Bool
  pub counts : FrameCounts

-- of y it is known what is so after these steps, and of the others what was known before
pub record IsUpdate (w : Setting) (p : Plan) (steps : List Step) (y : Player) (old new : KnownFrames) : Type 0 where
  pub waits_at : new.waits y ≡ waits_in w p steps y
  pub counts_at : (z : Player) → new.counts y z ≡ counts_in w p steps y z
  pub grown : (z : Player) → old.counts y z ≤ counts_in w p steps y z
  pub waits_else : (x : Player) → x ≢ y → new.waits x ≡ old.waits x
  pub counts_else : (x : Player) → x ≢ y → (z : Player) → new.counts x z ≡ old.counts x z

-- a step that comes to a player
abbrev pub ComesToPlayer : Step → Player → Type 0
ComesToPlayer (Go y) z = y ≡ z
ComesToPlayer (Carry x y m) z = y ≡ z
ComesToPlayer (Give x value) z = ⊥
ComesToPlayer (Throw from to rest) z = ⊥

-- the stage and the picker where the picks stand
pub record PickingStands {S E : Type 0} (m : Meaning S E CoinSeed KeyRow) (p : Plan) (what : DriveWhat) (stage : Stage S E) (picker : Picker) (q : Picking) : Type 0 where
  pub stage_is : IsStage m p what stage q.steps
  pub picker_is : IsPicker p (waits_in (world_in m p) p q.steps) (counts_in (world_in m p) p q.steps) q.passed picker
  pub steps_are : AreSteps (world_in m p) (cast_of p.attack) q.steps

-- they come to stand there, or a limit is passed on the way, or memory ran out
abbrev pub Goes : {S E : Type 0} → Meaning S E CoinSeed KeyRow → Plan → DriveWhat → Stage S E → Picker → Picking → Result (Unit {0}) Halt → Type 0
Goes m p what stage picker q (Ok done) = PickingStands m p what stage picker q
Goes m p what stage picker q (Err halt) = HaltsBy (world_in m p) p q.steps halt
