-- A step that was picked is taken.
use Rattle.std.proofs.Common.{◌≡◌, ◌≢◌, ℕ, ◌%◌, ◌∷◌, length, Option, Some, None, Result, Err, refl, sym, ◌∙◌, ap, ap₂, subst}
use Rattle.std.specs.Prelude.{min}
use Rattle.std.specs.Result.{IsErrAnd}
use Rattle.std.specs.List.{slice_get}
use Rattle.std.proofs.lemmas.Result.{err_from_is_err_and}
use Rattle.rand_pcg.specs.Lcg.{Lcg}
use Rattle.ritas_base.specs.declared.plan.Plan.{Plan}
use Rattle.ritas_base.specs.declared.what.DriveWhat.{DriveWhat}
use Rattle.keyed_channel.specs.Keyed.{CoinSeed}
use Rattle.keyed_channel.specs.KeyRow.{KeyRow}
use Rattle.ritas_core.specs.Stands.{Meaning}
use Rattle.world_model.specs.World.{Setting}
use Rattle.world_model.specs.declared.player.Player.{Player}
use Rattle.world_model.specs.Players.{Step, Carry, AreSteps, IsPlayer, number_of}
use Rattle.world_model.proofs.Members.{got_listed}
use Rattle.schedule_plan.specs.Plans.{cast_of, players_of, linked_from}
use Rattle.schedule_plan.specs.Picks as picks
use Rattle.schedule_plan.specs.Picks.{Turning, Passing, Picking, frame_carried}
use Rattle.schedule_plan.proofs.Planned.{IsPlanned}
use Rattle.schedule_stage.specs.declared.halt.Halt.{Halt}
use Rattle.schedule_stage.specs.declared.stage.Stage.{Stage}
use Rattle.schedule_stage.specs.Stage.{IsStage}
use Rattle.schedule_stage.specs.Worlds.{world_in, HaltsBy}
use Rattle.schedule_drive.specs.declared.picker.Choice.TheVariants as choices
use Rattle.schedule_drive.specs.declared.picker.Picker.{Picker}
use Rattle.schedule_drive.specs.declared.sender.Sent.{Sent}
use Rattle.schedule_drive.specs.Pickers.{waits_in, counts_in, open_numbers, passed_after, IsSent, IsPicker, IsChoice, PickingStands, Goes}
use Rattle.schedule_drive.proofs.Senders.{AreApart, are_apart}

-- ---- which choice it is

pub record IsTurn (p : Plan) (place : ℕ) (choice : picks.Choice) : Type 0 where
  pub player : Player
  pub is : choice ≡ Turning player
  pub there : slice_get (players_of p) place ≡ Some player

pub turn_is : (p : Plan) (place : ℕ) (choice : picks.Choice) → IsChoice p (choices.Turn place) choice → IsTurn p place choice
turn_is p place (Turning y) is = record { player = y; is = refl; there = is }
turn_is p place (Passing x y) is = absurd is

pub record IsPass (p : Plan) (place at : ℕ) (choice : picks.Choice) : Type 0 where
  pub sender : Player
  pub receiver : Player
  pub is : choice ≡ Passing sender receiver
  pub there : slice_get (players_of p) place ≡ Some sender
  pub linked : slice_get (linked_from p sender) at ≡ Some receiver

pub pass_is : (p : Plan) (place at : ℕ) (choice : picks.Choice) → IsChoice p (choices.Frame place at) choice → IsPass p place at choice
pass_is p place at (Turning y) is = absurd is
pass_is p place at (Passing x y) is = record { sender = x; receiver = y; is = refl; there = is.0; linked = is.1 }

-- ---- the frame that is picked

-- the number that a word draws, of the frames that haven't passed
abbrev pub drawn : Setting → Plan → Picking → Player → Player → ℕ → Option ℕ
drawn w p q x y u =
    let frames = open_numbers (counts_in w p q.steps x) q.passed x y in
    slice_get frames (u % min 8 (length frames))

-- it is one of x for y, which are linked
pub record IsBetween (w : Setting) (p : Plan) (x y : Player) (number : Option ℕ) (sent : Sent) : Type 0 where
  pub is : IsSent p x y number (Some sent)
  pub apart : AreApart w p x y

pub sent_between : (w : Setting) (p : Plan) → IsPlanned w p → (x y : Player) (number : Option ℕ) (sent : Sent) (o : Option Sent) → o ≡ Some sent → IsSent p x y number o
    → (from to : ℕ) → slice_get (players_of p) from ≡ Some x → slice_get (linked_from p x) to ≡ Some y → IsBetween w p x y number sent
sent_between w p planned x y number sent o some is from to there linked = record {
  is = subst (IsSent p x y number) some is;
  apart = are_apart w p planned x y (got_listed (players_of p) from x there) (got_listed (linked_from p x) to y linked);
}

-- what is said of its step is said of one from x to y
pub between_them : (w : Setting) (p : Plan) (x y : Player) (number : Option ℕ) (sent : Sent) → IsBetween w p x y number sent → (P : Step → Type 0)
    → (IsPlayer w (cast_of p.attack) sent.from → IsPlayer w (cast_of p.attack) sent.to → number_of (cast_of p.attack) sent.from ≢ number_of (cast_of p.attack) sent.to
    → P (Carry sent.from sent.to sent.number))
    → P (Carry x y sent.number)
between_them w p x y number sent between P says =
    let c = cast_of p.attack in
    let from = subst (IsPlayer w c) (sym between.is.1) between.apart.from in
    let to = subst (IsPlayer w c) (sym between.is.2) between.apart.to in
    subst P (ap₂ (λ (a b : Player). Carry a b sent.number) between.is.1 between.is.2)
    (says from to (λ same. between.apart.differ (ap (number_of c) (sym between.is.1) ∙ same ∙ ap (number_of c) between.is.2)))

-- ---- what comes of it

module _ {S E : Type 0} (m : Meaning S E CoinSeed KeyRow) (p : Plan) (what : DriveWhat) (stage : Stage S E) (picker : Picker) where
  -- an error of a call is passed on
  pub goes_halt : (q : Picking) (result : Result (Unit {0}) Halt) (halt : Halt) → IsErrAnd result (λ h. h ≡ halt) → HaltsBy (world_in m p) p q.steps halt → Goes m p what stage picker q result
  goes_halt q result halt is by =
      let err = err_from_is_err_and result is in
      let same : result ≡ Err halt = err.1 ∙ ap (λ (h : Halt). Err h) err.2 in
      subst (Goes m p what stage picker q) (sym same) by

  -- no frame was there
  pub none_carried : (q : Picking) (g : Lcg) (u : ℕ) (x y : Player) (o : Option ℕ) → o ≡ None → IsStage m p what stage q.steps
      → IsPicker p (waits_in (world_in m p) p q.steps) (counts_in (world_in m p) p q.steps) (passed_after q.passed u x y o) picker
      → AreSteps (world_in m p) (cast_of p.attack) q.steps → PickingStands m p what stage picker (frame_carried q g u x y o)
  none_carried q g u x y o none stage_is picker_is are =
      subst (λ (o : Option ℕ). IsPicker p (waits_in (world_in m p) p q.steps) (counts_in (world_in m p) p q.steps) (passed_after q.passed u x y o) picker → PickingStands m p what stage picker (frame_carried q g u x y o))
      (sym none) (λ is. record { stage_is = stage_is; picker_is = is; steps_are = are }) picker_is

  pub one_carried : (q : Picking) (g : Lcg) (u : ℕ) (x y : Player) (o : Option ℕ) (k : ℕ) → o ≡ Some k → IsStage m p what stage (Carry x y k ∷ q.steps)
      → IsPicker p (waits_in (world_in m p) p (Carry x y k ∷ q.steps)) (counts_in (world_in m p) p (Carry x y k ∷ q.steps)) (passed_after q.passed u x y o) picker
      → AreSteps (world_in m p) (cast_of p.attack) (Carry x y k ∷ q.steps) → PickingStands m p what stage picker (frame_carried q g u x y o)
  one_carried q g u x y o k one stage_is picker_is are =
      subst (λ (o : Option ℕ). IsPicker p (waits_in (world_in m p) p (Carry x y k ∷ q.steps)) (counts_in (world_in m p) p (Carry x y k ∷ q.steps)) (passed_after q.passed u x y o) picker → PickingStands m p what stage picker (frame_carried q g u x y o))
      (sym one) (λ is. record { stage_is = stage_is; picker_is = is; steps_are = are }) picker_is

pub carried_halts : (w : Setting) (p : Plan) (q : Picking) (g : Lcg) (u : ℕ) (x y : Player) (o : Option ℕ) (k : ℕ) (halt : Halt) → o ≡ Some k
    → HaltsBy w p (Carry x y k ∷ q.steps) halt → HaltsBy w p (frame_carried q g u x y o).steps halt
carried_halts w p q g u x y o k halt one by = subst (λ (o : Option ℕ). HaltsBy w p (frame_carried q g u x y o).steps halt) (sym one) by
