-- A stage as steps are taken.
use Rattle.std.proofs.Common.{◌≡◌, ◌≢◌, ℕ, ◌-◌, ◌^◌, ◌<◌, ◌==◌, ◌&&◌, Bool, true, false, not, List, [], ◌∷◌, length, reverse, Result, Ok, Err, IsErrAnd, sym, ◌∙◌, ap, ap₂, subst, if◌then◌else◌, arith}
use Rattle.std.proofs.lemmas.Bool.{ne_eqb}
use Rattle.ritas_base.specs.declared.event.Event.{Event}
use Rattle.ritas_base.specs.declared.plan.Plan.{Plan}
use Rattle.ritas_base.specs.declared.what.DriveWhat.{DriveWhat}
use Rattle.keyed_channel.specs.Keyed.{CoinSeed}
use Rattle.keyed_channel.specs.KeyRow.{KeyRow}
use Rattle.ritas_core.specs.Stands.{Meaning}
use Rattle.replica.specs.Frames.{made_for}
use Rattle.world_model.specs.declared.seen.Seen.{Seen}
use Rattle.world_model.specs.declared.player.Player.TheVariants.{Correct}
use Rattle.world_model.specs.Counts.{counted_event, counts_of, total}
use Rattle.world_model.specs.Forging.{IsPlay}
use Rattle.world_model.specs.Players.{Cast, Scene, Step, IsStep, player_frames}
use Rattle.world_model.specs.Stands.{frames_from, WorldStands}
use Rattle.world_model.specs.World.{Setting, rules_at, states_of, seen_of}
use Rattle.schedule_replay.proofs.Totals.{all_counted}
use Rattle.schedule_plan.specs.Plans.{cast_of, face_a, face_b}
use Rattle.schedule_plan.specs.Schedule.{events_by}
use Rattle.schedule_plan.proofs.Showing.{attacks_show}
use Rattle.schedule_stage.specs.declared.halt.Halt.{Halt}
use Rattle.schedule_stage.specs.declared.halt.Halt.TheVariants as halts
use Rattle.schedule_stage.specs.declared.stage.Stage.{Stage}
use Rattle.schedule_stage.specs.Faces.{IsFaces, TellsFace}
use Rattle.schedule_stage.specs.Stage.{IsStage, Reaches}
use Rattle.schedule_stage.specs.Stepping.{Happens, ComesToFace, Rests}
use Rattle.schedule_stage.specs.Tape.{IsTape, Tapes}
use Rattle.schedule_stage.specs.Worlds.{world_in, HaltsBy}
use Rattle.schedule_stage.proofs.Taping.{few_steps}
use Rattle.schedule_stage.proofs.Untold.{untold}

module _ {S E : Type 0} (m : Meaning S E CoinSeed KeyRow) (p : Plan) (what : DriveWhat) where
  -- ---- what is so of a stage

  -- its steps are a play
  pub play_of : (stage : Stage S E) (steps : List Step) → IsStage m p what stage steps → IsPlay m.service m.cast (world_in m p) (cast_of p.attack) steps
  play_of stage steps stands = record {
    kind = stands.world.kind;
    going = stands.world.going;
    shows = attacks_show (world_in m p) p.attack;
    steps_are = stands.are_steps;
  }

  -- it has few events
  pub few_events : (stage : Stage S E) (steps : List Step) → IsStage m p what stage steps → length (events_by (world_in m p) p steps) < 2 ^ 64 - 1
  few_events stage steps stands =
      let same : length (events_by (world_in m p) p steps) ≡ total stage.tape.counts =
      all_counted (world_in m p) (events_by (world_in m p) p steps) ∙ ap total (sym stands.counts) in
      let most = stage.tape.counted in
      let few = stage.tape.few in
      omega (arith, same, most, few)

  -- ---- steps

  -- an event happened
  pub goes_on : (old new : Stage S E) (step : Step) (steps : List Step) (e : Event) (seen : Seen) → IsStage m p what old steps → Happens (world_in m p) p steps step e
      → WorldStands m new.world (world_in m p) (e ∷ events_by (world_in m p) p steps) → seen ≡ seen_of (world_in m p) (events_by (world_in m p) p steps) e
      → new.tape.counts ≡ counted_event seen old.tape.counts → IsFaces m p new.faces steps → IsTape (world_in m p) p what new.tape (step ∷ steps)
      → IsStage m p what new (step ∷ steps)
  unfolding counts_of
  goes_on old new step steps e seen stands happens world is counts faces tape =
      let w = world_in m p in
      record {
        header = stands.header;
        world = subst (WorldStands m new.world w) (sym happens.events) world;
        counts = counts ∙ ap₂ counted_event is stands.counts ∙ ap (counts_of w) (sym happens.events);
        faces = untold m p new.faces step steps faces happens.untold;
        tape = tape;
        are_steps = (happens.is, stands.are_steps);
      }

  -- no event happened
  pub stays : (old new : Stage S E) (step : Step) (steps : List Step) (r : Result (Unit {0}) Halt) → IsStage m p what old steps
      → IsStep (world_in m p) (cast_of p.attack) step → events_by (world_in m p) p (step ∷ steps) ≡ events_by (world_in m p) p steps
      → WorldStands m new.world (world_in m p) (events_by (world_in m p) p steps) → new.tape.counts ≡ old.tape.counts → IsFaces m p new.faces (step ∷ steps)
      → Tapes (world_in m p) p what new.tape (step ∷ steps) r → Reaches m p what new (step ∷ steps) r
  stays old new step steps (Err halt) stands is events world counts faces tape = tape
  stays old new step steps (Ok done) stands is events world counts faces tape =
      let w = world_in m p in
      record {
        header = stands.header;
        world = subst (WorldStands m new.world w) (sym events) world;
        counts = counts ∙ stands.counts ∙ ap (counts_of w) (sym events);
        faces = faces;
        tape = tape;
        are_steps = (is, stands.are_steps);
      }

  pub rests_so : (old new : Stage S E) (step : Step) (steps : List Step) (r : Result (Unit {0}) Halt) → IsStage m p what old steps → Rests (world_in m p) p steps step
      → WorldStands m new.world (world_in m p) (events_by (world_in m p) p steps) → new.tape.counts ≡ old.tape.counts → IsFaces m p new.faces steps
      → Tapes (world_in m p) p what new.tape (step ∷ steps) r → Reaches m p what new (step ∷ steps) r
  rests_so old new step steps r stands rests world counts faces tape =
      stays old new step steps r stands rests.is rests.events world counts (untold m p new.faces step steps faces rests.untold) tape

  -- what the faces are told where something comes to one
  pub tells_of : (stage : Stage S E) (step : Step) (steps : List Step) (a : ℕ) (e : Event) → IsStage m p what stage steps → ComesToFace (world_in m p) p steps step a e
      → TellsFace (world_in m p) p steps step a e
  tells_of stage step steps a e stands comes = record {
    to_a = comes.told face_a;
    to_b = comes.told face_b;
    may = comes.may;
    few = few_steps (world_in m p) p what stage.tape steps stands.tape;
  }

  -- ---- steps that aren't taken

  pub halts_so : (stage : Stage S E) (steps : List Step) (halt : Halt) (r : Result (Unit {0}) Halt) → IsErrAnd r (λ h. h ≡ halt) → HaltsBy (world_in m p) p steps halt
      → Reaches m p what stage steps r
  halts_so stage steps halt (Ok done) is halts = absurd is
  halts_so stage steps halt (Err h) is halts = subst (HaltsBy (world_in m p) p steps) (sym is) halts

  pub no_memory : (stage : Stage S E) (steps : List Step) (r : Result (Unit {0}) Halt) → IsErrAnd r (λ halt. halt ≡ halts.Mem) → Reaches m p what stage steps r
  no_memory stage steps r is = halts_so stage steps halts.Mem r is tt

-- ---- frames of correct replicas

both_pass : (a b : Bool) → a ≡ true → b ≡ false → (a && not b) ≡ true
both_pass a b e f = ap₂ (λ (x y : Bool). x && not y) e f

-- those that a correct replica made for another one are its own as a player
pub own_frames : (w : Setting) (c : Cast) (s : Scene) (i j : ℕ) → w.is_correct i ≡ true → i ≢ j
    → frames_from w (states_of w s.events) i j ≡ player_frames w c s (Correct i) j
own_frames w c s i j correct apart =
    ap (λ (b : Bool). if b then reverse (made_for (rules_at w i) (w.keys i) (states_of w s.events i).history j) else [])
    (both_pass (w.is_correct i) (i == j) correct (ne_eqb i j apart))
