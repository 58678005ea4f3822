-- The inputs of a plan, one at a time.
use Rattle.std.proofs.Common.{◌≡◌, ℕ, ◌+◌, ◌%◌, ◌/◌, ◌<◌, ◌==◌, ◌||◌, Bool, true, false, List, [], ◌∷◌, ◌++◌, map, length, drop, get_or, reverse, Result, sym, ◌∙◌, ap, ap₂, subst, if◌then◌else◌}
use Rattle.std.specs.List.{flat_map, range_with_len}
use Rattle.std.proofs.lemmas.Bool.{lt-ltb}
use Rattle.std.proofs.lemmas.List.{append-nil, at_drop_more}
use Rattle.std.proofs.lemmas.List.Concat.{flat_map-cons}
use Rattle.std.proofs.lemmas.Nat.{mod_below}
use Rattle.ritas_base.specs.declared.plan.Plan.{Plan}
use Rattle.ritas_base.specs.declared.what.DriveWhat.{DriveWhat}
use Rattle.keyed_channel.specs.Keyed.{CoinSeed}
use Rattle.keyed_channel.specs.KeyRow.{KeyRow}
use Rattle.layer_api.specs.Runs.{Has}
use Rattle.ritas_core.specs.Stands.{Meaning}
use Rattle.world_model.specs.World.{Setting}
use Rattle.world_model.specs.declared.player.Player.{Player}
use Rattle.world_model.specs.declared.player.Player.TheVariants.{Correct, Face}
use Rattle.world_model.specs.Players.{Step, Give, IsPlayer}
use Rattle.schedule_plan.specs.Plans.{correct_of, cast_of, players_of}
use Rattle.schedule_plan.specs.Inputs.{takes_commands, command_text, value_text, copies_of, copy_at, command_at, value_input, correct_inputs, flip_inputs, given_to, face_inputs, inputs_of}
use Rattle.schedule_plan.proofs.Planned.{IsPlanned, player_is, some_correct}
use Rattle.schedule_stage.specs.declared.halt.Halt.{Halt}
use Rattle.schedule_stage.specs.declared.stage.Stage.{Stage}
use Rattle.schedule_stage.specs.Stage.{IsStage, Reaches}
use Rattle.schedule_stage.specs.Worlds.{world_in}
use Rattle.schedule_drive.proofs.Running.{listed_at}
use Rattle.schedule_drive.proofs.Toward.{IsToward, Nears, in_parts, nears, up_to, next_up}

-- the first replicas are players
pub first_is : (w : Setting) (p : Plan) → IsPlanned w p → (i : ℕ) → i < correct_of p → IsPlayer w (cast_of p.attack) (Correct i)
first_is w p planned i below = planned.correct i ∙ lt-ltb i (correct_of p) below

pub copy_is : (p : Plan) (k behind client at : ℕ) (text : List ℕ) → client ≡ k % correct_of p → at ≡ (k + behind) % correct_of p → text ≡ command_text p.mode.root client k k
    → Give (Correct at) text ≡ copy_at p k behind
copy_is p k behind client at text first is says =
    ap (λ (t : List ℕ). Give (Correct at) t) (says ∙ ap (λ (i : ℕ). command_text p.mode.root i k k) first)
    ∙ ap (λ (i : ℕ). Give (Correct i) (command_text p.mode.root (k % correct_of p) k k)) is

pub value_is : (p : Plan) (i : ℕ) (text : List ℕ) → text ≡ value_text p.mode.root (i % p.commands) → Give (Correct i) text ≡ value_input p i
value_is p i text says = ap (λ (t : List ℕ). Give (Correct i) t) says

-- ---- the correct replicas

abbrev inputs_by : Plan → Bool → Bool → List Step
inputs_by p a b = if a then flat_map (command_at p) (range_with_len 0 p.commands) else (if b then [] else map (value_input p) (range_with_len 0 (correct_of p)))

pub commands_in : (p : Plan) → takes_commands p.mode.root ≡ true → correct_inputs p ≡ flat_map (command_at p) (range_with_len 0 p.commands)
commands_in p takes = ap (λ (a : Bool). inputs_by p a (p.commands == 0)) takes

pub nothing_in : (p : Plan) → takes_commands p.mode.root ≡ false → (p.commands == 0) ≡ true → correct_inputs p ≡ []
nothing_in p takes none = ap₂ (inputs_by p) takes none

pub values_in : (p : Plan) → takes_commands p.mode.root ≡ false → (p.commands == 0) ≡ false → correct_inputs p ≡ map (value_input p) (range_with_len 0 (correct_of p))
values_in p takes some = ap₂ (inputs_by p) takes some

-- ---- the faces

pub flipped_in : (p : Plan) (a : ℕ) (text : List ℕ) → takes_commands p.mode.root ≡ false → (p.commands == 0) ≡ false → text ≡ value_text p.mode.root (a / 2 % p.commands)
    → Give (Face a) text ∷ [] ≡ flip_inputs p (Face a)
flipped_in p a text takes some says =
    ap (λ (t : List ℕ). Give (Face a) t ∷ []) says
    ∙ sym (ap₂ (λ (x y : Bool). if x || y then [] else Give (Face a) (value_text p.mode.root (a / 2 % p.commands)) ∷ []) takes some)

-- ---- one input more

module _ {S E : Type 0} (m : Meaning S E CoinSeed KeyRow) (p : Plan) (what : DriveWhat) (planned : IsPlanned (world_in m p) p) (old new : Stage S E) (target : List Step) (r : Result (Unit {0}) Halt) where
  -- one copy of a command
  pub copy_given : (k behind : ℕ) → behind < copies_of p → IsToward m p what old (map (copy_at p k) (up_to behind (copies_of p))) target
      → ((steps : List Step) → IsStage m p what old steps → Reaches m p what new (copy_at p k behind ∷ steps) r)
      → Nears m p what new (map (copy_at p k) (up_to (behind + 1) (copies_of p))) target r
  copy_given k behind below toward gives =
      let next = ap (map (copy_at p k)) (next_up behind (copies_of p) below) in
      nears m p what old new (copy_at p k behind ∷ []) (map (copy_at p k) (up_to (behind + 1) (copies_of p))) _ target next toward r (gives toward.steps toward.stands)

  -- all copies of a command
  pub command_given : (k : ℕ) → k < p.commands → IsToward m p what old (flat_map (command_at p) (up_to k p.commands)) target
      → ((steps : List Step) → IsStage m p what old steps → Reaches m p what new (reverse (command_at p k) ++ steps) r)
      → Nears m p what new (flat_map (command_at p) (up_to (k + 1) p.commands)) target r
  command_given k below toward gives =
      let f = command_at p in
      let next = ap (flat_map f) (next_up k p.commands below) ∙ flat_map-cons f k (up_to (k + 1) p.commands) in
      nears m p what old new (f k) (flat_map f (up_to (k + 1) p.commands)) _ target next toward r (gives toward.steps toward.stands)

  pub value_given : (i : ℕ) (text : List ℕ) → i < correct_of p → text ≡ value_text p.mode.root (i % p.commands)
      → IsToward m p what old (map (value_input p) (up_to i (correct_of p))) target
      → ((steps : List Step) → IsStage m p what old steps → IsPlayer (world_in m p) (cast_of p.attack) (Correct i) → Reaches m p what new (Give (Correct i) text ∷ steps) r)
      → Nears m p what new (map (value_input p) (up_to (i + 1) (correct_of p))) target r
  value_given i text below says toward gives =
      let player = first_is (world_in m p) p planned i below in
      let next = ap (map (value_input p)) (next_up i (correct_of p) below) in
      nears m p what old new (value_input p i ∷ []) (map (value_input p) (up_to (i + 1) (correct_of p))) _ target next toward r
      (subst (λ (s : Step). Reaches m p what new (s ∷ toward.steps) r) (value_is p i text says) (gives toward.steps toward.stands player))

  -- what the player at this place of the list is given as a face
  pub face_given : (all : List Player) (i : ℕ) → all ≡ players_of p → i < length all
      → IsToward m p what old (flat_map (given_to p p.attack) (drop i all)) target
      → ((steps : List Step) → IsStage m p what old steps → IsPlayer (world_in m p) (cast_of p.attack) (get_or all i (Correct 0))
      → Reaches m p what new (reverse (given_to p p.attack (get_or all i (Correct 0))) ++ steps) r)
      → Nears m p what new (flat_map (given_to p p.attack) (drop (i + 1) all)) target r
  face_given all i are below toward gives =
      let f = given_to p p.attack in
      let x = get_or all i (Correct 0) in
      let listed = subst (λ (l : List Player). Has l x) are (listed_at all i (Correct 0) below) in
      nears m p what old new (f x) (flat_map f (drop (i + 1) all)) _ target (at_drop_more (flat_map f) all i (Correct 0) below) toward r
      (gives toward.steps toward.stands (player_is (world_in m p) p planned x listed))

-- ---- all

pub all_given : (p : Plan) → reverse (face_inputs p p.attack) ++ (reverse (correct_inputs p) ++ []) ≡ reverse (inputs_of p)
all_given p = sym (in_parts (correct_inputs p) (face_inputs p p.attack) []) ∙ append-nil (reverse (inputs_of p))
