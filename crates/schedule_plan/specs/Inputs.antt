-- The inputs of a plan, which come first.
use Rattle.std.specs.Prelude.{ℕ, ◌+◌, ◌/◌, ◌%◌, ◌==◌, ◌||◌, Bool, not, List, [], ◌∷◌, ◌++◌, map, min, if◌then◌else◌}
use Rattle.std.specs.List.{flat_map, range_with_len}
use Rattle.std.specs.Int.{w32, to_be_bytes}
use Rattle.ritas_base.specs.Slots.{is_atomic, within}
use Rattle.ritas_base.specs.declared.plan.Plan.{Plan}
use Rattle.ritas_base.specs.declared.plan.Attack.{Attack}
use Rattle.ritas_base.specs.declared.plan.Attack.TheVariants.{TwoFace, Flip}
use Rattle.world_model.specs.declared.player.Player.{Player}
use Rattle.world_model.specs.declared.player.Player.TheVariants.{Correct, Face}
use Rattle.world_model.specs.Players.{Step, Give}
use Rattle.schedule_plan.specs.Plans.{correct_of, players_of}

abbrev pub number_text : ℕ → List ℕ
number_text k = to_be_bytes w32 k

-- the input of value v in root services 3, 4 and 5
abbrev pub value_text : ℕ → ℕ → List ℕ
value_text root v = if root == 3 then v % 2 ∷ [] else number_text v

-- command k of a client: in root services 1 and 2 its number, and in those that order commands the client, the request and k
abbrev pub command_text : ℕ → ℕ → ℕ → ℕ → List ℕ
command_text root client request k = if is_atomic root then number_text client ++ number_text request ++ number_text k else number_text k

-- whether inputs are commands: in root services 3, 4 and 5 each replica proposes one value
abbrev pub takes_commands : ℕ → Bool
takes_commands root = not (within 3 5 root)

-- to how many correct replicas each command goes: to one, and where commands are ordered to as many as the plan says, at most to all
abbrev pub copies_of : Plan → ℕ
copies_of p = if is_atomic p.mode.root then min p.copies (correct_of p) else 1

-- the commands go to the correct replicas in turn: command k to the one at k, and its next copies to those behind
abbrev pub copy_at : Plan → ℕ → ℕ → Step
copy_at p k t = Give (Correct ((k + t) % correct_of p)) (command_text p.mode.root (k % correct_of p) k k)

abbrev pub command_at : Plan → ℕ → List Step
command_at p k = map (copy_at p k) (range_with_len 0 (copies_of p))

-- each correct replica gets one value, of so many different ones
abbrev pub value_input : Plan → ℕ → Step
value_input p i = Give (Correct i) (value_text p.mode.root (i % p.commands))

abbrev pub correct_inputs : Plan → List Step
correct_inputs p =
    if takes_commands p.mode.root then flat_map (command_at p) (range_with_len 0 p.commands)
    else (if p.commands == 0 then [] else map (value_input p) (range_with_len 0 (correct_of p)))

-- a face that exchanges bits gets the value of its replica, and each of two faces one of its own
abbrev pub flip_inputs : Plan → Player → List Step
flip_inputs p (Correct i) = []
flip_inputs p (Face a) = if takes_commands p.mode.root || p.commands == 0 then [] else Give (Face a) (value_text p.mode.root (a / 2 % p.commands)) ∷ []

abbrev pub own_text : ℕ → ℕ → List ℕ
own_text root a = if takes_commands root then command_text root a 0 a else value_text root a

abbrev pub two_inputs : Plan → Player → List Step
two_inputs p (Correct i) = []
two_inputs p (Face a) = Give (Face a) (own_text p.mode.root a) ∷ []

-- what a player is given as a face
abbrev pub given_to : Plan → Attack → Player → List Step
given_to p Flip x = flip_inputs p x
given_to p TwoFace x = two_inputs p x
given_to p _ x = []

abbrev pub face_inputs : Plan → Attack → List Step
face_inputs p attack = flat_map (given_to p attack) (players_of p)

-- the oldest first
abbrev pub inputs_of : Plan → List Step
inputs_of p = correct_inputs p ++ face_inputs p p.attack
