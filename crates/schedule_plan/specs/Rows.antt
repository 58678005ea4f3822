-- Worked rows: the players of small plans, their links and inputs, garbage, what a face shows, limits, and whole schedules.
use Rattle.std.specs.Prelude.{◌≡◌, ℕ, true, false, List, [], ◌∷◌, ◌++◌, replicate, None, refl}
use Rattle.std.proofs.Common.{lit≤}
use Rattle.rand_core.specs.Pcg32Seed.{pcg32_seed}
use Rattle.rand_core.specs.Steps.{word_bytes, u32_at}
use Rattle.rand_pcg.specs.Pcg.{pcg32}
use Rattle.ritas_base.specs.Members.{has_member}
use Rattle.ritas_base.specs.Messages.{without, msg_cmp}
use Rattle.ritas_base.specs.declared.item.Kind.{Kind}
use Rattle.ritas_base.specs.declared.item.Kind.TheVariants as kinds
use Rattle.ritas_base.specs.declared.item.Msg.{Msg}
use Rattle.ritas_base.specs.declared.item.To.TheVariants.{All}
use Rattle.ritas_base.specs.declared.mode.Mode.{Mode}
use Rattle.ritas_base.specs.declared.mode.Vect.TheVariants.{Echo}
use Rattle.ritas_base.specs.declared.mode.FrameVersion.TheVariants.{One}
use Rattle.ritas_base.specs.declared.plan.Plan.{Plan}
use Rattle.ritas_base.specs.declared.plan.Order.{Order}
use Rattle.ritas_base.specs.declared.plan.Order.TheVariants.{Sweep, Random}
use Rattle.ritas_base.specs.declared.plan.Attack.{Attack}
use Rattle.ritas_base.specs.declared.plan.Attack.TheVariants.{Absent, Silent, TwoFace, Flip, Garbage}
use Rattle.ritas_base.specs.declared.slot.Slot.{Slot}
use Rattle.frame_codec.specs.Grammar.{class1}
use Rattle.frame_codec.specs.Inputs.{input_format}
use Rattle.atomic_bcast.specs.Commands.{commands, base_of}
use Rattle.reliable_bcast.specs.Bracha.{bracha}
use Rattle.ritas_core.specs.Checks.{input_check, verdict_on}
use Rattle.ritas_core.specs.Order.{ordered}
use Rattle.ritas_core.specs.Rules.{by_other}
use Rattle.world_model.specs.World.{Setting, states_of}
use Rattle.world_model.specs.declared.player.Player.TheVariants.{Correct, Face}
use Rattle.world_model.specs.Players.{Give, Go, Carry, Throw}
use Rattle.schedule_plan.specs.Flips.{other_bit, flipped, flip_body}
use Rattle.schedule_plan.specs.Plans.{correct_of, header_of, players_of, are_linked, linked_to, linked_from}
use Rattle.schedule_plan.specs.Inputs.{number_text, inputs_of}
use Rattle.schedule_plan.specs.Garbage.{words_start, throws_of}
use Rattle.schedule_plan.specs.Sweeps.{none_yet, carries}
use Rattle.schedule_plan.specs.Picks.{Turning, Passing, has_passed, passes_once, all_choices}
use Rattle.schedule_plan.specs.Schedule.{world_by, steps_of, step_limit, limit_met}

-- a plan with the echo broadcast of VECTs, whose drawn numbers start at 1
abbrev plan_with : ℕ → ℕ → Mode → Order → Attack → ℕ → Plan
plan_with n f mode order attack many = record {
  session = 0;
  p = record { n = n; f = f };
  mode = mode;
  master = replicate 32 0;
  order = order;
  attack = attack;
  start_number = 1;
  commands = many;
  copies = 1;
}

-- the same with more copies of each command
abbrev copied : ℕ → Plan → Plan
copied copies p = record p { copies = copies }

abbrev mode_1 : Mode
mode_1 = record { root = 1; vect = Echo; version = One; low = lit≤ tt; high = lit≤ tt }

abbrev mode_2 : Mode
mode_2 = record { root = 2; vect = Echo; version = One; low = lit≤ tt; high = lit≤ tt }

abbrev mode_3 : Mode
mode_3 = record { root = 3; vect = Echo; version = One; low = lit≤ tt; high = lit≤ tt }

abbrev mode_4 : Mode
mode_4 = record { root = 4; vect = Echo; version = One; low = lit≤ tt; high = lit≤ tt }

abbrev mode_5 : Mode
mode_5 = record { root = 5; vect = Echo; version = One; low = lit≤ tt; high = lit≤ tt }

abbrev mode_6 : Mode
mode_6 = record { root = 6; vect = Echo; version = One; low = lit≤ tt; high = lit≤ tt }

abbrev mode_7 : Mode
mode_7 = record { root = 7; vect = Echo; version = One; low = lit≤ tt; high = lit≤ tt }

-- in four replicas, of which one may be faulty
abbrev of_four : Mode → Attack → ℕ → Plan
of_four mode attack many = plan_with 4 1 mode Sweep attack many

-- ---- who plays

-- all replicas are correct where there is no attack, and else the first three of four
all_correct : correct_of (of_four mode_6 Absent 1) ≡ 4
all_correct = refl

three_correct : correct_of (of_four mode_6 Silent 1) ≡ 3
three_correct = refl

-- the header names them by a mask
all_named : (header_of (of_four mode_6 Absent 1)).correct ≡ 15
all_named = refl

three_named : (header_of (of_four mode_6 Garbage 1)).correct ≡ 7
three_named = refl

no_attack : players_of (of_four mode_6 Absent 1) ≡ Correct 0 ∷ Correct 1 ∷ Correct 2 ∷ Correct 3 ∷ []
no_attack = refl

no_face : players_of (of_four mode_6 Silent 1) ≡ Correct 0 ∷ Correct 1 ∷ Correct 2 ∷ []
no_face = refl

-- who throws garbage takes no steps of its own
no_face_throws : players_of (of_four mode_6 Garbage 1) ≡ Correct 0 ∷ Correct 1 ∷ Correct 2 ∷ []
no_face_throws = refl

-- the faces of replica 3 are 6 and 7
one_face : players_of (of_four mode_6 Flip 1) ≡ Correct 0 ∷ Correct 1 ∷ Correct 2 ∷ Face 6 ∷ []
one_face = refl

two_faces : players_of (of_four mode_6 TwoFace 1) ≡ Correct 0 ∷ Correct 1 ∷ Correct 2 ∷ Face 6 ∷ Face 7 ∷ []
two_faces = refl

-- ---- between whom frames go

-- face A has the correct replicas below 2, and face B the others
linked_to_a : linked_to (of_four mode_6 TwoFace 1) (Face 6) ≡ Correct 0 ∷ Correct 1 ∷ []
linked_to_a = refl

linked_to_b : linked_to (of_four mode_6 TwoFace 1) (Face 7) ≡ Correct 2 ∷ []
linked_to_b = refl

-- correct replicas are all linked, and replica 0 with face A
linked_to_0 : linked_to (of_four mode_6 TwoFace 1) (Correct 0) ≡ Correct 1 ∷ Correct 2 ∷ Face 6 ∷ []
linked_to_0 = refl

linked_from_2 : linked_from (of_four mode_6 TwoFace 1) (Correct 2) ≡ Correct 0 ∷ Correct 1 ∷ Face 7 ∷ []
linked_from_2 = refl

-- the only face of a replica is linked with all others
linked_to_one : linked_to (of_four mode_6 Flip 1) (Face 6) ≡ Correct 0 ∷ Correct 1 ∷ Correct 2 ∷ []
linked_to_one = refl

-- with two liars, face A of the one is linked with face A of the other
faces_link : linked_to (plan_with 7 2 mode_6 Sweep TwoFace 1) (Face 10) ≡ Correct 0 ∷ Correct 1 ∷ Correct 2 ∷ Face 12 ∷ []
faces_link = refl

-- but never with the other face of its own replica
own_face : are_linked (of_four mode_6 Flip 1) (Face 6) (Face 7) ≡ false
own_face = refl

-- ---- inputs

-- commands go to the correct replicas in turn
two_commands : inputs_of (of_four mode_1 Silent 2) ≡ Give (Correct 0) (0 ∷ 0 ∷ 0 ∷ 0 ∷ []) ∷ Give (Correct 1) (0 ∷ 0 ∷ 0 ∷ 1 ∷ []) ∷ []
two_commands = refl

four_commands : inputs_of (of_four mode_2 Garbage 4)
    ≡ Give (Correct 0) (0 ∷ 0 ∷ 0 ∷ 0 ∷ []) ∷ Give (Correct 1) (0 ∷ 0 ∷ 0 ∷ 1 ∷ []) ∷ Give (Correct 2) (0 ∷ 0 ∷ 0 ∷ 2 ∷ []) ∷ Give (Correct 0) (0 ∷ 0 ∷ 0 ∷ 3 ∷ []) ∷ []
four_commands = refl

-- a client of each replica: its number, the request, and the command's number
of_clients : inputs_of (of_four mode_6 Absent 2)
    ≡ Give (Correct 0) (0 ∷ 0 ∷ 0 ∷ 0 ∷ 0 ∷ 0 ∷ 0 ∷ 0 ∷ 0 ∷ 0 ∷ 0 ∷ 0 ∷ []) ∷ Give (Correct 1) (0 ∷ 0 ∷ 0 ∷ 1 ∷ 0 ∷ 0 ∷ 0 ∷ 1 ∷ 0 ∷ 0 ∷ 0 ∷ 1 ∷ []) ∷ []
of_clients = refl

-- each command goes to two of three correct replicas in turn, one after the other: its client is the first of them
abbrev command : ℕ → ℕ → List ℕ
command client k = 0 ∷ 0 ∷ 0 ∷ client ∷ 0 ∷ 0 ∷ 0 ∷ k ∷ 0 ∷ 0 ∷ 0 ∷ k ∷ []

two_copies : inputs_of (copied 2 (of_four mode_6 Silent 3))
    ≡ Give (Correct 0) (command 0 0) ∷ Give (Correct 1) (command 0 0) ∷ Give (Correct 1) (command 1 1) ∷ Give (Correct 2) (command 1 1)
    ∷ Give (Correct 2) (command 2 2) ∷ Give (Correct 0) (command 2 2) ∷ []
two_copies = refl

-- to each correct replica once, where there are no more of them than copies
four_copies : inputs_of (copied 4 (of_four mode_6 Silent 2))
    ≡ Give (Correct 0) (command 0 0) ∷ Give (Correct 1) (command 0 0) ∷ Give (Correct 2) (command 0 0)
    ∷ Give (Correct 1) (command 1 1) ∷ Give (Correct 2) (command 1 1) ∷ Give (Correct 0) (command 1 1) ∷ []
four_copies = refl

-- the fourth command is again of the first client
fourth_command : inputs_of (of_four mode_6 Silent 4)
    ≡ Give (Correct 0) (command 0 0) ∷ Give (Correct 1) (command 1 1) ∷ Give (Correct 2) (command 2 2) ∷ Give (Correct 0) (command 0 3) ∷ []
fourth_command = refl

-- and so it is where commands are ordered by single lists
copies_of_direct : inputs_of (copied 2 (of_four mode_7 Silent 3)) ≡ inputs_of (copied 2 (of_four mode_6 Silent 3))
copies_of_direct = refl

-- in another root service each command goes to one replica
copies_of_one : inputs_of (copied 2 (of_four mode_1 Silent 2)) ≡ inputs_of (of_four mode_1 Silent 2)
copies_of_one = refl

copies_of_two : inputs_of (copied 2 (of_four mode_2 Silent 2)) ≡ inputs_of (of_four mode_2 Silent 2)
copies_of_two = refl

-- and values go to each
copied_values : inputs_of (copied 3 (of_four mode_4 Silent 2)) ≡ inputs_of (of_four mode_4 Silent 2)
copied_values = refl

-- a face that exchanges bits gets no command
flips_commands : inputs_of (of_four mode_2 Flip 1) ≡ Give (Correct 0) (0 ∷ 0 ∷ 0 ∷ 0 ∷ []) ∷ []
flips_commands = refl

-- and each of two faces one, with its own number
two_clients : inputs_of (of_four mode_6 TwoFace 0)
    ≡ Give (Face 6) (0 ∷ 0 ∷ 0 ∷ 6 ∷ 0 ∷ 0 ∷ 0 ∷ 0 ∷ 0 ∷ 0 ∷ 0 ∷ 6 ∷ []) ∷ Give (Face 7) (0 ∷ 0 ∷ 0 ∷ 7 ∷ 0 ∷ 0 ∷ 0 ∷ 0 ∷ 0 ∷ 0 ∷ 0 ∷ 7 ∷ []) ∷ []
two_clients = refl

two_direct_clients : inputs_of (of_four mode_7 TwoFace 0) ≡ inputs_of (of_four mode_6 TwoFace 0)
two_direct_clients = refl

-- each correct replica gets one value, of so many different ones, and the face that exchanges bits that of its replica
two_bits : inputs_of (of_four mode_3 Flip 2)
    ≡ Give (Correct 0) (0 ∷ []) ∷ Give (Correct 1) (1 ∷ []) ∷ Give (Correct 2) (0 ∷ []) ∷ Give (Face 6) (1 ∷ []) ∷ []
two_bits = refl

two_values : inputs_of (of_four mode_4 Silent 2)
    ≡ Give (Correct 0) (0 ∷ 0 ∷ 0 ∷ 0 ∷ []) ∷ Give (Correct 1) (0 ∷ 0 ∷ 0 ∷ 1 ∷ []) ∷ Give (Correct 2) (0 ∷ 0 ∷ 0 ∷ 0 ∷ []) ∷ []
two_values = refl

one_value : inputs_of (of_four mode_5 Garbage 1)
    ≡ Give (Correct 0) (0 ∷ 0 ∷ 0 ∷ 0 ∷ []) ∷ Give (Correct 1) (0 ∷ 0 ∷ 0 ∷ 0 ∷ []) ∷ Give (Correct 2) (0 ∷ 0 ∷ 0 ∷ 0 ∷ []) ∷ []
one_value = refl

-- of no different ones nobody gets one, but for two faces
no_value : inputs_of (of_four mode_4 Flip 0) ≡ []
no_value = refl

two_bits_always : inputs_of (of_four mode_3 TwoFace 0) ≡ Give (Face 6) (0 ∷ []) ∷ Give (Face 7) (1 ∷ []) ∷ []
two_bits_always = refl

-- ---- what a face shows that exchanges bits

abbrev at_class : ℕ → Slot
at_class class = record { class = class; a = 0; attempt = 0; bround = 1; step = 1; origin = 3 }

abbrev said : Kind → ℕ → List ℕ → Msg
said kind class value = record { to = All; kind = kind; slot = at_class class; value = value }

other_is_said : flipped (said kinds.Init 5 (0 ∷ [])) ≡ said kinds.Init 5 (1 ∷ [])
other_is_said = refl

-- no bit, no INIT, and no step of binary consensus are left
no_bit : other_bit (2 ∷ []) ≡ 2 ∷ []
no_bit = refl

echo_left : flipped (said kinds.Echo 5 (0 ∷ [])) ≡ said kinds.Echo 5 (0 ∷ [])
echo_left = refl

command_left : flipped (said kinds.Init 1 (0 ∷ [])) ≡ said kinds.Init 1 (0 ∷ [])
command_left = refl

-- the same on a body: its kind, its slot's nine bytes, and its value
body_flipped : flip_body (1 ∷ 5 ∷ replicate 8 0 ++ 1 ∷ []) ≡ 1 ∷ 5 ∷ replicate 8 0 ++ 0 ∷ []
body_flipped = refl

body_left : flip_body (1 ∷ 1 ∷ replicate 8 0 ++ 1 ∷ []) ≡ 1 ∷ 1 ∷ replicate 8 0 ++ 1 ∷ []
body_left = refl

-- ---- drawn numbers, and garbage of them

first_word : (pcg32 (words_start (of_four mode_1 Garbage 1))).0 ≡ 866585574
unfolding pcg32_seed word_bytes u32_at
first_word = refl

abbrev garbage_of : ℕ → ℕ → List ℕ
garbage_of first second = number_text first ++ number_text second ++ replicate 32 0

-- replica 3 throws a frame to each of the three others
three_thrown : (throws_of (of_four mode_1 Garbage 1) Garbage (words_start (of_four mode_1 Garbage 1))).0
    ≡ Throw 3 0 (garbage_of 866585574 2109535214) ∷ Throw 3 1 (garbage_of 3403630417 296513984) ∷ Throw 3 2 (garbage_of 4177522235 689909480) ∷ []
unfolding pcg32_seed word_bytes u32_at
three_thrown = refl

none_thrown : (throws_of (of_four mode_1 Silent 1) Silent (words_start (of_four mode_1 Silent 1))).0 ≡ []
none_thrown = refl

-- ---- sweeps and picks

-- of four frames the first was there at the sweep before
three_carried : carries (λ x y. 1) (λ x y. 4) (Correct 0) (Correct 1) ≡ Carry (Correct 0) (Correct 1) 1 ∷ Carry (Correct 0) (Correct 1) 2 ∷ Carry (Correct 0) (Correct 1) 3 ∷ []
three_carried = refl

none_carried : carries none_yet none_yet (Correct 0) (Correct 1) ≡ []
none_carried = refl

-- turns come before frames, and frames by sender and then by receiver
choices_in_order : all_choices (plan_with 2 0 mode_1 Random Absent 1)
    ≡ Turning (Correct 0) ∷ Turning (Correct 1) ∷ Passing (Correct 0) (Correct 1) ∷ Passing (Correct 1) (Correct 0) ∷ []
choices_in_order = refl

-- a frame is known by its sender, its receiver and its number
it_passed : has_passed (record { from = Correct 0; to = Face 6; number = 2 } ∷ []) (Correct 0) (Face 6) 2 ≡ true
it_passed = refl

other_receiver : has_passed (record { from = Correct 0; to = Face 6; number = 2 } ∷ []) (Correct 0) (Correct 6) 2 ≡ false
other_receiver = refl

other_number : has_passed (record { from = Correct 0; to = Face 6; number = 2 } ∷ []) (Correct 0) (Face 6) 3 ≡ false
other_number = refl

-- one of sixteen may come again: the test is on the word's second byte
comes_again : passes_once 4351 ≡ false
comes_again = refl

comes_once : passes_once 256 ≡ true
comes_once = refl

-- ---- limits

abbrev alone : Order → Plan
alone order = plan_with 1 0 mode_1 order Absent 1

abbrev world_alone : Order → Setting
world_alone order = world_by commands bracha (alone order)

-- one step meets none
one_step : limit_met (world_alone Sweep) (alone Sweep) (Go (Correct 0) ∷ []) ≡ None
unfolding limit_met step_limit
one_step = refl

-- ---- schedules

-- one replica: its input, and the turns that take its INIT, ECHO and READY
swept_alone : steps_of 5 (world_alone Sweep) (alone Sweep) ≡ Go (Correct 0) ∷ Go (Correct 0) ∷ Go (Correct 0) ∷ Give (Correct 0) (0 ∷ 0 ∷ 0 ∷ 0 ∷ []) ∷ []
unfolding steps_of states_of has_member input_check input_format class1 base_of ordered without by_other verdict_on msg_cmp
swept_alone = refl

-- where one choice is open, each number picks it
picked_alone : steps_of 5 (world_alone Random) (alone Random) ≡ Go (Correct 0) ∷ Go (Correct 0) ∷ Go (Correct 0) ∷ Give (Correct 0) (0 ∷ 0 ∷ 0 ∷ 0 ∷ []) ∷ []
unfolding steps_of states_of has_member input_check input_format class1 base_of ordered without by_other verdict_on msg_cmp pcg32_seed word_bytes u32_at
picked_alone = refl

-- of two replicas, whose inputs both wait, the first word picks the frame of the one for the other, and the second word its number
first_pick : steps_of 1 (world_by commands bracha (plan_with 2 0 mode_1 Random Absent 2)) (plan_with 2 0 mode_1 Random Absent 2)
    ≡ Carry (Correct 0) (Correct 1) 0 ∷ Give (Correct 1) (0 ∷ 0 ∷ 0 ∷ 1 ∷ []) ∷ Give (Correct 0) (0 ∷ 0 ∷ 0 ∷ 0 ∷ []) ∷ []
unfolding steps_of states_of has_member input_check input_format class1 base_of ordered without by_other verdict_on msg_cmp pcg32_seed word_bytes u32_at
first_pick = refl
