-- Some bodies and their answers, and some inputs and what is wrong with them, where there are four replicas and one may
-- be faulty.
use Rattle.std.specs.Prelude.{◌≡◌, ℕ, ◌+◌, List, [], ◌∷◌, ◌++◌, take, Some, None, Result, Ok, Err, replicate, map, refl}
use Rattle.std.specs.List.{range_with_len}
use Rattle.std.proofs.Common.{lit≤}
use Rattle.std.specs.Int.RustNames.{count_ones}
use Rattle.ritas_base.specs.Members.{has_member, member_count}
use Rattle.ritas_base.specs.Numbers.{Numbers}
use Rattle.ritas_base.specs.Slots.{has_class, slot_fault, by_echo, form_of}
use Rattle.ritas_base.specs.declared.slot.SlotFault.TheVariants.{Class, Closed, Number, Attempt, Round, Step, Origin, Whole}
use Rattle.ritas_base.specs.declared.mode.Mode.{Mode}
use Rattle.ritas_base.specs.declared.mode.Vect.TheVariants.{Echo}
use Rattle.ritas_base.specs.declared.mode.FrameVersion.TheVariants.{One, Two, Three}
use Rattle.ritas_base.specs.declared.item.Kind.{Kind as a_kind}
use Rattle.ritas_base.specs.declared.item.Kind.TheVariants as kinds
use Rattle.ritas_base.specs.declared.item.Item.{Item}
use Rattle.ritas_base.specs.declared.id.Id.{Id}
use Rattle.ritas_base.specs.declared.item.Kind.TheVariants.{Init}
use Rattle.ritas_base.specs.Limits.{longest_input}
use Rattle.frame_codec.specs.Limits.{longest_entry}
use Rattle.frame_codec.specs.declared.fault.BodyFault.{BodyFault}
use Rattle.frame_codec.specs.declared.fault.BodyFault.TheVariants.{Kind, Slot as SlotWrong, Payload, Rest}
use Rattle.frame_codec.specs.Grammar.{ids_from, ids, any_ids, class1, class2, class3, vect, bit, value, digest, payload}
use Rattle.frame_codec.specs.Body.{slot_of, head_answer, body_answer}
use Rattle.frame_codec.specs.Inputs.{input_format, input_fault}
use Rattle.frame_codec.specs.Values.{ids_bytes, mask_of, at_place, rows_in, column_row}

abbrev four : Numbers
four = record { n = 4; f = 1 }

abbrev many : Numbers
many = record { n = 31; f = 10 }

-- the root services

abbrev one : Mode
one = record { root = 1; vect = Echo; version = One; low = lit≤ tt; high = lit≤ tt }

abbrev three : Mode
three = record { root = 3; vect = Echo; version = One; low = lit≤ tt; high = lit≤ tt }

abbrev fourth : Mode
fourth = record { root = 4; vect = Echo; version = One; low = lit≤ tt; high = lit≤ tt }

abbrev five : Mode
five = record { root = 5; vect = Echo; version = One; low = lit≤ tt; high = lit≤ tt }

abbrev six : Mode
six = record { root = 6; vect = Echo; version = One; low = lit≤ tt; high = lit≤ tt }

abbrev seven : Mode
seven = record { root = 7; vect = Echo; version = One; low = lit≤ tt; high = lit≤ tt }

-- ---- bodies, from replica 2

-- an INIT of replica 0
abbrev init : ℕ → ℕ → ℕ → List ℕ → Result Item BodyFault
init class bround step value = Ok (record {
  from = 2;
  kind = Init;
  slot = record { class = class; a = 0; attempt = 0; bround = bround; step = step; origin = 0 };
  value = value;
})

empty : body_answer four one 2 [] ≡ Err Kind
unfolding body_answer head_answer slot_of slot_fault has_class by_echo form_of payload digest value class1 class2 class3 vect bit ids ids_from
empty = refl

no_such_kind : body_answer four one 2 (7 ∷ 1 ∷ 0 ∷ 0 ∷ 0 ∷ 0 ∷ 0 ∷ 0 ∷ 0 ∷ 0 ∷ 97 ∷ []) ≡ Err Kind
unfolding body_answer head_answer slot_of slot_fault has_class by_echo form_of payload digest value class1 class2 class3 vect bit ids ids_from
no_such_kind = refl

send_at_a_reliable_broadcast : body_answer four one 2 (4 ∷ 1 ∷ 0 ∷ 0 ∷ 0 ∷ 0 ∷ 0 ∷ 0 ∷ 0 ∷ 0 ∷ 97 ∷ []) ≡ Err Kind
unfolding body_answer head_answer slot_of slot_fault has_class by_echo form_of payload digest value class1 class2 class3 vect bit ids ids_from
send_at_a_reliable_broadcast = refl

no_whole_slot : body_answer four one 2 (1 ∷ 1 ∷ 0 ∷ []) ≡ Err (SlotWrong Whole)
unfolding body_answer head_answer slot_of slot_fault has_class by_echo form_of payload digest value class1 class2 class3 vect bit ids ids_from
no_whole_slot = refl

no_such_class : body_answer four one 2 (1 ∷ 6 ∷ 0 ∷ 0 ∷ 0 ∷ 0 ∷ 0 ∷ 0 ∷ 0 ∷ 0 ∷ 97 ∷ []) ≡ Err (SlotWrong Class)
unfolding body_answer head_answer slot_of slot_fault has_class by_echo form_of payload digest value class1 class2 class3 vect bit ids ids_from
no_such_class = refl

class_of_another_root_service : body_answer four one 2 (1 ∷ 5 ∷ 0 ∷ 0 ∷ 0 ∷ 0 ∷ 0 ∷ 0 ∷ 1 ∷ 1 ∷ 0 ∷ []) ≡ Err (SlotWrong Closed)
unfolding body_answer head_answer slot_of slot_fault has_class by_echo form_of payload digest value class1 class2 class3 vect bit ids ids_from
class_of_another_root_service = refl

number_too_large : body_answer four one 2 (1 ∷ 1 ∷ 0 ∷ 15 ∷ 66 ∷ 64 ∷ 0 ∷ 0 ∷ 0 ∷ 0 ∷ 97 ∷ []) ≡ Err (SlotWrong Number)
unfolding body_answer head_answer slot_of slot_fault has_class by_echo form_of payload digest value class1 class2 class3 vect bit ids ids_from
number_too_large = refl

try_of_a_command : body_answer four one 2 (1 ∷ 1 ∷ 0 ∷ 0 ∷ 0 ∷ 0 ∷ 1 ∷ 0 ∷ 0 ∷ 0 ∷ 97 ∷ []) ≡ Err (SlotWrong Attempt)
unfolding body_answer head_answer slot_of slot_fault has_class by_echo form_of payload digest value class1 class2 class3 vect bit ids ids_from
try_of_a_command = refl

round_of_a_command : body_answer four one 2 (1 ∷ 1 ∷ 0 ∷ 0 ∷ 0 ∷ 0 ∷ 0 ∷ 1 ∷ 0 ∷ 0 ∷ 97 ∷ []) ≡ Err (SlotWrong Round)
unfolding body_answer head_answer slot_of slot_fault has_class by_echo form_of payload digest value class1 class2 class3 vect bit ids ids_from
round_of_a_command = refl

step_of_a_command : body_answer four one 2 (1 ∷ 1 ∷ 0 ∷ 0 ∷ 0 ∷ 0 ∷ 0 ∷ 0 ∷ 1 ∷ 0 ∷ 97 ∷ []) ≡ Err (SlotWrong Step)
unfolding body_answer head_answer slot_of slot_fault has_class by_echo form_of payload digest value class1 class2 class3 vect bit ids ids_from
step_of_a_command = refl

no_such_origin : body_answer four one 2 (1 ∷ 1 ∷ 0 ∷ 0 ∷ 0 ∷ 0 ∷ 0 ∷ 0 ∷ 0 ∷ 4 ∷ 97 ∷ []) ≡ Err (SlotWrong Origin)
unfolding body_answer head_answer slot_of slot_fault has_class by_echo form_of payload digest value class1 class2 class3 vect bit ids ids_from
no_such_origin = refl

empty_command : body_answer four one 2 (1 ∷ 1 ∷ 0 ∷ 0 ∷ 0 ∷ 0 ∷ 0 ∷ 0 ∷ 0 ∷ 0 ∷ []) ≡ Err (Payload 10)
unfolding body_answer head_answer slot_of slot_fault has_class by_echo form_of payload digest value class1 class2 class3 vect bit ids ids_from
empty_command = refl

command : body_answer four one 2 (1 ∷ 1 ∷ 0 ∷ 0 ∷ 0 ∷ 0 ∷ 0 ∷ 0 ∷ 0 ∷ 0 ∷ 97 ∷ []) ≡ init 1 0 0 (97 ∷ [])
unfolding body_answer head_answer slot_of slot_fault has_class by_echo form_of payload digest value class1 class2 class3 vect bit ids ids_from
command = refl

unmarked_in_step_1 : body_answer four three 2 (1 ∷ 5 ∷ 0 ∷ 0 ∷ 0 ∷ 0 ∷ 0 ∷ 1 ∷ 1 ∷ 0 ∷ 2 ∷ []) ≡ Err (Payload 10)
unfolding body_answer head_answer slot_of slot_fault has_class by_echo form_of payload digest value class1 class2 class3 vect bit ids ids_from
unmarked_in_step_1 = refl

more_than_a_bit : body_answer four three 2 (1 ∷ 5 ∷ 0 ∷ 0 ∷ 0 ∷ 0 ∷ 0 ∷ 1 ∷ 1 ∷ 0 ∷ 0 ∷ 0 ∷ []) ≡ Err (Rest 11)
unfolding body_answer head_answer slot_of slot_fault has_class by_echo form_of payload digest value class1 class2 class3 vect bit ids ids_from
more_than_a_bit = refl

unmarked_in_step_3 : body_answer four three 2 (1 ∷ 5 ∷ 0 ∷ 0 ∷ 0 ∷ 0 ∷ 0 ∷ 1 ∷ 3 ∷ 0 ∷ 2 ∷ []) ≡ init 5 1 3 (2 ∷ [])
unfolding body_answer head_answer slot_of slot_fault has_class by_echo form_of payload digest value class1 class2 class3 vect bit ids ids_from
unmarked_in_step_3 = refl

list_of_one_identifier : body_answer four six 2 (1 ∷ 2 ∷ 0 ∷ 0 ∷ 0 ∷ 0 ∷ 0 ∷ 0 ∷ 0 ∷ 0 ∷ 0 ∷ 0 ∷ 0 ∷ 0 ∷ 0 ∷ []) ≡ init 2 0 0 (0 ∷ 0 ∷ 0 ∷ 0 ∷ 0 ∷ [])
unfolding body_answer head_answer slot_of slot_fault has_class by_echo form_of payload digest value class1 class2 class3 vect bit ids ids_from
list_of_one_identifier = refl

-- ---- root service 7

-- the first commands of replica 0
abbrev so_many : ℕ → List Id
so_many count = map (λ k. record { origin = 0; num = k }) (range_with_len 0 count)

-- an empty list is a value of class 3
empty_list_7 : body_answer four seven 2 (1 ∷ 3 ∷ 0 ∷ 0 ∷ 0 ∷ 0 ∷ 0 ∷ 0 ∷ 0 ∷ 0 ∷ []) ≡ init 3 0 0 []
unfolding body_answer head_answer slot_of slot_fault has_class by_echo form_of payload digest value class1 class2 class3 vect bit ids any_ids ids_from count_ones
empty_list_7 = refl

-- and none of class 2
empty_list_proposed_7 : body_answer four seven 2 (1 ∷ 2 ∷ 0 ∷ 0 ∷ 0 ∷ 0 ∷ 0 ∷ 0 ∷ 0 ∷ 0 ∷ []) ≡ Err (Payload 10)
unfolding body_answer head_answer slot_of slot_fault has_class by_echo form_of payload digest value class1 class2 class3 vect bit ids any_ids ids_from count_ones
empty_list_proposed_7 = refl

-- there is one try
no_second_try_7 : body_answer four seven 2 (1 ∷ 3 ∷ 0 ∷ 0 ∷ 0 ∷ 0 ∷ 1 ∷ 0 ∷ 0 ∷ 0 ∷ []) ≡ Err (SlotWrong Attempt)
unfolding body_answer head_answer slot_of slot_fault has_class by_echo form_of payload digest value class1 class2 class3 vect bit ids any_ids ids_from count_ones
no_second_try_7 = refl

-- an identifier that is cut off
part_of_an_identifier_7 : body_answer four seven 2 (1 ∷ 3 ∷ 0 ∷ 0 ∷ 0 ∷ 0 ∷ 0 ∷ 0 ∷ 0 ∷ 0 ∷ 0 ∷ 0 ∷ 0 ∷ []) ≡ Err (Payload 13)
unfolding body_answer head_answer slot_of slot_fault has_class by_echo form_of payload digest value class1 class2 class3 vect bit ids any_ids ids_from count_ones
part_of_an_identifier_7 = refl

-- two out of order
list_out_of_order_7 : body_answer four seven 2 (1 ∷ 3 ∷ 0 ∷ 0 ∷ 0 ∷ 0 ∷ 0 ∷ 0 ∷ 0 ∷ 0 ∷ 1 ∷ 0 ∷ 0 ∷ 0 ∷ 0 ∷ 0 ∷ 0 ∷ 0 ∷ 0 ∷ 9 ∷ []) ≡ Err (Payload 15)
unfolding body_answer head_answer slot_of slot_fault has_class by_echo form_of payload digest value class1 class2 class3 vect bit ids any_ids ids_from count_ones
list_out_of_order_7 = refl

-- of 31 replicas each has a share of two in what is proposed
share_passed_7 : body_answer many seven 2 (1 ∷ 2 ∷ 0 ∷ 0 ∷ 0 ∷ 0 ∷ 0 ∷ 0 ∷ 0 ∷ 0 ∷ 0 ∷ 0 ∷ 0 ∷ 0 ∷ 0 ∷ 0 ∷ 0 ∷ 0 ∷ 0 ∷ 1 ∷ 0 ∷ 0 ∷ 0 ∷ 0 ∷ 2 ∷ []) ≡ Err (Payload 20)
unfolding body_answer head_answer slot_of slot_fault has_class by_echo form_of payload digest value class1 class2 class3 vect bit ids any_ids ids_from count_ones
share_passed_7 = refl

-- and none in what is decided
no_share_7 : body_answer many seven 2 (1 ∷ 3 ∷ 0 ∷ 0 ∷ 0 ∷ 0 ∷ 0 ∷ 0 ∷ 0 ∷ 0 ∷ 0 ∷ 0 ∷ 0 ∷ 0 ∷ 0 ∷ 0 ∷ 0 ∷ 0 ∷ 0 ∷ 1 ∷ 0 ∷ 0 ∷ 0 ∷ 0 ∷ 2 ∷ []) ≡ init 3 0 0 (0 ∷ 0 ∷ 0 ∷ 0 ∷ 0 ∷ 0 ∷ 0 ∷ 0 ∷ 0 ∷ 1 ∷ 0 ∷ 0 ∷ 0 ∷ 0 ∷ 2 ∷ [])
unfolding body_answer head_answer slot_of slot_fault has_class by_echo form_of payload digest value class1 class2 class3 vect bit ids any_ids ids_from count_ones
no_share_7 = refl

-- a VECT of none is empty
none_7 : body_answer four seven 2 (4 ∷ 4 ∷ 0 ∷ 0 ∷ 0 ∷ 0 ∷ 0 ∷ 0 ∷ 0 ∷ 0 ∷ []) ≡ Ok (record { from = 2; kind = kinds.Send; slot = record { class = 4; a = 0; attempt = 0; bround = 0; step = 0; origin = 0 }; value = [] })
unfolding body_answer head_answer slot_of slot_fault has_class by_echo form_of payload digest value class1 class2 class3 vect bit ids any_ids ids_from count_ones
none_7 = refl

-- that of the empty list is its mask
vect_of_no_identifiers_7 : body_answer four seven 2 (4 ∷ 4 ∷ 0 ∷ 0 ∷ 0 ∷ 0 ∷ 0 ∷ 0 ∷ 0 ∷ 0 ∷ 0 ∷ 0 ∷ 0 ∷ 3 ∷ []) ≡ Ok (record { from = 2; kind = kinds.Send; slot = record { class = 4; a = 0; attempt = 0; bround = 0; step = 0; origin = 0 }; value = 0 ∷ 0 ∷ 0 ∷ 3 ∷ [] })
unfolding body_answer head_answer slot_of slot_fault has_class by_echo form_of payload digest value class1 class2 class3 vect bit ids any_ids ids_from count_ones
vect_of_no_identifiers_7 = refl

-- of n - 2f places at least
vect_of_too_few_7 : body_answer four seven 2 (4 ∷ 4 ∷ 0 ∷ 0 ∷ 0 ∷ 0 ∷ 0 ∷ 0 ∷ 0 ∷ 0 ∷ 0 ∷ 0 ∷ 0 ∷ 1 ∷ []) ≡ Err (Payload 10)
unfolding body_answer head_answer slot_of slot_fault has_class by_echo form_of payload digest value class1 class2 class3 vect bit ids any_ids ids_from count_ones
vect_of_too_few_7 = refl

-- the 65th identifier is wrong
sixty_five_7 : body_answer four seven 2 (1 ∷ 3 ∷ 0 ∷ 0 ∷ 0 ∷ 0 ∷ 0 ∷ 0 ∷ 0 ∷ 0 ∷ ids_bytes (so_many 65)) ≡ Err (Payload 330)
unfolding body_answer head_answer slot_of slot_fault has_class by_echo form_of payload digest value class1 class2 class3 vect bit ids any_ids ids_from count_ones
sixty_five_7 = refl

-- sixty-four are right
sixty_four_7 : body_answer four seven 2 (1 ∷ 3 ∷ 0 ∷ 0 ∷ 0 ∷ 0 ∷ 0 ∷ 0 ∷ 0 ∷ 0 ∷ ids_bytes (so_many 64)) ≡ init 3 0 0 (ids_bytes (so_many 64))
unfolding body_answer head_answer slot_of slot_fault has_class by_echo form_of payload digest value class1 class2 class3 vect bit ids any_ids ids_from count_ones
sixty_four_7 = refl

-- a command begins with the client and the request
short_command_7 : body_answer four seven 2 (1 ∷ 1 ∷ 0 ∷ 0 ∷ 0 ∷ 0 ∷ 0 ∷ 0 ∷ 0 ∷ 0 ∷ 97 ∷ []) ≡ Err (Payload 11)
unfolding body_answer head_answer slot_of slot_fault has_class by_echo form_of payload digest value class1 class2 class3 vect bit ids any_ids ids_from count_ones
short_command_7 = refl

-- ---- bodies of version 2

abbrev one_two : Mode
one_two = record { root = 1; vect = Echo; version = Two; low = lit≤ tt; high = lit≤ tt }

abbrev two_two : Mode
two_two = record { root = 2; vect = Echo; version = Two; low = lit≤ tt; high = lit≤ tt }

abbrev body_of : a_kind → List ℕ → Result Item BodyFault
body_of kind value = Ok (record {
  from = 2;
  kind = kind;
  slot = record { class = 1; a = 0; attempt = 0; bround = 0; step = 0; origin = 0 };
  value = value;
})

init_of_a_command : body_answer four one_two 2 (1 ∷ 1 ∷ 0 ∷ 0 ∷ 0 ∷ 0 ∷ 0 ∷ 0 ∷ 0 ∷ 0 ∷ 97 ∷ []) ≡ body_of kinds.Init (97 ∷ [])
unfolding body_answer head_answer slot_of slot_fault has_class by_echo form_of payload digest value class1 class2 class3 vect bit ids ids_from
init_of_a_command = refl

echo_of_a_digest : body_answer four one_two 2 (2 ∷ 1 ∷ 0 ∷ 0 ∷ 0 ∷ 0 ∷ 0 ∷ 0 ∷ 0 ∷ 0 ∷ replicate 32 7) ≡ body_of kinds.Echo (replicate 32 7)
unfolding body_answer head_answer slot_of slot_fault has_class by_echo form_of payload digest value class1 class2 class3 vect bit ids ids_from
echo_of_a_digest = refl

echo_of_a_value : body_answer four one_two 2 (2 ∷ 1 ∷ 0 ∷ 0 ∷ 0 ∷ 0 ∷ 0 ∷ 0 ∷ 0 ∷ 0 ∷ 97 ∷ []) ≡ Err (Payload 11)
unfolding body_answer head_answer slot_of slot_fault has_class by_echo form_of payload digest value class1 class2 class3 vect bit ids ids_from
echo_of_a_value = refl

digest_and_a_byte : body_answer four one_two 2 (2 ∷ 1 ∷ 0 ∷ 0 ∷ 0 ∷ 0 ∷ 0 ∷ 0 ∷ 0 ∷ 0 ∷ replicate 33 7) ≡ Err (Rest 42)
unfolding body_answer head_answer slot_of slot_fault has_class by_echo form_of payload digest value class1 class2 class3 vect bit ids ids_from
digest_and_a_byte = refl

ready_of_a_digest : body_answer four one_two 2 (3 ∷ 1 ∷ 0 ∷ 0 ∷ 0 ∷ 0 ∷ 0 ∷ 0 ∷ 0 ∷ 0 ∷ replicate 32 7) ≡ body_of kinds.Ready (replicate 32 7)
unfolding body_answer head_answer slot_of slot_fault has_class by_echo form_of payload digest value class1 class2 class3 vect bit ids ids_from
ready_of_a_digest = refl

ready_of_no_digest : body_answer four one_two 2 (3 ∷ 1 ∷ 0 ∷ 0 ∷ 0 ∷ 0 ∷ 0 ∷ 0 ∷ 0 ∷ 0 ∷ replicate 31 7) ≡ Err (Payload 41)
unfolding body_answer head_answer slot_of slot_fault has_class by_echo form_of payload digest value class1 class2 class3 vect bit ids ids_from
ready_of_no_digest = refl

want_of_a_digest : body_answer four one_two 2 (7 ∷ 1 ∷ 0 ∷ 0 ∷ 0 ∷ 0 ∷ 0 ∷ 0 ∷ 0 ∷ 0 ∷ replicate 32 7) ≡ body_of kinds.Want (replicate 32 7)
unfolding body_answer head_answer slot_of slot_fault has_class by_echo form_of payload digest value class1 class2 class3 vect bit ids ids_from
want_of_a_digest = refl

want_and_a_byte : body_answer four one_two 2 (7 ∷ 1 ∷ 0 ∷ 0 ∷ 0 ∷ 0 ∷ 0 ∷ 0 ∷ 0 ∷ 0 ∷ replicate 33 7) ≡ Err (Rest 42)
unfolding body_answer head_answer slot_of slot_fault has_class by_echo form_of payload digest value class1 class2 class3 vect bit ids ids_from
want_and_a_byte = refl

value_of_a_command : body_answer four one_two 2 (8 ∷ 1 ∷ 0 ∷ 0 ∷ 0 ∷ 0 ∷ 0 ∷ 0 ∷ 0 ∷ 0 ∷ 97 ∷ []) ≡ body_of kinds.Value (97 ∷ [])
unfolding body_answer head_answer slot_of slot_fault has_class by_echo form_of payload digest value class1 class2 class3 vect bit ids ids_from
value_of_a_command = refl

value_of_nothing : body_answer four one_two 2 (8 ∷ 1 ∷ 0 ∷ 0 ∷ 0 ∷ 0 ∷ 0 ∷ 0 ∷ 0 ∷ 0 ∷ []) ≡ Err (Payload 10)
unfolding body_answer head_answer slot_of slot_fault has_class by_echo form_of payload digest value class1 class2 class3 vect bit ids ids_from
value_of_nothing = refl

no_ninth_kind : body_answer four one_two 2 (9 ∷ 1 ∷ 0 ∷ 0 ∷ 0 ∷ 0 ∷ 0 ∷ 0 ∷ 0 ∷ 0 ∷ 97 ∷ []) ≡ Err Kind
unfolding body_answer head_answer slot_of slot_fault has_class by_echo form_of payload digest value class1 class2 class3 vect bit ids ids_from
no_ninth_kind = refl

send_at_an_echo_broadcast : body_answer four two_two 2 (4 ∷ 1 ∷ 0 ∷ 0 ∷ 0 ∷ 0 ∷ 0 ∷ 0 ∷ 0 ∷ 0 ∷ 97 ∷ []) ≡ body_of kinds.Send (97 ∷ [])
unfolding body_answer head_answer slot_of slot_fault has_class by_echo form_of payload digest value class1 class2 class3 vect bit ids ids_from
send_at_an_echo_broadcast = refl

want_at_an_echo_broadcast : body_answer four two_two 2 (7 ∷ 1 ∷ 0 ∷ 0 ∷ 0 ∷ 0 ∷ 0 ∷ 0 ∷ 0 ∷ 0 ∷ replicate 32 7) ≡ Err Kind
unfolding body_answer head_answer slot_of slot_fault has_class by_echo form_of payload digest value class1 class2 class3 vect bit ids ids_from
want_at_an_echo_broadcast = refl

value_in_version_1 : body_answer four one 2 (8 ∷ 1 ∷ 0 ∷ 0 ∷ 0 ∷ 0 ∷ 0 ∷ 0 ∷ 0 ∷ 0 ∷ 97 ∷ []) ≡ Err Kind
unfolding body_answer head_answer slot_of slot_fault has_class by_echo form_of payload digest value class1 class2 class3 vect bit ids ids_from
value_in_version_1 = refl

want_without_slot : body_answer four one_two 2 (7 ∷ 1 ∷ []) ≡ Err (SlotWrong Whole)
unfolding body_answer head_answer slot_of slot_fault has_class by_echo form_of payload digest value class1 class2 class3 vect bit ids ids_from
want_without_slot = refl

no_want_in_version_1 : body_answer four one 2 (7 ∷ 1 ∷ []) ≡ Err Kind
unfolding body_answer head_answer slot_of slot_fault has_class by_echo form_of payload digest value class1 class2 class3 vect bit ids ids_from
no_want_in_version_1 = refl

-- ---- bodies of version 3: commands go by digests, and bits by values

abbrev one_three : Mode
one_three = record { root = 1; vect = Echo; version = Three; low = lit≤ tt; high = lit≤ tt }

abbrev bit_three : Mode
bit_three = record { root = 3; vect = Echo; version = Three; low = lit≤ tt; high = lit≤ tt }

abbrev step_of : a_kind → List ℕ → Result Item BodyFault
step_of kind value = Ok (record {
  from = 2;
  kind = kind;
  slot = record { class = 5; a = 0; attempt = 0; bround = 1; step = 3; origin = 0 };
  value = value;
})

echo_of_a_digest_3 : body_answer four one_three 2 (2 ∷ 1 ∷ 0 ∷ 0 ∷ 0 ∷ 0 ∷ 0 ∷ 0 ∷ 0 ∷ 0 ∷ replicate 32 7) ≡ body_of kinds.Echo (replicate 32 7)
unfolding body_answer head_answer slot_of slot_fault has_class by_echo form_of payload digest value class1 class2 class3 vect bit ids ids_from
echo_of_a_digest_3 = refl

value_of_a_command_3 : body_answer four one_three 2 (8 ∷ 1 ∷ 0 ∷ 0 ∷ 0 ∷ 0 ∷ 0 ∷ 0 ∷ 0 ∷ 0 ∷ 97 ∷ []) ≡ body_of kinds.Value (97 ∷ [])
unfolding body_answer head_answer slot_of slot_fault has_class by_echo form_of payload digest value class1 class2 class3 vect bit ids ids_from
value_of_a_command_3 = refl

echo_of_a_bit : body_answer four bit_three 2 (2 ∷ 5 ∷ 0 ∷ 0 ∷ 0 ∷ 0 ∷ 0 ∷ 1 ∷ 3 ∷ 0 ∷ 2 ∷ []) ≡ step_of kinds.Echo (2 ∷ [])
unfolding body_answer head_answer slot_of slot_fault has_class by_echo form_of payload digest value class1 class2 class3 vect bit ids ids_from
echo_of_a_bit = refl

ready_of_a_bit : body_answer four bit_three 2 (3 ∷ 5 ∷ 0 ∷ 0 ∷ 0 ∷ 0 ∷ 0 ∷ 1 ∷ 3 ∷ 0 ∷ 1 ∷ []) ≡ step_of kinds.Ready (1 ∷ [])
unfolding body_answer head_answer slot_of slot_fault has_class by_echo form_of payload digest value class1 class2 class3 vect bit ids ids_from
ready_of_a_bit = refl

-- of a bit there is no digest, so nobody wants its value
echo_of_its_digest : body_answer four bit_three 2 (2 ∷ 5 ∷ 0 ∷ 0 ∷ 0 ∷ 0 ∷ 0 ∷ 1 ∷ 3 ∷ 0 ∷ replicate 32 1) ≡ Err (Rest 11)
unfolding body_answer head_answer slot_of slot_fault has_class by_echo form_of payload digest value class1 class2 class3 vect bit ids ids_from
echo_of_its_digest = refl

want_of_a_bit : body_answer four bit_three 2 (7 ∷ 5 ∷ 0 ∷ 0 ∷ 0 ∷ 0 ∷ 0 ∷ 1 ∷ 3 ∷ 0 ∷ replicate 32 1) ≡ Err Kind
unfolding body_answer head_answer slot_of slot_fault has_class by_echo form_of payload digest value class1 class2 class3 vect bit ids ids_from
want_of_a_bit = refl

value_of_a_bit : body_answer four bit_three 2 (8 ∷ 5 ∷ 0 ∷ 0 ∷ 0 ∷ 0 ∷ 0 ∷ 1 ∷ 3 ∷ 0 ∷ 2 ∷ []) ≡ Err Kind
unfolding body_answer head_answer slot_of slot_fault has_class by_echo form_of payload digest value class1 class2 class3 vect bit ids ids_from
value_of_a_bit = refl

-- ---- inputs

no_command : input_fault four one [] ≡ Some 0
unfolding input_format class1 class2 class3 bit
no_command = refl

one_byte : input_fault four one (97 ∷ []) ≡ None
unfolding input_format class1 class2 class3 bit
one_byte = refl

longest_command : input_fault four one (replicate longest_input 97) ≡ None
unfolding input_format class1 class2 class3 bit
longest_command = refl

command_too_long : input_fault four one (replicate (longest_input + 1) 97) ≡ Some longest_input
unfolding input_format class1 class2 class3 bit
command_too_long = refl

no_bit : input_fault four three [] ≡ Some 0
unfolding input_format class1 class2 class3 bit
no_bit = refl

bit_1 : input_fault four three (1 ∷ []) ≡ None
unfolding input_format class1 class2 class3 bit
bit_1 = refl

no_such_bit : input_fault four three (2 ∷ []) ≡ Some 0
unfolding input_format class1 class2 class3 bit
no_such_bit = refl

no_such_bit_and_more : input_fault four three (2 ∷ 0 ∷ []) ≡ Some 0
unfolding input_format class1 class2 class3 bit
no_such_bit_and_more = refl

two_bits : input_fault four three (0 ∷ 0 ∷ []) ≡ Some 1
unfolding input_format class1 class2 class3 bit
two_bits = refl

no_proposal : input_fault four fourth [] ≡ Some 0
unfolding input_format class1 class2 class3 bit
no_proposal = refl

proposal_too_long : input_fault four fourth (replicate (longest_input + 1) 0) ≡ Some longest_input
unfolding input_format class1 class2 class3 bit
proposal_too_long = refl

longest_vector_proposal : input_fault four five (replicate longest_entry 0) ≡ None
unfolding input_format class1 class2 class3 bit
longest_vector_proposal = refl

vector_proposal_too_long : input_fault four five (replicate (longest_entry + 1) 0) ≡ Some longest_entry
unfolding input_format class1 class2 class3 bit
vector_proposal_too_long = refl

no_request : input_fault four six [] ≡ Some 0
unfolding input_format class1 class2 class3 bit
no_request = refl

no_whole_request : input_fault four six (0 ∷ 0 ∷ 0 ∷ 7 ∷ 0 ∷ 0 ∷ 0 ∷ []) ≡ Some 7
unfolding input_format class1 class2 class3 bit
no_whole_request = refl

request_without_payload : input_fault four six (0 ∷ 0 ∷ 0 ∷ 7 ∷ 0 ∷ 0 ∷ 0 ∷ 1 ∷ []) ≡ None
unfolding input_format class1 class2 class3 bit
request_without_payload = refl

request_too_long : input_fault four six (replicate (longest_input + 1) 0) ≡ Some longest_input
unfolding input_format class1 class2 class3 bit
request_too_long = refl

-- ---- rows of columns

-- the column of replicas 0 and 2
abbrev two_rows : List ℕ
two_rows = 0 ∷ 0 ∷ 0 ∷ 5 ∷ replicate 32 7 ++ replicate 32 8

row_of_two : column_row two_rows 2 ≡ Some (replicate 32 8)
unfolding at_place mask_of rows_in has_member member_count count_ones
row_of_two = refl

row_of_another : column_row two_rows 1 ≡ None
unfolding at_place mask_of rows_in has_member member_count count_ones
row_of_another = refl

row_that_is_cut : column_row (take 67 two_rows) 2 ≡ None
unfolding at_place mask_of rows_in has_member member_count count_ones
row_that_is_cut = refl
