-- Worked rows: replica 0 of four, one of which may be faulty, at a slot of origin 3. Of a list of calls the newest is
-- first.
use Rattle.std.specs.Prelude.{◌≡◌, ℕ, true, false, List, [], ◌∷◌, ◌++◌, take, replicate, Some, None, refl}
use Rattle.ritas_base.specs.declared.item.Kind.{Kind}
use Rattle.ritas_base.specs.declared.item.Kind.TheVariants.{Send, Hashes, Column}
use Rattle.ritas_base.specs.declared.item.To.TheVariants.{One}
use Rattle.ritas_base.specs.declared.item.Item.{Item}
use Rattle.ritas_base.specs.declared.item.Msg.{Msg}
use Rattle.ritas_base.specs.declared.slot.Slot.{Slot}
use Rattle.ritas_base.specs.Numbers.{Numbers}
use Rattle.ritas_base.specs.History.{Call, Take}
use Rattle.std.specs.Int.RustNames.{count_ones}
use Rattle.ritas_base.specs.Members.{has_member, member_count}
use Rattle.ritas_base.specs.Messages.{Place, msg_cmp, without}
use Rattle.ritas_base.specs.Tags.{Tags}
use Rattle.frame_codec.specs.Values.{column_bytes, mask_of, at_place, rows_in}
use Rattle.layer_api.specs.Broadcast.{news}
use Rattle.echo_bcast.specs.Matrix.{echo, hashes_bytes, columns_at}

abbrev numbers : Numbers
numbers = record { n = 4; f = 1 }

abbrev slot : Slot
slot = record { class = 1; a = 0; attempt = 0; bround = 0; step = 0; origin = 3 }

abbrev place : Place
place = record { numbers = numbers; me = 0; slot = slot }

-- a message is its own digest, and an entry names its echoer, its verifier and the digest
abbrev entry : ℕ → ℕ → List ℕ → List ℕ
entry echoer verifier d = take 32 (echoer ∷ verifier ∷ d ++ replicate 32 0)

abbrev tags : Tags
tags = record { digest = λ m. m; entry = λ s echoer verifier d. entry echoer verifier d }

abbrev a : List ℕ
a = 97 ∷ []

abbrev b : List ℕ
b = 98 ∷ []

abbrev item : ℕ → Kind → List ℕ → Item
item k kind m = record { from = k; kind = kind; slot = slot; value = m }

abbrev sends : List ℕ → Call
sends m = Take (item 3 Send m)

abbrev column : ℕ → List (List ℕ) → Item
column mask rows = item 3 Column (column_bytes mask rows)

-- ---- HASHES

hashes_of_the_first_send : news echo place tags [] (sends a)
    ≡ record { to = One 3; kind = Hashes; slot = slot; value = hashes_bytes (entry 0 0 a ∷ entry 0 1 a ∷ entry 0 2 a ∷ entry 0 3 a ∷ []) } ∷ []
unfolding without msg_cmp
hashes_of_the_first_send = refl

no_hashes_of_a_second_send : news echo place tags (sends a ∷ []) (sends b) ≡ []
unfolding without msg_cmp
no_hashes_of_a_second_send = refl

a_second_send_repeats : echo.repeats place tags (sends a ∷ []) (item 3 Send b) ≡ true
a_second_send_repeats = refl

-- ---- an origin that sent a to replicas 0, 1 and 3, and b to replica 2

-- of echoers 0, 1 and 2: the entry of 2 is of b
abbrev two_valid : Item
two_valid = column 7 (entry 0 0 a ∷ entry 1 0 a ∷ entry 2 0 b ∷ [])

abbrev three_valid : Item
three_valid = column 11 (entry 0 0 a ∷ entry 1 0 a ∷ entry 3 0 a ∷ [])

not_ready_before_its_send : echo.ready place tags [] two_valid ≡ false
not_ready_before_its_send = refl

ready_after_its_send : echo.ready place tags (sends a ∷ []) two_valid ≡ true
ready_after_its_send = refl

two_valid_are_new : echo.repeats place tags (sends a ∷ []) two_valid ≡ false
unfolding at_place mask_of rows_in has_member member_count count_ones
two_valid_are_new = refl

nothing_at_two : echo.out place tags (Take two_valid ∷ sends a ∷ []) ≡ None
unfolding at_place mask_of rows_in has_member member_count count_ones
nothing_at_two = refl

a_third_is_new : echo.repeats place tags (Take two_valid ∷ sends a ∷ []) three_valid ≡ false
unfolding at_place mask_of rows_in has_member member_count count_ones
a_third_is_new = refl

delivered_at_three : echo.out place tags (Take three_valid ∷ Take two_valid ∷ sends a ∷ []) ≡ Some a
unfolding at_place mask_of rows_in has_member member_count count_ones
delivered_at_three = refl

then_they_repeat : echo.repeats place tags (Take three_valid ∷ sends a ∷ []) two_valid ≡ true
unfolding at_place mask_of rows_in has_member member_count count_ones
then_they_repeat = refl

-- ---- an entry that comes back: of echoer 0 for verifier 1, in the place of the one of echoer 1 for verifier 0

abbrev reflected : Item
reflected = column 2 (entry 0 1 a ∷ [])

a_reflected_entry_is_not_counted : echo.repeats place tags (sends a ∷ []) reflected ≡ true
unfolding at_place mask_of rows_in has_member member_count count_ones
a_reflected_entry_is_not_counted = refl

-- nor does it stand for one of the three
nothing_with_a_reflected_entry : echo.out place tags (Take (column 11 (entry 0 0 a ∷ entry 0 1 a ∷ entry 3 0 a ∷ [])) ∷ sends a ∷ []) ≡ None
unfolding at_place mask_of rows_in has_member member_count count_ones
nothing_with_a_reflected_entry = refl

then_two_are_new : echo.repeats place tags (Take reflected ∷ sends a ∷ []) (column 9 (entry 0 0 a ∷ entry 3 0 a ∷ [])) ≡ false
unfolding at_place mask_of rows_in has_member member_count count_ones
then_two_are_new = refl

nothing_at_two_of_them : echo.out place tags (Take (column 9 (entry 0 0 a ∷ entry 3 0 a ∷ [])) ∷ Take reflected ∷ sends a ∷ []) ≡ None
unfolding at_place mask_of rows_in has_member member_count count_ones
nothing_at_two_of_them = refl

-- ---- the origin

abbrev origin : Place
origin = record { numbers = numbers; me = 3; slot = slot }

-- HASHES of four entries, which begin with these bytes
abbrev hashes : ℕ → Call
hashes k = Take (item k Hashes (hashes_bytes ((k ∷ 0 ∷ []) ∷ (k ∷ 1 ∷ []) ∷ (k ∷ 2 ∷ []) ∷ (k ∷ 3 ∷ []) ∷ [])))

abbrev row : ℕ → ℕ → List ℕ
row k j = take 32 (k ∷ j ∷ replicate 32 0)

abbrev column_to : ℕ → ℕ → List (List ℕ) → Msg
column_to j mask rows = record { to = One j; kind = Column; slot = slot; value = column_bytes mask rows }

no_columns_at_two_hashes : columns_at origin (hashes 2 ∷ hashes 0 ∷ []) ≡ []
no_columns_at_two_hashes = refl

columns_at_three_hashes : news echo origin tags (hashes 2 ∷ hashes 0 ∷ []) (hashes 3)
    ≡ column_to 0 13 (row 0 0 ∷ row 2 0 ∷ row 3 0 ∷ []) ∷ column_to 1 13 (row 0 1 ∷ row 2 1 ∷ row 3 1 ∷ [])
    ∷ column_to 2 13 (row 0 2 ∷ row 2 2 ∷ row 3 2 ∷ []) ∷ column_to 3 13 (row 0 3 ∷ row 2 3 ∷ row 3 3 ∷ []) ∷ []
unfolding without msg_cmp
columns_at_three_hashes = refl
