-- Worked rows.
use Rattle.std.specs.Prelude.{◌≡◌, ℕ, Bool, true, false, List, [], ◌∷◌, Option, Some, None, refl}
use Rattle.std.specs.Option.{option_or}
use Rattle.std.specs.Str.{bytes_eq}
use Rattle.ritas_base.specs.Members.{has_member}
use Rattle.frame_codec.specs.Values.{mask_of}
use Rattle.layer_api.specs.Service.{Seat, OfBit, OfValue, Bit, Nothing, Value}
use Rattle.layer_api.specs.Words.{Word, Ask, Hear}
use Rattle.ritas_base.specs.declared.mode.Vect.TheVariants.{Echo}
use Rattle.ritas_base.specs.declared.mode.FrameVersion.TheVariants.{One}
use Rattle.std.proofs.Common.{lit≤}
use Rattle.layer_api.specs.Binary.{BinaryRules}
use Rattle.layer_api.specs.Multi.{Scope, Desk}
use Rattle.multivalued.specs.Consensus.{init_slot, vect_slot, own_vect, proposed_bit, bit_asked, bit_words, supported, multi_verdict, multi_decision, multivalued}
use Rattle.multivalued.specs.Root.{multi_decided_in}

-- four replicas, of which one may be faulty
abbrev four : Scope
four = record { numbers = record { n = 4; f = 1 }; root = 4; a = 0; attempt = 0 }

abbrev one : Scope
one = record { numbers = record { n = 1; f = 0 }; root = 4; a = 0; attempt = 0 }

abbrev init : Scope → ℕ → List ℕ → Word
init at k v = Hear (init_slot at k) v

abbrev vote : Scope → ℕ → List ℕ → Word
vote at k v = Hear (vect_slot at k) v

-- 61 is proposed, and 61, 61 and 62 are heard
abbrev three : List Word
three = init four 2 (0x62 ∷ []) ∷ init four 1 (0x61 ∷ []) ∷ init four 0 (0x61 ∷ []) ∷ Ask (0x61 ∷ []) ∷ []

-- VECTs of 61 by the places 0 and 1, and of 62 by the places 2 and 3
abbrev of_61 : ℕ → Word
of_61 k = vote four k (0 ∷ 0 ∷ 0 ∷ 3 ∷ 0x61 ∷ [])

abbrev of_62 : ℕ → Word
of_62 k = vote four k (0 ∷ 0 ∷ 0 ∷ 12 ∷ 0x62 ∷ [])

-- ---- the VECT

-- the VECT is 61 of the places 0 and 1
vect_of_three : own_vect four three ≡ Some (0 ∷ 0 ∷ 0 ∷ 3 ∷ 0x61 ∷ [])
vect_of_three = refl

-- it stays so, though 62 has as many places with the fourth proposal
vect_stays : own_vect four (init four 3 (0x62 ∷ []) ∷ three) ≡ Some (0 ∷ 0 ∷ 0 ∷ 3 ∷ 0x61 ∷ [])
vect_stays = refl

not_before : own_vect four (init four 1 (0x61 ∷ []) ∷ init four 0 (0x61 ∷ []) ∷ Ask (0x61 ∷ []) ∷ []) ≡ None
not_before = refl

-- three proposals without two alike: the VECT is none
no_common : own_vect four (init four 2 (0x63 ∷ []) ∷ init four 1 (0x62 ∷ []) ∷ init four 0 (0x61 ∷ []) ∷ Ask (0x61 ∷ []) ∷ []) ≡ Some []
no_common = refl

-- ---- the bit

-- two VECTs of 61 and one of 62, all valid: the bit is 0
abbrev both : List Word
both = of_62 2 ∷ of_61 1 ∷ of_61 0 ∷ init four 3 (0x62 ∷ []) ∷ three

zero_of_both : bit_asked four both ≡ Some (0 ∷ [])
unfolding mask_of has_member
zero_of_both = refl

both_words : bit_words four both ≡ Ask (0 ∷ []) ∷ []
unfolding mask_of has_member
both_words = refl

-- without the fourth proposal the VECT of 62 isn't valid yet, and nothing is proposed
not_valid_yet : proposed_bit four (of_62 2 ∷ of_61 1 ∷ of_61 0 ∷ three) ≡ None
unfolding mask_of has_member
not_valid_yet = refl

-- two VECTs of 61 and one of none: the bit is 1
one_of_none : proposed_bit four (vote four 3 [] ∷ of_61 1 ∷ of_61 0 ∷ three) ≡ Some true
unfolding mask_of has_member
one_of_none = refl

-- ---- the decision

-- decided 0, the decision is none; decided 1, it is 61
nothing : multi_verdict (Some false) (supported four both) ≡ Some None
nothing = refl

value : multi_verdict (Some true) (supported four both) ≡ Some (Some (0x61 ∷ []))
unfolding mask_of has_member
value = refl

-- decided 1 without a supported value, there is no decision yet
no_support : multi_verdict (Some true) (supported four (of_61 0 ∷ three)) ≡ None
unfolding mask_of has_member
no_support = refl

-- binary consensus that decides at once what it hears first: 1 for the byte 1
abbrev first_heard : List Word → Option Bool
first_heard [] = None
first_heard (Ask v ∷ w) = first_heard w
first_heard (Hear s v ∷ w) = option_or (first_heard w) (Some (bytes_eq v (1 ∷ [])))

abbrev at_once : BinaryRules
at_once = record { says = λ at w c. []; round = λ at w. 0; decision = λ at w. first_heard w; over = λ at w. false }

abbrev desk : Desk
desk = record { scope = four; me = 0; coin = λ s. false }

-- what it hears
abbrev heard_bit : ℕ → Word
heard_bit bit = Hear (record { class = 5; a = 0; attempt = 0; bround = 1; step = 1; origin = 0 }) (bit ∷ [])

-- all proposals, of 61 by 0 and 1, and of 62 by 2 and 3
abbrev all_four : List Word
all_four = init four 3 (0x62 ∷ []) ∷ three

-- 62 has its support first, then 61, then the bit is decided 1: the decision is 61, and with the VECTs in the other order too
abbrev later_61 : List Word
later_61 = of_61 1 ∷ of_61 0 ∷ of_62 3 ∷ of_62 2 ∷ all_four

abbrev earlier_61 : List Word
earlier_61 = of_62 3 ∷ of_62 2 ∷ of_61 1 ∷ of_61 0 ∷ all_four

least_of_later : multi_decision at_once desk (heard_bit 1 ∷ later_61) ≡ Some (Some (0x61 ∷ []))
unfolding mask_of has_member
least_of_later = refl

least_of_earlier : multi_decision at_once desk (heard_bit 1 ∷ earlier_61) ≡ Some (Some (0x61 ∷ []))
unfolding mask_of has_member
least_of_earlier = refl

-- before the bit there is no decision, though both values have their support
undecided_later : multi_decision at_once desk later_61 ≡ None
unfolding mask_of has_member
undecided_later = refl

undecided_earlier : multi_decision at_once desk earlier_61 ≡ None
unfolding mask_of has_member
undecided_earlier = refl

-- with the bit decided 1 after the support of 62 alone, it is 62, and stays so when 61 has its support
first_support : multi_decision at_once desk (of_61 1 ∷ of_61 0 ∷ heard_bit 1 ∷ of_62 3 ∷ of_62 2 ∷ all_four) ≡ Some (Some (0x62 ∷ []))
unfolding mask_of has_member
first_support = refl

-- with the bit decided 1 before any value has its support, the decision waits for it
support_after : multi_decision at_once desk (of_62 3 ∷ of_62 2 ∷ heard_bit 1 ∷ all_four) ≡ Some (Some (0x62 ∷ []))
unfolding mask_of has_member
support_after = refl

not_supported : multi_decision at_once desk (of_62 2 ∷ heard_bit 1 ∷ all_four) ≡ None
unfolding mask_of has_member
not_supported = refl

-- with the bit decided 0 it is none, whatever has its support
none_of_zero : multi_decision at_once desk (heard_bit 0 ∷ later_61) ≡ Some None
unfolding mask_of has_member
none_of_zero = refl

-- ---- one replica alone

abbrev alone : List Word
alone = vote one 0 (0 ∷ 0 ∷ 0 ∷ 1 ∷ 0x61 ∷ []) ∷ init one 0 (0x61 ∷ []) ∷ Ask (0x61 ∷ []) ∷ []

alone_says : own_vect one alone ≡ Some (0 ∷ 0 ∷ 0 ∷ 1 ∷ 0x61 ∷ [])
alone_says = refl

alone_proposes : bit_words one alone ≡ Ask (1 ∷ []) ∷ []
unfolding mask_of has_member
alone_proposes = refl

-- ---- what the instance inside decided, and the one instance of the root service

inside_bit : (multivalued at_once).inside desk (heard_bit 1 ∷ later_61) (OfBit 0 0) ≡ Some (Bit true)
unfolding mask_of has_member
inside_bit = refl

inside_not_yet : (multivalued at_once).inside desk later_61 (OfBit 0 0) ≡ None
unfolding mask_of has_member
inside_not_yet = refl

inside_of_another : (multivalued at_once).inside desk (heard_bit 1 ∷ later_61) (OfBit 0 1) ≡ None
unfolding mask_of has_member
inside_of_another = refl

abbrev seat : Seat
seat = record { numbers = four.numbers; mode = record { root = 4; vect = Echo; version = One; low = lit≤ tt; high = lit≤ tt }; me = 0; coin = λ s. false }

root_bit : multi_decided_in (multivalued at_once) seat (heard_bit 1 ∷ later_61) (OfBit 0 0) ≡ Some (Bit true)
unfolding mask_of has_member
root_bit = refl

root_value : multi_decided_in (multivalued at_once) seat (heard_bit 1 ∷ later_61) (OfValue 0 0) ≡ Some (Value (0x61 ∷ []))
unfolding mask_of has_member
root_value = refl

root_nothing : multi_decided_in (multivalued at_once) seat (heard_bit 0 ∷ later_61) (OfValue 0 0) ≡ Some Nothing
unfolding mask_of has_member
root_nothing = refl
