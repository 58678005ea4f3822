-- Worked rows: the window of commands, what version 3 does otherwise, the bytes that may be held, and the order of messages.
use Rattle.std.specs.Prelude.{◌≡◌, ℕ, Bool, true, false, [], ◌∷◌, None, refl}
use Rattle.std.proofs.Common.{lit≤}
use Rattle.ritas_base.specs.Numbers.{Numbers}
use Rattle.ritas_base.specs.declared.mode.Mode.{Mode}
use Rattle.ritas_base.specs.declared.mode.Vect.TheVariants.{Reliable}
use Rattle.ritas_base.specs.declared.mode.FrameVersion.TheVariants.{One, Three}
use Rattle.ritas_base.specs.declared.slot.Slot.{Slot}
use Rattle.ritas_base.specs.declared.item.Item.{Item}
use Rattle.ritas_base.specs.declared.item.Kind.{Kind}
use Rattle.ritas_base.specs.declared.item.Kind.TheVariants.{Init, Echo, Ready}
use Rattle.ritas_base.specs.declared.item.Msg.{Msg}
use Rattle.ritas_base.specs.declared.item.To.{To}
use Rattle.ritas_base.specs.declared.item.To.TheVariants.{All, One}
use Rattle.ritas_base.specs.Slots.{command_slot}
use Rattle.ritas_base.specs.Tags.{Tags}
use Rattle.layer_api.specs.Service.{ServiceRules, Carries, Undecided}
use Rattle.reliable_bcast.specs.Bracha.{bracha}
use Rattle.ritas_core.specs.declared.fault.CoreFault.TheVariants.{Past, Ahead, HeldFull}
use Rattle.ritas_core.specs.declared.verdict.Verdict.{Verdict}
use Rattle.ritas_core.specs.declared.verdict.Verdict.TheVariants.{Refuse, Again, Hold, Take}
use Rattle.ritas_core.specs.declared.route.Route.TheVariants as routes
use Rattle.ritas_core.specs.Rules.{Rules, by_other, other_form, route_of, casts_by}
use Rattle.ritas_core.specs.Parts.{no_parts}
use Rattle.ritas_core.specs.Order.{ordered}
use Rattle.ritas_core.specs.Checks.{verdict_on}

-- ---- replica 0 of four in root service 1, at a service whose windows are counted from 100, and whose slots are open or aren't

abbrev four : Numbers
four = record { n = 4; f = 1 }

abbrev one : Mode
one = record { root = 1; vect = Reliable; version = One; low = lit≤ tt; high = lit≤ tt }

abbrev no_tags : Tags
no_tags = record { digest = λ m. []; entry = λ s echoer verifier d. [] }

abbrev from_hundred : Bool → ServiceRules
from_hundred opened = record {
  serves = λ root. true;
  purpose = Carries;
  says = λ seat w c. [];
  opens = λ seat w s. opened;
  completed = λ seat w. 100;
  base = λ seat w origin. 100;
  next_number = λ seat w. 0;
  given = λ seat w. false;
  done = λ seat w. [];
  outcome = λ seat w. Undecided;
  last = λ seat w. None;
  decided = λ seat w x. None;
}

abbrev rules_in : Mode → Bool → Rules
rules_in mode opened = record { mode = mode; casts = casts_by mode four 0 no_tags bracha; coin = λ s. false; service = from_hundred opened }

abbrev rules_with : Bool → Rules
rules_with opened = rules_in one opened

-- ---- the window of commands

-- INIT of replica 1's command of this number
abbrev init : ℕ → Item
init num = record { from = 1; kind = Init; slot = command_slot 1 num; value = 7 ∷ [] }

abbrev verdict_at : ℕ → Verdict
verdict_at num = verdict_on (rules_with true) no_parts [] (init num)

last_inside : verdict_at 163 ≡ Take
unfolding verdict_on by_other
last_inside = refl

first_ahead : verdict_at 164 ≡ Refuse (Ahead 100)
unfolding verdict_on by_other
first_ahead = refl

first_inside : verdict_at 36 ≡ Take
unfolding verdict_on by_other
first_inside = refl

last_past : verdict_at 35 ≡ Refuse (Past 100)
unfolding verdict_on by_other
last_past = refl

-- ---- the window of rounds

-- INIT of replica 1's list of identifiers in this round
abbrev in_class : ℕ → ℕ → Slot
in_class class round = record { class = class; a = round; attempt = 0; bround = 0; step = 0; origin = 1 }

abbrev round_init : ℕ → Item
round_init round = record { from = 1; kind = Init; slot = in_class 2 round; value = 7 ∷ [] }

abbrev verdict_in : ℕ → Verdict
verdict_in round = verdict_on (rules_with true) no_parts [] (round_init round)

last_round_inside : verdict_in 104 ≡ Take
unfolding verdict_on by_other
last_round_inside = refl

first_round_ahead : verdict_in 105 ≡ Refuse (Ahead 100)
unfolding verdict_on by_other
first_round_ahead = refl

first_round_inside : verdict_in 98 ≡ Take
unfolding verdict_on by_other
first_round_inside = refl

last_round_past : verdict_in 97 ≡ Refuse (Past 100)
unfolding verdict_on by_other
last_round_past = refl

-- ---- in version 3 no command and no round is past

abbrev session : Mode
session = record { root = 6; vect = Reliable; version = Three; low = lit≤ tt; high = lit≤ tt }

abbrev verdict_in_session : Item → Verdict
verdict_in_session item = verdict_on (rules_in session true) no_parts [] item

first_command_stays : verdict_in_session (init 0) ≡ Take
unfolding verdict_on by_other
first_command_stays = refl

first_round_stays : verdict_in_session (round_init 0) ≡ Take
unfolding verdict_on by_other
first_round_stays = refl

-- what is too far ahead is as in the other versions
session_ahead : verdict_in_session (init 164) ≡ Refuse (Ahead 100)
unfolding verdict_on by_other
session_ahead = refl

-- and the steps of binary consensus go by values, lists, proposals and commands by digests, and so do VECTs, where echo
-- broadcast isn't chosen for them

steps_by_values : route_of session (in_class 5 0) ≡ routes.Values
unfolding by_other
steps_by_values = refl

lists_by_digests : route_of session (in_class 2 0) ≡ routes.Digests
unfolding by_other
lists_by_digests = refl

proposals_by_digests : route_of session (in_class 3 0) ≡ routes.Digests
unfolding by_other
proposals_by_digests = refl

commands_by_digests : route_of session (command_slot 1 0) ≡ routes.Digests
unfolding by_other
commands_by_digests = refl

vects_by_other : route_of session (in_class 4 0) ≡ routes.Other
unfolding by_other
vects_by_other = refl

other_has_digests : other_form session ≡ 3
unfolding other_form
other_has_digests = refl

-- ---- what may be held

-- an item of eleven bytes that isn't open, where replica 1 has so many bytes held in another
abbrev verdict_beside : ℕ → Verdict
verdict_beside len = verdict_on (rules_with false) no_parts ([] ∷ (record { item = init 101; len = len } ∷ []) ∷ [] ∷ [] ∷ []) (init 102)

fits_exactly : verdict_beside 1048565 ≡ Hold
unfolding verdict_on by_other
fits_exactly = refl

one_too_many : verdict_beside 1048566 ≡ Refuse (HeldFull 1048566)
unfolding verdict_on by_other
one_too_many = refl

-- another item of the kind and slot of a held one repeats it
held_already : verdict_on (rules_with false) no_parts ([] ∷ (record { item = init 102; len = 11 } ∷ []) ∷ []) (record { from = 1; kind = Init; slot = command_slot 1 102; value = 8 ∷ [] }) ≡ Again
unfolding verdict_on by_other
held_already = refl

-- ---- the order of messages

abbrev message : ℕ → Kind → To → Msg
message num kind to = record { to = to; kind = kind; slot = command_slot 1 num; value = [] }

-- by slot first, then by kind, then by receiver, of which all come first
by_slot_kind_receiver :
    ordered (message 2 Init All ∷ message 1 Ready All ∷ message 1 Echo (One 3) ∷ message 1 Echo (One 0) ∷ message 1 Echo All ∷ [])
    ≡ message 1 Echo All ∷ message 1 Echo (One 0) ∷ message 1 Echo (One 3) ∷ message 1 Ready All ∷ message 2 Init All ∷ []
unfolding ordered
by_slot_kind_receiver = refl
