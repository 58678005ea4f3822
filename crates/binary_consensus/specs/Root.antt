-- Binary consensus as a root service: one instance, of number 0 and attempt 0, with the service's own words. An input is a
-- bit's byte, and what is heard at a step is the byte of a vote.
use Rattle.std.specs.Prelude.{ℕ, ◌+◌, Bool, ◌==◌, ◌&&◌, nat_le, if◌then◌else◌, [], Option, Some, None, option_map}
use Rattle.ritas_base.specs.declared.slot.Slot.{Slot}
use Rattle.ritas_base.specs.Slots.{within}
use Rattle.layer_api.specs.Service.{ServiceRules, Seat, Decides, Instance, OfBit, OfValue, OfVector, Decision, Bit, Ending, Undecided, Over, Decided}
use Rattle.layer_api.specs.OneInstance.{is_given}
use Rattle.layer_api.specs.Binary.{BinaryRules, Bench}

-- the bench of the one instance
abbrev pub root_bench : Seat → Bench
root_bench seat = record { numbers = seat.numbers; me = seat.me; a = 0; attempt = 0; coin = seat.coin }

-- whether the slot is of a step of the instance
abbrev pub is_root_step : Slot → Bool
is_root_step s = s.class == 5 && (s.a == 0 && (s.attempt == 0 && (within 1 200 s.bround && within 1 3 s.step)))

-- a step's items may be taken once the input is there, up to one round ahead
abbrev pub step_opens : Bool → ℕ → Slot → Bool
step_opens given round s = given && (is_root_step s && nat_le s.bround (round + 1))

abbrev pub binary_ending : Option Bool → Bool → Ending
binary_ending (Some bit) is_over = Decided (Bit bit)
binary_ending None is_over = if is_over then Over else Undecided

abbrev pub binary_decided_in : Option Bool → Instance → Option Decision
binary_decided_in o (OfBit a attempt) = if a == 0 && attempt == 0 then option_map Bit o else None
binary_decided_in o (OfValue a attempt) = None
binary_decided_in o (OfVector a) = None

abbrev pub binary_root : BinaryRules → ServiceRules
binary_root b = record {
  serves = λ root. root == 3;
  purpose = Decides (OfBit 0 0);
  says = λ seat w c. b.says (root_bench seat) w c;
  opens = λ seat w s. step_opens (is_given w) (b.round (root_bench seat) w) s;
  completed = λ seat w. 0;
  base = λ seat w origin. 0;
  next_number = λ seat w. 0;
  given = λ seat w. is_given w;
  done = λ seat w. [];
  outcome = λ seat w. binary_ending (b.decision (root_bench seat) w) (b.over (root_bench seat) w);
  last = λ seat w. None;
  decided = λ seat w x. binary_decided_in (b.decision (root_bench seat) w) x;
}
