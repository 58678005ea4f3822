-- Multi-valued consensus as a root service: one instance, of round 0 and attempt 0, whose input is a value of class 3.
use Rattle.std.specs.Prelude.{ℕ, ◌==◌, ◌&&◌, List, [], Option, Some, None}
use Rattle.layer_api.specs.Service.{ServiceRules, Seat, Decides, Instance, OfBit, OfValue, OfVector, Decision, value_decision, Ending, Undecided, Decided}
use Rattle.layer_api.specs.Words.{Word}
use Rattle.layer_api.specs.OneInstance.{is_given}
use Rattle.layer_api.specs.Multi.{Desk, MultiRules, is_multi_slot}

-- the desk of the one instance
abbrev pub multi_root_desk : Seat → Desk
multi_root_desk seat = record { scope = record { numbers = seat.numbers; root = 4; a = 0; attempt = 0 }; me = seat.me; coin = seat.coin }

abbrev pub multi_ending : Option (Option (List ℕ)) → Ending
multi_ending None = Undecided
multi_ending (Some o) = Decided (value_decision o)

abbrev pub multi_decided_in : MultiRules → Seat → List Word → Instance → Option Decision
multi_decided_in m seat w (OfBit a k) = m.inside (multi_root_desk seat) w (OfBit a k)
multi_decided_in m seat w (OfValue a k) = m.inside (multi_root_desk seat) w (OfValue a k)
multi_decided_in m seat w (OfVector a) = None

abbrev pub multi_root : MultiRules → ServiceRules
multi_root m = record {
  serves = λ root. root == 4;
  purpose = Decides (OfValue 0 0);
  says = λ seat w c. m.says (multi_root_desk seat) w c;
  opens = λ seat w s. is_multi_slot (multi_root_desk seat).scope s && m.opens (multi_root_desk seat) w s;
  completed = λ seat w. 0;
  base = λ seat w origin. 0;
  next_number = λ seat w. 0;
  given = λ seat w. is_given w;
  done = λ seat w. [];
  outcome = λ seat w. multi_ending (m.decision (multi_root_desk seat) w);
  last = λ seat w. None;
  decided = λ seat w x. multi_decided_in m seat w x;
}
