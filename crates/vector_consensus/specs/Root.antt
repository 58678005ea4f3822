-- Vector consensus as a root service: one instance, of round 0, whose input is a value of class 2.
use Rattle.std.specs.Prelude.{◌==◌, ◌&&◌, if◌then◌else◌, List, [], Option, Some, None}
use Rattle.layer_api.specs.Service.{ServiceRules, Seat, Decides, vector_with, Instance, OfBit, OfValue, OfVector, Decision, vector_decision, Ending, Undecided, Decided}
use Rattle.layer_api.specs.Words.{Word}
use Rattle.layer_api.specs.OneInstance.{is_given}
use Rattle.layer_api.specs.Multi.{Desk}
use Rattle.layer_api.specs.Vectors.{VectorRules, is_vector_slot}

-- the desk of the one instance
abbrev pub vector_root_desk : Seat → Desk
vector_root_desk seat = record { scope = record { numbers = seat.numbers; root = 5; a = 0; attempt = 0 }; me = seat.me; coin = seat.coin }

abbrev pub vector_ending : Option Decision → Ending
vector_ending None = Undecided
vector_ending (Some d) = Decided d

abbrev pub vector_decided_in : VectorRules → Seat → List Word → Instance → Option Decision
vector_decided_in v seat w (OfBit a k) = v.inside (vector_root_desk seat) w (OfBit a k)
vector_decided_in v seat w (OfValue a k) = v.inside (vector_root_desk seat) w (OfValue a k)
vector_decided_in v seat w (OfVector a) = if a == 0 then v.inside (vector_root_desk seat) w (OfVector 0) else None

abbrev pub vector_root : VectorRules → ServiceRules
vector_root v = record {
  serves = λ root. root == 5;
  purpose = Decides (OfVector 0);
  says = λ seat w c. v.says (vector_root_desk seat) w c;
  opens = λ seat w s. is_vector_slot (vector_root_desk seat).scope s && v.opens (vector_root_desk seat) w s;
  completed = λ seat w. 0;
  base = λ seat w origin. 0;
  next_number = λ seat w. 0;
  given = λ seat w. is_given w;
  done = λ seat w. [];
  outcome = λ seat w. vector_ending (vector_decision (v.decision (vector_root_desk seat) w) (v.spent (vector_root_desk seat) w));
  last = λ seat w. vector_with 0 (v.attempt (vector_root_desk seat) w) (v.decision (vector_root_desk seat) w);
  decided = λ seat w x. vector_decided_in v seat w x;
}
