-- Worked rows: the lines of a vectors text, and which root services have one.
use Rattle.std.specs.Prelude.{◌≡◌, true, false, not, ◌==◌, nat_lt, [], ◌∷◌, codes, Some, None, if◌then◌else◌, refl}
use Rattle.std.proofs.Common.{lit≤}
use Rattle.std.specs.Fmt.{digits}
use Rattle.hex.specs.Hex.{encode_with}
use Rattle.ritas_base.specs.declared.mode.Vect.TheVariants.{Reliable}
use Rattle.ritas_base.specs.declared.mode.FrameVersion.TheVariants.{One}
use Rattle.layer_api.specs.Purpose.{vector_rounds}
use Rattle.layer_api.specs.Service.{ServiceRules, Orders, LastVector, Undecided, Decided, Value, Spent}
use Rattle.reliable_bcast.specs.Bracha.{bracha}
use Rattle.command_log.specs.Rows.{alone}
use Rattle.world_model.specs.Audit.{first_broken}
use Rattle.world_model.specs.World.{Setting, states_of}
use Rattle.ritas_base.specs.declared.what.What.TheVariants as what_of
use Rattle.schedule_replay.specs.Replay.{has_text}
use Rattle.schedule_replay.specs.Vectors.{SaysSpent, SaysVector, SaysUndecided, line_says, vector_line, vectors_on}

-- ---- the three kinds of line

a_vector : vector_line 3 (SaysVector (record { round = 12; attempt = 1; value = 0 ∷ 171 ∷ [] })) ≡ codes "vector 3 12 1 00ab\n"
unfolding digits encode_with
a_vector = refl

spent : vector_line 0 SaysSpent ≡ codes "vector 0 spent\n"
unfolding digits
spent = refl

undecided : vector_line 10 SaysUndecided ≡ codes "vector 10 undecided\n"
unfolding digits
undecided = refl

-- ---- what a replica's line says

-- attempts that are spent come before a vector of an earlier round
spent_first : (x : LastVector) → line_says (Decided Spent) (Some x) ≡ SaysSpent
spent_first x = refl

-- root service 5 has its vector as its outcome too, and root service 6 has none
decided_here : (x : LastVector) → line_says (Decided (Value x.value)) (Some x) ≡ SaysVector x
decided_here x = refl

decided_there : (x : LastVector) → line_says Undecided (Some x) ≡ SaysVector x
decided_there x = refl

not_yet : line_says Undecided None ≡ SaysUndecided
not_yet = refl

-- ---- a text: of four replicas the first isn't correct, one is spent, one has a vector and one has none

abbrev here : ServiceRules
here = record {
  serves = λ root. true;
  purpose = Orders vector_rounds;
  says = λ seat w c. [];
  opens = λ seat w s. true;
  completed = λ seat w. 0;
  base = λ seat w origin. 0;
  next_number = λ seat w. 0;
  given = λ seat w. false;
  done = λ seat w. [];
  outcome = λ seat w. if seat.me == 1 then Decided Spent else Undecided;
  last = λ seat w. if nat_lt seat.me 3 then Some (record { round = 7; attempt = 0; value = seat.me ∷ [] }) else None;
  decided = λ seat w x. None;
}

abbrev world : Setting
world = record {
  numbers = record { n = 4; f = 1 };
  mode = record { root = 6; vect = Reliable; version = One; low = lit≤ tt; high = lit≤ tt };
  is_correct = λ i. not (i == 0);
  at_slot = λ s. bracha;
  service = here;
  coin = λ i s. false;
  keys = λ i. record { session = 5; n = 4; me = i; row = []; version = One };
  stops = λ k i. false;
  start = alone;
}

of_four : vectors_on world [] ≡ codes "vector 1 spent\nvector 2 7 0 02\nvector 3 undecided\naudit holds\n"
unfolding vectors_on first_broken states_of digits encode_with
of_four = refl

-- ---- the root services that have one

vectors_of_5 : has_text what_of.Vectors 5 ≡ true
vectors_of_5 = refl

vectors_of_6 : has_text what_of.Vectors 6 ≡ true
vectors_of_6 = refl

no_vectors_of_4 : has_text what_of.Vectors 4 ≡ false
no_vectors_of_4 = refl

no_vectors_of_7 : has_text what_of.Vectors 7 ≡ false
no_vectors_of_7 = refl

frames_of_1 : has_text what_of.Frames 1 ≡ true
frames_of_1 = refl
