-- What the getters of a value of atomic broadcast answer.
use Rattle.std.specs.Prelude.{ℕ, ◌-◌, ◌==◌, nat_lt, nat_le, Bool, true, false, ◌&&◌, reverse, slice_index, if◌then◌else◌}
use Rattle.ritas_base.specs.declared.mode.FrameVersion.{FrameVersion}
use Rattle.ritas_base.specs.declared.slot.Slot.{Slot}
use Rattle.ritas_base.specs.Limits.{number_limit}
use Rattle.layer_api.specs.Service.{Undecided, Decided, Spent}
use Rattle.layer_api.specs.ServiceCalls.{ServiceShown}
use Rattle.layer_api.specs.Vectors.{is_slot_in}
use Rattle.ordered_rounds.specs.BoxCalls.{RoundShown}
use Rattle.ordered_rounds.specs.Rounds.{is_kept}
use Rattle.ordered_rounds.specs.Boxes.{box_at, opens_in, spent_in, last_in}
use Rattle.ordered_rounds.specs.declared.boxes.Boxes.{Boxes}
use Rattle.ordered_rounds.specs.declared.ledger.Ledger.{Ledger}
use Rattle.ordered_rounds.specs.declared.ordered.Ordered.{Ordered}

-- whether items of a slot of a round may be taken: the round began and is kept, and its box takes them
abbrev pub opens_round : {V : Type 0} → (V → RoundShown) → FrameVersion → ℕ → ℕ → Boxes V → Slot → Bool
opens_round shown version f completed boxes s =
    nat_lt s.a number_limit && (nat_le s.a completed && (is_kept version completed s.a
    && (is_slot_in f s.a s && opens_in shown (box_at boxes (completed - s.a)) s)))

-- the base that a ledger tells of an origin
abbrev pub base_in : Ledger → ℕ → ℕ
base_in l origin = if nat_lt origin 31 then slice_index l.bases origin else 0

abbrev pub ordered_shown : {V : Type 0} → (V → RoundShown) → Ordered V → ServiceShown
ordered_shown shown x = record {
  opens = λ s. if s.class == 1 then true else opens_round shown x.place.version x.place.last x.completed x.boxes s;
  completed = x.completed;
  base = λ o. base_in x.ledger o;
  next_number = x.inputs;
  given = false;
  done = reverse x.ledger.log.items;
  outcome = if spent_in shown x.boxes.current then Decided Spent else Undecided;
  last = last_in shown x.completed x.boxes;
}
