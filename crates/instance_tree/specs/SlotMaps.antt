-- Maps from slots, and which slots a drop takes out of one.
use Rattle.std.specs.Prelude.{ℕ, Bool, not, ◌==◌, ◌&&◌, nat_lt, refl}
use Rattle.std.specs.Coded.{Coded, code_by, coded×, coded_ℕ}
use Rattle.std.specs.FinMap.{FinMap, retain_keys}
use Rattle.ritas_base.specs.declared.slot.Slot.{Slot}
use Rattle.ritas_base.specs.SlotOrder.{slot_cmp}
use Rattle.ritas_base.specs.Slots.{within}

-- a value at each of some slots
abbrev pub SlotMap : Type 0 → Type 0
SlotMap V = FinMap slot_cmp V

-- the slots that pass the test have no value any more, and the others keep theirs
abbrev pub without_slots : {V : Type 0} → (Slot → Bool) → SlotMap V → SlotMap V
without_slots gone m = retain_keys m (λ s. not (gone s))

-- a slot of the classes that belong to rounds, and of a round before this one
abbrev pub is_before_round : ℕ → Slot → Bool
is_before_round round s = within 2 5 s.class && nat_lt s.a round

-- a slot of a command of this origin, with a number below this one
abbrev pub is_command_below : ℕ → ℕ → Slot → Bool
is_command_below origin below s = (s.class == 1 && s.origin == origin) && nat_lt s.a below

-- the same of any origin
abbrev pub is_numbered_command : ℕ → Slot → Bool
is_numbered_command below s = s.class == 1 && nat_lt s.a below

-- a slot whose number is below this one
abbrev pub is_numbered_below : ℕ → Slot → Bool
is_numbered_below bound s = nat_lt s.a bound

-- a slot is stored as the tuple of its fields
abbrev pub slot_code : Coded Slot
slot_code =
    code_by (ℕ × (ℕ × (ℕ × (ℕ × (ℕ × ℕ)))))
    (coded× coded_ℕ (coded× coded_ℕ (coded× coded_ℕ (coded× coded_ℕ (coded× coded_ℕ coded_ℕ)))))
    (λ s. (s.class, (s.a, (s.attempt, (s.bround, (s.step, s.origin))))))
    (λ x. record { class = x.0; a = x.1.0; attempt = x.1.1.0; bround = x.1.1.1.0; step = x.1.1.1.1.0; origin = x.1.1.1.1.1 })
    (λ _. refl)
