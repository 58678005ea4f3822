-- The boxes of the rounds that are kept: that of the current round, and those of rounds before it.
use Rattle.std.specs.Prelude.{◌≡◌, ℕ, zero, suc, ◌+◌, ◌-◌, ◌<◌, ◌≤◌, nat_lt, ◌==◌, Bool, true, false, List, [], ◌∷◌, ◌++◌, take, Option, Some, None, Result, if◌then◌else◌}
use Rattle.std.specs.List.{slice_get}
use Rattle.std.specs.VecDeque.{deque_len, deque_capacity}
use Rattle.ritas_base.specs.Versions.{has_past}
use Rattle.ritas_base.specs.declared.mode.FrameVersion.{FrameVersion}
use Rattle.ritas_base.specs.declared.bytes.Mem.{Mem}
use Rattle.ritas_base.specs.declared.slot.Slot.{Slot}
use Rattle.ritas_base.specs.declared.item.Say.{Say}
use Rattle.ritas_base.specs.declared.id.Id.{Id}
use Rattle.frame_codec.specs.Values.{ids_bytes}
use Rattle.std.specs.Option.{option_or}
use Rattle.layer_api.specs.Service.{Seat, LastVector}
use Rattle.layer_api.specs.Words.{Word, Ask}
use Rattle.layer_api.specs.Multi.{Desk}
use Rattle.layer_api.specs.Windows.{rounds_kept}
use Rattle.ordered_rounds.specs.Box.{RoundRules, MayRound}
use Rattle.ordered_rounds.specs.BoxCalls.{RoundShown, RoundHears}
use Rattle.ordered_rounds.specs.Identifiers.{passing_ids, is_without}
use Rattle.ordered_rounds.specs.Rounds.{proposal, round_desk, rounds, is_kept}
use Rattle.ordered_rounds.specs.Ledger.{LedgerStands}
use Rattle.ordered_rounds.specs.declared.ledger.Ledger.{Ledger}
use Rattle.ordered_rounds.specs.declared.place.Place.{Place}
use Rattle.ordered_rounds.specs.declared.boxes.Boxes.{Boxes}

-- the box of the round so many before the current one
abbrev pub box_at : {V : Type 0} → Boxes V → ℕ → Option V
box_at b zero = b.current
box_at b (suc k) = slice_get b.older.items k

-- one box is another, and the others are the same
abbrev pub IsExchanged : {V : Type 0} → Boxes V → Boxes V → ℕ → V → Type 0
IsExchanged old new k one = (j : ℕ) → box_at new j ≡ (if j == k then Some one else box_at old j)

-- the boxes of the rounds before the current one, once it is complete: where there is a past, two at most, the latest
abbrev pub older_then : {V : Type 0} → FrameVersion → List V → V → List V
older_then version older one = one ∷ (if has_past version then take (rounds_kept - 1) older else older)

-- there is memory for them
pub record HasRoom {V : Type 0} (version : FrameVersion) (b : Boxes V) : Type 0 where
  pub few : has_past version ≡ true → rounds_kept ≤ deque_capacity b.older
  pub all : has_past version ≡ false → deque_len b.older < deque_capacity b.older

-- whether a box takes items of a slot
abbrev pub opens_in : {V : Type 0} → (V → RoundShown) → Option V → Slot → Bool
opens_in shown None s = false
opens_in shown (Some x) s = (shown x).opens s

-- whether a box tells that it is spent
abbrev pub spent_in : {V : Type 0} → (V → RoundShown) → Option V → Bool
spent_in shown None = false
spent_in shown (Some x) = (shown x).spent

-- the vector of a round, by its box
abbrev pub vector_by_box : {V : Type 0} → (V → RoundShown) → Option V → Option LastVector
vector_by_box shown None = None
vector_by_box shown (Some x) = (shown x).vector

-- and the last one
abbrev pub last_in : {V : Type 0} → (V → RoundShown) → ℕ → Boxes V → Option LastVector
last_in shown completed b = option_or (vector_by_box shown b.current) (if nat_lt 0 completed then vector_by_box shown (box_at b 1) else None)

-- a box, where there is one, hears what a slot delivered
abbrev pub BoxHears : {V : Type 0} → (V → Desk → List Word → Type 0) → RoundRules → (V → Bool) → (V → RoundShown) → (Slot → Bool) → Option V → Option V → Slot → List ℕ
    → List Say → List Say → Result (Unit {0}) Mem → Type 0
BoxHears {V} stands v live shown bits old new s x before after result =
    (one : V) → old ≡ Some one → (next : V) × (new ≡ Some next) × RoundHears stands v live shown bits one next s x before after result

-- the box of the round so many before the current one does
abbrev pub HearsBox : {V : Type 0} → (V → Desk → List Word → Type 0) → RoundRules → (V → Bool) → (V → RoundShown) → (Slot → Bool) → ℕ → Boxes V → Boxes V → Slot → List ℕ
    → List Say → List Say → Result (Unit {0}) Mem → Type 0
HearsBox {V} stands v live shown bits k old new s x before after result =
    (one : V) → box_at old k ≡ Some one → (next : V) × IsExchanged old new k next × RoundHears stands v live shown bits one next s x before after result

-- a round's box was made, and was proposed these identifiers
pub record BeganAt {V : Type 0} (stands : V → Desk → List Word → Type 0) (v : RoundRules) (at : Desk) (ids : List Id) (one : V) (before after : List Say) : Type 0 where
  pub grows : stands one at (Ask (ids_bytes ids) ∷ [])
  pub made : after ≡ before ++ v.says at [] (Ask (ids_bytes ids))

-- it was proposed those of what is pending
abbrev pub RoundBegan : {V : Type 0} → (V → Desk → List Word → Type 0) → RoundRules → Place → Ledger → ℕ → V → List Say → List Say → Type 0
RoundBegan stands v place ledger a one before after =
    (at : Desk) (delivered log : List Id) → at.scope.numbers ≡ place.numbers → at.me ≡ place.me → at.scope.a ≡ a → at.scope.attempt ≡ 0 → LedgerStands ledger delivered log →
    let ids = proposal place.numbers.n (passing_ids (is_without log) delivered) in
    MayRound v at [] (Ask (ids_bytes ids)) → BeganAt stands v at ids one before after

-- a box stands for the words of its round; where there is none, the round has none
abbrev pub Stood : {V : Type 0} → (V → Desk → List Word → Type 0) → Option V → Desk → List Word → Type 0
Stood stands None at u = u ≡ []
Stood stands (Some x) at u = stands x at u

-- those that are kept do so
abbrev pub BoxesStand : {V : Type 0} → (V → Desk → List Word → Type 0) → RoundRules → Seat → ℕ → (ℕ → List Word) → Boxes V → Type 0
BoxesStand stands v seat n words b = (a k : ℕ) → a + k ≡ n → is_kept seat.mode.version n a ≡ true → a < rounds → Stood stands (box_at b k) (round_desk v seat a) (words a)

-- those of the rounds before the current one do
abbrev pub OldStand : {V : Type 0} → (V → Desk → List Word → Type 0) → RoundRules → Seat → ℕ → (ℕ → List Word) → Boxes V → Type 0
OldStand stands v seat n words b = (a k : ℕ) → a + k ≡ n → 0 < k → is_kept seat.mode.version n a ≡ true → a < rounds → Stood stands (box_at b k) (round_desk v seat a) (words a)
