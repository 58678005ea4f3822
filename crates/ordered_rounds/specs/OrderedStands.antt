-- What a value of atomic broadcast stands for.
use Rattle.std.specs.Prelude.{◌≡◌, ◌&&◌, nat_lt, Bool, true, false, List, ◌++◌, Result, Ok, Err, is_some}
use Rattle.ritas_base.specs.declared.bytes.Mem.{Mem}
use Rattle.ritas_base.specs.declared.item.Say.{Say}
use Rattle.ritas_base.specs.Numbers.{IsSession}
use Rattle.layer_api.specs.Service.{Seat, AreProper}
use Rattle.layer_api.specs.Words.{Word, asked}
use Rattle.layer_api.specs.Multi.{Desk}
use Rattle.ordered_rounds.specs.Box.{last_attempt, RoundRules}
use Rattle.ordered_rounds.specs.BoxCalls.{RoundShown}
use Rattle.ordered_rounds.specs.Rounds.{delivered_ids, round_ask, round_words, rounds, ordered}
use Rattle.ordered_rounds.specs.Stepping.{current, log_now}
use Rattle.ordered_rounds.specs.Ledger.{LedgerStands}
use Rattle.ordered_rounds.specs.Boxes.{BoxesStand}
use Rattle.ordered_rounds.specs.Waiting.{decision_in, Knows}
use Rattle.ordered_rounds.specs.declared.ordered.Ordered.{Ordered}

-- the value is for this seat, each of whose words met its conditions
pub record Seated {V : Type 0} (v : RoundRules) (x : Ordered V) (seat : Seat) (w : List Word) : Type 0 where
  pub session : IsSession seat.numbers
  pub met : AreProper (ordered v) seat w
  pub numbers : x.place.numbers ≡ seat.numbers
  pub version : x.place.version ≡ seat.mode.version
  pub me : x.place.me ≡ seat.me
  pub last : x.place.last ≡ last_attempt v seat.numbers
  pub inputs : x.inputs ≡ asked w
  pub live : x.live ≡ true

-- whether the first round that isn't complete began
abbrev pub has_begun : RoundRules → Seat → List Word → Bool
has_begun v seat w = nat_lt (current v seat w) rounds && is_some (round_ask v seat (current v seat w) w)

pub record OrderedStands {V : Type 0} (stands : V → Desk → List Word → Type 0) (v : RoundRules) (shown : V → RoundShown) (x : Ordered V) (seat : Seat) (w : List Word) : Type 0 where
  pub seated : Seated v x seat w
  pub ledger : LedgerStands x.ledger (delivered_ids w) (log_now v seat w)
  pub completed : x.completed ≡ current v seat w
  pub boxes : BoxesStand stands v seat (current v seat w) (λ a. round_words v seat a w) x.boxes
  pub begun : is_some x.boxes.current ≡ has_begun v seat w
  pub waits : Knows v x.place.numbers (decision_in shown x.boxes.current) x.waits

-- what was said is put out, or nothing is put out and the value is live no more
abbrev pub OrderedEnds : {V : Type 0} → Ordered V → Ordered V → Result (Unit {0}) Mem → List Say → List Say → List Say → Result (Unit {0}) Mem → Type 0
OrderedEnds old new taken made before after (Ok u) = (taken ≡ Ok u) × (new ≡ old) × (after ≡ before ++ made)
OrderedEnds old new taken made before after (Err e) = (new ≡ record old { live = false }) × (after ≡ before)
