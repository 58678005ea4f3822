-- Every world whose replicas have one service and one broadcast beside the reliable one, whatever their keys and their coins.
use Rattle.std.specs.Prelude.{◌≡◌, ℕ, ◌<◌, true, List, ◌++◌}
use Rattle.ritas_base.specs.declared.event.Event.{Event}
use Rattle.ritas_base.specs.declared.slot.Slot.{Slot}
use Rattle.ritas_base.specs.Numbers.{IsSession}
use Rattle.layer_api.specs.Broadcast.{BroadcastRules}
use Rattle.layer_api.specs.Service.{ServiceRules, IsPart}
use Rattle.ritas_core.specs.Rules.{HasForm, at_slot_of}
use Rattle.world_model.specs.declared.audit.Audit.TheVariants.{Holds}
use Rattle.world_model.specs.World.{Setting}
use Rattle.world_model.specs.Audit.{audit_of}
use Rattle.world_model.specs.Agree.{Agree, rows_at}

-- the numbers are a session's, each correct replica is one of them, they have this service and this broadcast, which serve
-- the mode, and each row of keys is of the replica of its number
pub record IsWorld (service : ServiceRules) (other : BroadcastRules) (w : Setting) : Type 0 where
  pub session : IsSession w.numbers
  pub within : (i : ℕ) → w.is_correct i ≡ true → i < w.numbers.n
  pub words : w.service ≡ service
  pub casts : (s : Slot) → w.at_slot s ≡ at_slot_of w.mode other s
  pub serves : service.serves w.mode.root ≡ true
  pub form : HasForm w.mode other
  pub own : (i : ℕ) → i < w.numbers.n → ((w.keys i).me ≡ i) × ((w.keys i).n ≡ w.numbers.n)

-- the law of agreement, for each of them and every schedule
abbrev pub AgreementLaw : ServiceRules → BroadcastRules → Type 0
AgreementLaw service other = (w : Setting) (es : List Event) → IsWorld service other w → audit_of w es ≡ Holds → Agree w es

-- the law that the log of each replica only grows, whatever the audit says
abbrev pub LogsGrow : ServiceRules → BroadcastRules → Type 0
LogsGrow service other = (w : Setting) (more es : List Event) (i : ℕ) → IsWorld service other w → IsPart (rows_at w es i) (rows_at w (more ++ es) i)
