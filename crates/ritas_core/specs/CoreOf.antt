-- A core whose layers keep their traits' laws.
use Rattle.std.specs.Prelude.{◌≡◌, ◌<◌, true}
use Rattle.ritas_base.specs.declared.slot.Slot.{Slot}
use Rattle.ritas_base.specs.Numbers.{IsSession}
use Rattle.layer_api.specs.Broadcast.{BroadcastRules}
use Rattle.layer_api.specs.Service.{ServiceRules}
use Rattle.ritas_core.specs.Rules.{Rules, at_slot_of, FormsFit}

-- the rules are those of a core with this service and this other broadcast, of a replica of a session
pub record IsCoreOf (service : ServiceRules) (other : BroadcastRules) (r : Rules) : Type 0 where
  pub words : r.service ≡ service
  pub casts : (s : Slot) → r.casts.at_slot s ≡ at_slot_of r.mode other s
  pub session : IsSession r.casts.numbers
  pub me : r.casts.me < r.casts.numbers.n
  pub serves : service.serves r.mode.root ≡ true
  pub kinds : FormsFit r.mode r.casts
