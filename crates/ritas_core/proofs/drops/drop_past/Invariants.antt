use Rattle.std.proofs.Common.{◌≡◌, cond, None}
use Rattle.std.specs.FinMap.{get}
use Rattle.ritas_base.specs.declared.slot.Slot.{Slot}
use Rattle.ritas_core.proofs.Dropping.{is_taken}
use Rattle.ritas_core.proofs.drops.drop_past.Given as goal

-- the rounds and the commands of the origins so far are dropped
abbrev pub invariant-loop-origin : goal.invariant-loop-origin
invariant-loop-origin g l = (s : Slot) → get l.casts s ≡ cond (is_taken (g.S.Service.shown l.service) l.origin s) None (get l.fn.casts s)
