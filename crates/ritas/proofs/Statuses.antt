-- What a status says, and how replies come about.
use Rattle.std.proofs.Common.{◌≡◌, ◌≤◌, List, refl, inl, inr, arith}
use Rattle.std.specs.Prelude.{◌⊎◌, Result, Ok, Err}
use Rattle.ritas_base.specs.declared.event.Event.{Event}
use Rattle.schedule_file.specs.declared.fault.FileFault.{FileFault}
use Rattle.schedule_file.specs.declared.fault.FileFault.TheVariants as faults
use Rattle.schedule_file.specs.ReadHeader.{Heading}
use Rattle.world_model.specs.declared.audit.Audit.{Audit}
use Rattle.world_model.specs.declared.audit.Audit.TheVariants as audits
use Rattle.ritas.specs.Statuses.{audit_status, fault_status}

pub file_or_fault : (read : Result (Heading × List Event) FileFault) → ((x : Heading × List Event) × (read ≡ Ok x)) ⊎ ((e : FileFault) × (read ≡ Err e))
file_or_fault (Ok x) = inl (x, refl)
file_or_fault (Err e) = inr (e, refl)

pub fault_above_1 : (e : FileFault) → 2 ≤ fault_status e
fault_above_1 faults.Magic = omega arith
fault_above_1 faults.Version = omega arith
fault_above_1 (faults.Header p) = omega arith
fault_above_1 (faults.Event p) = omega arith
fault_above_1 (faults.Truncated p) = omega arith
fault_above_1 (faults.Trailing p) = omega arith
fault_above_1 faults.TooLong = omega arith
fault_above_1 faults.Read = omega arith
fault_above_1 faults.Mem = omega arith

pub holds_at_0 : (a : Audit) → audit_status a ≡ 0 → a ≡ audits.Holds
holds_at_0 audits.Holds e = refl
holds_at_0 audits.TooManyFaulty e = absurd (omega (arith, e))
holds_at_0 (audits.Forged k) e = absurd (omega (arith, e))
holds_at_0 (audits.Collision k) e = absurd (omega (arith, e))
