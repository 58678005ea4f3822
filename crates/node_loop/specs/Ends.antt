-- What a fault is for serving: of the link or of the archive, and which end it is.
use Rattle.std.specs.Prelude.{◌≡◌}
use Rattle.outside.specs.declared.link.LinkFault.{LinkFault}
use Rattle.outside.specs.declared.link.LinkFault.TheVariants as link_faults
use Rattle.node_loop.specs.declared.archive.ArchiveFault.{ArchiveFault}
use Rattle.node_loop.specs.declared.archive.ArchiveFault.TheVariants as archive
use Rattle.node_loop.specs.declared.end.Fault.{Fault}
use Rattle.node_loop.specs.declared.end.Fault.TheVariants as faults
use Rattle.node_loop.specs.declared.end.ServeEnd.{ServeEnd}
use Rattle.node_loop.specs.declared.end.ServeEnd.TheVariants as ends

-- a fault of the link as one of serving
abbrev pub IsFaultOfLink : LinkFault → Fault → Type 0
IsFaultOfLink link_faults.Failed fault = fault ≡ faults.Link
IsFaultOfLink link_faults.Mem fault = fault ≡ faults.Mem

-- a fault of the archive as one of serving
abbrev pub fault_in : ArchiveFault → Fault
fault_in archive.Disk = faults.Disk
fault_in (archive.Full x) = faults.Full x
fault_in archive.Mem = faults.Mem

-- the end that a fault is
abbrev pub IsEndOf : Fault → ServeEnd → Type 0
IsEndOf faults.Link end = end ≡ ends.LinkFault
IsEndOf faults.Tape end = end ≡ ends.TapeFault
IsEndOf faults.Mem end = end ≡ ends.Mem
IsEndOf faults.Disk end = end ≡ ends.DiskFault
IsEndOf (faults.Full x) end = end ≡ ends.JournalFull x

-- the end that a fault of the link is
abbrev pub IsEndOfLink : LinkFault → ServeEnd → Type 0
IsEndOfLink link_faults.Failed end = end ≡ ends.LinkFault
IsEndOfLink link_faults.Mem end = end ≡ ends.Mem
