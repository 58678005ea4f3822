-- What a call that reads a file says of its source's count of faults.
use Rattle.std.specs.Prelude.{ℕ, Result, Ok, Err}
use Rattle.outside.specs.Faults.{count_after}
use Rattle.schedule_file.specs.declared.fault.FileFault.{FileFault}
use Rattle.schedule_file.specs.declared.fault.FileFault.TheVariants.{Read}

-- how many calls of the source failed after it: a fault of the file's bytes is none of the source, and want of memory is none
abbrev pub file_faults_after : {A : Type 0} → ℕ → Result A FileFault → ℕ
file_faults_after n (Ok x) = n
file_faults_after n (Err Read) = count_after n
file_faults_after n (Err _) = n
