-- What a call that reads a whole source says of its count of faults.
use Rattle.std.specs.Prelude.{ℕ, Result, Ok, Err}
use Rattle.outside.specs.Faults.{count_after}
use Rattle.outside.specs.declared.whole.ReadFault.{ReadFault}
use Rattle.outside.specs.declared.whole.ReadFault.TheVariants as faults

-- how many calls of the source failed after it: a text that is too long is no fault, and want of memory is none
abbrev pub read_faults_after : {A : Type 0} → ℕ → Result A ReadFault → ℕ
read_faults_after n (Ok x) = n
read_faults_after n (Err faults.Failed) = count_after n
read_faults_after n (Err faults.TooLong) = n
read_faults_after n (Err faults.Mem) = n
