-- The words of a run, the statuses that it ends with, and what it writes.
use Rattle.std.specs.Prelude.{◌≡◌, ◌≢◌, ◌⊎◌, ◌≤◌, ℕ, List, ◌++◌, Bool, true, false, Some, Result, Ok, Err}
use Rattle.outside.specs.Faults.{count_after}
use Rattle.outside.specs.Writing.{TookFront}
use Rattle.outside.specs.declared.link.FaultCounts.{FaultCounts}
use Rattle.ritas_base.specs.declared.event.Event.{Event}
use Rattle.schedule_file.specs.declared.fault.FileFault.{FileFault}
use Rattle.schedule_file.specs.declared.header.Header.{Header}
use Rattle.schedule_file.specs.ReadHeader.{Heading, heading}
use Rattle.ritas_base.specs.declared.what.What.{What}
use Rattle.ritas_base.specs.declared.what.What.TheVariants as what_of
use Rattle.ritas_base.specs.Members.{has_member}
use Rattle.schedule_replay.specs.Replay.{CountsIf, text, asked_of}
use Rattle.schedule_replay.specs.Vectors.{vectors_text, VectorsAgree}
use Rattle.cluster_config.specs.declared.job.Job.{Job}
use Rattle.cluster_config.specs.declared.job.Job.TheVariants.{Replay, Drive, Keys, Node, Cluster, Submit, Watch}
use Rattle.cluster_config.specs.Words.{job_of}
use Rattle.ritas.specs.Statuses.{status_of, fault_text, fault_status}

-- the words ask for this of a schedule
abbrev pub Asks : List (List ℕ) → What → Type 0
Asks words what = job_of words ≡ Some (Replay what)

-- they ask for something of a schedule
abbrev pub IsReplay : List (List ℕ) → Type 0
IsReplay words = (what : What) × Asks words what

-- a job that uses the link
abbrev pub is_linked : Job → Bool
is_linked (Replay what) = false
is_linked (Drive what) = false
is_linked Keys = false
is_linked Node = true
is_linked Cluster = true
is_linked Submit = true
is_linked Watch = true

-- ---- statuses

-- one of 0 to 9
abbrev pub IsStatus : ℕ → Type 0
IsStatus status = status ≤ 9

-- the input didn't fail, nor the output, and memory didn't run out
abbrev pub IsOwnStatus : ℕ → Type 0
IsOwnStatus status = (status ≢ 4) × (status ≢ 5) × (status ≢ 8)

-- The counts of a link before and after a call that ended with this status: one call of it failed just at 6, at most one was without memory,
-- and that only at 8.
pub record LinkCounts (before now : FaultCounts) (status : ℕ) : Type 0 where
  pub failed : CountsIf before.failed now.failed (status ≡ 6)
  pub short : (now.short ≡ before.short) ⊎ ((status ≡ 8) × (now.short ≡ count_after before.short))

-- a link is as it was, and the status isn't that of its fault
abbrev pub LeavesLink : {L : Type 0} → L → L → ℕ → Type 0
LeavesLink old new status = (new ≡ old) × (status ≢ 6)

-- How a call ended, for an output before and after it: one call of it failed just at 5, and at 4 nothing was done to it.
pub record Ends {K : Type 0} (faults : K → ℕ) (old new : K) (status : ℕ) : Type 0 where
  pub listed : IsStatus status
  pub counts : CountsIf (faults old) (faults new) (status ≡ 5)
  pub unread : status ≡ 4 → new ≡ old

-- The same of a call of a job that may use a link, for its counts before and after it: the status isn't 2.
pub record Runs {K : Type 0} (faults : K → ℕ) (old new : K) (before now : FaultCounts) (status : ℕ) : Type 0 where
  pub ends : Ends faults old new status
  pub link_counts : LinkCounts before now status
  pub words_are_right : status ≢ 2

-- The same of a call that replays, for an input before and after it: one call of it failed just at 4, and it is neither 2 nor 6. At 8
-- nothing was done to the output, unless frames are asked for.
pub record Replays {S K : Type 0} (input_faults : S → ℕ) (before after : S) (faults : K → ℕ) (old new : K) (what : What) (status : ℕ) : Type 0 where
  pub ends : Ends faults old new status
  pub input_counts : CountsIf (input_faults before) (input_faults after) (status ≡ 4)
  pub words_are_right : (status ≢ 2) × (status ≢ 6)
  pub wanting : what ≢ what_of.Frames → status ≡ 8 → new ≡ old

-- ---- texts

-- The call answered its own status and wrote the whole text. Or something failed or memory ran out, and the output took a front
-- of the text.
pub record Replies {K : Type 0} (tells : Bool) (taken : K → List ℕ) (old new : K) (status own : ℕ) (reply : List ℕ) : Type 0 where
  pub answer : IsOwnStatus status → status ≡ own
  pub whole : tells ≡ true → IsOwnStatus status → taken new ≡ taken old ++ reply
  pub front : tells ≡ true → TookFront (taken old) (taken new) reply

-- A file is answered by what is asked for of its world, or by the line of its first fault, where one of which there is no such text has that
-- of its root service last. At a fault nothing is done to the output at 8.
pub record AnswersFile {K : Type 0} (tells : Bool) (taken : K → List ℕ) (old new : K) (what : What) (status : ℕ) (file : Result (Heading × List Event) FileFault) : Type 0 where
  pub replayed : (h : Header) (es : List Event) → asked_of what file ≡ Ok (heading h, es) → Replies tells taken old new status (status_of h es) (text what h es)
  pub refused : (e : FileFault) → asked_of what file ≡ Err e → Replies tells taken old new status (fault_status e) (fault_text e)
  pub wanting : (e : FileFault) → asked_of what file ≡ Err e → status ≡ 8 → new ≡ old

-- What was written where vectors were asked for and it ended with 0 or 1: their text. At 0, where its last line says that the audit holds,
-- no line says that attempts are spent, and lines of one round are equal but for the replica.
pub record WroteVectors {K : Type 0} (tells : Bool) (taken : K → List ℕ) (old new : K) (status : ℕ) (h : Header) (es : List Event) : Type 0 where
  pub whole : tells ≡ true → taken new ≡ taken old ++ vectors_text h es
  pub agree : status ≡ 0 → VectorsAgree (has_member h.correct) h.p.n (vectors_text h es)
