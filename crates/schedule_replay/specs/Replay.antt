-- What a call that replays a schedule file writes, and how it ends.
use Rattle.std.specs.Prelude.{◌≡◌, ◌≢◌, ◌⊎◌, ℕ, List, ◌++◌, Bool, true, Result, Ok, Err, if◌then◌else◌}
use Rattle.outside.specs.Faults.{count_after}
use Rattle.outside.specs.Writing.{TookFront}
use Rattle.ritas_base.specs.declared.event.Event.{Event}
use Rattle.ritas_base.specs.Slots.{has_tries}
use Rattle.schedule_file.specs.declared.fault.FileFault.{FileFault}
use Rattle.schedule_file.specs.declared.fault.FileFault.TheVariants as faults
use Rattle.schedule_file.specs.declared.header.Header.{Header}
use Rattle.schedule_file.specs.ReadHeader.{Heading, heading}
use Rattle.schedule_file.specs.Reading.{◌>>=◌}
use Rattle.world_model.specs.declared.audit.Audit.{Audit}
use Rattle.world_model.specs.declared.audit.Audit.TheVariants.{Holds}
use Rattle.world_model.specs.Agree.{Agree}
use Rattle.world_model.specs.Audit.{audit_of}
use Rattle.world_model.specs.World.{Setting}
use Rattle.schedule_replay.specs.declared.end.ReplayEnd.{ReplayEnd}
use Rattle.schedule_replay.specs.declared.end.ReplayEnd.TheVariants as ends
use Rattle.ritas_base.specs.declared.what.What.{What}
use Rattle.ritas_base.specs.declared.what.What.TheVariants as what_of
use Rattle.schedule_replay.specs.Frames.{frames_on}
use Rattle.schedule_replay.specs.Layers.{setting_of}
use Rattle.schedule_replay.specs.Report.{report_on}
use Rattle.schedule_replay.specs.Vectors.{vectors_on, VectorsAgree}

-- ---- texts

-- what is written of a world after these events
abbrev pub text_on : What → Header → Setting → List Event → List ℕ
text_on what_of.Report h w es = report_on h w es
text_on what_of.Frames h w es = frames_on w es
text_on what_of.Vectors h w es = vectors_on w es

-- what is written of a schedule
abbrev pub text : What → Header → List Event → List ℕ
text what h es = text_on what h (setting_of h) es

-- whether there is such a text of a schedule with this root service: vectors are decided where consensus is tried again, in
-- root services 5 and 6 alone
abbrev pub has_text : What → ℕ → Bool
has_text what_of.Report root = true
has_text what_of.Frames root = true
has_text what_of.Vectors root = has_tries root

-- what is read, where there is such a text; else the header's root service is the fault of what is in its grammar
abbrev pub unless_none : {Y : Type 0} → What → ℕ → Y → Result Y FileFault
unless_none what root y = if has_text what root then Ok y else Err (faults.Header 15)

-- a file that this is asked of: where reading meets no fault, it may be of a root service that has no such text
abbrev pub asked_of : What → Result (Heading × List Event) FileFault → Result (Heading × List Event) FileFault
asked_of what file = file >>= λ x. unless_none what x.0.root x

-- and the events behind its header
abbrev pub asked_behind : What → ℕ → Result (List Event) FileFault → Result (List Event) FileFault
asked_behind what root events = events >>= unless_none what root

-- ---- ends

-- the end where reading met a fault: want of memory is none of the file
abbrev pub end_at_fault : FileFault → ReplayEnd
end_at_fault faults.Mem = ends.Mem
end_at_fault fault = ends.File fault

-- a world's end is its audit, unless the source or the sink failed or memory ran out
abbrev pub IsReplayEndOf : Audit → ReplayEnd → Type 0
IsReplayEndOf audit (ends.Done a) = a ≡ audit
IsReplayEndOf audit (ends.File e) = e ≡ faults.Read
IsReplayEndOf audit ends.Write = Unit {0}
IsReplayEndOf audit ends.Mem = Unit {0}

-- the end of bytes that aren't a file is their fault, unless the source failed or memory ran out
abbrev pub IsEndAt : FileFault → ReplayEnd → Type 0
IsEndAt fault (ends.Done a) = ⊥
IsEndAt fault (ends.File e) = (e ≡ fault) ⊎ (e ≡ faults.Read)
IsEndAt fault ends.Write = ⊥
IsEndAt fault ends.Mem = Unit {0}

-- a count of faults before and after a call, of which one call more failed just where this is so
pub record CountsIf (before now : ℕ) (failed : Type 0) : Type 0 where
  pub rises : failed → now ≡ count_after before
  pub stands : ¬ failed → now ≡ before

-- How a call ended, for a source and a sink before and after it, whether or not these tell: one call of the sink failed just where it is
-- `Write`, and one of the source just where it is `File(Read)`. Want of memory is no fault of the file. At a fault of the file nothing was
-- done to the sink, nor where memory ran out, unless frames are asked for.
pub record ReplayEnded {S K : Type 0} (source_faults : S → ℕ) (before after : S) (sink_faults : K → ℕ) (old new : K) (what : What) (end : ReplayEnd) : Type 0 where
  pub source : CountsIf (source_faults before) (source_faults after) (end ≡ ends.File faults.Read)
  pub sink : CountsIf (sink_faults old) (sink_faults new) (end ≡ ends.Write)
  pub own : end ≢ ends.File faults.Mem
  pub unread : (e : FileFault) → end ≡ ends.File e → new ≡ old
  pub wanting : what ≢ what_of.Frames → end ≡ ends.Mem → new ≡ old

-- ---- what was read

-- A world was answered by its audit: then the sink took its whole text, and in any case a front of it. Where that audit holds,
-- its replicas agree, and so do the lines of a text of their vectors.
pub record ShowsWorld {K : Type 0} (tells : Bool) (taken : K → List ℕ) (old new : K) (what : What) (end : ReplayEnd) (h : Header) (w : Setting) (es : List Event) : Type 0 where
  pub answer : IsReplayEndOf (audit_of w es) end
  pub whole : tells ≡ true → (a : Audit) → end ≡ ends.Done a → taken new ≡ taken old ++ text_on what h w es
  pub front : tells ≡ true → TookFront (taken old) (taken new) (text_on what h w es)
  pub agree : end ≡ ends.Done Holds → Agree w es
  pub vectors : what ≡ what_of.Vectors → end ≡ ends.Done Holds → VectorsAgree w.is_correct w.numbers.n (text_on what h w es)

-- bytes were refused for a fault: nothing was done to the sink
pub record Refuses {K : Type 0} (old new : K) (end : ReplayEnd) (fault : FileFault) : Type 0 where
  pub answer : IsEndAt fault end
  pub kept : new ≡ old

-- events behind a header are shown in a world, or refused for their first fault
pub record ShowsEvents {K : Type 0} (tells : Bool) (taken : K → List ℕ) (old new : K) (what : What) (end : ReplayEnd) (h : Header) (w : Setting) (events : Result (List Event) FileFault) : Type 0 where
  pub shown : (es : List Event) → events ≡ Ok es → ShowsWorld tells taken old new what end h w es
  pub refused : (e : FileFault) → events ≡ Err e → Refuses old new end e

-- a file is shown in its world, or refused for its first fault
pub record ShowsFile {K : Type 0} (tells : Bool) (taken : K → List ℕ) (old new : K) (what : What) (end : ReplayEnd) (file : Result (Heading × List Event) FileFault) : Type 0 where
  pub shown : (h : Header) (es : List Event) → file ≡ Ok (heading h, es) → ShowsWorld tells taken old new what end h (setting_of h) es
  pub refused : (e : FileFault) → file ≡ Err e → Refuses old new end e
