-- What is asked of a file that is one.
use Rattle.std.proofs.Common.{◌≡◌, ◌≤◌, List, ℕ, true, false, Ok, Err, ap, ◌∙◌, inl, inr, arith}
use Rattle.std.specs.Prelude.{Bool, Result, if◌then◌else◌}
use Rattle.std.proofs.lemmas.Bool.{cases_Bool}
use Rattle.ritas_base.specs.declared.event.Event.{Event}
use Rattle.ritas_base.specs.declared.what.What.{What}
use Rattle.schedule_file.specs.declared.fault.FileFault.{FileFault}
use Rattle.schedule_file.specs.declared.fault.FileFault.TheVariants as faults
use Rattle.schedule_file.specs.ReadHeader.{Heading, heading}
use Rattle.schedule_file.specs.declared.header.Header.{Header}
use Rattle.schedule_replay.specs.Replay.{has_text, asked_of}
use Rattle.ritas.specs.Run.{IsOwnStatus, AnswersFile}

abbrev Read : Type 0
Read = Result (Heading × List Event) FileFault

abbrev by_root : Heading × List Event → Bool → Read
by_root x b = if b then Ok x else Err (faults.Header 15)

-- there is such a text of it
pub asked_there : (what : What) (h : Header) (es : List Event) (file : Read) → file ≡ Ok (heading h, es) → has_text what h.mode.root ≡ true → asked_of what file ≡ Ok (heading h, es)
asked_there what h es file is there = ap (asked_of what) is ∙ ap (by_root (heading h, es)) there

-- or there is none
pub asked_none : (what : What) (h : Header) (es : List Event) (file : Read) → file ≡ Ok (heading h, es) → has_text what h.mode.root ≡ false → asked_of what file ≡ Err (faults.Header 15)
asked_none what h es file is none = ap (asked_of what) is ∙ ap (by_root (heading h, es)) none

pub own_low : (status : ℕ) → status ≤ 1 → IsOwnStatus status
own_low status low = (λ e. omega (arith, e, low), λ e. omega (arith, e, low), λ e. omega (arith, e, low))

-- where it ends with 0 or 1, there is one
pub asked_low : {K : Type 0} (tells : Bool) (taken : K → List ℕ) (old new : K) (what : What) (status : ℕ) (file : Read) (h : Header) (es : List Event)
    → AnswersFile tells taken old new what status file → file ≡ Ok (heading h, es) → status ≤ 1 → has_text what h.mode.root ≡ true
asked_low tells taken old new what status file h es answers is low =
    elim (cases_Bool (has_text what h.mode.root)) [
      | inl there ↦ there
      | inr none ↦ absurd (omega (arith, (answers.refused (faults.Header 15) (asked_none what h es file is none)).answer (own_low status low), low))
    ]
