-- What is asked of a file, by what reading its header and then its events gives.
use Rattle.std.proofs.Common.{◌≡◌, ℕ, Bool, true, false, List, Result, Ok, Err, refl, ◌∙◌, ap}
use Rattle.std.specs.Prelude.{if◌then◌else◌}
use Rattle.ritas_base.specs.declared.event.Event.{Event}
use Rattle.ritas_base.specs.declared.what.What.{What}
use Rattle.schedule_file.specs.declared.fault.FileFault.{FileFault}
use Rattle.schedule_file.specs.declared.fault.FileFault.TheVariants.{Header}
use Rattle.schedule_file.specs.FileBytes.{Fails}
use Rattle.schedule_file.specs.ReadHeader.{Heading}
use Rattle.schedule_replay.specs.Replay.{has_text, asked_of, asked_behind}
use Rattle.schedule_replay.proofs.Feeding.{behind}

either_way : (b : Bool) (k : Heading) (es : List Event) → (if b then Ok (k, es) else Err (Header 15)) ≡ behind k (if b then Ok es else Err (Header 15))
either_way true k es = refl
either_way false k es = refl

-- it is asked of the events behind the header
pub asked_from : (what : What) (k : Heading) (read : Result (List Event) FileFault) → asked_of what (behind k read) ≡ behind k (asked_behind what k.root read)
asked_from what k (Ok es) = either_way (has_text what k.root) k es
asked_from what k (Err x) = refl

-- a fault is answered, whatever is asked
pub asked_fails : (what : What) (x : FileFault) (read : Result (Heading × List Event) FileFault) → Fails x read → Fails x (asked_of what read)
asked_fails what x read fails = λ own. rw (fails own) refl

pub behind_fails : (what : What) (root : ℕ) (x : FileFault) (read : Result (List Event) FileFault) → Fails x read → Fails x (asked_behind what root read)
behind_fails what root x read fails = λ own. rw (fails own) refl

-- events that were read are those of such a text
pub asked_there : (what : What) (root : ℕ) (read : Result (List Event) FileFault) (es : List Event) → read ≡ Ok es → has_text what root ≡ true
    → asked_behind what root read ≡ Ok es
asked_there what root read es is there =
    ap (asked_behind what root) is ∙ ap (λ (b : Bool). if b then Ok es else Err (Header 15)) there

-- or there is none
pub asked_none : (what : What) (root : ℕ) (read : Result (List Event) FileFault) (es : List Event) → read ≡ Ok es → has_text what root ≡ false
    → asked_behind what root read ≡ Err (Header 15)
asked_none what root read es is none =
    ap (asked_behind what root) is ∙ ap (λ (b : Bool). if b then Ok es else Err (Header 15)) none
