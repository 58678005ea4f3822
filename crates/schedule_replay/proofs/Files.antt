-- A file has one header and one list of events.
use Rattle.std.proofs.Common.{◌≡◌, ℕ, ◌≤◌, List, Result, Ok, Err, sym, ap, ap₂, subst, ◌∙◌}
use Rattle.std.proofs.Math.Bridge.{le_prop}
use Rattle.ritas_base.specs.RootServices.{most_root}
use Rattle.ritas_base.specs.declared.event.Event.{Event}
use Rattle.ritas_base.specs.declared.mode.Mode.{Mode}
use Rattle.ritas_base.specs.declared.mode.Vect.{Vect}
use Rattle.ritas_base.specs.declared.mode.FrameVersion.{FrameVersion}
use Rattle.schedule_file.specs.declared.fault.FileFault.{FileFault}
use Rattle.schedule_file.specs.declared.header.Header.{Header}
use Rattle.schedule_file.specs.ReadHeader.{Heading, heading}

-- a mode of these fields, by the proofs of its bounds
abbrev mode_by : (root : ℕ) (vect : Vect) (version : FrameVersion) → 1 ≤ root → root ≤ most_root → Mode
mode_by root vect version low high = record { root = root; vect = vect; version = version; low = low; high = high }

abbrev with_mode : Heading → Mode → Header
with_mode h mode = record { session = h.session; p = h.p; mode = mode; correct = h.correct; keys = h.keys }

-- the header of a heading, by the proofs of its bounds
abbrev header_by : (h : Heading) → 1 ≤ h.root → h.root ≤ most_root → Header
header_by h low high = with_mode h (mode_by h.root h.vect h.version low high)

same_bounds : (h : Heading) (l m : 1 ≤ h.root) (a b : h.root ≤ most_root) → header_by h l a ≡ header_by h m b
same_bounds h l m a b = ap₂ (header_by h) (le_prop l m) (le_prop a b)

same_from : (h : Header) (k : Heading) → heading h ≡ k → (l : 1 ≤ k.root) (a : k.root ≤ most_root) → h ≡ header_by k l a
same_from h k e = subst (λ (k : Heading). (l : 1 ≤ k.root) (a : k.root ≤ most_root) → h ≡ header_by k l a) e (λ l a. same_bounds (heading h) h.mode.low l h.mode.high a)

abbrev pub heading_in : Heading → Result (Heading × List Event) FileFault → Heading
heading_in d (Ok x) = x.0
heading_in d (Err e) = d

abbrev pub events_in : List Event → Result (Heading × List Event) FileFault → List Event
events_in d (Ok x) = x.1
events_in d (Err e) = d

pub one_header : (read : Result (Heading × List Event) FileFault) (h k : Header) (es ds : List Event) → read ≡ Ok (heading h, es) → read ≡ Ok (heading k, ds) → h ≡ k
one_header read h k es ds first second = same_from h (heading k) (ap (heading_in (heading h)) (sym first ∙ second)) k.mode.low k.mode.high

pub one_list : (read : Result (Heading × List Event) FileFault) (h k : Header) (es ds : List Event) → read ≡ Ok (heading h, es) → read ≡ Ok (heading k, ds) → es ≡ ds
one_list read h k es ds first second = ap (events_in es) (sym first ∙ second)
