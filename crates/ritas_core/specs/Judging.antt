-- What is done with an item, by what the layers tell of it.
use Rattle.std.specs.Prelude.{ℕ, Bool, not, ◌==◌, ◌&&◌, Option, Some, None, if◌then◌else◌}
use Rattle.ritas_base.specs.declared.item.Item.{Item}
use Rattle.ritas_base.specs.declared.item.Kind.TheVariants.{Column}
use Rattle.ritas_base.specs.Messages.{kind_eq}
use Rattle.layer_api.specs.Broadcast.{is_of_origin, is_for_origin}
use Rattle.ritas_core.specs.declared.fault.CoreFault.{CoreFault}
use Rattle.ritas_core.specs.declared.fault.CoreFault.TheVariants as faults
use Rattle.ritas_core.specs.declared.verdict.Verdict.{Verdict}
use Rattle.ritas_core.specs.declared.verdict.Verdict.TheVariants as verdicts
use Rattle.ritas_core.specs.declared.layers.Layers.{Layers}
use Rattle.ritas_core.specs.Parts.{Parts}
use Rattle.ritas_core.specs.Checks.{mark_of, is_item_past, is_item_ahead}
use Rattle.ritas_core.specs.Stands.{Meaning, rules_of}
use Rattle.ritas_core.specs.LayerCalls.{is_let_in}

-- the sender or the receiver isn't one that the kind has
abbrev pub misdirection : ℕ → Item → Option CoreFault
misdirection me item =
    if is_of_origin item.kind && not (item.from == item.slot.origin) then Some faults.NotOrigin
    else if is_for_origin item.kind && not (me == item.slot.origin) then Some faults.NotForMe
    else None

-- inside the window: an item that is let in is to be taken, if it isn't held, or is a column, and another is to be held, if it isn't yet
abbrev pub inside_verdict : Bool → Bool → Bool → Verdict
inside_verdict let_in column kept =
    if let_in then (if not column && kept then verdicts.Again else verdicts.Take)
    else (if kept then verdicts.Again else verdicts.Hold)

-- outside of it an item is refused
abbrev pub window_verdict : Bool → Bool → ℕ → Verdict → Verdict
window_verdict past ahead mark inside =
    if past then verdicts.Refuse (faults.Past mark) else if ahead then verdicts.Refuse (faults.Ahead mark) else inside

-- and so is a misdirected one
abbrev pub unless_fault : Option CoreFault → Verdict → Verdict
unless_fault (Some fault) verdict = verdicts.Refuse fault
unless_fault None verdict = verdict

-- what the layers tell of an item
abbrev pub judged_in : {S E C T : Type 0} → Meaning S E C T → Layers S E C T → Parts → Bool → Item → Verdict
judged_in m layers p kept item =
    unless_fault (misdirection layers.me item)
    (window_verdict (is_item_past (rules_of m layers) p item) (is_item_ahead (rules_of m layers) p item) (mark_of (rules_of m layers) p item.slot)
    (inside_verdict (is_let_in m layers p item) (kind_eq item.kind Column) kept))
