-- How far a connection is, and what happens to it.
use Rattle.std.specs.Prelude.{◌≡◌, Bool, true, false, if◌then◌else◌}
use Rattle.tcp_link.specs.declared.stage.Stage.{Stage}
use Rattle.tcp_link.specs.declared.stage.Stage.TheVariants.{Begun, Up, Half, Broken, Older, Refused, Over, Replaced}
use Rattle.tcp_link.specs.declared.stage.Change.{Change}
use Rattle.tcp_link.specs.declared.stage.Change.TheVariants.{Stands, Closes, Breaks, Ends, IsReplaced}

-- one that came in stands; one that was begun here doesn't stand yet
abbrev pub first_stage : Bool → Stage
first_stage is_begun = if is_begun then Begun else Up

-- only one that was begun comes to stand
abbrev pub stage_when_stands : Stage → Stage
stage_when_stands Begun = Up
stage_when_stands Up = Up
stage_when_stands Half = Half
stage_when_stands Broken = Broken
stage_when_stands Older = Older
stage_when_stands Refused = Refused
stage_when_stands Over = Over
stage_when_stands Replaced = Replaced

-- where the other side sends no more, one that takes bytes still does, and one that takes none is over
abbrev pub stage_when_closed : Stage → Stage
stage_when_closed Begun = Refused
stage_when_closed Up = Half
stage_when_closed Half = Half
stage_when_closed Broken = Over
stage_when_closed Older = Replaced
stage_when_closed Refused = Refused
stage_when_closed Over = Over
stage_when_closed Replaced = Replaced

-- where it takes no more bytes, what comes is still read, if the other side sends any
abbrev pub stage_when_broken : Stage → Stage
stage_when_broken Begun = Refused
stage_when_broken Up = Broken
stage_when_broken Half = Over
stage_when_broken Broken = Broken
stage_when_broken Older = Older
stage_when_broken Refused = Refused
stage_when_broken Over = Over
stage_when_broken Replaced = Replaced

-- one that never stood is refused, and one that stood is over, or replaced where a newer one stands
abbrev pub stage_when_ended : Stage → Stage
stage_when_ended Begun = Refused
stage_when_ended Up = Over
stage_when_ended Half = Over
stage_when_ended Broken = Over
stage_when_ended Older = Replaced
stage_when_ended Refused = Refused
stage_when_ended Over = Over
stage_when_ended Replaced = Replaced

-- one that is read when a newer one comes is read to its end
abbrev pub stage_when_replaced : Stage → Stage
stage_when_replaced Begun = Replaced
stage_when_replaced Up = Older
stage_when_replaced Half = Replaced
stage_when_replaced Broken = Older
stage_when_replaced Older = Older
stage_when_replaced Refused = Replaced
stage_when_replaced Over = Replaced
stage_when_replaced Replaced = Replaced

-- the stage after a change
abbrev pub stage_after : Stage → Change → Stage
stage_after stage Stands = stage_when_stands stage
stage_after stage Closes = stage_when_closed stage
stage_after stage Breaks = stage_when_broken stage
stage_after stage Ends = stage_when_ended stage
stage_after stage IsReplaced = stage_when_replaced stage

-- it stands, both ways
abbrev pub is_up : Stage → Bool
is_up Begun = false
is_up Up = true
is_up Half = false
is_up Broken = false
is_up Older = false
is_up Refused = false
is_up Over = false
is_up Replaced = false

-- it was begun, and doesn't stand yet
abbrev pub is_begun : Stage → Bool
is_begun Begun = true
is_begun Up = false
is_begun Half = false
is_begun Broken = false
is_begun Older = false
is_begun Refused = false
is_begun Over = false
is_begun Replaced = false

-- the other side sends no more, and takes bytes
abbrev pub is_half : Stage → Bool
is_half Begun = false
is_half Up = false
is_half Half = true
is_half Broken = false
is_half Older = false
is_half Refused = false
is_half Over = false
is_half Replaced = false

-- it takes no bytes, and what comes is read to its end
abbrev pub is_draining : Stage → Bool
is_draining Begun = false
is_draining Up = false
is_draining Half = false
is_draining Broken = true
is_draining Older = true
is_draining Refused = false
is_draining Over = false
is_draining Replaced = false

-- what comes is read
abbrev pub is_read : Stage → Bool
is_read Begun = false
is_read Up = true
is_read Half = false
is_read Broken = true
is_read Older = true
is_read Refused = false
is_read Over = false
is_read Replaced = false

-- it takes bytes
abbrev pub is_written : Stage → Bool
is_written Begun = false
is_written Up = true
is_written Half = true
is_written Broken = false
is_written Older = false
is_written Refused = false
is_written Over = false
is_written Replaced = false

-- nothing more is read or written
abbrev pub is_over : Stage → Bool
is_over Begun = false
is_over Up = false
is_over Half = false
is_over Broken = false
is_over Older = false
is_over Refused = true
is_over Over = true
is_over Replaced = true

-- nothing brings back one that is over
abbrev pub OverStays : Type 0
OverStays = (stage : Stage) (change : Change) → is_over stage ≡ true → is_over (stage_after stage change) ≡ true

-- one that takes no bytes takes none again, unless it is yet to stand
abbrev pub BrokenStays : Type 0
BrokenStays = (stage : Stage) (change : Change) → is_begun stage ≡ false → is_written stage ≡ false → is_written (stage_after stage change) ≡ false
