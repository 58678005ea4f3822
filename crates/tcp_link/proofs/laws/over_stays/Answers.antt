use Rattle.std.proofs.Common.{◌≡◌, true, false, refl}
use Rattle.tcp_link.specs.Stages.{is_over, is_begun, is_written, stage_after}
use Rattle.tcp_link.specs.declared.stage.Stage.{Stage}
use Rattle.tcp_link.specs.declared.stage.Stage.TheVariants.{Begun, Up, Half, Broken, Older, Refused, Over, Replaced}
use Rattle.tcp_link.specs.declared.stage.Change.{Change}
use Rattle.tcp_link.specs.declared.stage.Change.TheVariants.{Stands, Closes, Breaks, Ends, IsReplaced}
use Rattle.tcp_link.proofs.laws.over_stays.Goals as goal

over_stays : (stage : Stage) (change : Change) → is_over stage ≡ true → is_over (stage_after stage change) ≡ true
over_stays Begun Stands over = cc
over_stays Begun Closes over = refl
over_stays Begun Breaks over = refl
over_stays Begun Ends over = refl
over_stays Begun IsReplaced over = refl
over_stays Up Stands over = cc
over_stays Up Closes over = cc
over_stays Up Breaks over = cc
over_stays Up Ends over = refl
over_stays Up IsReplaced over = cc
over_stays Half Stands over = cc
over_stays Half Closes over = cc
over_stays Half Breaks over = refl
over_stays Half Ends over = refl
over_stays Half IsReplaced over = refl
over_stays Broken Stands over = cc
over_stays Broken Closes over = refl
over_stays Broken Breaks over = cc
over_stays Broken Ends over = refl
over_stays Broken IsReplaced over = cc
over_stays Older Stands over = cc
over_stays Older Closes over = refl
over_stays Older Breaks over = cc
over_stays Older Ends over = refl
over_stays Older IsReplaced over = cc
over_stays Refused Stands over = refl
over_stays Refused Closes over = refl
over_stays Refused Breaks over = refl
over_stays Refused Ends over = refl
over_stays Refused IsReplaced over = refl
over_stays Over Stands over = refl
over_stays Over Closes over = refl
over_stays Over Breaks over = refl
over_stays Over Ends over = refl
over_stays Over IsReplaced over = refl
over_stays Replaced Stands over = refl
over_stays Replaced Closes over = refl
over_stays Replaced Breaks over = refl
over_stays Replaced Ends over = refl
over_stays Replaced IsReplaced over = refl

broken_stays : (stage : Stage) (change : Change) → is_begun stage ≡ false → is_written stage ≡ false → is_written (stage_after stage change) ≡ false
broken_stays Begun Stands stood broken = cc
broken_stays Begun Closes stood broken = refl
broken_stays Begun Breaks stood broken = refl
broken_stays Begun Ends stood broken = refl
broken_stays Begun IsReplaced stood broken = refl
broken_stays Up Stands stood broken = cc
broken_stays Up Closes stood broken = cc
broken_stays Up Breaks stood broken = refl
broken_stays Up Ends stood broken = refl
broken_stays Up IsReplaced stood broken = refl
broken_stays Half Stands stood broken = cc
broken_stays Half Closes stood broken = cc
broken_stays Half Breaks stood broken = refl
broken_stays Half Ends stood broken = refl
broken_stays Half IsReplaced stood broken = refl
broken_stays Broken Stands stood broken = refl
broken_stays Broken Closes stood broken = refl
broken_stays Broken Breaks stood broken = refl
broken_stays Broken Ends stood broken = refl
broken_stays Broken IsReplaced stood broken = refl
broken_stays Older Stands stood broken = refl
broken_stays Older Closes stood broken = refl
broken_stays Older Breaks stood broken = refl
broken_stays Older Ends stood broken = refl
broken_stays Older IsReplaced stood broken = refl
broken_stays Refused Stands stood broken = refl
broken_stays Refused Closes stood broken = refl
broken_stays Refused Breaks stood broken = refl
broken_stays Refused Ends stood broken = refl
broken_stays Refused IsReplaced stood broken = refl
broken_stays Over Stands stood broken = refl
broken_stays Over Closes stood broken = refl
broken_stays Over Breaks stood broken = refl
broken_stays Over Ends stood broken = refl
broken_stays Over IsReplaced stood broken = refl
broken_stays Replaced Stands stood broken = refl
broken_stays Replaced Closes stood broken = refl
broken_stays Replaced Breaks stood broken = refl
broken_stays Replaced Ends stood broken = refl
broken_stays Replaced IsReplaced stood broken = refl

pub returns-clause-over : goal.returns-clause-over
returns-clause-over c = over_stays

pub returns-clause-broken : goal.returns-clause-broken
returns-clause-broken c = broken_stays
