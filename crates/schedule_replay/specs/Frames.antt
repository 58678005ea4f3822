-- The text of the frames that the correct replicas of a world made. Lists of events have the newest first.
use Rattle.std.specs.Prelude.{◌≡◌, ℕ, List, ◌++◌, codes, decimal}
use Rattle.std.specs.List.{flat_map}
use Rattle.hex.specs.Hex.{encode_lower}
use Rattle.ritas_base.specs.declared.event.Event.{Event}
use Rattle.schedule_file.specs.declared.header.Header.{Header}
use Rattle.world_model.specs.Audit.{audit_of}
use Rattle.world_model.specs.MadeOrder.{MadeFrame, all_made}
use Rattle.world_model.specs.World.{Setting}
use Rattle.schedule_replay.specs.Layers.{setting_of}
use Rattle.schedule_replay.specs.Report.{end_of_line, audit_line}

-- the line of a frame that was made: in which event, by whom and for whom, and its bytes
abbrev pub frame_line : MadeFrame → List ℕ
frame_line x =
    decimal x.event ++ (codes " " ++ (decimal x.from ++ (codes " " ++ (decimal x.to ++ (codes " " ++ (encode_lower x.bytes ++ end_of_line))))))

-- the frames of a world after these events, in the order in which they were made, and its audit
unfoldable pub frames_on : Setting → List Event → List ℕ
frames_on w es = flat_map frame_line (all_made w es) ++ audit_line (audit_of w es)

-- the frames of a schedule
abbrev pub frames_text : Header → List Event → List ℕ
frames_text h es = frames_on (setting_of h) es

-- a sink went from old to now: of these lines it took a front, and the rest is held
pub record HoldsRest (old now held lines : List ℕ) : Type 0 where
  pub front : List ℕ
  pub parts : lines ≡ front ++ held
  pub taken : now ≡ old ++ front
