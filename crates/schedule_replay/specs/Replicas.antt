-- What a text says of the correct replicas of a world, one after the other. Lists of events have the newest first.
use Rattle.std.specs.Prelude.{ℕ, List, ◌++◌, filter}
use Rattle.std.specs.List.{flat_map, range_with_len}
use Rattle.ritas_base.specs.declared.event.Event.{Event}
use Rattle.keyed_channel.specs.KeyRow.{KeyRow}
use Rattle.command_log.specs.Rows.{Start}
use Rattle.ritas_core.specs.Machine.{CoreState}
use Rattle.ritas_core.specs.Rules.{Rules}
use Rattle.world_model.specs.Audit.{audit_of}
use Rattle.world_model.specs.World.{Setting, rules_at, states_of}
use Rattle.schedule_replay.specs.declared.replicas.Lines.{Lines}
use Rattle.schedule_replay.specs.declared.replicas.Lines.TheVariants as lines_of_each
use Rattle.schedule_replay.specs.Report.{standing_lines, audit_line}
use Rattle.schedule_replay.specs.Vectors.{vector_line_of}

-- the lines of a replica that is in this state, and whose log begins so
abbrev pub lines_by : Lines → Start → ℕ → Rules → KeyRow → CoreState → List ℕ
lines_by lines_of_each.Report s i r k st = standing_lines s i r k st
lines_by lines_of_each.Vectors s i r k st = vector_line_of i r st.history

abbrev pub lines_at : Lines → Setting → List Event → ℕ → List ℕ
lines_at lines w es i = lines_by lines w.start i (rules_at w i) (w.keys i) (states_of w es i)

-- those of the correct ones, and the audit
abbrev pub rest_on : Lines → Setting → List Event → List ℕ
rest_on lines w es = flat_map (lines_at lines w es) (filter w.is_correct (range_with_len 0 w.numbers.n)) ++ audit_line (audit_of w es)
