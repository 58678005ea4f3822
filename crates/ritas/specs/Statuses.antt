-- The statuses of the program, and the texts that it writes where there is none of a world.
use Rattle.std.specs.Prelude.{ℕ, List, [], ◌++◌, codes, decimal}
use Rattle.ritas_base.specs.declared.event.Event.{Event}
use Rattle.schedule_file.specs.FileBytes.{limit}
use Rattle.schedule_file.specs.declared.fault.FileFault.{FileFault}
use Rattle.schedule_file.specs.declared.fault.FileFault.TheVariants as faults
use Rattle.schedule_file.specs.declared.header.Header.{Header}
use Rattle.world_model.specs.declared.audit.Audit.{Audit}
use Rattle.world_model.specs.declared.audit.Audit.TheVariants as audits
use Rattle.world_model.specs.Audit.{audit_of}
use Rattle.schedule_replay.specs.Layers.{setting_of}
use Rattle.schedule_replay.specs.Report.{end_of_line, row_lines}
use Rattle.event_journal.specs.declared.fault.JournalFault.{JournalFault}
use Rattle.event_journal.specs.declared.fault.JournalFault.TheVariants as journal_faults
use Rattle.node_loop.specs.declared.end.ServeEnd.{ServeEnd}
use Rattle.node_loop.specs.declared.end.ServeEnd.TheVariants as serve_ends
use Rattle.request_submit.specs.declared.end.SubmitEnd.{SubmitEnd}
use Rattle.request_submit.specs.declared.end.SubmitEnd.TheVariants as submit_ends
use Rattle.command_log.specs.declared.row.LogRow.{LogRow}
use Rattle.log_watch.specs.declared.end.WatchEnd.{WatchEnd}
use Rattle.log_watch.specs.declared.end.WatchEnd.TheVariants as watch_ends

-- 0 where the audit holds, and else 1
abbrev pub audit_status : Audit → ℕ
audit_status audits.Holds = 0
audit_status audits.TooManyFaulty = 1
audit_status (audits.Forged k) = 1
audit_status (audits.Collision k) = 1

-- the status of a schedule that was replayed
abbrev pub status_of : Header → List Event → ℕ
status_of h es = audit_status (audit_of (setting_of h) es)

-- ---- what is written where no schedule was replayed

abbrev pub usage : List ℕ
usage = codes "usage: ritas replay report|frames|vectors, drive report|schedule, keys, node, cluster, submit, watch" ++ end_of_line

abbrev pub input_line : List ℕ → ℕ → List ℕ
input_line name place = codes "input " ++ (name ++ (codes " at " ++ (decimal place ++ end_of_line)))

-- the line that names a limit
abbrev pub limit_text : ℕ → List ℕ
limit_text most = codes "limit " ++ (decimal most ++ end_of_line)

-- the line of a file's fault. A fault of the source or of memory has none
abbrev pub fault_text : FileFault → List ℕ
fault_text faults.Magic = input_line (codes "magic") 0
fault_text faults.Version = input_line (codes "version") 4
fault_text (faults.Header p) = input_line (codes "header") p
fault_text (faults.Event p) = input_line (codes "event") p
fault_text (faults.Truncated p) = input_line (codes "truncated") p
fault_text (faults.Trailing p) = input_line (codes "trailing") p
fault_text faults.TooLong = limit_text limit
fault_text faults.Read = []
fault_text faults.Mem = []

abbrev pub fault_status : FileFault → ℕ
fault_status faults.Magic = 3
fault_status faults.Version = 3
fault_status (faults.Header p) = 3
fault_status (faults.Event p) = 3
fault_status (faults.Truncated p) = 3
fault_status (faults.Trailing p) = 3
fault_status faults.TooLong = 7
fault_status faults.Read = 4
fault_status faults.Mem = 8

-- ---- configurations

-- a configuration has at most so many bytes
unfoldable pub text_limit : ℕ
text_limit = 1048576

-- the line that names a wrong or missing line of a configuration
abbrev pub line_text : ℕ → List ℕ
line_text line = codes "input line " ++ (decimal line ++ end_of_line)

-- ---- serving, submitting and watching

-- the status of serving that ended so
abbrev pub end_status : ServeEnd → ℕ
end_status serve_ends.Over = 0
end_status serve_ends.Done = 0
end_status serve_ends.Limit = 0
end_status serve_ends.End = 0
end_status serve_ends.LinkFault = 6
end_status serve_ends.TapeFault = 5
end_status serve_ends.Mem = 8
end_status serve_ends.DiskFault = 9
end_status (serve_ends.JournalFull x) = 7
end_status (serve_ends.KeptFull x) = 7

-- the status of a journal that couldn't be opened, and its line; a fault of the disk or of memory has none
abbrev pub journal_status : JournalFault → ℕ
journal_status (journal_faults.Foreign p) = 3
journal_status (journal_faults.Broken p) = 3
journal_status (journal_faults.Full x) = 7
journal_status journal_faults.Disk = 9
journal_status journal_faults.Mem = 8

abbrev pub journal_text : JournalFault → List ℕ
journal_text (journal_faults.Foreign p) = input_line (codes "journal") p
journal_text (journal_faults.Broken p) = input_line (codes "journal") p
journal_text (journal_faults.Full x) = limit_text limit
journal_text journal_faults.Disk = []
journal_text journal_faults.Mem = []

-- the status and the line of a request that was handed in
abbrev pub submit_status : SubmitEnd → ℕ
submit_status (submit_ends.Position position) = 0
submit_status submit_ends.NoPosition = 1
submit_status submit_ends.LinkFault = 6
submit_status submit_ends.Mem = 8

abbrev pub submit_text : SubmitEnd → List ℕ
submit_text (submit_ends.Position position) = codes "position " ++ (decimal position ++ end_of_line)
submit_text submit_ends.NoPosition = codes "no position" ++ end_of_line
submit_text submit_ends.LinkFault = []
submit_text submit_ends.Mem = []

-- the status and the lines of a log that was watched: those of its rows, as in a report
abbrev pub watch_status : WatchEnd → ℕ
watch_status watch_ends.Rows = 0
watch_status watch_ends.End = 1
watch_status watch_ends.LinkFault = 6
watch_status watch_ends.Mem = 8

abbrev pub watch_text : List LogRow → WatchEnd → List ℕ
watch_text rows watch_ends.Rows = row_lines rows
watch_text rows watch_ends.End = row_lines rows
watch_text rows watch_ends.LinkFault = []
watch_text rows watch_ends.Mem = []
