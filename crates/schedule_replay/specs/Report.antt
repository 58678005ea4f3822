-- The report of a schedule. Lists of events have the newest first.
use Rattle.std.specs.Prelude.{ℕ, true, false, nat_le, if◌then◌else◌, ◌%◌, ◌^◌, List, [], ◌∷◌, ◌++◌, length, filter, codes, decimal, Option, Some, None}
use Rattle.std.specs.List.{flat_map, range_with_len}
use Rattle.hex.specs.Hex.{encode_lower}
use Rattle.ritas_base.specs.declared.event.Event.{Event}
use Rattle.ritas_base.specs.declared.id.Id.{Id}
use Rattle.ritas_base.specs.declared.mode.Vect.{Vect}
use Rattle.ritas_base.specs.declared.mode.Vect.TheVariants.{Echo, Reliable}
use Rattle.layer_api.specs.Service.{Ending, Undecided, Over, Decided, Bit, Nothing, Value, Spent}
use Rattle.ritas_base.specs.Limits.{number_limit}
use Rattle.ritas_base.specs.Slots.{command_slot, is_atomic}
use Rattle.keyed_channel.specs.KeyRow.{KeyRow}
use Rattle.ritas_core.specs.Rules.{Rules, seat_of}
use Rattle.ritas_core.specs.Parts.{Entry, parts}
use Rattle.ritas_core.specs.Machine.{CoreState}
use Rattle.ritas_core.specs.Shown.{all_bytes, delivered_at}
use Rattle.command_log.specs.Rows.{Start, row_at}
use Rattle.command_log.specs.declared.row.LogRow.{LogRow}
use Rattle.replica.specs.Stands.{frames_made}
use Rattle.replica.specs.CommandRows.{history_rows}
use Rattle.schedule_file.specs.declared.header.Header.{Header}
use Rattle.world_model.specs.declared.audit.Audit.{Audit}
use Rattle.world_model.specs.declared.audit.Audit.TheVariants as audits
use Rattle.world_model.specs.World.{Setting, rules_at, states_of}
use Rattle.world_model.specs.declared.counts.Counts.{Counts}
use Rattle.world_model.specs.Counts.{counts_of}
use Rattle.world_model.specs.Audit.{audit_of}
use Rattle.schedule_replay.specs.Layers.{setting_of}

abbrev pub end_of_line : List ℕ
end_of_line = 10 ∷ []

abbrev pub vect_name : Vect → List ℕ
vect_name Echo = codes "echo"
vect_name Reliable = codes "reliable"

-- which session it is
abbrev pub head_line : Header → List ℕ
head_line h =
    codes "ritas n=" ++ (decimal h.p.n ++ (codes " f=" ++ (decimal h.p.f ++ (codes " root=" ++ (decimal h.mode.root
    ++ (codes " vect=" ++ (vect_name h.mode.vect ++ (codes " session=" ++ (decimal h.session ++ end_of_line)))))))))

-- how many events there were, and how many were answered in each way
abbrev pub answered_part : ℕ → Counts → List ℕ
answered_part events c =
    codes "events " ++ (decimal events ++ (codes " took " ++ (decimal c.took ++ (codes " held " ++ (decimal c.held
    ++ (codes " repeat " ++ (decimal c.repeat ++ (codes " idle " ++ (decimal c.idle ++ (codes " missed " ++ decimal c.missed))))))))))

abbrev pub refused_part : Counts → List ℕ
refused_part c =
    codes " open " ++ (decimal c.open_faults ++ (codes " body " ++ (decimal c.body_faults ++ (codes " core "
    ++ (decimal c.core_faults ++ end_of_line)))))

abbrev pub count_line : ℕ → Counts → List ℕ
count_line events c = answered_part events c ++ refused_part c

-- how a replica stands: frames made, items that wait, bytes held
abbrev pub numbers_line : ℕ → ℕ → ℕ → ℕ → List ℕ
numbers_line i sent inbox held =
    codes "replica " ++ (decimal i ++ (codes " sent " ++ (decimal sent ++ (codes " inbox " ++ (decimal inbox
    ++ (codes " held " ++ (decimal held ++ end_of_line)))))))

abbrev pub replica_line : ℕ → ℕ → CoreState → List ℕ
replica_line i sent st = numbers_line i sent (length st.inbox) (all_bytes st.held)

-- a command that was delivered
abbrev pub out_line : ℕ → ℕ → Option (List ℕ) → List ℕ
out_line origin num None = []
out_line origin num (Some value) =
    codes "out " ++ (decimal origin ++ (codes "." ++ (decimal num ++ (codes " " ++ (encode_lower value ++ end_of_line)))))

-- how many command numbers there are
unfoldable pub command_numbers : ℕ
command_numbers = number_limit

-- the commands of an origin that a replica delivered, by number
abbrev pub origin_lines : (ℕ → Option (List ℕ)) → ℕ → List ℕ
origin_lines outs origin = flat_map (λ num. out_line origin num (outs num)) (range_with_len 0 command_numbers)

-- what was delivered in a history of an origin's commands
abbrev pub commands_delivered : Rules → List Entry → ℕ → ℕ → Option (List ℕ)
commands_delivered r h origin num = delivered_at r h (command_slot origin num)

-- all commands that were delivered in a history, by origin and number
abbrev pub out_lines : Rules → List Entry → List ℕ
out_lines r h = flat_map (λ origin. origin_lines (commands_delivered r h origin) origin) (range_with_len 0 r.casts.numbers.n)

-- what became of the one instance of a root service
abbrev pub ending_line : Ending → List ℕ
ending_line Undecided = codes "undecided" ++ end_of_line
ending_line Over = codes "over" ++ end_of_line
ending_line (Decided (Bit false)) = codes "decision 0" ++ end_of_line
ending_line (Decided (Bit true)) = codes "decision 1" ++ end_of_line
ending_line (Decided Nothing) = codes "none" ++ end_of_line
ending_line (Decided (Value v)) = codes "decision " ++ (encode_lower v ++ end_of_line)
ending_line (Decided Spent) = codes "spent" ++ end_of_line

-- bytes in hexadecimal, and a dash where there are none
abbrev pub hex_or_dash : List ℕ → List ℕ
hex_or_dash [] = codes "-"
hex_or_dash (b ∷ bytes) = encode_lower (b ∷ bytes)

-- a row of the command log at its position: its identifier, its client and request, and its payload
abbrev pub id_part : ℕ → Id → List ℕ
id_part position id = codes "row " ++ (decimal position ++ (codes " " ++ (decimal id.origin ++ (codes "." ++ decimal id.num))))

abbrev pub command_part : ℕ → ℕ → List ℕ → List ℕ
command_part client request payload =
    codes " " ++ (decimal client ++ (codes " " ++ (decimal request ++ (codes " " ++ (hex_or_dash payload ++ end_of_line)))))

abbrev pub row_line : ℕ → Option LogRow → List ℕ
row_line position None = []
row_line position (Some row) = id_part position row.id ++ command_part row.client row.request row.payload

-- the rows of a command log below a position, the oldest first
abbrev pub row_lines_below : List LogRow → ℕ → List ℕ
row_lines_below rows n =
    flat_map (λ position. row_line position (row_at rows position)) (range_with_len 0 n)

-- and all of them
abbrev pub row_lines : List LogRow → List ℕ
row_lines rows = row_lines_below rows (length rows)

-- how many rounds are complete, and the command log, which begins so
abbrev pub rounds_line : ℕ → ℕ → List ℕ
rounds_line completed rows = codes "rounds " ++ (decimal completed ++ (codes " rows " ++ (decimal rows ++ end_of_line)))

abbrev pub log_lines : Start → Rules → List Entry → List ℕ
log_lines s r h = rounds_line (r.service.completed (seat_of r) (parts r h).words) (length (history_rows s r h)) ++ row_lines (history_rows s r h)

-- root services 1 and 2 show what they delivered, those that order commands their command log, and those with one instance
-- what became of it
abbrev pub service_lines : Start → Rules → List Entry → List ℕ
service_lines s r h =
    if nat_le r.mode.root 2 then out_lines r h
    else if is_atomic r.mode.root then log_lines s r h
    else ending_line (r.service.outcome (seat_of r) (parts r h).words)

-- how a replica stands that is in this state, and whose log begins so, and what its service shows
abbrev pub standing_lines : Start → ℕ → Rules → KeyRow → CoreState → List ℕ
standing_lines s i r k st = replica_line i (frames_made r k st.history % 2 ^ 64) st ++ service_lines s r st.history

abbrev pub replica_lines : Setting → List Event → ℕ → List ℕ
replica_lines w es i = standing_lines w.start i (rules_at w i) (w.keys i) (states_of w es i)

abbrev pub audit_line : Audit → List ℕ
audit_line audits.Holds = codes "audit holds" ++ end_of_line
audit_line audits.TooManyFaulty = codes "audit too many faulty" ++ end_of_line
audit_line (audits.Forged k) = codes "audit forged at " ++ (decimal k ++ end_of_line)
audit_line (audits.Collision k) = codes "audit collision at " ++ (decimal k ++ end_of_line)

-- the report of a world after these events
unfoldable pub report_on : Header → Setting → List Event → List ℕ
report_on h w es =
    head_line h
    ++ (count_line (length es) (counts_of w es)
    ++ (flat_map (replica_lines w es) (filter w.is_correct (range_with_len 0 w.numbers.n))
    ++ audit_line (audit_of w es)))

-- the report of a schedule
abbrev pub report : Header → List Event → List ℕ
report h es = report_on h (setting_of h) es
