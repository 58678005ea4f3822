use Rattle.std.proofs.Common.{rules, ◌≡◌, ℕ, ◌+◌, ◌-◌, [], ◌∷◌, length, Some, None, sym, ◌∙◌, ap, arith}
use Rattle.command_log.specs.Rows.{row_at}
use Rattle.client_port.proofs.Pieces.{rows_from, none_wanted, none_there, no_row, no_room, one_more, none_written, none_counted, more_written, more_counted}
use Rattle.client_port.proofs.piece.+write_rows.Goals as goal
use Rattle.client_port.proofs.piece.+write_rows.Goals.{Joined-then-most-eq0, Then-size-room, In_ok-write_rows, then-most-eq0-via-then-most-eq0, then-most-eq0-via-else-most-eq0+then-position-len}

-- ---- none is wanted, or none is there

nothing : (t : ℕ) (c : Joined-then-most-eq0 t) → rows_from c.args.log.now.rows c.args.position c.args.most c.args.room ≡ []
nothing t c =
    elim c.then-most-eq0.branch [
      | then-most-eq0-via-then-most-eq0 w ↦ none_wanted c.args.log.now.rows c.args.position c.args.most c.args.room (omega (arith, w.if-most-eq0.true))
      | then-most-eq0-via-else-most-eq0+then-position-len w ↦
          none_there c.args.log.now.rows c.args.position c.args.most c.args.room (omega (arith, w.if-position-len.true, w.len.ensures))
    ]

pub returns-then-most-eq0-clause-rows : goal.returns-then-most-eq0-clause-rows
returns-then-most-eq0-clause-rows t c = none_written c.args.bytes.now.items _ (nothing t c)

pub returns-then-most-eq0-clause-count : goal.returns-then-most-eq0-clause-count
returns-then-most-eq0-clause-count t c = none_counted _ (nothing t c)

pub returns-in_default-clause-rows : goal.returns-in_default-clause-rows
returns-in_default-clause-rows t c =
    let none : row_at c.args.log.now.rows c.args.position ≡ None = search rules in
    none_written c.args.bytes.now.items _ (no_row c.args.log.now.rows c.args.position c.args.most c.args.room none)

pub returns-in_default-clause-count : goal.returns-in_default-clause-count
returns-in_default-clause-count t c =
    let none : row_at c.args.log.now.rows c.args.position ≡ None = search rules in
    none_counted _ (no_row c.args.log.now.rows c.args.position c.args.most c.args.room none)

-- ---- the next has no room

full : (t : ℕ) (c : Then-size-room t) → rows_from c.args.log.now.rows c.args.position c.args.most c.args.room ≡ []
full t c =
    let row : row_at c.args.log.now.rows c.args.position ≡ Some c.in-Some.row.now = search rules in
    let long = ap length c.as_slice.ensures in
    no_room c.args.log.now.rows c.args.position c.args.most c.args.room c.in-Some.row.now row (omega (arith, c.if-size-room.true, long))

pub returns-then-size-room-clause-rows : goal.returns-then-size-room-clause-rows
returns-then-size-room-clause-rows t c = none_written c.args.bytes.now.items _ (full t c)

pub returns-then-size-room-clause-count : goal.returns-then-size-room-clause-count
returns-then-size-room-clause-count t c = none_counted _ (full t c)

-- ---- the next is written

next : (t : ℕ) (c : In_ok-write_rows t) → rows_from c.args.log.now.rows c.args.position c.args.most c.args.room
    ≡ c.in-Some.row.now ∷ rows_from c.args.log.now.rows (c.args.position + 1) (c.args.most - 1) (c.args.room - (15 + length c.as_slice.result.now))
next t c =
    let row : row_at c.args.log.now.rows c.args.position ≡ Some c.in-Some.row.now = search rules in
    let long = ap length c.as_slice.ensures in
    one_more c.args.log.now.rows c.args.position c.args.most c.args.room c.in-Some.row.now row (omega (arith, c.if-most-eq0.false)) (omega (arith, c.if-size-room.false, long))
    ∙ ap (λ l. c.in-Some.row.now ∷ rows_from c.args.log.now.rows (c.args.position + 1) (c.args.most - 1) (c.args.room - (15 + l))) (sym long)

pub returns-clause-rows : goal.returns-clause-rows
returns-clause-rows t c =
    more_written c.args.bytes.now.items c.write_row.new.bytes.items c.write_rows.new.bytes.items c.in-Some.row.now _ _ (next t c) c.in_ok-write_row.ensures c.in_ok-write_rows.ensures.rows

pub returns-clause-count : goal.returns-clause-count
returns-clause-count t c = more_counted c.in_ok-write_rows.field-0 c.in-Some.row.now _ _ (next t c) c.in_ok-write_rows.ensures.count
