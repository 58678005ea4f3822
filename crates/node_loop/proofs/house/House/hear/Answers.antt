use Rattle.std.proofs.Common.{sym, ◌∙◌, Some, ap}
use Rattle.std.proofs.lemmas.Result.{on_ok_weaker}
use Rattle.keyed_channel.specs.Notes.{is_note}
use Rattle.node_loop.proofs.Indexing.{at_error}
use Rattle.node_loop.proofs.Comings.{cleared}
use Rattle.node_loop.proofs.Hearing.{frame_nowhere, note_here, frame_here}
use Rattle.node_loop.proofs.house.House.hear.Goals as goal

pub returns-in_default-clause-comes : goal.returns-in_default-clause-comes
returns-in_default-clause-comes g c = λ w es numbers ws p stand.
    frame_nowhere _ w es numbers c.args.self.now c.clear.new.self ws p c.args.to c.args.bytes (c.in_default.ensures.place w es numbers stand.here) stand (cleared c.clear.new.self c.clear.ensures.none)

pub returns-then-is_note-clause-comes : goal.returns-then-is_note-clause-comes
returns-then-is_note-clause-comes g c = λ w es numbers ws p stand.
    let placed = c.in-Some.ensures.place w es numbers stand.here in
    let at_is = c.clear.ensures.at in
    note_here _ w es numbers c.note.new.self c.note.new.output ws p c.args.to c.clear.new.self.at c.args.bytes c.as_slice-then-is_note.result.now placed.0
    (ap is_note (c.as_slice-then-is_note.ensures ∙ sym c.as_slice.ensures) ∙ sym c.is_note.ensures ∙ c.if-is_note.true) at_is c.as_slice-then-is_note.ensures
    (c.note.ensures.comes w es numbers ws p stand (placed.1 ∙ ap (λ k. Some k) (sym at_is)) (cleared c.clear.new.self c.clear.ensures.none))

pub returns-clause-comes : goal.returns-clause-comes
returns-clause-comes g c = λ w es numbers ws p stand.
    let placed = c.in-Some.ensures.place w es numbers stand.here in
    on_ok_weaker c.frame.result
    (frame_here _ w es numbers c.frame.new.self c.frame.new.output ws p c.args.to c.args.bytes c.as_slice.result.now placed.0 (sym c.is_note.ensures ∙ c.if-is_note.false) c.as_slice.ensures)
    (c.frame.ensures.comes w es numbers ws p c.args.to stand (sym c.clear.ensures.at) placed.1 (cleared c.clear.new.self c.clear.ensures.none))

pub returns-clause-memory : goal.returns-clause-memory
returns-clause-memory g c = λ w es numbers stand.
    at_error c.frame.result ((c.in-Some.ensures.place w es numbers stand).0, ap is_note (sym c.as_slice.ensures) ∙ sym c.is_note.ensures ∙ c.if-is_note.false)
