use Rattle.std.proofs.Common.{◌≡◌, ◌+◌, List, [], Result, Ok, Err, refl, sym, ◌∙◌, ap, subst}
use Rattle.ritas_base.specs.declared.event.Event.{Event}
use Rattle.schedule_file.specs.declared.fault.FileFault.{FileFault}
use Rattle.schedule_file.specs.FileBytes.{limit}
use Rattle.schedule_file.specs.Place.{spot}
use Rattle.schedule_file.specs.ReadEvents.{events_at}
use Rattle.schedule_file.specs.ReadHeader.{heading}
use Rattle.schedule_file.specs.Schedule.{file_of}
use Rattle.schedule_file.specs.Scopes.{scope_of}
use Rattle.schedule_file.specs.declared.scope.Scope.{Scope}
use Rattle.schedule_replay.specs.Layers.{setting_of}
use Rattle.schedule_replay.specs.Onto.{read_onto}
use Rattle.schedule_replay.specs.Replay.{asked_of, asked_behind}
use Rattle.schedule_replay.proofs.Asking.{asked_from, asked_fails}
use Rattle.schedule_replay.proofs.Feeding.{behind, file_from, file_fails, events_behind, fault_behind}
use Rattle.schedule_replay.proofs.Files.{one_header}
use Rattle.schedule_replay.proofs.Ending.{ended_at, never_written, end_of_world, end_of_bytes, shows_nothing}
use Rattle.schedule_replay.proofs.layers.replay.Goals as goal

pub returns-in-Ok-clause-shows : goal.returns-in-Ok-clause-shows
returns-in-Ok-clause-shows g c = λ tells.
    let bytes = g.S.Source.left c.args.src.now in
    let k = c.in-Ok.header in
    let next = spot c.in-Ok.reader.held (g.S.Source.left c.start.new.src) in
    let what = c.args.what in
    let read : Scope → Result (List Event) FileFault = λ scope. asked_behind what k.mode.root (read_onto [] (events_at (limit + 1) scope next)) in
    let scope = scope_of (heading k) in
    let from_header : asked_of what (file_of bytes) ≡ behind (heading k) (read scope) =
    ap (asked_of what) (file_from bytes (heading k) next (c.in-Ok.ensures.exact tells)) ∙ asked_from what (heading k) (read_onto [] (events_at (limit + 1) scope next)) in
    record {
      shown = λ h es file.
          let events : read scope ≡ Ok es = events_behind (heading k) (heading h) (read scope) es (sym from_header ∙ file) in
          let same = one_header (asked_of what (file_of bytes)) k h es es (from_header ∙ ap (behind (heading k)) events) file in
          let own : read c.in-Ok.reader.scope ≡ Ok es = subst (λ (scope : Scope). read scope ≡ Ok es) (sym c.in-Ok.ensures.ready.1) events in
          rw same at ((c.replay_events.ensures.shows tells).shown es own);
      refused = λ e file.
          let events : read scope ≡ Err e = fault_behind (heading k) (read scope) e (sym from_header ∙ file) in
          let own : read c.in-Ok.reader.scope ≡ Err e = subst (λ (scope : Scope). read scope ≡ Err e) (sym c.in-Ok.ensures.ready.1) events in
          (c.replay_events.ensures.shows tells).refused e own;
    }

pub returns-in-Err-clause-shows : goal.returns-in-Err-clause-shows
returns-in-Err-clause-shows g c = λ tells.
    let bytes = g.S.Source.left c.args.src.now in
    let fault = c.in-Err.fault in
    let file = asked_of c.args.what (file_of bytes) in
    let fails = asked_fails c.args.what fault (file_of bytes) (file_fails bytes fault (c.in-Err.ensures.exact tells)) in
    rw c.end_at.ensures (record {
      shown = λ h es is. shows_nothing g.K.Sink.tells g.K.Sink.taken c.args.sink.now c.args.what fault h (setting_of h) es
          (end_of_world fault file (heading h, es) _ fails is);
      refused = λ e is. record { answer = end_of_bytes fault file e fails is; kept = refl };
    })

pub returns-in-Err-clause-ended : goal.returns-in-Err-clause-ended
returns-in-Err-clause-ended g c =
    rw c.end_at.ensures (ended_at g.S.Source.faults c.args.src.now c.start.new.src g.K.Sink.faults c.args.sink.now c.args.what c.in-Err.fault
    c.in-Err.ensures.counts)

pub returns-in-Err-clause-to_its_end : goal.returns-in-Err-clause-to_its_end
returns-in-Err-clause-to_its_end g c = λ tells a done. absurd ((never_written c.in-Err.fault).1 a (sym c.end_at.ensures ∙ done))
