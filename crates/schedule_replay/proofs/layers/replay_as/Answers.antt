use Rattle.std.proofs.Common.{◌≡◌, refl, sym, ◌∙◌, [], ap}
use Rattle.schedule_file.specs.declared.fault.FileFault.TheVariants as faults
use Rattle.schedule_replay.proofs.Asking.{asked_there, behind_fails}
use Rattle.schedule_replay.proofs.Ending.{ended_at, none_failed, never_written, end_of_world, end_of_bytes, shows_nothing}
use Rattle.schedule_replay.proofs.Feeding.{events_of}
use Rattle.schedule_replay.proofs.layers.replay_as.Goals as goal

pub returns-in-Ok-clause-shows : goal.returns-in-Ok-clause-shows
returns-in-Ok-clause-shows g c = λ tells.
    let x = c.in-Ok.ensures.exact tells in
    let there = asked_there c.args.what c.args.header.mode.root _ x.0 x.2 (sym c.has_text-is_there.ensures ∙ c.if-is_there.true) in
    record {
      shown = λ es read.
          let events : x.0 ≡ es = ap (events_of []) (sym there ∙ read) in
          rw (c.in-Ok.ensures.header, events) at (c.show.ensures.shows x.0 x.1);
      refused = λ e read. absurd (let both = sym there ∙ read in cc);
    }

pub returns-in-Err-clause-shows : goal.returns-in-Err-clause-shows
returns-in-Err-clause-shows g c = λ tells.
    let fails = behind_fails c.args.what c.args.header.mode.root c.in-Err.fault _ (c.in-Err.ensures.exact tells) in
    rw c.end_at.ensures (record {
      shown = λ es read. shows_nothing g.K.Sink.tells g.K.Sink.taken c.args.sink.now c.args.what c.in-Err.fault c.args.header _ es
          (end_of_world c.in-Err.fault _ es _ fails read);
      refused = λ e read. record { answer = end_of_bytes c.in-Err.fault _ e fails read; kept = refl };
    })

pub returns-in-Err-clause-ended : goal.returns-in-Err-clause-ended
returns-in-Err-clause-ended g c =
    rw c.end_at.ensures (ended_at g.I.Source.faults c.args.src.now c.load.new.input g.K.Sink.faults c.args.sink.now c.args.what c.in-Err.fault
    c.in-Err.ensures.counts)

pub returns-in-Err-clause-to_its_end : goal.returns-in-Err-clause-to_its_end
returns-in-Err-clause-to_its_end g c = λ tells a done. absurd ((never_written c.in-Err.fault).1 a (sym c.end_at.ensures ∙ done))

pub returns-in-Ok-clause-ended : goal.returns-in-Ok-clause-ended
returns-in-Ok-clause-ended g c = record {
  source = none_failed _ _ (c.show.ensures.own faults.Read) c.in-Ok.ensures.counts;
  sink = c.show.ensures.counts;
  own = c.show.ensures.own faults.Mem;
  unread = λ e file. absurd (c.show.ensures.own e file);
  wanting = c.show.ensures.memory;
}
