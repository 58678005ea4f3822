use Rattle.std.proofs.Common.{sym, ◌∙◌, ap}
use Rattle.ritas.specs.Statuses.{audit_status}
use Rattle.ritas.proofs.Statuses.{holds_at_0}
use Rattle.ritas.proofs.run.reply.Goals as goal

pub returns-in-Done-clause-answers : goal.returns-in-Done-clause-answers
returns-in-Done-clause-answers g c = λ tells.
    let shows = c.replay.ensures.shows tells in
    record {
      replayed = λ h es file.
          let world = shows.shown h es file in
          let audit = rw c.in-Done.is at world.answer in
          record {
            answer = λ own. c.audit_status.ensures.status ∙ ap audit_status audit;
            whole = λ told own. world.whole told c.in-Done.audit c.in-Done.is;
            front = world.front;
          };
      refused = λ e file. absurd (rw c.in-Done.is at (shows.refused e file).answer);
      wanting = λ e file. absurd (rw c.in-Done.is at (shows.refused e file).answer);
    }

pub returns-in-Done-clause-agree : goal.returns-in-Done-clause-agree
returns-in-Done-clause-agree g c = λ tells none h es file.
    let holds = holds_at_0 c.in-Done.audit (sym c.audit_status.ensures.status ∙ none) in
    ((c.replay.ensures.shows tells).shown h es file).agree (rw holds at c.in-Done.is)

pub returns-in-Done-clause-vectors : goal.returns-in-Done-clause-vectors
returns-in-Done-clause-vectors g c = λ asked tells none h es file.
    let holds = holds_at_0 c.in-Done.audit (sym c.audit_status.ensures.status ∙ none) in
    rw asked at (((c.replay.ensures.shows tells).shown h es file).vectors asked (rw holds at c.in-Done.is))
