use Rattle.std.proofs.Common.{◌≡◌, Ok, sym, ◌∙◌, subst}
use Rattle.ritas_base.specs.declared.what.What.{What}
use Rattle.schedule_file.specs.ReadHeader.{heading}
use Rattle.schedule_file.specs.Schedule.{file_of}
use Rattle.schedule_replay.specs.Replay.{asked_of}
use Rattle.ritas.proofs.Jobs.{same_what}
use Rattle.ritas.proofs.run.work.Goals as goal

pub returns-in-Replay-clause-agree : goal.returns-in-Replay-clause-agree
returns-in-Replay-clause-agree g c = λ what is tells none h es file.
    let same = same_what what c.in-Replay.what (sym is ∙ c.in-Replay.is) in
    c.reply.ensures.agree tells none h es (subst (λ (w : What). asked_of w (file_of (g.S.Source.left c.args.input.now)) ≡ Ok (heading h, es)) same file)
