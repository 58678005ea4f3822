use Rattle.std.proofs.Common.{◌≡◌, Some, sym, ◌∙◌, ap, subst}
use Rattle.rand_pcg.specs.Pcg.{pcg32}
use Rattle.rand_pcg.specs.Lcg.{Lcg}
use Rattle.schedule_replay.specs.Layers.{layers_by}
use Rattle.schedule_plan.specs.Picks as picks
use Rattle.schedule_plan.specs.Picks.{choice_taken}
use Rattle.schedule_stage.specs.Worlds.{world_in}
use Rattle.schedule_drive.specs.declared.picker.Choice.{Choice}
use Rattle.schedule_drive.specs.Pickers.{IsChoice, Goes}
use Rattle.schedule_drive.proofs.Taking.{turn_is, pass_is}
use Rattle.schedule_drive.proofs.picker.Picker.take.Goals as goal

pub returns-in-Turn-clause-goes : goal.returns-in-Turn-clause-goes
returns-in-Turn-clause-goes g c = λ p what q choice session stands is words.
    let m = layers_by g.S.Service.stands g.S.Service.rules g.S.Service.shown g.E.Broadcast.stands g.E.Broadcast.rules g.E.Broadcast.shown in
    let turn = turn_is p c.in-Turn.place choice (subst (λ (t : Choice). IsChoice p t choice) c.in-Turn.is is) in
    subst (λ (ch : picks.Choice). Goes m p what c.take_turn.new.stage c.take_turn.new.self (choice_taken (world_in m p) p q q.words (Some ch)) c.take_turn.result) (sym turn.is)
    (c.take_turn.ensures p what q turn.player session stands turn.there)

pub returns-in-Frame-clause-goes : goal.returns-in-Frame-clause-goes
returns-in-Frame-clause-goes g c = λ p what q choice session stands is words.
    let m = layers_by g.S.Service.stands g.S.Service.rules g.S.Service.shown g.E.Broadcast.stands g.E.Broadcast.rules g.E.Broadcast.shown in
    let pass = pass_is p c.in-Frame.from c.in-Frame.to choice (subst (λ (t : Choice). IsChoice p t choice) c.in-Frame.is is) in
    let word : c.next_word-word.result ≡ (pcg32 q.words).0 = ap (λ r. r.0) c.next_word-word.ensures ∙ ap (λ (l : Lcg). (pcg32 l).0) words in
    subst (λ (ch : picks.Choice). Goes m p what c.take_frame.new.stage c.take_frame.new.self (choice_taken (world_in m p) p q q.words (Some ch)) c.take_frame.result) (sym pass.is)
    (c.take_frame.ensures p what q pass.sender pass.receiver session stands pass.there pass.linked word)
