use Rattle.std.proofs.Common.{ap, sym, ◌∙◌}
use Rattle.replica.specs.Handling.{Frame, Input, Turn}
use Rattle.node_loop.proofs.Alone.{call_in}
use Rattle.node_loop.proofs.Heres.{gave, answers}
use Rattle.node_loop.proofs.house.House.give.Goals as goal
use Rattle.node_loop.proofs.house.House.give.Goals.{in-Frame, in-Input, in-Turn}

pub returns-clause-does : goal.returns-clause-does
returns-clause-does g c = λ w es numbers at stand number alone. elim c.match-event.branch [
  | in-Frame b ↦
      gave _ w es numbers c.args.self.now.replicas.items c.match-event.self.replicas.items c.args.place at c.in-Some.replica.now b.on_frame_lazily-answer.new.self c.args.event.now (Frame b.as_slice.result.now)
      c.args.frames.now.items b.on_frame_lazily-answer.new.out.items c.match-event.frames.items b.on_frame_lazily-answer.result c.match-event.answer c.told.result
      stand number c.in-Some.ensures.item.3.0 c.in-Some.ensures.value alone (ap (λ x. Frame x) b.as_slice.ensures ∙ sym (ap call_in b.in-Frame.is)) (b.on_frame_lazily-answer.ensures.does w.start) c.told.ensures.tells b.answer-is (ap (λ h. h.replicas.items) b.self-is) (ap (λ v. v.items) b.frames-is)
  | in-Input b ↦
      gave _ w es numbers c.args.self.now.replicas.items c.match-event.self.replicas.items c.args.place at c.in-Some.replica.now b.on_input_lazily-answer.new.self c.args.event.now (Input b.as_slice-in-Input.result.now)
      c.args.frames.now.items b.on_input_lazily-answer.new.out.items c.match-event.frames.items b.on_input_lazily-answer.result c.match-event.answer c.told.result
      stand number c.in-Some.ensures.item.3.0 c.in-Some.ensures.value alone (ap (λ x. Input x) b.as_slice-in-Input.ensures ∙ sym (ap call_in b.in-Input.is)) (b.on_input_lazily-answer.ensures w.start) c.told.ensures.tells b.answer-is (ap (λ h. h.replicas.items) b.self-is) (ap (λ v. v.items) b.frames-is)
  | in-Turn b ↦
      gave _ w es numbers c.args.self.now.replicas.items c.match-event.self.replicas.items c.args.place at c.in-Some.replica.now b.on_turn_lazily-answer.new.self c.args.event.now Turn
      c.args.frames.now.items b.on_turn_lazily-answer.new.out.items c.match-event.frames.items b.on_turn_lazily-answer.result c.match-event.answer c.told.result
      stand number c.in-Some.ensures.item.3.0 c.in-Some.ensures.value alone (sym (ap call_in b.in-Turn.is)) (b.on_turn_lazily-answer.ensures w.start) c.told.ensures.tells b.answer-is (ap (λ h. h.replicas.items) b.self-is) (ap (λ v. v.items) b.frames-is)
]

pub returns-clause-answered : goal.returns-clause-answered
returns-clause-answered g c = λ w es numbers at stand number alone. elim c.match-event.branch [
  | in-Frame b ↦
      answers _ w es numbers c.args.self.now.replicas.items c.args.place at c.in-Some.replica.now b.on_frame_lazily-answer.new.self c.args.event.now (Frame b.as_slice.result.now)
      c.args.frames.now.items b.on_frame_lazily-answer.new.out.items b.on_frame_lazily-answer.result c.match-event.answer c.told.result
      stand number c.in-Some.ensures.item.3.0 c.in-Some.ensures.value alone (ap (λ x. Frame x) b.as_slice.ensures ∙ sym (ap call_in b.in-Frame.is)) (b.on_frame_lazily-answer.ensures.does w.start) c.told.ensures.tells b.answer-is
  | in-Input b ↦
      answers _ w es numbers c.args.self.now.replicas.items c.args.place at c.in-Some.replica.now b.on_input_lazily-answer.new.self c.args.event.now (Input b.as_slice-in-Input.result.now)
      c.args.frames.now.items b.on_input_lazily-answer.new.out.items b.on_input_lazily-answer.result c.match-event.answer c.told.result
      stand number c.in-Some.ensures.item.3.0 c.in-Some.ensures.value alone (ap (λ x. Input x) b.as_slice-in-Input.ensures ∙ sym (ap call_in b.in-Input.is)) (b.on_input_lazily-answer.ensures w.start) c.told.ensures.tells b.answer-is
  | in-Turn b ↦
      answers _ w es numbers c.args.self.now.replicas.items c.args.place at c.in-Some.replica.now b.on_turn_lazily-answer.new.self c.args.event.now Turn
      c.args.frames.now.items b.on_turn_lazily-answer.new.out.items b.on_turn_lazily-answer.result c.match-event.answer c.told.result
      stand number c.in-Some.ensures.item.3.0 c.in-Some.ensures.value alone (sym (ap call_in b.in-Turn.is)) (b.on_turn_lazily-answer.ensures w.start) c.told.ensures.tells b.answer-is
]
