use Rattle.std.proofs.Common.{sym, ◌∙◌, ap, arith}
use Rattle.std.specs.Option.{option_map}
use Rattle.node_session.proofs.Headings.{first_more, none_there}
use Rattle.node_session.proofs.configs.first_items.Goals.{in-Some+in_ok-first_item+in_ok-push, in_default}
use Rattle.node_session.proofs.configs.first_items.Goals as goal

pub loop-at-preserved : goal.loop-at-preserved
loop-at-preserved c = elim c.match-get.branch [
  | in-Some+in_ok-first_item+in_ok-push w ↦
      first_more c.args.requests.now c.loop-at.at w.in-Some.request.now c.loop-at.items.items w.push.new.self.items c.match-get.items.items w.in_ok-first_item.field-0
      (sym c.get.ensures ∙ ap (option_map (λ r. r.now)) w.in-Some.is) c.loop-at.invariant w.in_ok-push.ensures.items w.in_ok-first_item.ensures.item (ap (λ v. v.items) w.items-is)
  | in_default w ↦
      none_there c.args.requests.now c.loop-at.at (omega (arith, c.loop-at-test.true, c.len-at-end.ensures)) (sym c.get.ensures ∙ ap (option_map (λ r. r.now)) w.in_default.is)
]
