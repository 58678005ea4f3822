use Rattle.multivalued.proofs.Calls.{proposes}
use Rattle.multivalued.proofs.mvc.MvcMultiBox.propose.Goals as goal

pub returns : goal.returns
returns g c =
    proposes g.B.BinaryBox.stands g.B.BinaryBox.rules c.args.self.now c.start-next.new.self c.end.new.self c.args.value.now c.start-next.result c.new-made.result.items c.start-next.new.made.items
    c.args.says.now.items c.end.new.says.items c.end.result c.new-made.ensures.items c.start-next.ensures.keeps c.end.ensures c.start-next.ensures.ok
