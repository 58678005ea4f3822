use Rattle.std.proofs.Common.{sym, ◌∙◌, ap, Bool, ◌&&◌}
use Rattle.std.specs.Prelude.{is_none}
use Rattle.binary_consensus.specs.Stands.{shows_box}
use Rattle.binary_consensus.proofs.Boxes.{none_is}
use Rattle.binary_consensus.proofs.bin.BinBinaryBox.rounds_over.Goals as goal

pub returns-then-self-clause-rules : goal.returns-then-self-clause-rules
returns-then-self-clause-rules c = λ at w stands.
    none_is c.args.self.now.place.decided c.is_none.result c.is_none.ensures ∙ (sym (ap (λ (b : Bool). b && is_none c.args.self.now.place.decided) c.if-self.true) ∙ (shows_box c.args.self.now at w stands).1.over)

pub returns-else-self-clause-rules : goal.returns-else-self-clause-rules
returns-else-self-clause-rules c = λ at w stands.
    c.if-self.false ∙ (sym (ap (λ (b : Bool). b && is_none c.args.self.now.place.decided) c.if-self.false) ∙ (shows_box c.args.self.now at w stands).1.over)
