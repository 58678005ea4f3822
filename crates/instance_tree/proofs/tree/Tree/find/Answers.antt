use Rattle.std.proofs.Common.{sym, ap, ◌∙◌}
use Rattle.std.specs.Option.{option_copied}
use Rattle.instance_tree.proofs.Tied.{found_value, found_nothing}
use Rattle.instance_tree.proofs.tree.Tree.find.Goals as goal

pub returns-in_err-key : goal.returns-in_err-key
returns-in_err-key g c =
    ap option_copied c.from_residual.ensures
    ∙ found_nothing c.self.inside.keys c.self.inside.arena c.args.slot.now c.args.self.now (sym c.find.ensures ∙ c.in_err-key.was) c.self.view_is

pub returns : goal.returns
returns g c =
    c.get.ensures
    ∙ found_value c.self.inside.keys c.self.inside.arena c.args.slot.now c.in_ok-key.key c.args.self.now (sym c.find.ensures ∙ c.in_ok-key.was) c.self.view_is
