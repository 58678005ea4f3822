use Rattle.std.proofs.Common.{sym, ◌∙◌}
use Rattle.ritas_core.proofs.cast.Cast.make.Goals as goal

pub returns-in_ok-new-in-Values : goal.returns-in_ok-new-in-Values
returns-in_ok-new-in-Values g c = λ tags. (sym c.route_of.ensures ∙ c.in-Values.is, c.in_ok-new-in-Values.ensures tags)

pub returns-in_ok-new-in-Digests : goal.returns-in_ok-new-in-Digests
returns-in_ok-new-in-Digests g c = λ tags. (sym c.route_of.ensures ∙ c.in-Digests.is, c.in_ok-new-in-Digests.ensures tags)
