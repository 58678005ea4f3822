use Rattle.std.proofs.Common.{◌∙◌, sym}
use Rattle.reliable_bcast.proofs.DigestValues.{value_found, value_not_found}
use Rattle.reliable_bcast.proofs.digest_rb.value_of.Goals as goal

pub returns-in-None : goal.returns-in-None
returns-in-None c = sym (value_not_found c.args.values.now c.args.digest.now (sym c.place_of.ensures ∙ c.in-None.is))

pub returns-in-Some : goal.returns-in-Some
returns-in-Some c = sym (value_found c.args.values.now c.args.digest.now c.in-Some.i c.index-values-i.result (sym c.place_of.ensures ∙ c.in-Some.is))
