use Rattle.std.proofs.Common.{length, rules, tests}
use Rattle.std.specs.BTreeMap.{values}
use Rattle.std.proofs.lemmas.Iterator.{YieldsList-from_map}
use Rattle.std.proofs.lemmas.Iterator.Consumers.{YieldsList-at, YieldsList-from_rest, sum_by_from_yields_List}
use Rattle.link_resume.specs.declared.kept.Kept.{Kept}
use Rattle.link_resume.proofs.lane.bytes_in.Goals as goal

pub returns : goal.returns
returns c =
    sum_by_from_yields_List (λ (k : Kept). length k.frame) (values c.args.kept.now) c.map.result _ c.sum.ensures.ran
    (YieldsList-from_map _ (λ (k : Kept). length k.frame) (YieldsList-at c.map.ensures.source (YieldsList-from_rest (values c.args.kept.now) c.values.ensures.rest)) c.map.ensures.closure (λ x r q k. search (rules, tests)))
