use Rattle.std.proofs.Common.{◌∙◌, rules, ap, sum_by}
use Rattle.std.proofs.lemmas.List.{take_all}
use Rattle.link_resume.specs.Lists.{bytes_in}
use Rattle.link_resume.proofs.resume.Resume.all_bytes.Goals as goal

pub returns : goal.returns
returns c = c.loop-lane.invariant.0 ∙ ap (sum_by bytes_in) (take_all c.loop-lane.lane-index c.args.self.now.lists (search rules))
