use Rattle.std.proofs.Common.{sym, ◌∙◌, ap}
use Rattle.link_resume.specs.Lists.{last_number}
use Rattle.link_resume.proofs.Batches.{last_number-push}
use Rattle.link_resume.proofs.lane.Lane.newest.Goals as goal

pub returns-in-Some : goal.returns-in-Some
returns-in-Some c =
    sym (last_number-push c.next_back.new.self c.in-Some.kept.now)
    ∙ ap last_number (sym c.in-Some.ensures.steps ∙ (c.values.ensures.rest ∙ c.self.view_is))
