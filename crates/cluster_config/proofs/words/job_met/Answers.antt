use Rattle.std.proofs.Common.{sym, ◌∙◌, ap}
use Rattle.cluster_config.specs.Words.{job_named, job_met}
use Rattle.cluster_config.proofs.Jobs.{met_is}
use Rattle.cluster_config.proofs.words.job_met.Goals as goal

pub returns : goal.returns
returns c =
    c.job_named.ensures
    ∙ (ap (job_named c.in_ok-name.name.now) c.value_of.ensures
    ∙ sym (ap job_met (met_is c.args.matches.now c.in_ok-name.name.now _ c.in_ok-name.ensures.name c.in_ok-name.ensures.rows)))
