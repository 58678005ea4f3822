use Rattle.cluster_config.proofs.Listed.{words_name}
use Rattle.cluster_config.proofs.words.words_law.Goals as goal

pub returns : goal.returns
returns c = words_name
