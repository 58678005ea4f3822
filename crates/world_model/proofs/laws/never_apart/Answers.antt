use Rattle.world_model.proofs.Apart.{no_two_values, no_two_rows, no_two_identifier_logs, no_two_outcomes, no_two_decisions, no_two_vectors}
use Rattle.world_model.proofs.laws.never_apart.Goals as goal

pub returns : goal.returns
returns c = record {
  values = no_two_values;
  rows = no_two_rows;
  identifiers = no_two_identifier_logs;
  outcomes = no_two_outcomes;
  decisions = no_two_decisions;
  vectors = no_two_vectors;
}
