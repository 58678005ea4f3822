use Rattle.chain_file.proofs.Epoch.{epoch_is_read, text_is_of_one}
use Rattle.chain_file.proofs.laws.epochs_are_read.Goals as goal

pub returns-clause-read : goal.returns-clause-read
returns-clause-read c = epoch_is_read

pub returns-clause-one : goal.returns-clause-one
returns-clause-one c = text_is_of_one
