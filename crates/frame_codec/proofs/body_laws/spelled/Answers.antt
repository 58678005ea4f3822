use Rattle.frame_codec.proofs.Bodies.{answer_good, answer_spells}
use Rattle.frame_codec.proofs.Items.{item_spells, item_again, one_item, spelling_short}
use Rattle.frame_codec.proofs.body_laws.spelled.Goals as goal

pub returns-clause-spells : goal.returns-clause-spells
returns-clause-spells c = item_spells

pub returns-clause-read : goal.returns-clause-read
returns-clause-read c = item_again

pub returns-clause-one : goal.returns-clause-one
returns-clause-one c = one_item

pub returns-clause-short : goal.returns-clause-short
returns-clause-short c = spelling_short

pub returns-clause-answered : goal.returns-clause-answered
returns-clause-answered c = answer_good

pub returns-clause-spelling : goal.returns-clause-spelling
returns-clause-spelling c = answer_spells
