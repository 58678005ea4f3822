use Rattle.node_loop.proofs.Printing.{lives_print, all_lives}
use Rattle.node_loop.proofs.laws.lives_print.Goals as goal

pub returns : goal.returns
returns g c = record {
  one = lives_print (λ me head file es fs. c.journal_laws.ensures.opens me head file es fs) _ _;
  all = all_lives;
}
