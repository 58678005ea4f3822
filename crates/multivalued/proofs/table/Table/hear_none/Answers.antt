use Rattle.std.proofs.Common.{refl, arith, []}
use Rattle.multivalued.proofs.TableLaws.{table_none, keeps_same}
use Rattle.multivalued.proofs.table.Table.hear_none.Goals as goal

pub returns-clause-ok : goal.returns-clause-ok
returns-clause-ok c = λ n support init vect small within nothing t.
    table_none n support small init vect t.inits_inside c.args.k [] within nothing c.only.result c.args.self.now _ refl (c.only.ensures (omega (arith, small, within))) t refl refl refl c.either-self.ensures refl

pub returns-clause-keeps : goal.returns-clause-keeps
returns-clause-keeps c = keeps_same c.args.self.now.entries.items
