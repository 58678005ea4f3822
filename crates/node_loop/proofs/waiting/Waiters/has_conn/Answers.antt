use Rattle.std.proofs.Common.{◌∙◌, ◌&&◌, ap, sym, refl, eq-eqb, Some}
use Rattle.std.specs.List.{list_any}
use Rattle.node_loop.specs.Waiting.{is_conn}
use Rattle.node_loop.proofs.waiting.Waiters.has_conn.Goals as goal

pub returns : goal.returns
returns c = record {
  waits = λ ws is.
      c.has.ensures ∙ (is.listed _ c.args.asked
      ∙ (ap (λ t. t && list_any (is_conn (Some c.in-Some.conn)) (ws c.args.asked)) (eq-eqb c.args.asked.at c.args.asked.at refl)
      ∙ ap (λ conn. list_any (is_conn conn) (ws c.args.asked)) (sym c.in-Some.is)));
}
