use Rattle.std.proofs.Common.{◌≡◌, sym, ◌∙◌, not, rules, length, Some}
use Rattle.std.proofs.lemmas.Fn.{filter_same}
use Rattle.node_loop.specs.Waiting.{is_conn}
use Rattle.node_loop.proofs.Asking.{not_one}
use Rattle.node_loop.proofs.waiting.leave.Goals as goal

pub returns-else-len-eq1 : goal.returns-else-len-eq1
returns-else-len-eq1 c = record {
  leaves =
      let long : c.len.result ≡ length c.args.conns.now.items = search rules in
      filter_same _ (λ x. not (is_conn (Some c.args.conn) x)) _ (λ x b f called. search rules) _ _ c.retain.ensures.filtered
      ∙ sym (not_one c.args.conn c.args.conns.now.items (λ one. c.if-len-eq1.false (long ∙ one)));
}
