use Rattle.std.proofs.Common.{Some, [], ◌∷◌, ◌++◌, cond, ap, ◌∙◌}
use Rattle.std.specs.Ordering.{is_eq}
use Rattle.std.specs.BTreeMap.{get}
use Rattle.node_loop.specs.WaitersStanding.{asked_cmp}
use Rattle.node_loop.proofs.Indexing.{first_put}
use Rattle.node_loop.proofs.waiting.Waiters.put.Goals as goal

pub returns-in_ok-insert-in-None-clause-puts : goal.returns-in_ok-insert-in-None-clause-puts
returns-in_ok-insert-in-None-clause-puts c =
    first_put c.args.self.now.by_request c.insert.new.self c.args.asked c.args.conn c.push-in-None.new.self c.in-None.ensures.value
    (c.in_ok-push-in-None.ensures.items ∙ ap (λ xs. xs ++ c.args.conn ∷ []) c.new-conns.ensures.items)
    (λ b. c.in_ok-insert-in-None.ensures.updates.0 b
    ∙ ap (λ m. cond (is_eq (asked_cmp c.args.asked b)) (Some c.push-in-None.new.self) (get asked_cmp m b)) c.get_mut.follows.holds-at-none)
