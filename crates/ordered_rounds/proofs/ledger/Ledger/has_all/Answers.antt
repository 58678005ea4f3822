use Rattle.std.proofs.Common.{rules, ◌≡◌, ◌<◌, ◌≤◌, ◌∙◌, sym, ap, arith, length, true, false}
use Rattle.std.proofs.lemmas.List.{drop_all}
use Rattle.layer_api.specs.Service.{has_id}
use Rattle.ordered_rounds.specs.Identifiers.{all_pass}
use Rattle.ordered_rounds.proofs.LedgerSteps.{origin_of, pass_next}
use Rattle.ordered_rounds.proofs.Listed.{left_next, item_at}
use Rattle.ordered_rounds.proofs.ledger.Ledger.has_all.Goals.{then-id-ge-MOST_REPLICAS-via-then-id-ge-MOST_REPLICAS, then-id-ge-MOST_REPLICAS-via-else-id-ge-MOST_REPLICAS+then-not-has_command}
use Rattle.ordered_rounds.proofs.ledger.Ledger.has_all.Goals as goal

pub returns-then-id-ge-MOST_REPLICAS : goal.returns-then-id-ge-MOST_REPLICAS
returns-then-id-ge-MOST_REPLICAS c = λ delivered log stands.
    let ids = c.args.wanted.now in
    let i = c.loop-id.id-index in
    let within : i < length ids = omega arith in
    let x = item_at ids i in
    let not_there : has_id delivered x ≡ false =
    elim c.then-id-ge-MOST_REPLICAS.branch [
      | then-id-ge-MOST_REPLICAS-via-then-id-ge-MOST_REPLICAS w ↦ origin_of c.args.self.now delivered log x stands w.if-id-ge-MOST_REPLICAS.true
      | then-id-ge-MOST_REPLICAS-via-else-id-ge-MOST_REPLICAS+then-not-has_command w ↦ sym (w.has_command.ensures delivered log stands) ∙ (search rules)
    ] in
    sym (pass_next (has_id delivered) _ _ x false (left_next ids i within) not_there) ∙ c.loop-id.invariant delivered log stands

pub loop-id-preserved : goal.loop-id-preserved
loop-id-preserved c = λ delivered log stands.
    let ids = c.args.wanted.now in
    let i = c.loop-id.id-index in
    let within : i < length ids = omega arith in
    let x = item_at ids i in
    let there : has_id delivered x ≡ true = sym (c.has_command.ensures delivered log stands) ∙ (search rules) in
    sym (pass_next (has_id delivered) _ _ x true (left_next ids i within) there) ∙ c.loop-id.invariant delivered log stands

pub returns : goal.returns
returns c = λ delivered log stands.
    let past : length c.args.wanted.now ≤ c.loop-id.id-index = omega arith in
    sym (ap (all_pass (has_id delivered)) (drop_all c.loop-id.id-index c.args.wanted.now past)) ∙ c.loop-id.invariant delivered log stands
