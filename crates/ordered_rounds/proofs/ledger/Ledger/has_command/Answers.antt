use Rattle.std.proofs.Common.{rules, ◌≡◌, ◌∙◌, sym, true, false}
use Rattle.std.specs.BTreeSet.{contains}
use Rattle.ordered_rounds.specs.Early.{id_cmp}
use Rattle.ordered_rounds.proofs.LedgerSteps.{delivered_then, delivered_else}
use Rattle.ordered_rounds.proofs.ledger.Ledger.has_command.Goals as goal

pub returns-then-contains : goal.returns-then-contains
returns-then-contains c = λ delivered log stands.
    let has : contains id_cmp c.args.self.now.pending c.args.id ≡ true = search rules in
    c.if-contains.true ∙ sym (delivered_then c.args.self.now delivered log c.args.id stands has)

pub returns-else-contains : goal.returns-else-contains
returns-else-contains c = λ delivered log stands.
    let none : contains id_cmp c.args.self.now.pending c.args.id ≡ false = search rules in
    c.has.ensures delivered log stands ∙ delivered_else c.args.self.now delivered log c.args.id stands none
