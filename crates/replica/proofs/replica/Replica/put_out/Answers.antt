use Rattle.std.proofs.Common.{◌≡◌, ◌<◌, ◌^◌, [], sym, ◌∙◌, arith, rules}
use Rattle.std.proofs.lemmas.Bool.{eqb-true}
use Rattle.std.proofs.lemmas.List.{nil_from_length}
use Rattle.replica.proofs.Sends.{puts_nothing}
use Rattle.replica.proofs.replica.Replica.put_out.Goals as goal

pub returns-then-is_empty-clause-ok : goal.returns-then-is_empty-clause-ok
returns-then-is_empty-clause-ok g c =
    let short : c.args.msgs.len ≡ 0 = eqb-true c.args.msgs.len 0 (sym c.is_empty.ensures ∙ c.if-is_empty.true) in
    let none : c.args.msgs.items ≡ [] = nil_from_length c.args.msgs.items (sym c.args.msgs.ok.0 ∙ short) in
    let low : c.args.self.now.sent < 2 ^ 64 = search rules in
    puts_nothing c.args.self.now c.args.msgs.items c.args.out.now.items none low
