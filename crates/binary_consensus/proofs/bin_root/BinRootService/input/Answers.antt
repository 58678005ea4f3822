use Rattle.std.proofs.Common.{◌≡◌, Bool, true, false, if◌then◌else◌, sym, ap, rules, ◌∷◌, []}
use Rattle.std.specs.Prelude.{is_ok}
use Rattle.std.specs.Str.{bytes_eq}
use Rattle.binary_consensus.proofs.RootCalls.{root_input}
use Rattle.binary_consensus.proofs.bin_root.BinRootService.input.Goals as goal

pub returns-then-is_ok : goal.returns-then-is_ok
returns-then-is_ok g c =
    let bit : c.eq.result ≡ bytes_eq c.args.value.now (1 ∷ []) = search rules in
    let given : is_ok c.propose-taken.result ≡ true = search rules in
    root_input g.B.BinaryBox.stands g.B.BinaryBox.rules g.B.BinaryBox.live g.B.BinaryBox.shown c.args.self.now (record { inner = c.propose-taken.new.self; given = true })
    c.args.value.now c.eq.result c.args.says.now.items c.propose-taken.new.says.items c.propose-taken.result bit c.propose-taken.ensures
    (sym (ap (λ (b : Bool). if b then true else c.args.self.now.given) given))

pub returns-else-is_ok : goal.returns-else-is_ok
returns-else-is_ok g c =
    let bit : c.eq.result ≡ bytes_eq c.args.value.now (1 ∷ []) = search rules in
    let given : is_ok c.propose-taken.result ≡ false = search rules in
    root_input g.B.BinaryBox.stands g.B.BinaryBox.rules g.B.BinaryBox.live g.B.BinaryBox.shown c.args.self.now (record { inner = c.propose-taken.new.self; given = c.args.self.now.given })
    c.args.value.now c.eq.result c.args.says.now.items c.propose-taken.new.says.items c.propose-taken.result bit c.propose-taken.ensures
    (sym (ap (λ (b : Bool). if b then true else c.args.self.now.given) given))
