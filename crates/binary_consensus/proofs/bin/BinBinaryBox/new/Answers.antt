use Rattle.std.proofs.Common.{sym, ◌∙◌, ap, refl, subst}
use Rattle.ritas_base.specs.Numbers.{Numbers, IsSession}
use Rattle.binary_consensus.specs.Counts.{HeardRows}
use Rattle.binary_consensus.proofs.Boxes.{new_stands}
use Rattle.binary_consensus.proofs.bin.BinBinaryBox.new.Goals as goal

pub returns : goal.returns
returns c = λ at numbers me a attempt.
    new_stands at _ (subst (λ (p : Numbers). IsSession p) (sym numbers) c.new.ensures.session)
    (record { numbers = ap (λ (h : HeardRows). h.numbers) c.new.ensures.empty ∙ sym numbers; me = sym me; a = sym a; attempt = sym attempt })
    (ap (λ (h : HeardRows). h.rows) c.new.ensures.empty) refl refl refl refl
