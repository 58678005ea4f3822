use Rattle.std.proofs.Common.{◌≡◌, [], ◌∷◌, sym, subst, refl, lit<}
use Rattle.record_file.specs.Form.{Form}
use Rattle.record_file.specs.Records.{IsGroup}
use Rattle.base_tests.proofs.records.append.Goals as goal

pub append-requires-clause-group : goal.append-requires-clause-group
append-requires-clause-group c =
    subst (λ (f : Form). IsGroup f (1 ∷ 0 ∷ 2 ∷ 104 ∷ 105 ∷ 1 ∷ 0 ∷ 0 ∷ 0 ∷ [])) (sym c.requires.form)
    (record { rs = [] ∷ (104 ∷ 105 ∷ []) ∷ []; each = (lit< tt, (lit< tt, tt)); text_is = refl })
