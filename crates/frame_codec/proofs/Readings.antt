-- A reading that went wrong nowhere read a whole text.
use Rattle.std.proofs.Common.{◌≡◌, ℕ, Bool, true, false, cond, eqb, List, [], length, Option, Some, None, Result, Ok, Err, refl, sym, ap, ◌∙◌}
use Rattle.std.proofs.lemmas.Bool.{eqb-true}
use Rattle.std.proofs.lemmas.List.{nil_from_length}
use Rattle.std.specs.Prelude.{IsNone, ◌↔◌}
use Rattle.frame_codec.specs.Format.{Format, Is, read}
use Rattle.frame_codec.specs.Inputs.{fault_offset, input_format}
use Rattle.frame_codec.specs.Laws.{InputsFaultless}
use Rattle.frame_codec.proofs.Formats.{read_is, is_read}

abbrev the_rest : List ℕ → Result (List ℕ) ℕ
the_rest rest = Ok rest

abbrev offset_if : Bool → ℕ → Option ℕ
offset_if t x = cond t None (Some x)

no_offset : (t : Bool) (x : ℕ) → offset_if t x ≡ None → t ≡ true
no_offset true x e = refl
no_offset false x e = absurd cc

nothing_wrong : (len : ℕ) (r : Result (List ℕ) ℕ) → fault_offset len r ≡ None → r ≡ Ok []
nothing_wrong len (Ok rest) e = ap the_rest (nil_from_length rest (eqb-true _ _ (no_offset (eqb (length rest) 0) _ e)))
nothing_wrong len (Err left) e = absurd cc

pub right_is : (format : Format) (text : List ℕ) → fault_offset (length text) (read format text) ≡ None → Is format text
right_is format text e = read_is format text (nothing_wrong (length text) (read format text) e)

pub is_right : (format : Format) (text : List ℕ) → Is format text → fault_offset (length text) (read format text) ≡ None
is_right format text is = ap (fault_offset (length text)) (is_read format text is)

some_none : (x : ℕ) → Some x ≡ None → ⊥
some_none x e = cc

-- nothing is wrong exactly where the text is of the format
pub none_is : (format : Format) (text : List ℕ) (o : Option ℕ) → o ≡ fault_offset (length text) (read format text) → IsNone o ↔ Is format text
none_is format text None e = (λ _. right_is format text (sym e), λ is. refl)
none_is format text (Some x) e = (λ none. absurd cc, λ is. absurd (some_none x (e ∙ is_right format text is)))

pub faultless : InputsFaultless
faultless p mode bytes = (right_is (input_format p mode.root) bytes, is_right (input_format p mode.root) bytes)
