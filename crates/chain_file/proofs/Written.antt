-- One text written after another, where each is said otherwise.
use Rattle.std.specs.Prelude.{◌≡◌, ℕ, List, [], ◌++◌, Bool, true, false, Result, Ok, Err, IsErr, refl}
use Rattle.std.proofs.Common.{sym, subst, arith}
use Rattle.std.proofs.lemmas.List.{append-nil}
use Rattle.outside.specs.Writing.{Writes}
use Rattle.outside.specs.WritingLaws.{none_written, writes_then, fails_as}

pub then_at : {E F G : Type 0} (s t a b : List ℕ) → s ≡ a → t ≡ b → (tells : Bool) (old mid new : List ℕ) (x y z : ℕ) (r : Result (Unit {0}) E)
    → Writes {E = E} s tells old mid x y (Ok tt) F → Writes t tells mid new y z r G → Writes (a ++ b) tells old new x z r G
then_at {E} {F} {G} s t a b e d tells old mid new x y z r first second =
    writes_then a b tells old mid new x y z r
    (subst (λ (u : List ℕ). Writes {E = E} u tells old mid x y (Ok tt) F) e first)
    (subst (λ (u : List ℕ). Writes u tells mid new y z r G) d second)

pub fails_at : {D E : Type 0} (s a b : List ℕ) → s ≡ a → (tells : Bool) (old new : List ℕ) (x y : ℕ) (d : D) (r : Result (Unit {0}) E) → IsErr r
    → Writes s tells old new x y (Err d) (true ≡ true) → Writes (a ++ b) tells old new x y r (IsErr r)
fails_at {D} s a b e tells old new x y d r failed first =
    fails_as a b tells old new x y d r failed (subst (λ (u : List ℕ). Writes {E = D} u tells old new x y (Err d) (true ≡ true)) e first)

-- nothing is written
pub begun : {E : Type 0} (text : List ℕ) → text ≡ [] → (tells : Bool) (old : List ℕ) (x : ℕ) → Writes {E = E} text tells old old x x (Ok tt) (false ≡ true)
begun {E} text e tells old x = subst (λ (u : List ℕ). Writes {E = E} u tells old old x x (Ok tt) (false ≡ true)) (sym e) (record {
  whole = λ _. sym (append-nil old);
  front = λ _. none_written old [];
  later = omega arith;
  cause = λ f. absurd (cc f);
  counts = record { stands = refl; rises = λ f. absurd (cc f); others = λ _. refl };
})
