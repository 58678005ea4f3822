-- A text goes to a tape in pieces.
use Rattle.std.proofs.Common.{◌≡◌, ℕ, ◌≤◌, List, [], ◌++◌, length, take, Result, Ok, Err, refl, sym, ap, ◌∙◌, append_assoc, length-append, arith}
use Rattle.std.specs.Prelude.{IsErr, OnOk, OnErr}
use Rattle.std.proofs.lemmas.List.{append-nil, take_at}
use Rattle.outside.specs.Writing.{TookFront}
use Rattle.outside.specs.WritingLaws.{front_then}
use Rattle.node_loop.specs.Pieces.{TookAllBut}

-- there is no piece yet
pub no_piece : (old : List ℕ) → TookAllBut old old [] []
no_piece old = record { done = []; parts = refl; taken = sym (append-nil old) }

-- a piece grew
pub piece_grew : (old new text piece more : List ℕ) → TookAllBut old new text piece → TookAllBut old new (text ++ more) (piece ++ more)
piece_grew old new text piece more took = record {
  done = took.done;
  parts = ap (λ (l : List ℕ). l ++ more) took.parts ∙ append_assoc took.done piece more;
  taken = took.taken;
}

-- it went to the tape
pub piece_went : (old mid new text piece : List ℕ) → TookAllBut old mid text piece → new ≡ mid ++ piece → TookAllBut old new text []
piece_went old mid new text piece took went = record {
  done = text;
  parts = sym (append-nil text);
  taken = went ∙ (ap (λ (l : List ℕ). l ++ piece) took.taken ∙ (append_assoc old took.done piece ∙ ap (λ (l : List ℕ). old ++ l) (sym took.parts)));
}

-- or a front of it
pub piece_stopped : (old mid new text piece : List ℕ) → TookAllBut old mid text piece → TookFront mid new piece → TookFront old new text
piece_stopped old mid new text piece took front =
    front_then old mid new took.done piece [] text (took.parts ∙ ap (λ (l : List ℕ). took.done ++ l) (sym (append-nil piece))) took.taken front

-- nothing is left
pub all_went : (old new text : List ℕ) → TookAllBut old new text [] → new ≡ old ++ text
all_went old new text took = took.taken ∙ ap (λ (l : List ℕ). old ++ l) (sym (took.parts ∙ append-nil took.done))

-- and then a text more, or a front of it
pub more_went : (old mid new text more : List ℕ) → TookAllBut old mid text [] → new ≡ mid ++ more → TookAllBut old new (text ++ more) []
more_went old mid new text more took went = record {
  done = text ++ more;
  parts = sym (append-nil (text ++ more));
  taken = went ∙ (ap (λ (l : List ℕ). l ++ more) (all_went old mid text took) ∙ append_assoc old text more);
}

pub more_stopped : (old mid new text more : List ℕ) → TookAllBut old mid text [] → TookFront mid new more → TookFront old new (text ++ more)
more_stopped old mid new text more took front =
    front_then old mid new text more [] (text ++ more) (ap (λ (l : List ℕ). text ++ l) (sym (append-nil more))) (all_went old mid text took) front

-- what was there before stands in front
pub front_kept : (old new text : List ℕ) → TookFront old new text → (length old ≤ length new) × (take (length old) new ≡ old)
front_kept old new text took = (
  omega (arith, ap length took.taken, length-append old took.front),
  ap (take (length old)) took.taken ∙ take_at old took.front (length old) refl,
)

-- ---- of a result

-- two facts of an Ok are one, of which the second may stand under a premise
pub both_on_ok : {A E : Type 0} (r : Result A E) (P T Q : Type 0) → OnOk r P → (T → OnOk r Q) → OnOk r (P × (T → Q))
both_on_ok (Ok a) P T Q p q = (p, q)
both_on_ok (Err e) P T Q p q = tt

pub two_on_ok : {A E : Type 0} (r : Result A E) (P Q R : Type 0) → (P → Q → R) → OnOk r P → OnOk r Q → OnOk r R
two_on_ok (Ok a) P Q R f p q = f p q
two_on_ok (Err e) P Q R f p q = tt

-- what a failure gives is a fact of an Err
pub on_err : {A E : Type 0} (r : Result A E) (P : Type 0) → (IsErr r → P) → OnErr r P
on_err (Ok a) P p = tt
on_err (Err e) P p = p refl
