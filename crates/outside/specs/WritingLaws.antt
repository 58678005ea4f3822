-- What follows where one text is written after another, for calls that are made of calls on a sink.
use Rattle.std.specs.Prelude.{◌≡◌, ℕ, List, [], ◌++◌, Bool, true, Result, Ok, Err, IsErr, take, drop, refl}
use Rattle.std.proofs.Common.{sym, ap, ◌∙◌, append_assoc, arith}
use Rattle.std.proofs.lemmas.List.{take-append-drop, append-nil}
use Rattle.std.proofs.lemmas.Result.{on_ok_weaker}
use Rattle.outside.specs.Faults.{CountsFault, count_after}
use Rattle.outside.specs.FaultsLaws.{rose_after}
use Rattle.outside.specs.Writing.{TookFront, Writes}

pub front_of : (old new text : List ℕ) (k : ℕ) → new ≡ old ++ take k text → TookFront old new text
front_of old new text k e = record { front = take k text; rest = drop k text; parts = sym (take-append-drop k text); taken = e }

-- nothing was written
pub none_written : (old text : List ℕ) → TookFront old old text
none_written old text = record { front = []; rest = text; parts = refl; taken = sym (append-nil old) }

-- all was written
pub all_written : (old new text : List ℕ) → new ≡ old ++ text → TookFront old new text
all_written old new text e = record { front = text; rest = []; parts = sym (append-nil text); taken = e }

-- a text, and then a front of the next
pub front_then : (old mid new a b c whole : List ℕ) → whole ≡ a ++ (b ++ c) → mid ≡ old ++ a → TookFront mid new b → TookFront old new whole
front_then old mid new a b c whole e first took = record {
  front = a ++ took.front;
  rest = took.rest ++ c;
  parts = e ∙ rw took.parts (simp append_assoc);
  taken = took.taken ∙ rw first (append_assoc old a took.front);
}

-- a front of a text is one of a longer text
pub front_more : (old new a b : List ℕ) → TookFront old new a → TookFront old new (a ++ b)
front_more old new a b took = record { front = took.front; rest = took.rest ++ b; parts = rw took.parts (append_assoc took.front took.rest b); taken = took.taken }

-- a call that failed before it wrote anything, and not because of the sink
pub writes_none : {E F : Type 0} (text : List ℕ) (tells : Bool) (old : List ℕ) (x : ℕ) (e : E) → (F → ⊥) → Writes text tells old old x x (Err e) F
writes_none text tells old x e not = record {
  whole = λ _. tt;
  front = λ _. none_written old text;
  later = omega arith;
  cause = λ f. absurd (not f);
  counts = record { stands = tt; rises = λ f. absurd (not f); others = λ _. refl };
}

-- the counts of one call, and then of another
pub counts_then : {A B E D : Type 0} {F G : Type 0} (x y z : ℕ) {a : A} (r : Result B D) → CountsFault {E = E} x y (Ok a) F → CountsFault y z r G → CountsFault x z r G
counts_then x y z r first second = record {
  stands = on_ok_weaker r (λ e. e ∙ first.stands) second.stands;
  rises = λ f. second.rises f ∙ ap count_after first.stands;
  others = λ not. second.others not ∙ first.stands;
}

-- one text, and then another
pub writes_then : {E F G : Type 0} (a b : List ℕ) (tells : Bool) (old mid new : List ℕ) (x y z : ℕ) (r : Result (Unit {0}) E) → Writes {E = E} a tells old mid x y (Ok tt) F → Writes b tells mid new y z r G → Writes (a ++ b) tells old new x z r G
writes_then a b tells old mid new x y z r first second = record {
  whole = λ t. on_ok_weaker r (λ e. e ∙ rw (first.whole t) (append_assoc old a b)) (second.whole t);
  front = λ t. front_then old mid new a b [] (a ++ b) (ap (λ (s : List ℕ). a ++ s) (sym (append-nil b))) (first.whole t) (second.front t);
  later = omega (arith, first.later, second.later);
  cause = λ f. rose_after x y z first.later (second.cause f);
  counts = counts_then x y z r first.counts second.counts;
}

-- the first of two texts failed
pub fails_then : {D E F G : Type 0} (a b : List ℕ) (tells : Bool) (old new : List ℕ) (x y : ℕ) (d : D) (e : E) → (G → F) → (F → G) → Writes a tells old new x y (Err d) F → Writes (a ++ b) tells old new x y (Err e) G
fails_then a b tells old new x y d e why back first = record {
  whole = λ t. tt;
  front = λ t. front_more old new a b (first.front t);
  later = first.later;
  cause = λ f. first.cause (why f);
  counts = record { stands = tt; rises = λ f. first.counts.rises (why f); others = λ not. first.counts.others (λ f. not (back f)) };
}

-- the first of two texts failed, and so did the call that writes both
pub fails_as : {D E : Type 0} (a b : List ℕ) (tells : Bool) (old new : List ℕ) (x y : ℕ) (d : D) (r : Result (Unit {0}) E) → IsErr r → Writes a tells old new x y (Err d) (true ≡ true) → Writes (a ++ b) tells old new x y r (IsErr r)
fails_as a b tells old new x y d (Ok u) failed first = absurd cc
fails_as a b tells old new x y d (Err e) failed first = fails_then a b tells old new x y d e (λ _. refl) (λ _. refl) first
