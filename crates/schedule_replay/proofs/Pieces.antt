-- Lines that are written in pieces.
use Rattle.std.proofs.Common.{◌≡◌, ℕ, Bool, true, Err, ◌+◌, ◌≤◌, List, [], ◌∷◌, ◌++◌, length, Some, None, inl, inr, take, drop, sym, ap, ◌∙◌, append_assoc, add-one, arith}
use Rattle.std.specs.List.{flat_map, slice_get}
use Rattle.std.proofs.lemmas.Grind.{flat_map-append}
use Rattle.std.proofs.lemmas.List.{append-nil, take-append-drop}
use Rattle.std.proofs.lemmas.Option.{slice_get_within, get_or_from_slice_get, slice_get_cases, none-some}
use Rattle.std.proofs.Math.Seq.{take-suc}
use Rattle.outside.specs.Faults.{count_after, Rose}
use Rattle.outside.specs.Writing.{TookFront, Writes}
use Rattle.schedule_replay.specs.Frames.{HoldsRest}

-- a line goes onto what is held
pub held_more : (old now held line lines : List ℕ) → HoldsRest old now held lines → HoldsRest old now (held ++ line) (lines ++ line)
held_more old now held line lines h = record {
  front = h.front;
  parts = ap (λ (l : List ℕ). l ++ line) h.parts ∙ append_assoc h.front held line;
  taken = h.taken;
}

-- what is held was written
pub all_written : (old now after held lines : List ℕ) → HoldsRest old now held lines → after ≡ now ++ held → after ≡ old ++ lines
all_written old now after held lines h wrote =
    wrote ∙ (ap (λ (l : List ℕ). l ++ held) h.taken ∙ (append_assoc old h.front held ∙ ap (λ (l : List ℕ). old ++ l) (sym h.parts)))

-- a front of what is held was written
pub held_cut : (old now after held lines : List ℕ) → HoldsRest old now held lines → TookFront now after held → TookFront old after lines
held_cut old now after held lines h t = record {
  front = h.front ++ t.front;
  rest = t.rest;
  parts = h.parts ∙ (ap (λ (l : List ℕ). h.front ++ l) t.parts ∙ sym (append_assoc h.front t.front t.rest));
  taken = t.taken ∙ (ap (λ (l : List ℕ). l ++ t.front) h.taken ∙ append_assoc old h.front t.front);
}

-- what is held is lost
pub held_lost : (old now held lines : List ℕ) → HoldsRest old now held lines → TookFront old now lines
held_lost old now held lines h = record { front = h.front; rest = held; parts = h.parts; taken = h.taken }

-- a front of some lines is one of more
front_of_more : (old now lines more : List ℕ) → TookFront old now lines → TookFront old now (lines ++ more)
front_of_more old now lines more t = record {
  front = t.front;
  rest = t.rest ++ more;
  parts = ap (λ (l : List ℕ). l ++ more) t.parts ∙ append_assoc t.front t.rest more;
  taken = t.taken;
}

-- the lines with the next one
pub next_line : {X : Type 0} (line : X → List ℕ) (xs : List X) (at : ℕ) (x : X) → slice_get xs at ≡ Some x
    → flat_map line (take (at + 1) xs) ≡ flat_map line (take at xs) ++ line x
next_line {X = X} line xs at x e =
    let within = slice_get_within xs at x e in
    let grown : take (at + 1) xs ≡ take at xs ++ x ∷ [] = rw add-one (take-suc xs at x within ∙ ap (λ (y : X). take at xs ++ y ∷ []) (get_or_from_slice_get xs at x x e)) in
    ap (flat_map line) grown ∙ (flat_map-append line (take at xs) (x ∷ []) ∙ ap (λ (l : List ℕ). flat_map line (take at xs) ++ l) (append-nil (line x)))

-- a front of the first lines is one of all
pub front_of_all : {X : Type 0} (line : X → List ℕ) (xs : List X) (n : ℕ) (old now : List ℕ) → TookFront old now (flat_map line (take n xs)) → TookFront old now (flat_map line xs)
front_of_all line xs n old now t =
    let all : flat_map line xs ≡ flat_map line (take n xs) ++ flat_map line (drop n xs) =
    ap (flat_map line) (sym (take-append-drop n xs)) ∙ flat_map-append line (take n xs) (drop n xs) in
    rw all (front_of_more old now (flat_map line (take n xs)) (flat_map line (drop n xs)) t)

-- where there is no element, the list has ended
pub ended : {X : Type 0} (xs : List X) (at : ℕ) → slice_get xs at ≡ None → length xs ≤ at
ended xs at e =
    elim (slice_get_cases xs at).1 [
      | inl x ↦ absurd (none-some x.0 (sym e ∙ x.2))
      | inr x ↦ x.0
    ]

-- a count that rose, rose from all that it was before
pub rose_since : (before now after : ℕ) → before ≤ now → Rose now after → Rose before after
rose_since before now after le (inl rose) = inl (omega arith)
rose_since before now after le (inr last) = inr last

-- where a front of some lines was written, no more was of a text that begins with them
pub cut_early : {E : Type 0} (tells : Bool) (old now lines more : List ℕ) (before after : ℕ) (e : E) (failed : Type 0) → (tells ≡ true → TookFront old now lines)
    → before ≤ after → (failed → Rose before after) → (failed → after ≡ count_after before) → (¬ failed → after ≡ before) → Writes (lines ++ more) tells old now before after (Err e) failed
cut_early tells old now lines more before after e failed front later cause rises others = record {
  whole = λ told. tt;
  front = λ told. front_of_more old now lines more (front told);
  later = later;
  cause = cause;
  counts = record { stands = tt; rises = rises; others = others };
}
