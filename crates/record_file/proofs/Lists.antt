-- A file behind a front: what a torn write and a whole one leave of it.
use Rattle.std.proofs.Common.{◌≡◌, ℕ, ◌+◌, ◌<◌, List, [], ◌∷◌, ◌++◌, length, take, drop, min, get_or, sym, ap, ◌∙◌, append_assoc, arith, length-append, take-append-drop}
use Rattle.std.proofs.lemmas.List.{take_at, drop_at, drop_more, drop-drop}
use Rattle.outside.specs.Disks.{IsTorn, bytes_written}
use Rattle.outside.specs.DisksLaws.{written_inside}

-- the same front and the same gate, and something behind
pub record Behind (front : List ℕ) (gate : ℕ) (image : List ℕ) : Type 0 where
  pub rest : List ℕ
  pub text : image ≡ front ++ gate ∷ rest

-- the same front, some gate, and the same behind
pub record Gated (front rest image : List ℕ) : Type 0 where
  pub gate : ℕ
  pub text : image ≡ front ++ gate ∷ rest

pushed : (front : List ℕ) (gate : ℕ) (rest : List ℕ) → (front ++ gate ∷ []) ++ rest ≡ front ++ gate ∷ rest
pushed front gate rest = append_assoc front (gate ∷ []) rest

gate_length : (front : List ℕ) (gate : ℕ) (rest : List ℕ) → length (front ++ gate ∷ rest) ≡ length front + 1 + length rest
gate_length front gate rest = omega (arith, length-append front (gate ∷ rest))

-- a write behind the gate is torn
pub torn_behind : (front : List ℕ) (gate : ℕ) (rest image : List ℕ) (at n : ℕ) → at ≡ length front + 1 → IsTorn (record { at = at; count = n }) (front ++ gate ∷ rest) image
    → Behind front gate image
torn_behind front gate rest image at n is torn =
    let long = gate_length front gate rest in
    let least : min at (length (front ++ gate ∷ rest)) ≡ at = omega (arith, long, is) in
    let whole : take at (front ++ gate ∷ rest) ≡ front ++ gate ∷ [] =
    ap (take at) (sym (pushed front gate rest)) ∙ take_at (front ++ gate ∷ []) rest at (omega (arith, is, length-append front (gate ∷ []))) in
    let same : take at image ≡ front ++ gate ∷ [] = ap (λ (x : ℕ). take x image) (sym least) ∙ torn.before ∙ whole in
    record {
      rest = drop at image;
      text = sym (take-append-drop at image) ∙ ap (λ (x : List ℕ). x ++ drop at image) same ∙ pushed front gate (drop at image);
    }

-- a write of the gate is torn
pub torn_gate : (front : List ℕ) (gate : ℕ) (rest image : List ℕ) (at : ℕ) → at ≡ length front → IsTorn (record { at = at; count = 1 }) (front ++ gate ∷ rest) image
    → Gated front rest image
torn_gate front gate rest image at is torn =
    let long = gate_length front gate rest in
    let least : min at (length (front ++ gate ∷ rest)) ≡ at = omega (arith, long, is) in
    let before : take at image ≡ front = ap (λ (x : ℕ). take x image) (sym least) ∙ torn.before ∙ take_at front (gate ∷ rest) at (sym is) in
    let after : drop (at + 1) image ≡ rest =
    torn.after ∙ ap (drop (at + 1)) (sym (pushed front gate rest)) ∙ drop_at (front ++ gate ∷ []) rest (at + 1) (omega (arith, is, length-append front (gate ∷ []))) in
    let some : at < length image = omega (arith, torn.least, long, is) in
    record {
      gate = get_or image at 0;
      text = sym (take-append-drop at image) ∙ ap (λ (x : List ℕ). x ++ drop at image) before
          ∙ ap (λ (x : List ℕ). front ++ x) (drop_more image at 0 some ∙ ap (λ (x : List ℕ). get_or image at 0 ∷ x) after);
    }

-- a write behind the gate
pub written_behind : (front : List ℕ) (gate : ℕ) (rest bytes : List ℕ) (at : ℕ) → at ≡ length front + 1
    → bytes_written at bytes (front ++ gate ∷ rest) ≡ front ++ gate ∷ (bytes ++ drop (length bytes) rest)
written_behind front gate rest bytes at is =
    let file = front ++ gate ∷ rest in
    let first : take at file ≡ front ++ gate ∷ [] =
    ap (take at) (sym (pushed front gate rest)) ∙ take_at (front ++ gate ∷ []) rest at (omega (arith, is, length-append front (gate ∷ []))) in
    let behind : drop at file ≡ rest =
    ap (drop at) (sym (pushed front gate rest)) ∙ drop_at (front ++ gate ∷ []) rest at (omega (arith, is, length-append front (gate ∷ []))) in
    let last : drop (at + length bytes) file ≡ drop (length bytes) rest = sym (drop-drop (length bytes) at file) ∙ ap (drop (length bytes)) behind in
    written_inside at bytes file (omega (arith, is, gate_length front gate rest))
    ∙ ap (λ (x : List ℕ). x ++ (bytes ++ drop (at + length bytes) file)) first
    ∙ ap (λ (x : List ℕ). (front ++ gate ∷ []) ++ (bytes ++ x)) last
    ∙ pushed front gate (bytes ++ drop (length bytes) rest)

-- a write of the gate
pub written_gate : (front : List ℕ) (gate same : ℕ) (rest : List ℕ) (at : ℕ) → at ≡ length front
    → bytes_written at (same ∷ []) (front ++ gate ∷ rest) ≡ front ++ same ∷ rest
written_gate front gate same rest at is =
    let file = front ++ gate ∷ rest in
    let last : drop (at + 1) file ≡ rest =
    ap (drop (at + 1)) (sym (pushed front gate rest)) ∙ drop_at (front ++ gate ∷ []) rest (at + 1) (omega (arith, is, length-append front (gate ∷ []))) in
    written_inside at (same ∷ []) file (omega (arith, is, gate_length front gate rest))
    ∙ ap (λ (x : List ℕ). x ++ (same ∷ drop (at + 1) file)) (take_at front (gate ∷ rest) at (sym is))
    ∙ ap (λ (x : List ℕ). front ++ same ∷ x) last
