-- Lists of frames, receiver by receiver and message by message.
use Rattle.std.proofs.Common.{◌≡◌, ℕ, ◌+◌, Bool, true, false, cond, List, [], ◌∷◌, ◌++◌, map, filter, refl, sym, ◌∙◌, ap, arith, append_assoc, append-nil, add-one}
use Rattle.std.specs.List.{range_with_len}
use Rattle.std.proofs.lemmas.List.Elements.{filter-append}
use Rattle.std.proofs.lemmas.List.{map-append}
use Rattle.ritas_base.specs.RangeLaws.{range_more}
use Rattle.replica.specs.Out.{OutFrame}

map_one : (p : ℕ → Bool) (f : ℕ → OutFrame) (j : ℕ) → map f (filter p (j ∷ [])) ≡ cond (p j) (f j ∷ []) []
map_one p f j = elim (p j) as (λ b. map f (cond b (j ∷ []) []) ≡ cond b (f j ∷ []) []) [ true ↦ refl | false ↦ refl ]

pub map_more : (p : ℕ → Bool) (f : ℕ → OutFrame) (j : ℕ) →
    map f (filter p (range_with_len 0 (j + 1))) ≡ map f (filter p (range_with_len 0 j)) ++ cond (p j) (f j ∷ []) []
map_more p f j =
    let more : range_with_len 0 (j + 1) ≡ range_with_len 0 j ++ j ∷ [] = ap (range_with_len 0) (add-one j) ∙ range_more 0 j j (omega arith) in
    ap (λ xs. map f (filter p xs)) more ∙ ap (map f) (filter-append p (range_with_len 0 j) (j ∷ []))
    ∙ map-append f (filter p (range_with_len 0 j)) (filter p (j ∷ [])) ∙ ap (λ ys. map f (filter p (range_with_len 0 j)) ++ ys) (map_one p f j)

-- the frames for one receiver more
pub frames_more : (p : ℕ → Bool) (f : ℕ → OutFrame) (before made after : List OutFrame) (j : ℕ) →
    made ≡ before ++ map f (filter p (range_with_len 0 j)) → after ≡ made ++ cond (p j) (f j ∷ []) []
    → after ≡ before ++ map f (filter p (range_with_len 0 (j + 1)))
frames_more p f before made after j was now =
    now ∙ ap (λ xs. xs ++ cond (p j) (f j ∷ []) []) was ∙ append_assoc before (map f (filter p (range_with_len 0 j))) (cond (p j) (f j ∷ []) [])
    ∙ ap (λ ys. before ++ ys) (sym (map_more p f j))

pub pushed : (b : Bool) (made after : List OutFrame) (x y : OutFrame) → b ≡ true → after ≡ made ++ x ∷ [] → x ≡ y → after ≡ made ++ cond b (y ∷ []) []
pushed true made after x y h e same = e ∙ ap (λ z. made ++ z ∷ []) same
pushed false made after x y h e same = absurd (cc)

pub left_out : (b : Bool) (made after : List OutFrame) (y : OutFrame) → b ≡ false → after ≡ made → after ≡ made ++ cond b (y ∷ []) []
left_out true made after y h e = absurd (cc)
left_out false made after y h e = e ∙ sym (append-nil made)
