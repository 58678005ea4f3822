-- Where an item is put.
use Rattle.std.specs.Prelude.{◌≡◌, ℕ, ◌+◌, ◌<◌, ◌≤◌, List, [], ◌∷◌, ◌++◌, length, take, drop, refl}
use Rattle.std.specs.List.{insert}
use Rattle.std.proofs.Common.{sym, ◌∙◌, ap, ap₂, arith, append_assoc, length-append}
use Rattle.ooc_buffers.specs.Spots.{Spotted, put}
use Rattle.ooc_buffers.proofs.Stamps.{put_low, put_high}

-- of a list so many were passed, each of no later stamp, and these are left
pub record IsPlaced (stamp place : ℕ) (items rest : List Spotted) : Type 0 where
  pub front : List Spotted
  pub split : front ++ rest ≡ items
  pub count : length front ≡ place
  pub puts : (e : Spotted) → e.0.stamp ≡ stamp → put e items ≡ front ++ put e rest

pub placed_first : (stamp : ℕ) (items rest : List Spotted) → rest ≡ items → IsPlaced stamp 0 items rest
placed_first stamp items rest is = record { front = []; split = is; count = refl; puts = λ e here. ap (put e) (sym is) }

pub placed_more : (stamp place : ℕ) (items rest rest' : List Spotted) (x : Spotted) → rest ≡ x ∷ rest' → x.0.stamp ≤ stamp
    → IsPlaced stamp place items rest → IsPlaced stamp (place + 1) items rest'
placed_more stamp place items rest rest' x is late placed =
    let whole = length-append placed.front (x ∷ []) in
    let counted = placed.count in
    record {
      front = placed.front ++ x ∷ [];
      split = append_assoc placed.front (x ∷ []) rest' ∙ (ap (λ (l : List Spotted). placed.front ++ l) (sym is) ∙ placed.split);
      count = omega (arith, whole, counted);
      puts = λ e here.
          let low : x.0.stamp ≤ e.0.stamp = omega (arith, late, here) in
          placed.puts e here
          ∙ (ap (λ (l : List Spotted). placed.front ++ put e l) is
          ∙ (ap (λ (l : List Spotted). placed.front ++ l) (put_high e x rest' low) ∙ sym (append_assoc placed.front (x ∷ []) (put e rest'))));
    }

front_of : (xs ys : List Spotted) → take (length xs) (xs ++ ys) ≡ xs
front_of [] ys = refl
front_of (x ∷ xs) ys = ap (λ (l : List Spotted). x ∷ l) (front_of xs ys)

back_of : (xs ys : List Spotted) → drop (length xs) (xs ++ ys) ≡ ys
back_of [] ys = refl
back_of (x ∷ xs) ys = back_of xs ys

inserted : (place : ℕ) (items rest front : List Spotted) (e : Spotted) → front ++ rest ≡ items → length front ≡ place → insert items place e ≡ front ++ e ∷ rest
inserted place items rest front e split count =
    ap₂ (λ (l : List Spotted) (n : ℕ). insert l n e) (sym split) (sym count)
    ∙ ap₂ (λ (a b : List Spotted). a ++ e ∷ b) (front_of front rest) (back_of front rest)

-- the next one is of a later stamp
pub placed_here : (stamp place : ℕ) (items rest rest' : List Spotted) (x : Spotted) → rest ≡ x ∷ rest' → stamp < x.0.stamp
    → IsPlaced stamp place items rest → (e : Spotted) → e.0.stamp ≡ stamp → insert items place e ≡ put e items
placed_here stamp place items rest rest' x is early placed e here =
    let low : e.0.stamp < x.0.stamp = omega (arith, early, here) in
    inserted place items rest placed.front e placed.split placed.count
    ∙ sym (placed.puts e here ∙ ap (λ (l : List Spotted). placed.front ++ l) (ap (put e) is ∙ (put_low e x rest' low ∙ ap (λ (l : List Spotted). e ∷ l) (sym is))))

-- none is
pub placed_last : (stamp place : ℕ) (items rest : List Spotted) → length rest ≡ 0 → IsPlaced stamp place items rest → (e : Spotted) → e.0.stamp ≡ stamp → insert items place e ≡ put e items
placed_last stamp place items [] none placed e here = inserted place items [] placed.front e placed.split placed.count ∙ sym (placed.puts e here)
placed_last stamp place items (x ∷ rest) none placed e here = absurd (omega (arith, none))

pub placed_within : (stamp place : ℕ) (items rest : List Spotted) → IsPlaced stamp place items rest → place + length rest ≡ length items
placed_within stamp place items rest placed =
    let whole = length-append placed.front rest in
    let same = ap length placed.split in
    let counted = placed.count in
    omega (arith, whole, same, counted)
