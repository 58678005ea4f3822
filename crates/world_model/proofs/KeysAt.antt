-- The keys at a replica's place.
use Rattle.std.proofs.Common.{◌≡◌, ℕ, ◌<◌, ◌≤◌, List, length, Some, None, sym, ◌∙◌, ap, subst, slice_index_or}
use Rattle.std.specs.List.{slice_get}
use Rattle.std.proofs.lemmas.Option.{slice_get-get_or, slice_get_past, same_Some}
use Rattle.keyed_channel.specs.KeyRow.{KeyRow}
use Rattle.world_model.specs.declared.seats.Seats.{Seats}
use Rattle.world_model.specs.World.{Setting}
use Rattle.world_model.specs.Stands.{SeatsStand}

pub keys_are : (w : Setting) (seats : Seats) (from place : ℕ) (list : List KeyRow) (keys : KeyRow) → SeatsStand w seats → from < w.numbers.n → place ≡ from → list ≡ seats.keys.items
    → place < length list → keys ≡ slice_index_or list place keys → keys ≡ w.keys from
keys_are w seats from place list keys stand below at is within read =
    let P : List KeyRow → Type 0 = λ xs. slice_get xs from ≡ Some (w.keys from) in
    let Q : ℕ → Type 0 = λ k. slice_get list k ≡ Some (w.keys from) in
    let there : slice_get list place ≡ Some (w.keys from) = subst Q (sym at) (subst P (sym is) (stand.keys from below)) in
    same_Some keys (w.keys from) (ap (λ x. Some x) read ∙ sym (slice_get-get_or list place keys within) ∙ there)

-- there are keys for each sender
pub keys_there : (w : Setting) (seats : Seats) (from place : ℕ) (list : List KeyRow) → SeatsStand w seats → from < w.numbers.n → place ≡ from → list ≡ seats.keys.items → length list ≤ place → ⊥
keys_there w seats from place list stand below at is past =
    let P : List KeyRow → Type 0 = λ xs. slice_get xs from ≡ Some (w.keys from) in
    let Q : ℕ → Type 0 = λ k. slice_get list k ≡ Some (w.keys from) in
    let there : slice_get list place ≡ Some (w.keys from) = subst Q (sym at) (subst P (sym is) (stand.keys from below)) in
    let none : None ≡ Some (w.keys from) = sym (slice_get_past list place past) ∙ there in
    cc
