-- The items of a list that are left.
use Rattle.std.specs.Prelude.{◌≡◌, ℕ, ◌+◌, ◌<◌, List, ◌∷◌, length, drop, get_or}
use Rattle.std.proofs.Common.{sym, ◌∙◌, ap, add-one, drop-cons}
use Rattle.std.specs.Prelude.{Some}
use Rattle.std.specs.List.{slice_get}
use Rattle.std.proofs.lemmas.Option.{slice_get_within, get_or_from_slice_get}
use Rattle.ritas_base.specs.declared.id.Id.{Id}

abbrev pub item_at : List Id → ℕ → Id
item_at xs i = get_or xs i (record { origin = 0; num = 0 })

pub left_next : (xs : List Id) (i : ℕ) → i < length xs → drop i xs ≡ item_at xs i ∷ drop (i + 1) xs
left_next xs i within = drop-cons xs i (record { origin = 0; num = 0 }) within ∙ ap (λ (n : ℕ). item_at xs i ∷ drop n xs) (sym (add-one i))

pub left_get : (xs : List Id) (i : ℕ) (x : Id) → slice_get xs i ≡ Some x → drop i xs ≡ x ∷ drop (i + 1) xs
left_get xs i x here =
    left_next xs i (slice_get_within xs i x here)
    ∙ ap (λ (y : Id). y ∷ drop (i + 1) xs) (get_or_from_slice_get xs i x (record { origin = 0; num = 0 }) here)
