-- What is in lists that are put together, and in mapped ones.
use Rattle.std.specs.Prelude.{◌≡◌, true, List, [], ◌∷◌, ◌++◌, map, ◌⊎◌, refl}
use Rattle.std.proofs.Common.{sym, ◌∙◌, ap, inl, inr}
use Rattle.std.proofs.lemmas.Bool.{or_cases, or_left, or_right}
use Rattle.ritas_base.specs.declared.item.Msg.{Msg}
use Rattle.ritas_base.specs.Messages.{msg_eq, has}
use Rattle.ritas_base.specs.MessagesLaws.{message_itself, same_message}
use Rattle.layer_api.specs.Runs.{Has}

pub has_left : {X : Type 0} (xs ys : List X) (x : X) → Has xs x → Has (xs ++ ys) x
has_left [] ys x there = absurd there
has_left (y ∷ xs) ys x (inl same) = inl same
has_left (y ∷ xs) ys x (inr later) = inr (has_left xs ys x later)

pub has_right : {X : Type 0} (xs ys : List X) (x : X) → Has ys x → Has (xs ++ ys) x
has_right [] ys x there = there
has_right (y ∷ xs) ys x there = inr (has_right xs ys x there)

pub has_either : {X : Type 0} (xs ys : List X) (x : X) → Has (xs ++ ys) x → Has xs x ⊎ Has ys x
has_either [] ys x there = inr there
has_either (y ∷ xs) ys x (inl same) = inl (inl same)
has_either (y ∷ xs) ys x (inr later) = elim (has_either xs ys x later) [ inl a ↦ inl (inr a) | inr b ↦ inr b ]

pub has_map : {X Y : Type 0} (f : X → Y) (xs : List X) (y : Y) → Has (map f xs) y → (x : X) × Has xs x × (f x ≡ y)
has_map f [] y there = absurd there
has_map f (x ∷ xs) y (inl same) = (x, inl refl, same)
has_map f (x ∷ xs) y (inr later) = let found = has_map f xs y later in (found.0, inr found.1, found.2)

pub map_has : {X Y : Type 0} (f : X → Y) (xs : List X) (x : X) → Has xs x → Has (map f xs) (f x)
map_has f [] x there = absurd there
map_has f (y ∷ xs) x (inl same) = inl (ap f same)
map_has f (y ∷ xs) x (inr later) = inr (map_has f xs x later)

-- ---- messages, and the test of them

pub listed_has : (ms : List Msg) (m : Msg) → Has ms m → has ms m ≡ true
listed_has [] m there = absurd there
listed_has (x ∷ ms) m (inl same) = or_left (msg_eq m x) (has ms m) (ap (msg_eq m) same ∙ message_itself m)
listed_has (x ∷ ms) m (inr later) = or_right (msg_eq m x) (has ms m) (listed_has ms m later)

pub has_listed : (ms : List Msg) (m : Msg) → has ms m ≡ true → Has ms m
has_listed [] m e = absurd (cc)
has_listed (x ∷ ms) m e =
    elim (or_cases (msg_eq m x) (has ms m) e) [ inl here ↦ inl (sym (same_message m x here)) | inr later ↦ inr (has_listed ms m later) ]
