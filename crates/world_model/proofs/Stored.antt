-- What is true of each item that waits and that is held, and stays so through what the core does with them.
use Rattle.std.proofs.Common.{◌≡◌, ℕ, zero, suc, Bool, true, false, not, cond, List, [], ◌∷◌, ◌++◌, filter, map, replicate, get_or, set, refl, inl, inr}
use Rattle.ritas_base.specs.declared.item.Item.{Item}
use Rattle.ritas_base.specs.declared.item.Msg.{Msg}
use Rattle.ritas_base.specs.Messages.{reaches, item_of}
use Rattle.layer_api.specs.Runs.{Has}
use Rattle.ooc_buffers.specs.Lists.{HeldItem, held_of_peer, with_item_held, passing, released, remaining}
use Rattle.ritas_core.specs.Order.{sent_to, own_items}

-- P is true of each of these items
abbrev pub AreAll : (Item → Type 0) → List Item → Type 0
AreAll P [] = Unit {0}
AreAll P (x ∷ xs) = P x × AreAll P xs

-- of each that is held for a peer
abbrev pub AreAllKept : (Item → Type 0) → List HeldItem → Type 0
AreAllKept P [] = Unit {0}
AreAllKept P (k ∷ ks) = P k.item × AreAllKept P ks

-- of each that is held
abbrev pub AreAllHeld : (Item → Type 0) → List (List HeldItem) → Type 0
AreAllHeld P [] = Unit {0}
AreAllHeld P (kept ∷ held) = AreAllKept P kept × AreAllHeld P held

-- ---- from one property to another
pub all_map : (P Q : Item → Type 0) → ((x : Item) → P x → Q x) → (xs : List Item) → AreAll P xs → AreAll Q xs
all_map P Q f [] all = tt
all_map P Q f (x ∷ xs) all = (f x all.0, all_map P Q f xs all.1)

all_kept_map : (P Q : Item → Type 0) → ((x : Item) → P x → Q x) → (ks : List HeldItem) → AreAllKept P ks → AreAllKept Q ks
all_kept_map P Q f [] all = tt
all_kept_map P Q f (k ∷ ks) all = (f k.item all.0, all_kept_map P Q f ks all.1)

pub all_held_map : (P Q : Item → Type 0) → ((x : Item) → P x → Q x) → (held : List (List HeldItem)) → AreAllHeld P held → AreAllHeld Q held
all_held_map P Q f [] all = tt
all_held_map P Q f (kept ∷ held) all = (all_kept_map P Q f kept all.0, all_held_map P Q f held all.1)

-- ---- what waits
pub all_append : (P : Item → Type 0) (xs ys : List Item) → AreAll P xs → AreAll P ys → AreAll P (xs ++ ys)
all_append P [] ys left right = right
all_append P (x ∷ xs) ys left right = (left.0, all_append P xs ys left.1 right)

-- ---- what comes to oneself
own_if : (P : Item → Type 0) (me : ℕ) (b : Bool) (m : Msg) (ms : List Msg) → reaches m.to me ≡ b → (reaches m.to me ≡ true → P (item_of me m)) →
    AreAll P (map (item_of me) ms) → AreAll P (map (item_of me) (cond b (m ∷ ms) ms))
own_if P me true m ms here good rest = (good here, rest)
own_if P me false m ms here good rest = rest

pub all_own : (P : Item → Type 0) (me : ℕ) (ms : List Msg) → ((m : Msg) → Has ms m → reaches m.to me ≡ true → P (item_of me m)) →
    AreAll P (own_items me ms)
all_own P me [] good = tt
all_own P me (m ∷ ms) good =
    own_if P me (reaches m.to me) m (sent_to me ms) refl (good m (inl refl)) (all_own P me ms (λ x here. good x (inr here)))

-- ---- what is held
kept_if : (P : Item → Type 0) (b : Bool) (k : HeldItem) (ks : List HeldItem) → P k.item → AreAllKept P ks → AreAllKept P (cond b (k ∷ ks) ks)
kept_if P true k ks good rest = (good, rest)
kept_if P false k ks good rest = rest

all_kept_filter : (P : Item → Type 0) (test : HeldItem → Bool) (ks : List HeldItem) → AreAllKept P ks → AreAllKept P (filter test ks)
all_kept_filter P test [] all = tt
all_kept_filter P test (k ∷ ks) all = kept_if P (test k) k (filter test ks) all.0 (all_kept_filter P test ks all.1)

all_items : (P : Item → Type 0) (ks : List HeldItem) → AreAllKept P ks → AreAll P (map (λ k. k.item) ks)
all_items P [] all = tt
all_items P (k ∷ ks) all = (all.0, all_items P ks all.1)

pub all_released : (P : Item → Type 0) (test : Item → Bool) (held : List (List HeldItem)) → AreAllHeld P held → AreAll P (released test held)
all_released P test [] all = tt
all_released P test (kept ∷ held) all =
    all_append P (map (λ k. k.item) (passing test kept)) (released test held)
    (all_items P (passing test kept) (all_kept_filter P (λ k. test k.item) kept all.0)) (all_released P test held all.1)

pub all_remaining : (P : Item → Type 0) (test : Item → Bool) (held : List (List HeldItem)) → AreAllHeld P held → AreAllHeld P (remaining test held)
all_remaining P test [] all = tt
all_remaining P test (kept ∷ held) all =
    (all_kept_filter P (λ k. not (test k.item)) kept all.0, all_remaining P test held all.1)

all_kept_of : (P : Item → Type 0) (held : List (List HeldItem)) (peer : ℕ) → AreAllHeld P held → AreAllKept P (get_or held peer [])
all_kept_of P [] peer all = tt
all_kept_of P (kept ∷ held) zero all = all.0
all_kept_of P (kept ∷ held) (suc peer) all = all_kept_of P held peer all.1

all_set : (P : Item → Type 0) (held : List (List HeldItem)) (peer : ℕ) (kept : List HeldItem) → AreAllHeld P held → AreAllKept P kept →
    AreAllHeld P (set held peer kept)
all_set P [] peer kept all new = tt
all_set P (old ∷ held) zero kept all new = (new, all.1)
all_set P (old ∷ held) (suc peer) kept all new = (all.0, all_set P held peer kept all.1 new)

all_behind : (P : Item → Type 0) (ks : List HeldItem) (k : HeldItem) → AreAllKept P ks → P k.item → AreAllKept P (ks ++ k ∷ [])
all_behind P [] k all good = (good, tt)
all_behind P (x ∷ ks) k all good = (all.0, all_behind P ks k all.1 good)

pub all_with_kept : (P : Item → Type 0) (held : List (List HeldItem)) (item : Item) (len : ℕ) → AreAllHeld P held → P item →
    AreAllHeld P (with_item_held held item len)
all_with_kept P held item len all good =
    all_set P held item.from (held_of_peer held item.from ++ record { item = item; len = len } ∷ []) all
    (all_behind P (held_of_peer held item.from) (record { item = item; len = len }) (all_kept_of P held item.from all) good)

pub none_held : (P : Item → Type 0) (n : ℕ) → AreAllHeld P (replicate n [])
none_held P zero = tt
none_held P (suc n) = (tt, none_held P n)
