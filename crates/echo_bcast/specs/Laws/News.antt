-- What a call makes newly due in echo broadcast, part by part, and what a start does.
use Rattle.std.specs.Prelude.{◌≡◌, ℕ, Bool, true, false, ◌==◌, List, [], ◌∷◌, ◌++◌, Option, Some, None, if◌then◌else◌, refl}
use Rattle.std.proofs.Common.{sym, ◌∙◌, ap, inl, inr}
use Rattle.std.specs.Option.{option_or}
use Rattle.std.proofs.lemmas.Bool.{false_from_ne_true}
use Rattle.ritas_base.specs.declared.item.Kind.TheVariants.{Send, Hashes, Column}
use Rattle.ritas_base.specs.declared.item.Msg.{Msg}
use Rattle.ritas_base.specs.Shortest.{option_or_none}
use Rattle.ritas_base.specs.History.{Call, Start, started}
use Rattle.ritas_base.specs.Messages.{Place, has, without, to_all}
use Rattle.ritas_base.specs.MessagesLaws.{without_append, without_nothing, without_all}
use Rattle.ritas_base.specs.Tags.{Tags}
use Rattle.layer_api.specs.Entries.{sent}
use Rattle.layer_api.specs.Broadcast.{news}
use Rattle.layer_api.specs.Runs.{Has}
use Rattle.layer_api.specs.HasLaws.{has_left, has_listed, has_right, listed_has}
use Rattle.echo_bcast.specs.Matrix.{echo, hashes_for, hashes_in, brings_hashes, columns_of, columns_at, columns_due, matrix_due}
use Rattle.echo_bcast.specs.Due.{IsMatrixDue, OfSend, OfHashes, OfColumn, due_is}

-- ---- the parts of what is due, old and new

pub part_old : (before xs : List Msg) → ((m : Msg) → Has xs m → Has before m) → without before xs ≡ []
part_old before xs there = without_nothing before xs (λ m e. listed_has before m (there m (has_listed xs m e)))

pub part_new : (before xs : List Msg) → ((m : Msg) → Has xs m → Has before m → ⊥) → without before xs ≡ xs
part_new before xs new =
    without_all before xs (λ m e. false_from_ne_true (has before m) (λ t. new m (has_listed xs m e) (has_listed before m t)))

pub news_are : (at : Place) (tags : Tags) (h : List Call) (c : Call)
    → news echo at tags h c
    ≡ without (matrix_due at tags h) (to_all at.slot Send (started (c ∷ h))) ++ without (matrix_due at tags h) (hashes_for at tags (sent at (c ∷ h)))
    ++ without (matrix_due at tags h) (columns_due at (c ∷ h))
news_are at tags h c =
    let before = matrix_due at tags h in
    let xs = to_all at.slot Send (started (c ∷ h)) in
    let ys = hashes_for at tags (sent at (c ∷ h)) in
    let zs = columns_due at (c ∷ h) in
    without_append before (xs ++ ys) zs ∙ ap (λ (l : List Msg). l ++ without before zs) (without_append before xs ys)

pub joined : (x x' y y' z z' : List Msg) → x ≡ x' → y ≡ y' → z ≡ z' → x ++ y ++ z ≡ x' ++ y' ++ z'
joined x x' y y' z z' p q r = cc

pub sends_old : (at : Place) (tags : Tags) (h : List Call) (c : Call) → started (c ∷ h) ≡ started h → without (matrix_due at tags h) (to_all at.slot Send (started (c ∷ h))) ≡ []
sends_old at tags h c same =
    ap (λ (o : Option (List ℕ)). without (matrix_due at tags h) (to_all at.slot Send o)) same
    ∙ part_old (matrix_due at tags h) (to_all at.slot Send (started h))
    (λ m there. has_left (to_all at.slot Send (started h) ++ hashes_for at tags (sent at h)) (columns_due at h) m (has_left (to_all at.slot Send (started h)) (hashes_for at tags (sent at h)) m there))

pub hashes_old : (at : Place) (tags : Tags) (h : List Call) (c : Call) → sent at (c ∷ h) ≡ sent at h → without (matrix_due at tags h) (hashes_for at tags (sent at (c ∷ h))) ≡ []
hashes_old at tags h c same =
    ap (λ (o : Option (List ℕ)). without (matrix_due at tags h) (hashes_for at tags o)) same
    ∙ part_old (matrix_due at tags h) (hashes_for at tags (sent at h))
    (λ m there. has_left (to_all at.slot Send (started h) ++ hashes_for at tags (sent at h)) (columns_due at h) m (has_right (to_all at.slot Send (started h)) (hashes_for at tags (sent at h)) m there))

pub columns_in : (at : Place) (tags : Tags) (h : List Call) (m : Msg) → Has (columns_due at h) m → Has (matrix_due at tags h) m
columns_in at tags h m there = has_right (to_all at.slot Send (started h) ++ hashes_for at tags (sent at h)) (columns_due at h) m there

columns_same : (at : Place) (c : Call) (h : List Call) (b d : Bool) → d ≡ false
    → (if b then (if d then columns_of at.numbers at.slot (hashes_in at (c ∷ h)) else []) ++ columns_at at h else []) ≡ (if b then columns_at at h else [])
columns_same at c h true d none = ap (λ (x : Bool). (if x then columns_of at.numbers at.slot (hashes_in at (c ∷ h)) else []) ++ columns_at at h) none
columns_same at c h false d none = refl

pub columns_old : (at : Place) (tags : Tags) (h : List Call) (c : Call) → brings_hashes c ≡ false → without (matrix_due at tags h) (columns_due at (c ∷ h)) ≡ []
columns_old at tags h c none =
    ap (without (matrix_due at tags h)) (columns_same at c h (at.me == at.slot.origin) (brings_hashes c) none)
    ∙ part_old (matrix_due at tags h) (columns_due at h) (columns_in at tags h)

-- ---- the start

-- the first start makes SEND due
pub news_start : (at : Place) (tags : Tags) (h : List Call) (v : List ℕ) → started h ≡ None → news echo at tags h (Start v) ≡ to_all at.slot Send (Some v)
news_start at tags h v new =
    let now : started (Start v ∷ h) ≡ Some v = ap (λ (o : Option (List ℕ)). option_or o (Some v)) new in
    let old : (m : Msg) → Has (to_all at.slot Send (Some v)) m → Has (matrix_due at tags h) m → ⊥ = λ m there was. no_send m there (due_is at tags h m was) in
    news_are at tags h (Start v)
    ∙ joined _ (to_all at.slot Send (Some v)) _ [] _ []
    (ap (λ (o : Option (List ℕ)). without (matrix_due at tags h) (to_all at.slot Send o)) now ∙ part_new (matrix_due at tags h) (to_all at.slot Send (Some v)) old)
    (hashes_old at tags h (Start v) (option_or_none (sent at h))) (columns_old at tags h (Start v) refl)
  where
    send_kind : (m : Msg) → Has (to_all at.slot Send (Some v)) m → m.kind ≡ Send
    send_kind m (inl same) = ap (λ (x : Msg). x.kind) (sym same)
    send_kind m (inr later) = absurd later

    no_send : (m : Msg) → Has (to_all at.slot Send (Some v)) m → IsMatrixDue at tags h m → ⊥
    no_send m there (OfSend s) = (let none = new in let some = s.value in cc)
    no_send m there (OfHashes s) = (let a : m.kind ≡ Hashes = ap (λ (x : Msg). x.kind) s.whole in let b = send_kind m there in cc)
    no_send m there (OfColumn s) = (let a : m.kind ≡ Column = ap (λ (x : Msg). x.kind) s.whole in let b = send_kind m there in cc)
