-- What each call makes newly due.
use Rattle.std.specs.Prelude.{◌≡◌, ℕ, ◌<◌, ◌≤◌, Bool, true, false, ◌==◌, List, [], ◌∷◌, ◌++◌, Option, Some, None, is_some, count_by, nat_le, if◌then◌else◌, refl}
use Rattle.std.proofs.Common.{sym, ◌∙◌, ap, subst, inl, inr}
use Rattle.std.specs.Option.{option_or}
use Rattle.std.proofs.lemmas.Bool.{both_ways, eq-eqb}
use Rattle.ritas_base.specs.declared.item.Kind.{Kind}
use Rattle.ritas_base.specs.declared.item.Kind.TheVariants.{Send, Hashes, Column}
use Rattle.ritas_base.specs.declared.item.Item.{Item}
use Rattle.ritas_base.specs.declared.item.Msg.{Msg}
use Rattle.std.proofs.lemmas.List.{append-nil}
use Rattle.ritas_base.specs.Numbers.{wait_of}
use Rattle.ritas_base.specs.Shortest.{option_or_none, option_or_parts}
use Rattle.ritas_base.specs.Members.{has_member}
use Rattle.ritas_base.specs.History.{Call, Take, first, started, told}
use Rattle.ritas_base.specs.HistoryLaws.{told_mine, told_not_this, firsts_at}
use Rattle.ritas_base.specs.Messages.{Place, kind_eq, without}
use Rattle.ritas_base.specs.MessagesLaws.{without_append}
use Rattle.ritas_base.specs.Tags.{Tags}
use Rattle.frame_codec.specs.Values.{mask_of}
use Rattle.layer_api.specs.Entries.{sent}
use Rattle.layer_api.specs.Broadcast.{news}
use Rattle.layer_api.specs.Runs.{Has}
use Rattle.echo_bcast.specs.Matrix.{echo, hashes_for, hashes_in, senders_of, brings_hashes, column_for, columns_of, columns_at, columns_due, matrix_due, rows_for}
use Rattle.echo_bcast.specs.Due.{IsMatrixDue, OfSend, OfHashes, OfColumn, IsColumnOf, due_is, columns_of_is}
use Rattle.echo_bcast.specs.Laws.Columns.{column_mask, senders_have}
use Rattle.ritas_base.specs.HistoryLaws.{length-firsts}
use Rattle.echo_bcast.specs.Laws.News.{part_old, part_new, news_are, joined, sends_old, hashes_old, columns_in, columns_old}

-- ---- each call

-- what a call of another kind leaves as it was
pub started_kept : (x : Item) (h : List Call) → started (Take x ∷ h) ≡ started h
started_kept x h = option_or_none (started h)

pub sent_kept : (at : Place) (x : Item) (h : List Call) → kind_eq x.kind Send ≡ false → sent at (Take x ∷ h) ≡ sent at h
sent_kept at x h other = ap (option_or (sent at h)) (told_not_this at.slot.origin Send x other) ∙ option_or_none (sent at h)

pub sent_now : (at : Place) (x : Item) (h : List Call) → x.kind ≡ Send → x.from ≡ at.slot.origin → sent at h ≡ None → sent at (Take x ∷ h) ≡ Some x.value
sent_now at x h kind mine new =
    ap (λ (o : Option (List ℕ)). option_or o (told at.slot.origin Send (Take x))) new
    ∙ (ap (λ (k : ℕ). told k Send (Take x)) (sym mine) ∙ told_mine Send x (ap (λ (k : Kind). kind_eq k Send) kind))

not_hashes : (x : Item) → kind_eq x.kind Hashes ≡ false → brings_hashes (Take x) ≡ false
not_hashes x other = other

pub news_send : (at : Place) (tags : Tags) (h : List Call) (x : Item) → x.kind ≡ Send → x.from ≡ at.slot.origin → sent at h ≡ None
    → news echo at tags h (Take x) ≡ hashes_for at tags (Some x.value)
news_send at tags h x kind mine new =
    let old : (m : Msg) → Has (hashes_for at tags (Some x.value)) m → Has (matrix_due at tags h) m → ⊥ = λ m there was. no_hashes m there (due_is at tags h m was) in
    news_are at tags h (Take x)
    ∙ joined _ [] _ (hashes_for at tags (Some x.value)) _ []
    (sends_old at tags h (Take x) (started_kept x h))
    (ap (λ (o : Option (List ℕ)). without (matrix_due at tags h) (hashes_for at tags o)) (sent_now at x h kind mine new) ∙ part_new (matrix_due at tags h) (hashes_for at tags (Some x.value)) old)
    (columns_old at tags h (Take x) (ap (λ (k : Kind). kind_eq k Hashes) kind))
  where
    hashes_kind : (m : Msg) → Has (hashes_for at tags (Some x.value)) m → m.kind ≡ Hashes
    hashes_kind m (inl same) = ap (λ (y : Msg). y.kind) (sym same)
    hashes_kind m (inr later) = absurd later

    no_hashes : (m : Msg) → Has (hashes_for at tags (Some x.value)) m → IsMatrixDue at tags h m → ⊥
    no_hashes m there (OfSend s) = (let a : m.kind ≡ Send = ap (λ (y : Msg). y.kind) s.whole in let b = hashes_kind m there in cc)
    no_hashes m there (OfHashes s) = (let none = new in let some = s.was_sent in cc)
    no_hashes m there (OfColumn s) = (let a : m.kind ≡ Column = ap (λ (y : Msg). y.kind) s.whole in let b = hashes_kind m there in cc)

pub news_column : (at : Place) (tags : Tags) (h : List Call) (x : Item) → x.kind ≡ Column → news echo at tags h (Take x) ≡ []
news_column at tags h x kind =
    news_are at tags h (Take x)
    ∙ joined _ [] _ [] _ []
    (sends_old at tags h (Take x) (started_kept x h))
    (hashes_old at tags h (Take x) (sent_kept at x h (ap (λ (k : Kind). kind_eq k Send) kind)))
    (columns_old at tags h (Take x) (ap (λ (k : Kind). kind_eq k Hashes) kind))

-- ---- columns that are new

-- whether replica k sent HASHES
senders_at : (at : Place) (h : List Call) (k : ℕ) → k < at.numbers.n → has_member (senders_of (hashes_in at h)) k ≡ is_some (first h k Hashes)
senders_at at h k lt = senders_have (hashes_in at h) k ∙ ap is_some (firsts_at at.numbers.n h Hashes k lt)

-- what was first after more calls wasn't there before them
not_before : (later prefix : List Call) (k : ℕ) (kind : Kind) → first (later ++ prefix) k kind ≡ None → first prefix k kind ≡ None
not_before [] prefix k kind e = e
not_before (c ∷ later) prefix k kind e = not_before later prefix k kind (option_or_parts (first (later ++ prefix) k kind) (told k kind c) e).0

-- a column at a prefix isn't one of the columns now
other_column : (at : Place) (h : List Call) (x : Item) (m : Msg) (j : ℕ) → at.numbers.n ≤ 31 → x.kind ≡ Hashes → x.from < at.numbers.n → first h x.from Hashes ≡ None
    → m ≡ column_for at.slot (hashes_in at (Take x ∷ h)) j → IsColumnOf at h m → ⊥
other_column at h x m j most kind within new is old =
    let n = at.numbers.n in
    let now = hashes_in at (Take x ∷ h) in
    let was = hashes_in at old.prefix in
    let mask_now : mask_of m.value ≡ senders_of now = ap (λ (y : Msg). mask_of y.value) is ∙ column_mask n now (rows_for j now) (length-firsts n (Take x ∷ h) Hashes) most in
    let mask_was : mask_of m.value ≡ senders_of was = ap (λ (y : Msg). mask_of y.value) old.whole ∙ column_mask n was (rows_for old.receiver was) (length-firsts n old.prefix Hashes) most in
    let there : first (Take x ∷ h) x.from Hashes ≡ Some x.value =
    ap (λ (o : Option (List ℕ)). option_or o (told x.from Hashes (Take x))) new ∙ told_mine Hashes x (ap (λ (k : Kind). kind_eq k Hashes) kind) in
    let missing : first old.prefix x.from Hashes ≡ None = not_before old.later old.prefix x.from Hashes (ap (λ (l : List Call). first l x.from Hashes) old.prefix_is ∙ new) in
    let yes : has_member (senders_of now) x.from ≡ true = senders_at at (Take x ∷ h) x.from within ∙ ap is_some there in
    let no : has_member (senders_of was) x.from ≡ false = senders_at at old.prefix x.from within ∙ ap is_some missing in
    both_ways (has_member (senders_of was) x.from) no (ap (λ (y : ℕ). has_member y x.from) (sym mask_was ∙ mask_now) ∙ yes)

pub news_hashes : (at : Place) (tags : Tags) (h : List Call) (x : Item) → at.numbers.n ≤ 31 → at.me ≡ at.slot.origin → x.kind ≡ Hashes → x.from < at.numbers.n
    → first h x.from Hashes ≡ None → news echo at tags h (Take x) ≡ columns_of at.numbers at.slot (hashes_in at (Take x ∷ h))
news_hashes at tags h x most mine kind within new =
    let before = matrix_due at tags h in
    let now = columns_of at.numbers at.slot (hashes_in at (Take x ∷ h)) in
    let old : (m : Msg) → Has now m → Has before m → ⊥ = λ m there was. no_column m there (due_is at tags h m was) in
    let origin : (at.me == at.slot.origin) ≡ true = eq-eqb at.me at.slot.origin mine in
    let brings : brings_hashes (Take x) ≡ true = ap (λ (k : Kind). kind_eq k Hashes) kind in
    let all : columns_due at (Take x ∷ h) ≡ now ++ columns_at at h =
    ap (λ (b : Bool). if b then (if brings_hashes (Take x) then now else []) ++ columns_at at h else []) origin
    ∙ ap (λ (b : Bool). (if b then now else []) ++ columns_at at h) brings in
    let were : columns_due at h ≡ columns_at at h = ap (λ (b : Bool). if b then columns_at at h else []) origin in
    news_are at tags h (Take x)
    ∙ joined _ [] _ [] _ now
    (sends_old at tags h (Take x) (started_kept x h))
    (hashes_old at tags h (Take x) (sent_kept at x h (ap (λ (k : Kind). kind_eq k Send) kind)))
    (ap (without before) all
    ∙ (without_append before now (columns_at at h)
    ∙ (ap (λ (l : List Msg). l ++ without before (columns_at at h)) (part_new before now old)
    ∙ (ap (λ (l : List Msg). now ++ l)
    (part_old before (columns_at at h) (λ m there. columns_in at tags h m (subst (λ (l : List Msg). Has l m) (sym were) there)))
    ∙ append-nil now))))
  where
    found : (m : Msg) → Has (columns_of at.numbers at.slot (hashes_in at (Take x ∷ h))) m → (k : ℕ) × (m ≡ column_for at.slot (hashes_in at (Take x ∷ h)) k)
    found m there =
        let f = columns_of_is at (hashes_in at (Take x ∷ h)) m (nat_le (wait_of at.numbers) (count_by is_some (hashes_in at (Take x ∷ h)))) refl there in (f.1.0, sym f.1.2)

    no_column : (m : Msg) → Has (columns_of at.numbers at.slot (hashes_in at (Take x ∷ h))) m → IsMatrixDue at tags h m → ⊥
    no_column m there (OfSend s) = (let a : m.kind ≡ Send = ap (λ (y : Msg). y.kind) s.whole in let b : m.kind ≡ Column = ap (λ (y : Msg). y.kind) (found m there).1 in cc)
    no_column m there (OfHashes s) = (let a : m.kind ≡ Hashes = ap (λ (y : Msg). y.kind) s.whole in let b : m.kind ≡ Column = ap (λ (y : Msg). y.kind) (found m there).1 in cc)
    no_column m there (OfColumn s) = let f = found m there in other_column at h x m f.0 most kind within new f.1 s
