-- Each message is due once, where no item was taken twice: a column at more HASHES is longer.
use Rattle.std.specs.Prelude.{◌≡◌, ℕ, zero, suc, ◌<◌, ◌≤◌, ◌+◌, ◌*◌, Bool, true, false, not, ◌&&◌, ◌==◌, List, [], ◌∷◌, ◌++◌, map, length, Option, Some, None, is_some, count_by, cond, nat_le, if◌then◌else◌, refl}
use Rattle.std.proofs.Common.{sym, ◌∙◌, ap, subst, inl, inr, arith, get_or}
use Rattle.std.specs.List.{flat_map, range_with_len}
use Rattle.std.specs.Option.{option_or}
use Rattle.std.specs.Int.{w32, to_be_bytes}
use Rattle.std.proofs.lemmas.Bool.{cond-false, or_cases, or_from, false_from_ne_true}
use Rattle.std.proofs.lemmas.List.{length-append}
use Rattle.std.proofs.lemmas.List.Sums.{sum_by-set}
use Rattle.ritas_base.specs.declared.slot.Slot.{Slot}
use Rattle.ritas_base.specs.declared.item.Kind.{Kind}
use Rattle.ritas_base.specs.declared.item.Kind.TheVariants.{Send, Hashes, Column}
use Rattle.ritas_base.specs.declared.item.To.TheVariants.{One}
use Rattle.ritas_base.specs.declared.item.Item.{Item}
use Rattle.ritas_base.specs.declared.item.Msg.{Msg}
use Rattle.ritas_base.specs.Numbers.{wait_of}
use Rattle.ritas_base.specs.History.{Call, Start, Take, told, first, started, replicas}
use Rattle.ritas_base.specs.HistoryLaws.{kind_eq_is, told_item, firsts_at, firsts_vote, length-firsts}
use Rattle.ritas_base.specs.Messages.{Place, kind_eq, has, to_all}
use Rattle.ritas_base.specs.MessagesLaws.{other_message, has_append}
use Rattle.ritas_base.specs.Quorums.{count_by-map, count_more}
use Rattle.ritas_base.specs.Shortest.{option_or_some, not_there}
use Rattle.ritas_base.specs.Tags.{Tags}
use Rattle.layer_api.specs.Broadcast.{IsPayload}
use Rattle.layer_api.specs.Entries.{sent}
use Rattle.layer_api.specs.OneValue.{AreTaken, RepeatNone, IsOnce}
use Rattle.layer_api.specs.OnceLaws.{once_append, once_to_all}
use Rattle.layer_api.specs.Runs.{Has}
use Rattle.layer_api.specs.HasLaws.{has_listed}
use Rattle.echo_bcast.specs.Matrix.{echo, hashes_for, hashes_in, senders_of, rows_for, column_for, columns_of, columns_at, columns_due, matrix_due, has_news, repeats_one}
use Rattle.echo_bcast.specs.Laws.Columns.{hashes_long, are_long, rows_length}
use Rattle.echo_bcast.specs.Due.{send_is, hashes_is, columns_of_is, column_is, column_due}
use Rattle.layer_api.specs.ReplicaLaws.{replica_below}

-- ---- items that repeat none

-- an item that isn't a column repeats where one of its kind and sender was taken
pub repeats_other : (at : Place) (tags : Tags) (h : List Call) (x : Item) → kind_eq x.kind Column ≡ false → repeats_one at tags h x ≡ is_some (first h x.from x.kind)
repeats_other at tags h x other =
    cond-false (kind_eq x.kind Column) (is_some (sent at h) && not (has_news at tags h x)) (is_some (first h x.from x.kind)) other

-- ---- how long a column is

-- how many sent HASHES
abbrev many : Place → List Call → ℕ
many at h = count_by is_some (hashes_in at h)

pub stays_there : {A : Type 0} (o p : Option A) → is_some o ≡ true → is_some (option_or o p) ≡ true
stays_there None p e = absurd (cc)
stays_there (Some x) p e = refl

many_stay : (at : Place) (c : Call) (h : List Call) → many at h ≤ many at (c ∷ h)
many_stay at c h =
    let ks = replicas at.numbers.n in
    let before = count_by-map is_some (λ k. first h k Hashes) ks in
    let after = count_by-map is_some (λ k. first (c ∷ h) k Hashes) ks in
    let more = count_more (λ k. is_some (first h k Hashes)) (λ k. is_some (first (c ∷ h) k Hashes)) (λ k t. stays_there (first h k Hashes) (told k Hashes c) t) ks in
    omega (arith, before, after, more)

many_before : (at : Place) (later prefix : List Call) → many at prefix ≤ many at (later ++ prefix)
many_before at [] prefix = omega arith
many_before at (c ∷ later) prefix = let fewer = many_before at later prefix in let more = many_stay at c (later ++ prefix) in omega (arith, fewer, more)

-- the first HASHES of a replica are one more
many_more : (at : Place) (h : List Call) (x : Item) → x.kind ≡ Hashes → x.from < at.numbers.n → first h x.from Hashes ≡ None → many at (Take x ∷ h) ≡ many at h + 1
many_more at h x kind within new =
    let n = at.numbers.n in
    let hs = hashes_in at h in
    let one : Option (List ℕ) → ℕ = λ o. cond (is_some o) 1 0 in
    let inside : x.from < length hs = subst (λ (m : ℕ). x.from < m) (sym (length-firsts n h Hashes)) within in
    let added = sum_by-set one hs x.from (Some x.value) None inside in
    let none : one (get_or hs x.from None) ≡ 0 = ap one (firsts_at n h Hashes x.from within ∙ new) in
    ap (count_by is_some) (firsts_vote n h Hashes x (ap (λ (k : Kind). kind_eq k Hashes) kind) new within) ∙ omega (arith, added, none)

-- HASHES that were taken are an entry for each replica
first_long : (at : Place) (tags : Tags) (h : List Call) (k : ℕ) (v : List ℕ) → AreTaken echo at tags h → first h k Hashes ≡ Some v → length v ≡ 32 * at.numbers.n
first_long at tags [] k v taken e = absurd (cc)
first_long at tags (Start u ∷ h) k v taken e =
    elim (option_or_some (first h k Hashes) None v e) [
      | inl was ↦ first_long at tags h k v taken.1 was
      | inr now ↦ absurd (let here = now.1 in cc)
    ]
first_long at tags (Take x ∷ h) k v taken e =
    elim (option_or_some (first h k Hashes) (told k Hashes (Take x)) v e) [
      | inl was ↦ first_long at tags h k v taken.1 was
      | inr now ↦
          let is = told_item k Hashes x v now.1 in
          ap length (sym is.2) ∙ hashes_long at.numbers.n x.value (subst (λ (q : Kind). IsPayload 2 at.numbers.n q x.value) is.1 taken.0.payload)
    ]

column_length : (at : Place) (tags : Tags) (h : List Call) (k : ℕ) → AreTaken echo at tags h → k < at.numbers.n
    → length (column_for at.slot (hashes_in at h) k).value ≡ 4 + 32 * many at h
column_length at tags h k taken lt =
    let n = at.numbers.n in
    let hs = hashes_in at h in
    let long = are_long n (λ j. first h j Hashes) (λ j v e. first_long at tags h j v taken e) (replicas n) in
    let front : length (to_be_bytes w32 (senders_of hs)) ≡ 4 = refl in
    omega (arith, length-append (to_be_bytes w32 (senders_of hs)) (flat_map (λ (row : List ℕ). row) (rows_for k hs)), front, rows_length n k hs lt long)

taken_before : (at : Place) (tags : Tags) (later prefix : List Call) → AreTaken echo at tags (later ++ prefix) → AreTaken echo at tags prefix
taken_before at tags [] prefix taken = taken
taken_before at tags (Start v ∷ later) prefix taken = taken_before at tags later prefix taken.1
taken_before at tags (Take x ∷ later) prefix taken = taken_before at tags later prefix taken.1

-- the columns of all prefixes are no longer than at all HASHES
columns_short : (at : Place) (tags : Tags) (h : List Call) (m : Msg) → AreTaken echo at tags h → Has (columns_at at h) m → length m.value ≤ 4 + 32 * many at h
columns_short at tags h m taken there =
    let c = column_is at h m there in
    let before = taken_before at tags c.later c.prefix (subst (λ (l : List Call). AreTaken echo at tags l) (sym c.prefix_is) taken) in
    let long = ap (λ (x : Msg). length x.value) c.whole ∙ column_length at tags c.prefix c.receiver before (replica_below at.numbers.n c.receiver c.within) in
    let fewer = subst (λ (l : List Call). many at c.prefix ≤ many at l) c.prefix_is (many_before at c.later c.prefix) in
    omega (arith, long, fewer)

-- ---- the columns of one prefix go to different replicas

same_receiver : (j k : ℕ) → One j ≡ One k → j ≡ k
same_receiver j k e = cc

column_missing : (s : Slot) (hs : List (Option (List ℕ))) (from n k : ℕ) → k < from → has (map (column_for s hs) (range_with_len from n)) (column_for s hs k) ≡ false
column_missing s hs from zero k lt = refl
column_missing s hs from (suc n) k lt =
    or_from _ _
    (other_message (column_for s hs k) (column_for s hs from) (λ e. let same = same_receiver k from (ap (λ (x : Msg). x.to) e) in omega (arith, lt, same)))
    (column_missing s hs (from + 1) n k (omega (arith, lt)))

columns_differ : (s : Slot) (hs : List (Option (List ℕ))) (from n : ℕ) → IsOnce (map (column_for s hs) (range_with_len from n))
columns_differ s hs from zero = tt
columns_differ s hs from (suc n) = (column_missing s hs (from + 1) n from (omega arith), columns_differ s hs (from + 1) n)

once_if : (b : Bool) (xs : List Msg) → IsOnce xs → IsOnce (if b then xs else [])
once_if true xs once = once
once_if false xs once = tt

-- ---- all columns

-- a column at new HASHES is longer than any before
column_new : (at : Place) (tags : Tags) (h : List Call) (x : Item) (m : Msg) → x.kind ≡ Hashes → first h x.from Hashes ≡ None → AreTaken echo at tags (Take x ∷ h)
    → Has (columns_of at.numbers at.slot (hashes_in at (Take x ∷ h))) m → Has (columns_at at h) m → ⊥
column_new at tags h x m kind new taken now was =
    let n = at.numbers.n in
    let hs = hashes_in at (Take x ∷ h) in
    let c = (columns_of_is at hs m (nat_le (wait_of at.numbers) (count_by is_some hs)) refl now).1 in
    let long = ap (λ (y : Msg). length y.value) (sym c.2) ∙ column_length at tags (Take x ∷ h) c.0 taken (replica_below n c.0 c.1) in
    let more = many_more at h x kind taken.0.sender new in
    let short = columns_short at tags h m taken.1 was in
    omega (arith, long, more, short)

columns_once : (at : Place) (tags : Tags) (h : List Call) → AreTaken echo at tags h → RepeatNone echo at tags h → IsOnce (columns_at at h)
columns_once at tags [] taken first_ones = tt
columns_once at tags (Start v ∷ h) taken first_ones = columns_once at tags h taken.1 first_ones
columns_once at tags (Take x ∷ h) taken first_ones = go (kind_eq x.kind Hashes) refl (columns_once at tags h taken.1 first_ones.1)
  where
    now : List Msg
    now = columns_of at.numbers at.slot (hashes_in at (Take x ∷ h))

    new : x.kind ≡ Hashes → first h x.from Hashes ≡ None
    new kind =
        not_there (first h x.from Hashes)
        (ap (λ (k : Kind). is_some (first h x.from k)) (sym kind)
        ∙ (sym (repeats_other at tags h x (ap (λ (k : Kind). kind_eq k Column) kind)) ∙ first_ones.0))

    go : (b : Bool) → kind_eq x.kind Hashes ≡ b → IsOnce (columns_at at h) → IsOnce ((if b then now else []) ++ columns_at at h)
    go true e older =
        let kind = kind_eq_is x.kind Hashes e in
        once_append now (columns_at at h)
        (once_if (nat_le (wait_of at.numbers) (many at (Take x ∷ h))) (map (column_for at.slot (hashes_in at (Take x ∷ h))) (replicas at.numbers.n))
        (columns_differ at.slot (hashes_in at (Take x ∷ h)) 0 at.numbers.n))
        older
        (λ m here. false_from_ne_true (has (columns_at at h) m)
        (λ was. column_new at tags h x m kind (new kind) taken (has_listed now m here) (has_listed (columns_at at h) m was)))
    go false e older = older

-- ---- the three kinds

once_hashes : (at : Place) (tags : Tags) (o : Option (List ℕ)) → IsOnce (hashes_for at tags o)
once_hashes at tags None = tt
once_hashes at tags (Some m) = (refl, tt)

-- lists of two kinds share no message
apart_by_kind : (kind other : Kind) (xs ys : List Msg) → (kind ≡ other → ⊥) → ((m : Msg) → Has xs m → m.kind ≡ kind) → ((m : Msg) → Has ys m → m.kind ≡ other)
    → (m : Msg) → has xs m ≡ true → has ys m ≡ false
apart_by_kind kind other xs ys differ of_xs of_ys m e =
    false_from_ne_true (has ys m) (λ t. differ (sym (of_xs m (has_listed xs m e)) ∙ of_ys m (has_listed ys m t)))

pub due_once : (at : Place) (tags : Tags) (h : List Call) → AreTaken echo at tags h → RepeatNone echo at tags h → IsOnce (matrix_due at tags h)
due_once at tags h taken first_ones =
    let sends = to_all at.slot Send (started h) in
    let hashes = hashes_for at tags (sent at h) in
    let columns = columns_due at h in
    let send_kind : (m : Msg) → Has sends m → m.kind ≡ Send = λ m there. ap (λ (x : Msg). x.kind) (send_is at h (started h) m refl there).whole in
    let hashes_kind : (m : Msg) → Has hashes m → m.kind ≡ Hashes = λ m there. ap (λ (x : Msg). x.kind) (hashes_is at tags h (sent at h) m refl there).whole in
    let column_kind : (m : Msg) → Has columns m → m.kind ≡ Column = λ m there. ap (λ (x : Msg). x.kind) (column_due at h m (at.me == at.slot.origin) there).whole in
    once_append (sends ++ hashes) columns
    (once_append sends hashes (once_to_all at.slot Send (started h)) (once_hashes at tags (sent at h))
    (apart_by_kind Send Hashes sends hashes (λ (e : Send ≡ Hashes). absurd (cc)) send_kind hashes_kind))
    (once_if (at.me == at.slot.origin) (columns_at at h) (columns_once at tags h taken first_ones))
    (λ m e.
    elim (or_cases (has sends m) (has hashes m) (sym (has_append sends hashes m) ∙ e)) [
      | inl a ↦ apart_by_kind Send Column sends columns (λ (e : Send ≡ Column). absurd (cc)) send_kind column_kind m a
      | inr b ↦ apart_by_kind Hashes Column hashes columns (λ (e : Hashes ≡ Column). absurd (cc)) hashes_kind column_kind m b
    ])
