-- What is due, kind by kind.
use Rattle.std.specs.Prelude.{◌≡◌, ℕ, Bool, true, false, List, [], ◌∷◌, ◌++◌, Option, Some, None, map, is_some, count_by, nat_le, ◌==◌, if◌then◌else◌, refl}
use Rattle.std.proofs.Common.{sym, ◌∙◌, ap, inl, inr}
use Rattle.ritas_base.specs.declared.item.Kind.TheVariants.{Send, Hashes, Column}
use Rattle.ritas_base.specs.declared.item.To.TheVariants.{One}
use Rattle.ritas_base.specs.declared.item.Msg.{Msg}
use Rattle.ritas_base.specs.History.{Call, started, replicas}
use Rattle.ritas_base.specs.Numbers.{wait_of}
use Rattle.ritas_base.specs.Messages.{Place, to_all}
use Rattle.ritas_base.specs.MessagesLaws.{message}
use Rattle.ritas_base.specs.Tags.{Tags}
use Rattle.layer_api.specs.Entries.{sent, entries_of}
use Rattle.layer_api.specs.Runs.{Has}
use Rattle.layer_api.specs.HasLaws.{has_either, has_map}
use Rattle.echo_bcast.specs.Matrix.{hashes_bytes, hashes_for, hashes_in, brings_hashes, column_for, columns_of, columns_at, columns_due, matrix_due}

-- SEND of what was started, to all
pub record IsSend (at : Place) (h : List Call) (m : Msg) : Type 0 where
  pub whole : m ≡ message at.slot Send m.value
  pub value : started h ≡ Some m.value

-- HASHES of what was sent here, to the origin: the entries that this replica gave
pub record IsHashes (at : Place) (tags : Tags) (h : List Call) (m : Msg) : Type 0 where
  pub sent_here : List ℕ
  pub was_sent : sent at h ≡ Some sent_here
  pub whole : m ≡ record { to = One at.slot.origin; kind = Hashes; slot = at.slot; value = hashes_bytes (entries_of at tags sent_here) }

-- the column for a replica, at a prefix with enough HASHES
pub record IsColumnOf (at : Place) (h : List Call) (m : Msg) : Type 0 where
  pub later : List Call
  pub prefix : List Call
  pub prefix_is : later ++ prefix ≡ h
  pub enough : nat_le (wait_of at.numbers) (count_by is_some (hashes_in at prefix)) ≡ true
  pub receiver : ℕ
  pub within : Has (replicas at.numbers.n) receiver
  pub whole : m ≡ column_for at.slot (hashes_in at prefix) receiver

pub data IsMatrixDue (at : Place) (tags : Tags) (h : List Call) (m : Msg) : Type 0 where
  OfSend : IsSend at h m → IsMatrixDue at tags h m
  OfHashes : IsHashes at tags h m → IsMatrixDue at tags h m
  OfColumn : IsColumnOf at h m → IsMatrixDue at tags h m

pub send_is : (at : Place) (h : List Call) (o : Option (List ℕ)) (m : Msg) → started h ≡ o → Has (to_all at.slot Send o) m → IsSend at h m
send_is at h None m e there = absurd there
send_is at h (Some v) m e (inl same) =
    let value : v ≡ m.value = ap (λ (x : Msg). x.value) same in
    record { whole = sym same ∙ ap (message at.slot Send) value; value = e ∙ ap Some value }
send_is at h (Some v) m e (inr later) = absurd later

pub hashes_is : (at : Place) (tags : Tags) (h : List Call) (o : Option (List ℕ)) (m : Msg) → sent at h ≡ o → Has (hashes_for at tags o) m → IsHashes at tags h m
hashes_is at tags h None m e there = absurd there
hashes_is at tags h (Some v) m e (inl same) = record { sent_here = v; was_sent = e; whole = sym same }
hashes_is at tags h (Some v) m e (inr later) = absurd later

pub columns_of_is : (at : Place) (hs : List (Option (List ℕ))) (m : Msg) (b : Bool) → nat_le (wait_of at.numbers) (count_by is_some hs) ≡ b
    → Has (if b then map (column_for at.slot hs) (replicas at.numbers.n) else []) m
    → (nat_le (wait_of at.numbers) (count_by is_some hs) ≡ true) × ((k : ℕ) × Has (replicas at.numbers.n) k × (column_for at.slot hs k ≡ m))
columns_of_is at hs m true e there = (e, has_map (column_for at.slot hs) (replicas at.numbers.n) m there)
columns_of_is at hs m false e there = absurd there

column_now : (at : Place) (h : List Call) (m : Msg) (b : Bool) → Has (if b then columns_of at.numbers at.slot (hashes_in at h) else []) m → IsColumnOf at h m
column_now at h m true there =
    let found = columns_of_is at (hashes_in at h) m _ refl there in
    record { later = []; prefix = h; prefix_is = refl; enough = found.0; receiver = found.1.0; within = found.1.1; whole = sym found.1.2 }
column_now at h m false there = absurd there

pub column_is : (at : Place) (h : List Call) (m : Msg) → Has (columns_at at h) m → IsColumnOf at h m
column_is at [] m there = absurd there
column_is at (c ∷ h) m there =
    elim (has_either (if brings_hashes c then columns_of at.numbers at.slot (hashes_in at (c ∷ h)) else []) (columns_at at h) m there) [
      | inl now ↦ column_now at (c ∷ h) m (brings_hashes c) now
      | inr was ↦
          let g = column_is at h m was in
          record { later = c ∷ g.later; prefix = g.prefix; prefix_is = ap (λ (l : List Call). c ∷ l) g.prefix_is; enough = g.enough; receiver = g.receiver; within = g.within; whole = g.whole }
    ]

pub column_due : (at : Place) (h : List Call) (m : Msg) (b : Bool) → Has (if b then columns_at at h else []) m → IsColumnOf at h m
column_due at h m true there = column_is at h m there
column_due at h m false there = absurd there

-- a message that is due is one of these
pub due_is : (at : Place) (tags : Tags) (h : List Call) (m : Msg) → Has (matrix_due at tags h) m → IsMatrixDue at tags h m
due_is at tags h m there =
    elim (has_either (to_all at.slot Send (started h) ++ hashes_for at tags (sent at h)) (columns_due at h) m there) [
      | inl early ↦ elim (has_either (to_all at.slot Send (started h)) (hashes_for at tags (sent at h)) m early) [
        | inl a ↦ OfSend (send_is at h (started h) m refl a)
        | inr b ↦ OfHashes (hashes_is at tags h (sent at h) m refl b)
      ]
      | inr c ↦ OfColumn (column_due at h m (at.me == at.slot.origin) c)
    ]

-- a SEND that is due is of what was started
pub send_due : (at : Place) (tags : Tags) (h : List Call) (m : Msg) → Has (matrix_due at tags h) m → m.kind ≡ Send → started h ≡ Some m.value
send_due at tags h m there kind = go (due_is at tags h m there)
  where
    go : IsMatrixDue at tags h m → started h ≡ Some m.value
    go (OfSend s) = s.value
    go (OfHashes s) = absurd (let other : m.kind ≡ Hashes = ap (λ (x : Msg). x.kind) s.whole in cc)
    go (OfColumn s) = absurd (let other : m.kind ≡ Column = ap (λ (x : Msg). x.kind) s.whole in cc)
