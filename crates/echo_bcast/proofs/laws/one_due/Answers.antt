use Rattle.std.proofs.Common.{◌≡◌, ◌⊎◌, inl, inr, ℕ, zero, suc, ◌<◌, ◌≤◌, subst, List, [], ◌∷◌, ◌++◌, length, Option, Some, None, Bool, true, map, get_or, refl, sym, ap, ◌∙◌, arith}
use Rattle.std.specs.Prelude.{if◌then◌else◌, is_some, count_by}
use Rattle.std.specs.List.{slice_get, range_with_len}
use Rattle.std.proofs.lemmas.Bool.{eqb-true}
use Rattle.ritas_base.specs.declared.item.Kind.{Kind}
use Rattle.ritas_base.specs.declared.item.Kind.TheVariants.{Send, Hashes, Column}
use Rattle.ritas_base.specs.declared.item.Msg.{Msg}
use Rattle.ritas_base.specs.declared.mode.Mode.{Mode}
use Rattle.ritas_base.specs.Members.{has_member, member_count}
use Rattle.ritas_base.specs.Messages.{Place, reaches}
use Rattle.ritas_base.specs.Tags.{Tags}
use Rattle.ritas_base.specs.History.{Call, first, started, told, replicas}
use Rattle.ritas_base.specs.HistoryLaws.{length-firsts}
use Rattle.ritas_base.specs.Quorums.{count_same}
use Rattle.ritas_base.specs.Shortest.{option_or_older}
use Rattle.frame_codec.specs.Values.{at_place, column_row, column_bytes}
use Rattle.layer_api.specs.Entries.{sent, entry_in, entries_of}
use Rattle.layer_api.specs.OneDue.{HasEntriesOf}
use Rattle.layer_api.specs.OneValue.{AreGoodCalls, IsOfSlot}
use Rattle.layer_api.specs.ReplicaLaws.{replica_below}
use Rattle.echo_bcast.specs.Laws.Columns.{AreLong, senders_have}
use Rattle.echo_bcast.specs.Due.{IsMatrixDue, OfSend, OfHashes, OfColumn, IsColumnOf, due_is}
use Rattle.echo_bcast.specs.Laws.Entries.{is_there, count_from, count_behind, placed_row, row_written, column_alone}
use Rattle.echo_bcast.specs.Laws.Good.{columns_long}
use Rattle.echo_bcast.specs.Matrix.{echo, hashes_bytes, hashes_in, rows_for, senders_of}
use Rattle.echo_bcast.specs.OneDue.{HasAll}
use Rattle.echo_bcast.proofs.laws.one_due.Goals as goal

-- ---- one value

same_value : (o : Option (List ℕ)) (v w : List ℕ) → o ≡ Some v → o ≡ Some w → v ≡ w
same_value o v w is also = let both : Some v ≡ Some w = sym is ∙ also in cc both

kind_of : {m n : Msg} → m ≡ n → m.kind ≡ n.kind
kind_of e = ap (λ (x : Msg). x.kind) e

one : (at : Place) (tags : Tags) (h : List Call) (m o : Msg) → IsMatrixDue at tags h m → IsMatrixDue at tags h o → m.kind ≡ o.kind → (m.kind ≡ Column → ⊥) → m.value ≡ o.value
one at tags h m o (OfSend a) (OfSend b) same not = same_value (started h) m.value o.value a.value b.value
one at tags h m o (OfHashes a) (OfHashes b) same not =
    let sent_same = same_value (sent at h) a.sent_here b.sent_here a.was_sent b.was_sent in
    ap (λ (x : Msg). x.value) a.whole ∙ ap (λ (v : List ℕ). hashes_bytes (entries_of at tags v)) sent_same ∙ sym (ap (λ (x : Msg). x.value) b.whole)
one at tags h m o (OfSend a) (OfHashes b) same not = let clash : Send ≡ Hashes = sym (kind_of a.whole) ∙ same ∙ kind_of b.whole in absurd (cc clash)
one at tags h m o (OfHashes a) (OfSend b) same not = let clash : Hashes ≡ Send = sym (kind_of a.whole) ∙ same ∙ kind_of b.whole in absurd (cc clash)
one at tags h m o (OfColumn a) d same not = absurd (not (kind_of a.whole))
one at tags h m o (OfSend a) (OfColumn b) same not = absurd (not (same ∙ kind_of b.whole))
one at tags h m o (OfHashes a) (OfColumn b) same not = absurd (not (same ∙ kind_of b.whole))

-- ---- prefixes

nested : (a p b q h : List Call) → a ++ p ≡ h → b ++ q ≡ h → ((x : List Call) × (x ++ p ≡ q)) ⊎ ((x : List Call) × (x ++ q ≡ p))
nested [] p b q h first second = inr (b, second ∙ sym first)
nested (c ∷ a) p [] q h first second = inl (c ∷ a, first ∙ sym second)
nested (c ∷ a) p (d ∷ b) q h first second =
    let both : c ∷ (a ++ p) ≡ d ∷ (b ++ q) = first ∙ sym second in
    let tails : a ++ p ≡ b ++ q = cc both in
    nested a p b q (b ++ q) tails refl

first_kept : (x p : List Call) (k : ℕ) (kind : Kind) (v : List ℕ) → first p k kind ≡ Some v → first (x ++ p) k kind ≡ Some v
first_kept [] p k kind v is = is
first_kept (c ∷ x) p k kind v is = option_or_older (first (x ++ p) k kind) (told k kind c) v (first_kept x p k kind v is)

maps : (f g : ℕ → Option (List ℕ)) (ks : List ℕ) → ((k : ℕ) (v : List ℕ) → f k ≡ Some v → g k ≡ Some v) → HasAll (map f ks) (map g ks)
maps f g [] each j v is = is
maps f g (k ∷ ks) each zero v is = each k v is
maps f g (k ∷ ks) each (suc j) v is = maps f g ks each j v is

grows : (at : Place) (x p q : List Call) → x ++ p ≡ q → HasAll (hashes_in at p) (hashes_in at q)
grows at x p q parts =
    subst (λ (l : List Call). HasAll (hashes_in at p) (hashes_in at l)) parts
    (maps (λ k. first p k Hashes) (λ k. first (x ++ p) k Hashes) (replicas at.numbers.n) (λ k v is. first_kept x p k Hashes v is))

are_nested : (at : Place) (h : List Call) (m o : Msg) (a : IsColumnOf at h m) (b : IsColumnOf at h o) → HasAll (hashes_in at a.prefix) (hashes_in at b.prefix) ⊎ HasAll (hashes_in at b.prefix) (hashes_in at a.prefix)
are_nested at h m o a b = elim (nested a.later a.prefix b.later b.prefix h a.prefix_is b.prefix_is) [
  | inl x ↦ inl (grows at x.0 a.prefix b.prefix x.1)
  | inr x ↦ inr (grows at x.0 b.prefix a.prefix x.1)
]

-- ---- entries

row_there : (k : ℕ) (hs : List (Option (List ℕ))) (e : ℕ) (v : List ℕ) → get_or hs e None ≡ Some v
    → slice_get (rows_for k hs) (count_by (is_there hs) (range_with_len 0 e)) ≡ Some (entry_in k v)
row_there k [] e v is = absurd (cc is)
row_there k (None ∷ hs) zero v is = absurd (cc is)
row_there k (None ∷ hs) (suc e) v is =
    let count : count_by (is_there (None ∷ hs)) (range_with_len 0 (suc e)) ≡ count_by (is_there hs) (range_with_len 0 e) =
    count_from (is_there (None ∷ hs)) 0 e ∙ omega (arith, count_behind None hs 0 e) in
    ap (slice_get (rows_for k hs)) count ∙ row_there k hs e v is
row_there k (Some u ∷ hs) zero v is = let same : u ≡ v = cc is in ap (λ (x : List ℕ). Some (entry_in k x)) same
row_there k (Some u ∷ hs) (suc e) v is =
    let count : count_by (is_there (Some u ∷ hs)) (range_with_len 0 (suc e)) ≡ suc (count_by (is_there hs) (range_with_len 0 e)) =
    count_from (is_there (Some u ∷ hs)) 0 e ∙ omega (arith, count_behind (Some u) hs 0 e) in
    ap (slice_get (rows_for k (Some u ∷ hs))) count ∙ row_there k hs e v is

-- the row of a replica whose HASHES are there
row_placed : (k : ℕ) (hs : List (Option (List ℕ))) (e : ℕ) (v : List ℕ) → get_or hs e None ≡ Some v → at_place (senders_of hs) (rows_for k hs) e ≡ Some (entry_in k v)
unfolding at_place member_count
row_placed k hs e v is =
    let there : has_member (senders_of hs) e ≡ true = senders_have hs e ∙ ap is_some is in
    ap (λ (b : Bool). if b then slice_get (rows_for k hs) (count_by (has_member (senders_of hs)) (range_with_len 0 e)) else None) there
    ∙ ap (slice_get (rows_for k hs)) (count_same (has_member (senders_of hs)) (is_there hs) (senders_have hs) (range_with_len 0 e))
    ∙ row_there k hs e v is

-- HASHES of each replica in a session, each as long as they are
record AreWhole (n : ℕ) (hs : List (Option (List ℕ))) : Type 0 where
  pub many : length hs ≡ n
  pub long : AreLong n hs

more_entries : (n k : ℕ) (hs more : List (Option (List ℕ))) → n ≤ 31 → k < n → AreWhole n hs → AreWhole n more → HasAll hs more
    → HasEntriesOf (column_bytes (senders_of more) (rows_for k more)) (column_bytes (senders_of hs) (rows_for k hs))
more_entries n k hs more most lt whole whole_more all = λ echoer entry row.
    let at_row = placed_row k hs echoer entry (sym (row_written n k echoer hs whole.many most lt whole.long) ∙ row) in
    row_written n k echoer more whole_more.many most lt whole_more.long
    ∙ row_placed k more echoer at_row.value (all echoer at_row.value at_row.is)
    ∙ ap Some (sym at_row.entry_is)

grown : (at : Place) (mode : Mode) (h : List Call) (m o : Msg) (a : IsColumnOf at h m) (b : IsColumnOf at h o) → IsOfSlot echo at.numbers mode at.slot → AreGoodCalls at.numbers mode at.slot h
    → a.receiver ≡ b.receiver → HasAll (hashes_in at a.prefix) (hashes_in at b.prefix) → HasEntriesOf o.value m.value
grown at mode h m o a b slot good same all = λ echoer entry row.
    let n = at.numbers.n in
    let lt : b.receiver < n = replica_below n b.receiver b.within in
    let hs : List (Option (List ℕ)) = hashes_in at a.prefix in
    let more : List (Option (List ℕ)) = hashes_in at b.prefix in
    let of_m : m.value ≡ column_bytes (senders_of hs) (rows_for b.receiver hs) = ap (λ (x : Msg). x.value) a.whole ∙ ap (λ (k : ℕ). column_bytes (senders_of hs) (rows_for k hs)) same in
    let of_o : o.value ≡ column_bytes (senders_of more) (rows_for b.receiver more) = ap (λ (x : Msg). x.value) b.whole in
    let first : AreWhole n hs = record { many = length-firsts n a.prefix Hashes; long = columns_long at mode h m good a } in
    let second : AreWhole n more = record { many = length-firsts n b.prefix Hashes; long = columns_long at mode h o good b } in
    ap (λ (v : List ℕ). column_row v echoer) of_o
    ∙ more_entries n b.receiver hs more slot.session.most lt first second all echoer entry (ap (λ (v : List ℕ). column_row v echoer) (sym of_m) ∙ row)

receives : (at : Place) (h : List Call) (m : Msg) (k : ℕ) (a : IsColumnOf at h m) → reaches m.to k ≡ true → a.receiver ≡ k
receives at h m k a to = eqb-true a.receiver k (sym (ap (λ (x : Msg). reaches x.to k) a.whole) ∙ to)

columns : (at : Place) (mode : Mode) (h : List Call) (m o : Msg) (k : ℕ) → IsOfSlot echo at.numbers mode at.slot → AreGoodCalls at.numbers mode at.slot h → IsColumnOf at h m → IsColumnOf at h o
    → reaches m.to k ≡ true → reaches o.to k ≡ true → HasEntriesOf m.value o.value ⊎ HasEntriesOf o.value m.value
columns at mode h m o k slot good a b to_m to_o =
    let same : a.receiver ≡ b.receiver = receives at h m k a to_m ∙ sym (receives at h o k b to_o) in
    elim (are_nested at h m o a b) [
      | inl all ↦ inr (grown at mode h m o a b slot good same all)
      | inr all ↦ inl (grown at mode h o m b a slot good (sym same) all)
    ]

pub returns-clause-one : goal.returns-clause-one
returns-clause-one c = record {
  one = λ at tags h m o k hm ho to_m to_o same not. one at tags h m o (due_is at tags h m hm) (due_is at tags h o ho) same not;
  columns = λ at tags mode h m o k slot good hm ho to_m to_o is also.
      columns at mode h m o k slot good (column_alone at tags h m is (due_is at tags h m hm)) (column_alone at tags h o also (due_is at tags h o ho)) to_m to_o;
}

pub returns-clause-grow : goal.returns-clause-grow
returns-clause-grow c = λ at tags h m o hm ho is also.
    let a = column_alone at tags h m is (due_is at tags h m hm) in
    let b = column_alone at tags h o also (due_is at tags h o ho) in
    record { one = a; two = b; nested = are_nested at h m o a b }
