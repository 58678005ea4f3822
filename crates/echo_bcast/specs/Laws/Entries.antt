-- Where entries come from: those of HASHES were given, and those of columns stand in HASHES that were taken.
use Rattle.std.specs.Prelude.{◌≡◌, ℕ, zero, suc, ◌<◌, ◌≤◌, ◌+◌, ◌*◌, Bool, true, false, List, [], ◌∷◌, ◌++◌, map, take, drop, length, Option, Some, None, is_some, count_by, cond, if◌then◌else◌, refl}
use Rattle.std.proofs.Common.{sym, ◌∙◌, ap, subst, inl, inr, arith, get_or}
use Rattle.std.specs.List.{flat_map, slice_get, range_with_len, AllByRecursion}
use Rattle.std.specs.Int.RustNames.{count_ones}
use Rattle.std.proofs.lemmas.Bool.{cases_lt}
use Rattle.std.proofs.lemmas.List.{take_at, drop_at, length-drop, length-take-le, length-map, get_or_past}
use Rattle.std.proofs.lemmas.List.FromFn.{length-range_with_len}
use Rattle.std.proofs.lemmas.List.Sums.{sum_by-cons}
use Rattle.std.proofs.lemmas.List.Concat.{flat_map-cons}
use Rattle.std.proofs.Math.Seq.{drop-append-add}
use Rattle.ritas_base.specs.declared.item.Kind.{Kind}
use Rattle.ritas_base.specs.declared.item.Kind.TheVariants.{Send, Hashes, Column}
use Rattle.ritas_base.specs.declared.item.Item.{Item}
use Rattle.ritas_base.specs.declared.item.Msg.{Msg}
use Rattle.ritas_base.specs.declared.mode.Mode.{Mode}
use Rattle.ritas_base.specs.History.{Call, Take, told, first, replicas}
use Rattle.ritas_base.specs.HistoryLaws.{first_stays, first_cases, length-firsts, firsts_at}
use Rattle.ritas_base.specs.Members.{has_member, member_count}
use Rattle.ritas_base.specs.Messages.{Place}
use Rattle.ritas_base.specs.Quorums.{count_yes, count_no, count_same}
use Rattle.ritas_base.specs.Tags.{Tags}
use Rattle.frame_codec.specs.Values.{at_place, rows_in, if_whole, column_row, column_bytes}
use Rattle.frame_codec.specs.RowLaws.{whole_place}
use Rattle.layer_api.specs.Entries.{sent, given, entries_for, entries_of, entry_in, entry_of, Print, prints_of, prints_for, is_hashed, prints_at_kind}
use Rattle.layer_api.specs.EntryLaws.{IsHashedBy, IsMetOf, HasWholeEntries, EntryLaws}
use Rattle.layer_api.specs.OneValue.{AreGoodCalls, IsOfSlot}
use Rattle.layer_api.specs.Runs.{Has}
use Rattle.layer_api.specs.HasLaws.{has_right}
use Rattle.echo_bcast.specs.Matrix.{echo, as_entry, hashes_bytes, hashes_in, senders_of, rows_for}
use Rattle.echo_bcast.specs.Laws.Columns.{as_entry_is, AreLong, senders_ones, senders_have, column_mask}
use Rattle.layer_api.specs.ReplicaLaws.{replica_below}
use Rattle.echo_bcast.specs.Due.{IsMatrixDue, OfSend, OfHashes, OfColumn, IsHashes, IsColumnOf, due_is}
use Rattle.echo_bcast.specs.Laws.Good.{columns_long}

-- ---- entries of HASHES

-- an entry of HASHES is one of those that they were made of
entry_listed : (es : List (List ℕ)) (k : ℕ) → AllByRecursion (λ e. length e ≡ 32) es → k < length es → Has es (entry_in k (hashes_bytes es))
entry_listed [] k all lt = absurd (omega (arith, lt))
entry_listed (e ∷ es) zero all lt =
    let whole : hashes_bytes (e ∷ es) ≡ e ++ hashes_bytes es = flat_map-cons as_entry e es ∙ ap (λ (x : List ℕ). x ++ hashes_bytes es) (as_entry_is e all.0) in
    inl (sym (ap (entry_in 0) whole ∙ take_at e (hashes_bytes es) 32 all.0))
entry_listed (e ∷ es) (suc k) all lt =
    let whole : hashes_bytes (e ∷ es) ≡ e ++ hashes_bytes es = flat_map-cons as_entry e es ∙ ap (λ (x : List ℕ). x ++ hashes_bytes es) (as_entry_is e all.0) in
    let place : 32 * suc k ≡ 32 + 32 * k = omega arith in
    let behind : drop (32 * suc k) (hashes_bytes (e ∷ es)) ≡ drop (32 * k) (hashes_bytes es) =
    ap (λ (x : List ℕ). drop (32 * suc k) x) whole
    ∙ ap (λ (i : ℕ). drop i (e ++ hashes_bytes es)) (place ∙ ap (λ (l : ℕ). l + 32 * k) (sym all.0))
    ∙ drop-append-add e (hashes_bytes es) (32 * k) in
    inr (subst (λ (x : List ℕ). Has es x) (sym (ap (take 32) behind)) (entry_listed es k all.1 (omega (arith, lt))))

all_mapped : (f : ℕ → List ℕ) → ((k : ℕ) → length (f k) ≡ 32) → (ks : List ℕ) → AllByRecursion (λ e. length e ≡ 32) (map f ks)
all_mapped f each [] = tt
all_mapped f each (k ∷ ks) = (each k, all_mapped f each ks)

hashes_given : (at : Place) (tags : Tags) (h : List Call) (m : Msg) → HasWholeEntries tags → IsHashes at tags h m
    → (k : ℕ) → k < at.numbers.n → Has (given at tags h) (entry_in k m.value)
hashes_given at tags h m whole s k lt =
    let f : ℕ → List ℕ = λ j. entry_of at tags at.me j s.sent_here in
    let es : List (List ℕ) = entries_of at tags s.sent_here in
    let all = all_mapped f (λ j. whole at.slot at.me j (tags.digest s.sent_here)) (replicas at.numbers.n) in
    let many : length es ≡ at.numbers.n = length-map (replicas at.numbers.n) f ∙ length-range_with_len 0 at.numbers.n in
    let value : m.value ≡ hashes_bytes es = ap (λ (x : Msg). x.value) s.whole in
    let gave : es ≡ given at tags h = ap (entries_for at tags) (sym s.was_sent) in
    subst (λ (gs : List (List ℕ)). Has gs (entry_in k m.value)) gave
    (subst (λ (v : List ℕ). Has es (entry_in k v)) (sym value) (entry_listed es k all (omega (arith, many, lt))))

-- ---- rows by place

abbrev pub is_there : List (Option (List ℕ)) → ℕ → Bool
is_there hs i = is_some (get_or hs i None)

pub count_from : (p : ℕ → Bool) (from n : ℕ) → count_by p (range_with_len from (suc n)) ≡ cond (p from) 1 0 + count_by p (range_with_len (from + 1) n)
count_from p from n = sum_by-cons (λ k. cond (p k) 1 0) from (range_with_len (from + 1) n)

pub count_behind : (x : Option (List ℕ)) (hs : List (Option (List ℕ))) (from n : ℕ)
    → count_by (is_there (x ∷ hs)) (range_with_len (suc from) n) ≡ count_by (is_there hs) (range_with_len from n)
count_behind x hs from zero = refl
count_behind x hs from (suc n) =
    let next : suc from + 1 ≡ suc (from + 1) = omega arith in
    let rest : count_by (is_there (x ∷ hs)) (range_with_len (suc from + 1) n) ≡ count_by (is_there hs) (range_with_len (from + 1) n) =
    ap (λ (b : ℕ). count_by (is_there (x ∷ hs)) (range_with_len b n)) next ∙ count_behind x hs (from + 1) n in
    count_from (is_there (x ∷ hs)) (suc from) n ∙ ap (λ (c : ℕ). cond (is_there hs from) 1 0 + c) rest ∙ sym (count_from (is_there hs) from n)

-- a row is an entry of HASHES that are there
pub record IsHashesRow (k : ℕ) (o : Option (List ℕ)) (entry : List ℕ) : Type 0 where
  pub value : List ℕ
  pub is : o ≡ Some value
  pub entry_is : entry ≡ entry_in k value

some_is : (x y : List ℕ) → Some x ≡ Some y → x ≡ y
some_is x y e = cc

row_at : (k : ℕ) (hs : List (Option (List ℕ))) (e : ℕ) (entry : List ℕ) → is_there hs e ≡ true
    → slice_get (rows_for k hs) (count_by (is_there hs) (range_with_len 0 e)) ≡ Some entry → IsHashesRow k (get_or hs e None) entry
row_at k [] e entry there is = absurd (cc)
row_at k (None ∷ hs) zero entry there is = absurd (cc)
row_at k (None ∷ hs) (suc e) entry there is =
    let count : count_by (is_there (None ∷ hs)) (range_with_len 0 (suc e)) ≡ count_by (is_there hs) (range_with_len 0 e) =
    count_from (is_there (None ∷ hs)) 0 e ∙ omega (arith, count_behind None hs 0 e) in
    row_at k hs e entry there (ap (slice_get (rows_for k hs)) (sym count) ∙ is)
row_at k (Some v ∷ hs) zero entry there is = record { value = v; is = refl; entry_is = sym (some_is _ _ is) }
row_at k (Some v ∷ hs) (suc e) entry there is =
    let count : count_by (is_there (Some v ∷ hs)) (range_with_len 0 (suc e)) ≡ suc (count_by (is_there hs) (range_with_len 0 e)) =
    count_from (is_there (Some v ∷ hs)) 0 e ∙ omega (arith, count_behind (Some v) hs 0 e) in
    row_at k hs e entry there (ap (slice_get (rows_for k (Some v ∷ hs))) (sym count) ∙ is)

if_there : (b : Bool) (o : Option (List ℕ)) (entry : List ℕ) → (if b then o else None) ≡ Some entry → (b ≡ true) × (o ≡ Some entry)
if_there true o entry e = (refl, e)
if_there false o entry e = absurd (cc)

-- the row that the senders' mask has for a replica
pub placed_row : (k : ℕ) (hs : List (Option (List ℕ))) (e : ℕ) (entry : List ℕ) → at_place (senders_of hs) (rows_for k hs) e ≡ Some entry → IsHashesRow k (get_or hs e None) entry
unfolding at_place member_count
placed_row k hs e entry is =
    let there = if_there (has_member (senders_of hs) e) _ entry is in
    row_at k hs e entry (sym (senders_have hs e) ∙ there.0)
    (ap (slice_get (rows_for k hs)) (sym (count_same (has_member (senders_of hs)) (is_there hs) (senders_have hs) (range_with_len 0 e))) ∙ there.1)

-- ---- rows as bytes

rows_many : (k : ℕ) (hs : List (Option (List ℕ))) → length (rows_for k hs) ≡ count_by is_some hs
rows_many k [] = refl
rows_many k (None ∷ hs) = rows_many k hs ∙ sym (count_no is_some None hs refl)
rows_many k (Some v ∷ hs) = let rest = rows_many k hs in let more = count_yes is_some (Some v) hs refl in omega (arith, rest, more)

rows_whole : (n k : ℕ) (hs : List (Option (List ℕ))) → k < n → AreLong n hs → AllByRecursion (λ row. length row ≡ 32) (rows_for k hs)
rows_whole n k [] lt long = tt
rows_whole n k (None ∷ hs) lt long = rows_whole n k hs lt long
rows_whole n k (Some v ∷ hs) lt long = (length-take-le 32 (drop (32 * k) v) (omega (arith, length-drop (32 * k) v, long.0, lt)), rows_whole n k hs lt long.1)

-- rows that were written one behind the other are read again
rows_back : (rows : List (List ℕ)) → AllByRecursion (λ row. length row ≡ 32) rows → rows_in (length rows) (flat_map (λ row. row) rows) ≡ rows
unfolding rows_in
rows_back [] all = refl
rows_back (row ∷ rows) all =
    let others = flat_map (λ (r : List ℕ). r) rows in
    ap (rows_in (suc (length rows))) (flat_map-cons (λ (r : List ℕ). r) row rows)
    ∙ rw (take_at row others 32 all.0, drop_at row others 32 all.0, rows_back rows all.1) refl

pub row_written : (n k e : ℕ) (hs : List (Option (List ℕ))) → length hs ≡ n → n ≤ 31 → k < n → AreLong n hs
    → column_row (column_bytes (senders_of hs) (rows_for k hs)) e ≡ at_place (senders_of hs) (rows_for k hs) e
row_written n k e hs len most lt long =
    let mask = senders_of hs in
    let rows = rows_for k hs in
    let text = flat_map (λ (row : List ℕ). row) rows in
    let one_each : count_ones mask ≡ length rows = senders_ones hs ∙ sym (rows_many k hs) in
    let whole = rows_whole n k hs lt long in
    ap (λ (q : ℕ). if_whole (at_place q (rows_in (count_ones q) text) e)) (column_mask n hs rows len most)
    ∙ (ap (λ (xs : List (List ℕ)). if_whole (at_place mask xs e)) (ap (λ (c : ℕ). rows_in c text) one_each ∙ rows_back rows whole)
    ∙ whole_place mask e rows whole)

-- ---- columns

-- the item that brought a first value
record IsFirstOf (h : List Call) (k : ℕ) (kind : Kind) (v : List ℕ) : Type 0 where
  item : Item
  taken : Has h (Take item)
  from : item.from ≡ k
  kind_is : item.kind ≡ kind
  value : item.value ≡ v

first_item : (h : List Call) (k : ℕ) (kind : Kind) (v : List ℕ) → first h k kind ≡ Some v → IsFirstOf h k kind v
first_item [] k kind v e = absurd (cc)
first_item (c ∷ h) k kind v e =
    elim (first_cases c h k kind v e) [
      | inl older ↦ let was = first_item h k kind v older in record { item = was.item; taken = inr was.taken; from = was.from; kind_is = was.kind_is; value = was.value }
      | inr now ↦ record { item = now.item; taken = inl now.call; from = now.from; kind_is = now.kind_is; value = now.value }
    ]

there_below : (hs : List (Option (List ℕ))) (e : ℕ) (v : List ℕ) → get_or hs e None ≡ Some v → e < length hs
there_below hs e v is = elim (cases_lt e (length hs)) [ inl lt ↦ lt | inr le ↦ absurd (let none = get_or_past hs e None le in cc) ]

column_hashed : (at : Place) (mode : Mode) (h : List Call) (m : Msg) → IsOfSlot echo at.numbers mode at.slot → AreGoodCalls at.numbers mode at.slot h
    → IsColumnOf at h m → (echoer : ℕ) (entry : List ℕ) → column_row m.value echoer ≡ Some entry → IsHashedBy at.numbers.n h echoer entry
column_hashed at mode h m of_slot good s echoer entry row =
    let n = at.numbers.n in
    let k = s.receiver in
    let lt : k < n = replica_below n k s.within in
    let hs : List (Option (List ℕ)) = hashes_in at s.prefix in
    let many = length-firsts n s.prefix Hashes in
    let value : m.value ≡ column_bytes (senders_of hs) (rows_for k hs) = ap (λ (x : Msg). x.value) s.whole in
    let written = row_written n k echoer hs many of_slot.session.most lt (columns_long at mode h m good s) in
    let at_row = placed_row k hs echoer entry (sym written ∙ ap (λ (v : List ℕ). column_row v echoer) (sym value) ∙ row) in
    let below : echoer < n = let b = there_below hs echoer at_row.value at_row.is in omega (arith, b, many) in
    let was = first_item s.prefix echoer Hashes at_row.value (sym (firsts_at n s.prefix Hashes echoer below) ∙ at_row.is) in
    record {
      item = was.item;
      taken = subst (λ (l : List Call). Has l (Take was.item)) s.prefix_is (has_right s.later s.prefix (Take was.item) was.taken);
      kind = was.kind_is;
      from = was.from;
      verifier = k;
      within = lt;
      same = at_row.entry_is ∙ ap (entry_in k) (sym was.value);
    }

-- ---- a message of each kind

pub hashes_alone : (at : Place) (tags : Tags) (h : List Call) (m : Msg) → m.kind ≡ Hashes → IsMatrixDue at tags h m → IsHashes at tags h m
hashes_alone at tags h m kind (OfSend s) = absurd (let other : m.kind ≡ Send = ap (λ (x : Msg). x.kind) s.whole in cc)
hashes_alone at tags h m kind (OfHashes s) = s
hashes_alone at tags h m kind (OfColumn s) = absurd (let other : m.kind ≡ Column = ap (λ (x : Msg). x.kind) s.whole in cc)

pub column_alone : (at : Place) (tags : Tags) (h : List Call) (m : Msg) → m.kind ≡ Column → IsMatrixDue at tags h m → IsColumnOf at h m
column_alone at tags h m kind (OfSend s) = absurd (let other : m.kind ≡ Send = ap (λ (x : Msg). x.kind) s.whole in cc)
column_alone at tags h m kind (OfHashes s) = absurd (let other : m.kind ≡ Hashes = ap (λ (x : Msg). x.kind) s.whole in cc)
column_alone at tags h m kind (OfColumn s) = s

-- what was met is of the SEND that was taken, and stays
met_of : (at : Place) (tags : Tags) (h : List Call) (a : Print) (o : Option (List ℕ)) → sent at h ≡ o → Has (prints_for at tags o) a → IsMetOf echo at tags h a
met_of at tags h a None e there = absurd there
met_of at tags h a (Some m) e there =
    let x = first_item h at.slot.origin Send m e in
    record {
      item = x.item;
      taken = x.taken;
      kind = ap (is_hashed 2) x.kind_is;
      print = subst (λ (k : Kind). Has (prints_at_kind at tags k x.item.value) a) (sym x.kind_is) (subst (λ (v : List ℕ). Has (prints_of at tags v) a) (sym x.value) there);
    }

met_stays : (at : Place) (tags : Tags) (c : Call) (h : List Call) (a : Print) (o : Option (List ℕ)) → sent at h ≡ o → Has (prints_for at tags o) a → Has (prints_for at tags (sent at (c ∷ h))) a
met_stays at tags c h a None e there = absurd there
met_stays at tags c h a (Some m) e there = subst (λ (u : Option (List ℕ)). Has (prints_for at tags u) a) (sym (first_stays (told at.slot.origin Send) c h m e)) there

pub entry_laws_of_echo : EntryLaws echo
entry_laws_of_echo =
    record {
      hashes = λ at tags h m whole there kind k lt. hashes_given at tags h m whole (hashes_alone at tags h m kind (due_is at tags h m there)) k lt;
      columns = λ at tags mode h m of_slot good there kind echoer entry row.
          column_hashed at mode h m of_slot good (column_alone at tags h m kind (due_is at tags h m there)) echoer entry row;
      met_taken = λ at tags h a there. met_of at tags h a (sent at h) refl there;
      met_stays = λ at tags h c a there. met_stays at tags c h a (sent at h) refl there;
    }
