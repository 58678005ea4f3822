-- The words of the rules, read.
use Rattle.std.specs.Prelude.{◌≡◌, ℕ, true, not, ◌&&◌, ◌||◌, List, [], ◌∷◌, ◌++◌, Option, Some, None, is_some, length, count_by, nat_le, refl}
use Rattle.std.proofs.Common.{sym, ◌∙◌, ap, subst, inl, inr}
use Rattle.std.specs.List.{flat_map, AllByRecursion}
use Rattle.std.proofs.lemmas.Bool.{or_cases, or_left, and_parts, cond-true, le-leb}
use Rattle.std.proofs.lemmas.List.Concat.{flat_map-cons}
use Rattle.std.proofs.lemmas.Option.{same_Some}
use Rattle.ritas_base.specs.declared.item.Kind.{Kind}
use Rattle.ritas_base.specs.declared.item.Kind.TheVariants.{Send, Hashes, Column}
use Rattle.ritas_base.specs.declared.item.To.TheVariants.{One}
use Rattle.ritas_base.specs.declared.item.Item.{Item}
use Rattle.ritas_base.specs.declared.item.Msg.{Msg}
use Rattle.ritas_base.specs.Numbers.{quorum_of}
use Rattle.ritas_base.specs.History.{Call, Start, Take, started, told, replicas}
use Rattle.ritas_base.specs.HistoryLaws.{first_stays, kind_eq_is}
use Rattle.ritas_base.specs.Messages.{Place, kind_eq, to_all}
use Rattle.ritas_base.specs.Tags.{Tags}
use Rattle.layer_api.specs.Broadcast.{MayTake}
use Rattle.layer_api.specs.Entries.{sent, given, entries_for, is_claim, is_valid, is_valid_for}
use Rattle.layer_api.specs.Runs.{Has}
use Rattle.layer_api.specs.HasLaws.{has_left, has_right}
use Rattle.layer_api.specs.OneValue.{AreTaken}
use Rattle.echo_bcast.specs.Matrix.{echo, as_entry, hashes_bytes, hashes_for, columns_due, matrix_due, is_good}
use Rattle.echo_bcast.specs.Due.{IsMatrixDue, OfSend, OfHashes, OfColumn, due_is}
use Rattle.echo_bcast.specs.Laws.Columns.{as_entry_is, senders_have}
use Rattle.echo_bcast.specs.Laws.OneValue.{out_is}
use Rattle.echo_bcast.specs.Laws.Matrix.{good_stays}
use Rattle.echo_bcast.specs.Reading.{CarriesGiven, HashesCarry, IsShownGood, GoodIs, SendersAre}

-- ---- HASHES

carried : (at : Place) (tags : Tags) (h : List Call) (m : Msg) → m.kind ≡ Hashes → IsMatrixDue at tags h m → CarriesGiven at tags h m
carried at tags h m kind (OfSend s) = absurd (let other : m.kind ≡ Send = ap (λ (x : Msg). x.kind) s.whole in cc)
carried at tags h m kind (OfHashes s) =
    record {
      receiver = ap (λ (x : Msg). x.to) s.whole;
      value = ap (λ (x : Msg). x.value) s.whole ∙ ap (λ (o : Option (List ℕ)). hashes_bytes (entries_for at tags o)) (sym s.was_sent);
    }
carried at tags h m kind (OfColumn s) = absurd (let other : m.kind ≡ Column = ap (λ (x : Msg). x.kind) s.whole in cc)

due_once : (at : Place) (tags : Tags) (h : List Call) (v : List ℕ) → sent at h ≡ Some v
    → Has (matrix_due at tags h) (record { to = One at.slot.origin; kind = Hashes; slot = at.slot; value = hashes_bytes (given at tags h) })
due_once at tags h v e =
    let m : Msg = record { to = One at.slot.origin; kind = Hashes; slot = at.slot; value = hashes_bytes (given at tags h) } in
    let same : record { to = One at.slot.origin; kind = Hashes; slot = at.slot; value = hashes_bytes (entries_for at tags (Some v)) } ≡ m =
    ap (λ (o : Option (List ℕ)). record { to = One at.slot.origin; kind = Hashes; slot = at.slot; value = hashes_bytes (entries_for at tags o) }) (sym e) in
    has_left (to_all at.slot Send (started h) ++ hashes_for at tags (sent at h)) (columns_due at h) m
    (has_right (to_all at.slot Send (started h)) (hashes_for at tags (sent at h)) m (subst (λ (o : Option (List ℕ)). Has (hashes_for at tags o) m) (sym e) (inl same)))

plain : (es : List (List ℕ)) → AllByRecursion (λ e. length e ≡ 32) es → hashes_bytes es ≡ flat_map (λ e. e) es
plain [] all = refl
plain (e ∷ es) all =
    flat_map-cons as_entry e es
    ∙ (ap (λ (l : List ℕ). l ++ hashes_bytes es) (as_entry_is e all.0)
    ∙ (ap (λ (l : List ℕ). e ++ l) (plain es all.1) ∙ sym (flat_map-cons (λ (x : List ℕ). x) e es)))

pub hashes_carry : HashesCarry
hashes_carry =
    record {
      due = λ at tags h m there kind. carried at tags h m kind (due_is at tags h m there);
      once = λ at tags h v e. due_once at tags h v e;
      plain = λ es all. plain es all;
    }

-- ---- who is good

sent_older : (at : Place) (c : Call) (h : List Call) (v w : List ℕ) → sent at (c ∷ h) ≡ Some v → sent at h ≡ Some w → w ≡ v
sent_older at c h v w e was = same_Some w v (sym (first_stays (told at.slot.origin Send) c h w was) ∙ e)

-- a claim is by the message that is sent, now and later
claim_valid : (at : Place) (tags : Tags) (h : List Call) (x : Item) (v : List ℕ) (echoer : ℕ) → sent at (Take x ∷ h) ≡ Some v
    → is_claim at tags h x echoer ≡ true → (x.kind ≡ Column) × (is_valid at tags v x.value echoer ≡ true)
claim_valid at tags h x v echoer e claim =
    let parts = and_parts (kind_eq x.kind Column) (is_valid_for at tags (sent at h) x.value echoer) claim in
    (kind_eq_is x.kind Column parts.0, go (sent at h) refl parts.1)
  where
    go : (o : Option (List ℕ)) → sent at h ≡ o → is_valid_for at tags o x.value echoer ≡ true → is_valid at tags v x.value echoer ≡ true
    go None was q = absurd (cc)
    go (Some w) was q = ap (λ (m : List ℕ). is_valid at tags m x.value echoer) (sym (sent_older at (Take x) h v w e was)) ∙ q

valid_claim : (at : Place) (tags : Tags) (h : List Call) (x : Item) (v : List ℕ) (echoer : ℕ) → MayTake echo at tags h x → sent at (Take x ∷ h) ≡ Some v
    → x.kind ≡ Column → is_valid at tags v x.value echoer ≡ true → is_claim at tags h x echoer ≡ true
valid_claim at tags h x v echoer may e kind valid =
    let in_time : is_some (sent at h) ≡ true = ap (λ (k : Kind). not (kind_eq k Column) || is_some (sent at h)) (sym kind) ∙ may.in_time in
    ap (λ (k : Kind). kind_eq k Column && is_valid_for at tags (sent at h) x.value echoer) kind ∙ go (sent at h) refl in_time
  where
    go : (o : Option (List ℕ)) → sent at h ≡ o → is_some o ≡ true → is_valid_for at tags o x.value echoer ≡ true
    go None was q = absurd (cc)
    go (Some w) was q = ap (λ (m : List ℕ). is_valid at tags m x.value echoer) (sent_older at (Take x) h v w e was) ∙ valid

shown_later : (at : Place) (tags : Tags) (c : Call) (h : List Call) (v : List ℕ) (echoer : ℕ) → IsShownGood at tags h v echoer → IsShownGood at tags (c ∷ h) v echoer
shown_later at tags c h v echoer s = record { item = s.item; taken = inr s.taken; kind = s.kind; valid = s.valid }

-- where something is good, something was sent
good_sent : (at : Place) (tags : Tags) (h : List Call) (echoer : ℕ) → is_good at tags h echoer ≡ true → (v : List ℕ) × (sent at h ≡ Some v)
good_sent at tags [] echoer e = absurd (cc)
good_sent at tags (Start u ∷ h) echoer e = let was = good_sent at tags h echoer e in (was.0, first_stays (told at.slot.origin Send) (Start u) h was.0 was.1)
good_sent at tags (Take x ∷ h) echoer e =
    let was : (v : List ℕ) × (sent at h ≡ Some v) = elim (or_cases (is_claim at tags h x echoer) (is_good at tags h echoer) e) [
      | inl claim ↦ claimed (sent at h) refl (and_parts (kind_eq x.kind Column) (is_valid_for at tags (sent at h) x.value echoer) claim).1
      | inr older ↦ good_sent at tags h echoer older
    ] in
    (was.0, first_stays (told at.slot.origin Send) (Take x) h was.0 was.1)
  where
    claimed : (o : Option (List ℕ)) → sent at h ≡ o → is_valid_for at tags o x.value echoer ≡ true → (v : List ℕ) × (sent at h ≡ Some v)
    claimed None was q = absurd (cc)
    claimed (Some v) was q = (v, was)

good_shown : (at : Place) (tags : Tags) (h : List Call) (v : List ℕ) (echoer : ℕ) → sent at h ≡ Some v → is_good at tags h echoer ≡ true → IsShownGood at tags h v echoer
good_shown at tags [] v echoer e good = absurd (cc)
good_shown at tags (Start u ∷ h) v echoer e good =
    let was = good_sent at tags h echoer good in
    let same : was.0 ≡ v = sent_older at (Start u) h v was.0 e was.1 in
    shown_later at tags (Start u) h v echoer (good_shown at tags h v echoer (was.1 ∙ ap Some same) good)
good_shown at tags (Take x ∷ h) v echoer e good =
    elim (or_cases (is_claim at tags h x echoer) (is_good at tags h echoer) good) [
      | inl claim ↦ let now = claim_valid at tags h x v echoer e claim in record { item = x; taken = inl refl; kind = now.0; valid = now.1 }
      | inr older ↦
          let was = good_sent at tags h echoer older in
          let same : was.0 ≡ v = sent_older at (Take x) h v was.0 e was.1 in
          shown_later at tags (Take x) h v echoer (good_shown at tags h v echoer (was.1 ∙ ap Some same) older)
    ]

rest_taken : (at : Place) (tags : Tags) (c : Call) (h : List Call) → AreTaken echo at tags (c ∷ h) → AreTaken echo at tags h
rest_taken at tags (Start u) h taken = taken.1
rest_taken at tags (Take y) h taken = taken.1

some_value : (o : Option (List ℕ)) → is_some o ≡ true → (v : List ℕ) × (o ≡ Some v)
some_value None e = absurd (cc)
some_value (Some v) e = (v, refl)

-- where a column was taken, something was sent
sent_to_take : (at : Place) (tags : Tags) (h : List Call) (x : Item) → AreTaken echo at tags h → Has h (Take x) → x.kind ≡ Column → (v : List ℕ) × (sent at h ≡ Some v)
sent_to_take at tags [] x taken there kind = absurd there
sent_to_take at tags (c ∷ h) x taken (inl same) kind =
    let all : AreTaken echo at tags (Take x ∷ h) = subst (λ (d : Call). AreTaken echo at tags (d ∷ h)) same taken in
    let in_time : is_some (sent at h) ≡ true = ap (λ (k : Kind). not (kind_eq k Column) || is_some (sent at h)) (sym kind) ∙ all.0.in_time in
    let was = some_value (sent at h) in_time in
    (was.0, first_stays (told at.slot.origin Send) c h was.0 was.1)
sent_to_take at tags (c ∷ h) x taken (inr later) kind =
    let was = sent_to_take at tags h x (rest_taken at tags c h taken) later kind in (was.0, first_stays (told at.slot.origin Send) c h was.0 was.1)

shown_good : (at : Place) (tags : Tags) (h : List Call) (v : List ℕ) (echoer : ℕ) (x : Item) → AreTaken echo at tags h → sent at h ≡ Some v
    → Has h (Take x) → x.kind ≡ Column → is_valid at tags v x.value echoer ≡ true → is_good at tags h echoer ≡ true
shown_good at tags [] v echoer x taken e there kind valid = absurd there
shown_good at tags (c ∷ h) v echoer x taken e (inl same) kind valid =
    let all : AreTaken echo at tags (Take x ∷ h) = subst (λ (d : Call). AreTaken echo at tags (d ∷ h)) same taken in
    let was : sent at (Take x ∷ h) ≡ Some v = subst (λ (d : Call). sent at (d ∷ h) ≡ Some v) same e in
    subst (λ (d : Call). is_good at tags (d ∷ h) echoer ≡ true) (sym same)
    (or_left (is_claim at tags h x echoer) (is_good at tags h echoer) (valid_claim at tags h x v echoer all.0 was kind valid))
shown_good at tags (c ∷ h) v echoer x taken e (inr later) kind valid =
    let before = rest_taken at tags c h taken in
    let was = sent_to_take at tags h x before later kind in
    let same : was.0 ≡ v = sent_older at c h v was.0 e was.1 in
    good_stays at tags c h echoer (shown_good at tags h v echoer x before (was.1 ∙ ap Some same) later kind valid)

pub good_is : GoodIs
good_is =
    record {
      good = λ at tags h v taken e echoer. (λ good. good_shown at tags h v echoer e good, λ s. shown_good at tags h v echoer s.item taken e s.taken s.kind s.valid);
      out = λ at tags h v. (
        λ e. let is = out_is at tags h v e in (is.1, is.0),
        λ is.
            cond-true (nat_le (quorum_of at.numbers) (count_by (is_good at tags h) (replicas at.numbers.n))) (sent at h) None
            (le-leb (quorum_of at.numbers) (count_by (is_good at tags h) (replicas at.numbers.n)) is.1)
            ∙ is.0,
      );
    }

pub senders_are : SendersAre
senders_are = record { members = λ hs k. senders_have hs k }
