-- The laws of a single value, over the rules of echo broadcast.
use Rattle.std.specs.Prelude.{◌≡◌, ℕ, ◌<◌, Bool, true, false, not, ◌==◌, ◌||◌, List, [], ◌∷◌, ◌++◌, Option, Some, None, is_some, count_by, nat_le, if◌then◌else◌, refl}
use Rattle.std.proofs.Common.{sym, ◌∙◌, ap, subst, inl, inr, arith}
use Rattle.std.proofs.lemmas.Bool.{or_right, le-leb, cond-true}
use Rattle.ritas_base.specs.declared.item.Kind.TheVariants.{Send, Column}
use Rattle.ritas_base.specs.declared.item.To.{To}
use Rattle.ritas_base.specs.declared.item.Msg.{Msg}
use Rattle.ritas_base.specs.History.{Call, Start, Take, told, start_of, started, replicas}
use Rattle.ritas_base.specs.HistoryLaws.{first_stays}
use Rattle.ritas_base.specs.Messages.{Place, kind_eq, to_all}
use Rattle.ritas_base.specs.Numbers.{quorum_of}
use Rattle.ritas_base.specs.Quorums.{count_more}
use Rattle.ritas_base.specs.Shortest.{option_or_none}
use Rattle.ritas_base.specs.Tags.{Tags}
use Rattle.layer_api.specs.Entries.{sent, is_claim}
use Rattle.layer_api.specs.Runs.{Has}
use Rattle.layer_api.specs.HasLaws.{has_either, has_left, has_listed, has_right, listed_has}
use Rattle.layer_api.specs.OneValue.{ValueLaws, IsReceiver}
use Rattle.echo_bcast.specs.Matrix.{echo, hashes_for, columns_at, columns_due, matrix_due, is_good, matrix_out, is_of_echo}
use Rattle.layer_api.specs.ReplicaLaws.{replica_below}
use Rattle.echo_bcast.specs.Due.{IsMatrixDue, OfSend, OfHashes, OfColumn, due_is}
use Rattle.echo_bcast.specs.Laws.OneValue.{out_is}
use Rattle.echo_bcast.specs.Laws.Once.{repeats_other, stays_there, due_once}
use Rattle.echo_bcast.specs.Laws.Good.{due_good, out_good}
use Rattle.echo_bcast.specs.Laws.News.{news_start}

-- ---- what is due stays

send_stays : (at : Place) (c : Call) (h : List Call) (m : Msg) (o : Option (List ℕ)) → started h ≡ o → Has (to_all at.slot Send o) m → Has (to_all at.slot Send (started (c ∷ h))) m
send_stays at c h m None e there = absurd there
send_stays at c h m (Some v) e there = subst (λ (u : Option (List ℕ)). Has (to_all at.slot Send u) m) (sym (first_stays start_of c h v e)) there

hashes_stay : (at : Place) (tags : Tags) (c : Call) (h : List Call) (m : Msg) (o : Option (List ℕ)) → sent at h ≡ o → Has (hashes_for at tags o) m → Has (hashes_for at tags (sent at (c ∷ h))) m
hashes_stay at tags c h m None e there = absurd there
hashes_stay at tags c h m (Some v) e there =
    subst (λ (u : Option (List ℕ)). Has (hashes_for at tags u) m) (sym (first_stays (told at.slot.origin Send) c h v e)) there

columns_stay : (at : Place) (c : Call) (h : List Call) (m : Msg) (b : Bool) → Has (if b then columns_at at h else []) m → Has (if b then columns_at at (c ∷ h) else []) m
columns_stay at c h m true there = has_right _ (columns_at at h) m there
columns_stay at c h m false there = absurd there

pub due_stays : (at : Place) (tags : Tags) (h : List Call) (c : Call) (m : Msg) → Has (matrix_due at tags h) m → Has (matrix_due at tags (c ∷ h)) m
due_stays at tags h c m there =
    let sends = to_all at.slot Send (started (c ∷ h)) in
    let hashes = hashes_for at tags (sent at (c ∷ h)) in
    let columns = columns_due at (c ∷ h) in
    elim (has_either (to_all at.slot Send (started h) ++ hashes_for at tags (sent at h)) (columns_due at h) m there) [
      | inl early ↦ has_left (sends ++ hashes) columns m (elim (has_either (to_all at.slot Send (started h)) (hashes_for at tags (sent at h)) m early) [
        | inl a ↦ has_left sends hashes m (send_stays at c h m (started h) refl a)
        | inr b ↦ has_right sends hashes m (hashes_stay at tags c h m (sent at h) refl b)
      ])
      | inr late ↦ has_right (sends ++ hashes) columns m (columns_stay at c h m (at.me == at.slot.origin) late)
    ]

due_slot : (at : Place) (tags : Tags) (h : List Call) (m : Msg) → IsMatrixDue at tags h m → m.slot ≡ at.slot
due_slot at tags h m (OfSend s) = ap (λ (x : Msg). x.slot) s.whole
due_slot at tags h m (OfHashes s) = ap (λ (x : Msg). x.slot) s.whole
due_slot at tags h m (OfColumn s) = ap (λ (x : Msg). x.slot) s.whole

due_kind : (at : Place) (tags : Tags) (h : List Call) (m : Msg) → IsMatrixDue at tags h m → is_of_echo m.kind ≡ true
due_kind at tags h m (OfSend s) = ap (λ (x : Msg). is_of_echo x.kind) s.whole
due_kind at tags h m (OfHashes s) = ap (λ (x : Msg). is_of_echo x.kind) s.whole
due_kind at tags h m (OfColumn s) = ap (λ (x : Msg). is_of_echo x.kind) s.whole

no_columns_yet : (b : Bool) → ◌≡◌ {A = List Msg} (if b then [] else []) []
no_columns_yet true = refl
no_columns_yet false = refl

due_to : (at : Place) (tags : Tags) (h : List Call) (m : Msg) → at.slot.origin < at.numbers.n → IsMatrixDue at tags h m → IsReceiver at.numbers.n m.to
due_to at tags h m origin (OfSend s) = subst (λ (to : To). IsReceiver at.numbers.n to) (ap (λ (x : Msg). x.to) (sym s.whole)) tt
due_to at tags h m origin (OfHashes s) = subst (λ (to : To). IsReceiver at.numbers.n to) (ap (λ (x : Msg). x.to) (sym s.whole)) origin
due_to at tags h m origin (OfColumn s) =
    subst (λ (to : To). IsReceiver at.numbers.n to) (ap (λ (x : Msg). x.to) (sym s.whole)) (replica_below at.numbers.n s.receiver s.within)

-- ---- what is delivered

pub good_stays : (at : Place) (tags : Tags) (c : Call) (h : List Call) (echoer : ℕ) → is_good at tags h echoer ≡ true → is_good at tags (c ∷ h) echoer ≡ true
good_stays at tags (Start v) h echoer e = e
good_stays at tags (Take x) h echoer e = or_right (is_claim at tags h x echoer) (is_good at tags h echoer) e

out_stays : (at : Place) (tags : Tags) (h : List Call) (c : Call) (v : List ℕ) → matrix_out at tags h ≡ Some v → matrix_out at tags (c ∷ h) ≡ Some v
out_stays at tags h c v e =
    let is = out_is at tags h v e in
    let many = is.0 in
    let more = count_more (is_good at tags h) (is_good at tags (c ∷ h)) (λ k t. good_stays at tags c h k t) (replicas at.numbers.n) in
    cond-true _ (sent at (c ∷ h)) None (le-leb (quorum_of at.numbers) (count_by (is_good at tags (c ∷ h)) (replicas at.numbers.n)) (omega (arith, many, more)))
    ∙ first_stays (told at.slot.origin Send) c h v is.1

nothing_yet : (b : Bool) → ◌≡◌ {A = Option (List ℕ)} (if b then None else None) None
nothing_yet true = refl
nothing_yet false = refl

-- ---- what is taken

false_both : (b : Bool) → (if b then false else false) ≡ false
false_both true = refl
false_both false = refl

or_nothing : (b : Bool) → (b || false) ≡ b
or_nothing true = refl
or_nothing false = refl

-- once the SEND is there a column can be taken
ready_stays : (at : Place) (h : List Call) (c : Call) (b : Bool) → (b || is_some (sent at h)) ≡ true → (b || is_some (sent at (c ∷ h))) ≡ true
ready_stays at h c true e = refl
ready_stays at h c false e = stays_there (sent at h) (told at.slot.origin Send c) e

pub value_laws_of_echo : ValueLaws echo
value_laws_of_echo =
    record {
      out_nothing = λ at tags. nothing_yet _;
      out_start = λ at tags h v. ap (λ (o : Option (List ℕ)). if nat_le (quorum_of at.numbers) (count_by (is_good at tags h) (replicas at.numbers.n)) then o else None) (option_or_none (sent at h));
      out_stays = λ at tags h c v e. out_stays at tags h c v e;
      due_nothing = λ at tags. no_columns_yet (at.me == at.slot.origin);
      due_stays = λ at tags h c m e. listed_has (matrix_due at tags (c ∷ h)) m (due_stays at tags h c m (has_listed (matrix_due at tags h) m e));
      due_slot = λ at tags h m e. due_slot at tags h m (due_is at tags h m (has_listed (matrix_due at tags h) m e));
      due_kind = λ at tags h m there. due_kind at tags h m (due_is at tags h m there);
      due_to = λ at tags h m origin there. due_to at tags h m origin (due_is at tags h m there);
      due_once = λ at tags h taken first_ones. due_once at tags h taken first_ones;
      due_good = λ at tags mode h m digests of_slot good there. due_good at tags mode h m of_slot good (due_is at tags h m there);
      start_alone = λ at tags h v new. news_start at tags h v new ∙ sym (news_start at tags [] v refl);
      out_good = λ at tags mode h v of_slot good e. out_good at mode h v good (out_is at tags h v e).1;
      repeats_nothing = λ at tags i. false_both (kind_eq i.kind Column);
      repeats_is = λ at tags h i other. repeats_other at tags h i other;
      ready_stays = λ at tags h c i e. ready_stays at h c (not (kind_eq i.kind Column)) e;
      ready_nothing = λ at tags i has_it. or_nothing (not (kind_eq i.kind Column));
    }
