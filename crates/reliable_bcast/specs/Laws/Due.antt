-- What is due, kind by kind, and the laws of a single value.
use Rattle.std.specs.Prelude.{◌≡◌, ℕ, true, ◌||◌, List, [], ◌∷◌, ◌++◌, Option, Some, None, refl}
use Rattle.std.proofs.Common.{sym, ◌∙◌, ap, subst, inl, inr}
use Rattle.std.proofs.lemmas.Bool.{or_cases, or_left, or_right}
use Rattle.ritas_base.specs.declared.item.Kind.{Kind}
use Rattle.ritas_base.specs.declared.item.Kind.TheVariants as kinds
use Rattle.ritas_base.specs.declared.item.Kind.TheVariants.{Init, Echo, Ready}
use Rattle.ritas_base.specs.declared.item.Msg.{Msg}
use Rattle.ritas_base.specs.Shortest.{at_shortest_stays}
use Rattle.ritas_base.specs.History.{Call, told, start_of, first, started}
use Rattle.ritas_base.specs.HistoryLaws.{first_stays}
use Rattle.ritas_base.specs.Messages.{Place, msg_eq, has, to_all}
use Rattle.ritas_base.specs.MessagesLaws.{message, message_itself, has_append, to_all_has, to_all_itself}
use Rattle.layer_api.specs.Runs.{Has}
use Rattle.reliable_bcast.specs.Bracha.{is_reliable, some_backed, ready_value, due_by_value}

-- the value that is due with a kind
abbrev pub value_due : Place → List Call → Kind → Option (List ℕ)
value_due at h kinds.Init = started h
value_due at h kinds.Echo = first h at.slot.origin Init
value_due at h kinds.Ready = ready_value at.numbers h
value_due at h kinds.Send = None
value_due at h kinds.Hashes = None
value_due at h kinds.Column = None
value_due at h kinds.Want = None
value_due at h kinds.Value = None

-- what is due stays due
pub value_stays : (at : Place) (c : Call) (h : List Call) (kind : Kind) (v : List ℕ) → value_due at h kind ≡ Some v → value_due at (c ∷ h) kind ≡ Some v
value_stays at c h kinds.Init v e = first_stays start_of c h v e
value_stays at c h kinds.Echo v e = first_stays (told at.slot.origin Init) c h v e
value_stays at c h kinds.Ready v e = at_shortest_stays (some_backed at.numbers) (c ∷ []) h v e
value_stays at c h kinds.Send v e = absurd (cc)
value_stays at c h kinds.Hashes v e = absurd (cc)
value_stays at c h kinds.Column v e = absurd (cc)
value_stays at c h kinds.Want v e = absurd (cc)
value_stays at c h kinds.Value v e = absurd (cc)

due_has : (at : Place) (h : List Call) (m : Msg)
    → has (due_by_value at h) m ≡ ((has (to_all at.slot Init (started h)) m || has (to_all at.slot Echo (first h at.slot.origin Init)) m) || has (to_all at.slot Ready (ready_value at.numbers h)) m)
due_has at h m =
    has_append (to_all at.slot Init (started h) ++ to_all at.slot Echo (first h at.slot.origin Init)) (to_all at.slot Ready (ready_value at.numbers h)) m
    ∙ ap (λ t. t || has (to_all at.slot Ready (ready_value at.numbers h)) m) (has_append (to_all at.slot Init (started h)) (to_all at.slot Echo (first h at.slot.origin Init)) m)

-- a message that is due is to all, of this slot, and of the value that is due with its kind
pub record IsValueDue (at : Place) (h : List Call) (m : Msg) : Type 0 where
  pub whole : m ≡ message at.slot m.kind m.value
  pub reliable : is_reliable m.kind ≡ true
  pub value : value_due at h m.kind ≡ Some m.value

of_kind : (at : Place) (h : List Call) (m : Msg) (kind : Kind) → is_reliable kind ≡ true → has (to_all at.slot kind (value_due at h kind)) m ≡ true → IsValueDue at h m
of_kind at h m kind reliable e =
    let there = to_all_has at.slot kind (value_due at h kind) m e in
    let same : kind ≡ m.kind = ap (λ (x : Msg). x.kind) (sym there.0) in
    record {
      whole = subst (λ (k : Kind). m ≡ message at.slot k m.value) same there.0;
      reliable = subst (λ (k : Kind). is_reliable k ≡ true) same reliable;
      value = subst (λ (k : Kind). value_due at h k ≡ Some m.value) same there.1;
    }

pub due_is : (at : Place) (h : List Call) (m : Msg) → has (due_by_value at h) m ≡ true → IsValueDue at h m
due_is at h m e =
    elim (or_cases (has (to_all at.slot Init (started h)) m || has (to_all at.slot Echo (first h at.slot.origin Init)) m) (has (to_all at.slot Ready (ready_value at.numbers h)) m) (sym (due_has at h m) ∙ e)) [
      | inl early ↦ elim (or_cases (has (to_all at.slot Init (started h)) m) (has (to_all at.slot Echo (first h at.slot.origin Init)) m) early) [
        | inl a ↦ of_kind at h m Init refl a
        | inr b ↦ of_kind at h m Echo refl b
      ]
      | inr c ↦ of_kind at h m Ready refl c
    ]

pub due_from : (at : Place) (h : List Call) (kind : Kind) (v : List ℕ) → value_due at h kind ≡ Some v → has (due_by_value at h) (message at.slot kind v) ≡ true
due_from at h kinds.Init v e = due_has at h (message at.slot Init v) ∙ or_left _ _ (or_left _ _ (to_all_itself at.slot Init (started h) v e))
due_from at h kinds.Echo v e = due_has at h (message at.slot Echo v) ∙ or_left _ _ (or_right _ _ (to_all_itself at.slot Echo (first h at.slot.origin Init) v e))
due_from at h kinds.Ready v e = due_has at h (message at.slot Ready v) ∙ or_right _ _ (to_all_itself at.slot Ready (ready_value at.numbers h) v e)
due_from at h kinds.Send v e = absurd (cc)
due_from at h kinds.Hashes v e = absurd (cc)
due_from at h kinds.Column v e = absurd (cc)
due_from at h kinds.Want v e = absurd (cc)
due_from at h kinds.Value v e = absurd (cc)

pub due_more : (at : Place) (h : List Call) (c : Call) (m : Msg) → has (due_by_value at h) m ≡ true → has (due_by_value at (c ∷ h)) m ≡ true
due_more at h c m e =
    let was = due_is at h m e in
    ap (has (due_by_value at (c ∷ h))) was.whole ∙ due_from at (c ∷ h) m.kind m.value (value_stays at c h m.kind m.value was.value)

pub listed_has : (ms : List Msg) (m : Msg) → Has ms m → has ms m ≡ true
listed_has [] m there = absurd there
listed_has (x ∷ ms) m (inl same) = or_left (msg_eq m x) (has ms m) (ap (msg_eq m) same ∙ message_itself m)
listed_has (x ∷ ms) m (inr later) = or_right (msg_eq m x) (has ms m) (listed_has ms m later)
