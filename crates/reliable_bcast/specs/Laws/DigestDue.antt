-- What is due in reliable broadcast by digests, message by message, and that it stays due.
use Rattle.std.specs.Prelude.{◌≡◌, ℕ, ◌==◌, Bool, true, false, List, [], ◌∷◌, ◌++◌, Option, Some, None, if◌then◌else◌, refl}
use Rattle.std.proofs.Common.{sym, subst, inl, inr}
use Rattle.std.specs.List.{flat_map}
use Rattle.std.specs.Option.{option_or}
use Rattle.ritas_base.specs.declared.item.Kind.{Kind}
use Rattle.ritas_base.specs.declared.item.Kind.TheVariants as kinds
use Rattle.ritas_base.specs.declared.item.Kind.TheVariants.{Init, Echo, Ready, Want, Value}
use Rattle.ritas_base.specs.declared.item.To.TheVariants.{One}
use Rattle.ritas_base.specs.declared.item.Msg.{Msg}
use Rattle.ritas_base.specs.declared.slot.Slot.{Slot}
use Rattle.ritas_base.specs.Shortest.{option_or_older, at_shortest_stays}
use Rattle.ritas_base.specs.History.{Call, start_of, told, first, started, replicas}
use Rattle.ritas_base.specs.HistoryLaws.{first_stays}
use Rattle.ritas_base.specs.Messages.{Place, to_all}
use Rattle.ritas_base.specs.MessagesLaws.{message}
use Rattle.ritas_base.specs.Tags.{Tags}
use Rattle.frame_codec.specs.Body.{is_of_form}
use Rattle.layer_api.specs.Runs.{Has}
use Rattle.layer_api.specs.HasLaws.{has_either, has_left, has_right}
use Rattle.reliable_bcast.specs.Bracha.{some_backed, some_carried, ready_value}
use Rattle.reliable_bcast.specs.Laws.Voted.{echo_stays}
use Rattle.reliable_bcast.specs.Digests.{if_digest, brought_by, known, Full, full_if, full_of, asked_for, known_of, to_one, value_for, values_due, due_by_digest, echo_of}

abbrev pub one_message : Slot → ℕ → List ℕ → Msg
one_message s k m = record { to = One k; kind = Value; slot = s; value = m }

-- the value that is due to all with a kind
abbrev pub due_value : Place → Tags → List Call → Kind → Option (List ℕ)
due_value at tags h kinds.Init = started h
due_value at tags h kinds.Echo = echo_of tags.digest (first h at.slot.origin Init)
due_value at tags h kinds.Ready = ready_value at.numbers h
due_value at tags h kinds.Want = asked_for (full_of at tags h)
due_value at tags h _ = None

-- a message that is due is to all, or VALUE to one who asked
pub data IsDigestDue (at : Place) (tags : Tags) (h : List Call) (m : Msg) : Type 0 where
  ToAll : (kind : Kind) → (v : List ℕ) → m ≡ message at.slot kind v → due_value at tags h kind ≡ Some v → is_of_form 3 kind ≡ true → IsDigestDue at tags h m
  ToOne : (k : ℕ) → (v : List ℕ) → Has (replicas at.numbers.n) k → m ≡ one_message at.slot k v → value_for at tags h k ≡ Some v → IsDigestDue at tags h m

pub same_one : (j k : ℕ) → One j ≡ One k → j ≡ k
same_one j k e = cc

all_is : (s : Slot) (kind : Kind) (o : Option (List ℕ)) (m : Msg) → Has (to_all s kind o) m → (v : List ℕ) × (m ≡ message s kind v) × (o ≡ Some v)
all_is s kind None m there = absurd there
all_is s kind (Some v) m (inl same) = (v, sym same, refl)
all_is s kind (Some v) m (inr later) = absurd later

all_has : (s : Slot) (kind : Kind) (o : Option (List ℕ)) (v : List ℕ) → o ≡ Some v → Has (to_all s kind o) (message s kind v)
all_has s kind o v e = subst (λ (x : Option (List ℕ)). Has (to_all s kind x) (message s kind v)) (sym e) (inl refl)

pub one_is : (s : Slot) (k : ℕ) (o : Option (List ℕ)) (m : Msg) → Has (to_one s k o) m → (v : List ℕ) × (m ≡ one_message s k v) × (o ≡ Some v)
one_is s k None m there = absurd there
one_is s k (Some v) m (inl same) = (v, sym same, refl)
one_is s k (Some v) m (inr later) = absurd later

-- of messages to some, each to one: who it is to
pub ones_is : (s : Slot) (o : ℕ → Option (List ℕ)) (ks : List ℕ) (m : Msg) → Has (flat_map (λ k. to_one s k (o k)) ks) m
    → (k : ℕ) × Has ks k × (v : List ℕ) × (m ≡ one_message s k v) × (o k ≡ Some v)
ones_is s o [] m there = absurd there
ones_is s o (k ∷ ks) m there =
    elim (has_either (to_one s k (o k)) (flat_map (λ j. to_one s j (o j)) ks) m there) [
      | inl now ↦ let x = one_is s k (o k) m now in (k, inl refl, x.0, x.1, x.2)
      | inr later ↦ let x = ones_is s o ks m later in (x.0, inr x.1, x.2, x.3, x.4)
    ]

pub ones_has : (s : Slot) (o : ℕ → Option (List ℕ)) (ks : List ℕ) (k : ℕ) (v : List ℕ) → Has ks k → o k ≡ Some v → Has (flat_map (λ j. to_one s j (o j)) ks) (one_message s k v)
ones_has s o [] k v there e = absurd there
ones_has s o (j ∷ ks) k v (inl same) e =
    has_left (to_one s j (o j)) (flat_map (λ i. to_one s i (o i)) ks) (one_message s k v)
    (subst (λ (i : ℕ). Has (to_one s i (o i)) (one_message s k v)) (sym same) (subst (λ (x : Option (List ℕ)). Has (to_one s k x) (one_message s k v)) (sym e) (inl refl)))
ones_has s o (j ∷ ks) k v (inr later) e =
    has_right (to_one s j (o j)) (flat_map (λ i. to_one s i (o i)) ks) (one_message s k v) (ones_has s o ks k v later e)

pub due_is : (at : Place) (tags : Tags) (h : List Call) (m : Msg) → Has (due_by_digest at tags h) m → IsDigestDue at tags h m
due_is at tags h m there =
    let inits = to_all at.slot Init (started h) in
    let echoes = to_all at.slot Echo (echo_of tags.digest (first h at.slot.origin Init)) in
    let readies = to_all at.slot Ready (ready_value at.numbers h) in
    let wants = to_all at.slot Want (asked_for (full_of at tags h)) in
    elim (has_either (inits ++ echoes ++ readies ++ wants) (values_due at tags h) m there) [
      | inl a ↦ elim (has_either (inits ++ echoes ++ readies) wants m a) [
        | inl b ↦ elim (has_either (inits ++ echoes) readies m b) [
          | inl c ↦ elim (has_either inits echoes m c) [
            | inl d ↦ let x = all_is at.slot Init (started h) m d in ToAll Init x.0 x.1 x.2 refl
            | inr d ↦ let x = all_is at.slot Echo (echo_of tags.digest (first h at.slot.origin Init)) m d in ToAll Echo x.0 x.1 x.2 refl
          ]
          | inr c ↦ let x = all_is at.slot Ready (ready_value at.numbers h) m c in ToAll Ready x.0 x.1 x.2 refl
        ]
        | inr b ↦ let x = all_is at.slot Want (asked_for (full_of at tags h)) m b in ToAll Want x.0 x.1 x.2 refl
      ]
      | inr a ↦ let x = ones_is at.slot (value_for at tags h) (replicas at.numbers.n) m a in ToOne x.0 x.2 x.1 x.3 x.4
    ]

pub due_all : (at : Place) (tags : Tags) (h : List Call) (kind : Kind) (v : List ℕ) → due_value at tags h kind ≡ Some v → Has (due_by_digest at tags h) (message at.slot kind v)
due_all at tags h kind v e = go kind e
  where
    inits : List Msg
    inits = to_all at.slot Init (started h)

    echoes : List Msg
    echoes = to_all at.slot Echo (echo_of tags.digest (first h at.slot.origin Init))

    readies : List Msg
    readies = to_all at.slot Ready (ready_value at.numbers h)

    wants : List Msg
    wants = to_all at.slot Want (asked_for (full_of at tags h))

    go : (k : Kind) → due_value at tags h k ≡ Some v → Has (due_by_digest at tags h) (message at.slot k v)
    go kinds.Init e =
        has_left (inits ++ echoes ++ readies ++ wants) (values_due at tags h) (message at.slot Init v)
        (has_left (inits ++ echoes ++ readies) wants (message at.slot Init v)
        (has_left (inits ++ echoes) readies (message at.slot Init v)
        (has_left inits echoes (message at.slot Init v) (all_has at.slot Init (started h) v e))))
    go kinds.Echo e =
        has_left (inits ++ echoes ++ readies ++ wants) (values_due at tags h) (message at.slot Echo v)
        (has_left (inits ++ echoes ++ readies) wants (message at.slot Echo v)
        (has_left (inits ++ echoes) readies (message at.slot Echo v)
        (has_right inits echoes (message at.slot Echo v) (all_has at.slot Echo (echo_of tags.digest (first h at.slot.origin Init)) v e))))
    go kinds.Ready e =
        has_left (inits ++ echoes ++ readies ++ wants) (values_due at tags h) (message at.slot Ready v)
        (has_left (inits ++ echoes ++ readies) wants (message at.slot Ready v)
        (has_right (inits ++ echoes) readies (message at.slot Ready v) (all_has at.slot Ready (ready_value at.numbers h) v e)))
    go kinds.Want e =
        has_left (inits ++ echoes ++ readies ++ wants) (values_due at tags h) (message at.slot Want v)
        (has_right (inits ++ echoes ++ readies) wants (message at.slot Want v) (all_has at.slot Want (asked_for (full_of at tags h)) v e))
    go kinds.Send e = absurd (cc)
    go kinds.Hashes e = absurd (cc)
    go kinds.Column e = absurd (cc)
    go kinds.Value e = absurd (cc)

pub due_one : (at : Place) (tags : Tags) (h : List Call) (k : ℕ) (v : List ℕ) → Has (replicas at.numbers.n) k → value_for at tags h k ≡ Some v
    → Has (due_by_digest at tags h) (one_message at.slot k v)
due_one at tags h k v there e =
    has_right
    (to_all at.slot Init (started h) ++ to_all at.slot Echo (echo_of tags.digest (first h at.slot.origin Init))
    ++ to_all at.slot Ready (ready_value at.numbers h) ++ to_all at.slot Want (asked_for (full_of at tags h)))
    (values_due at tags h) (one_message at.slot k v) (ones_has at.slot (value_for at tags h) (replicas at.numbers.n) k v there e)

-- ---- what is due stays

pub known_stays : (at : Place) (tags : Tags) (c : Call) (h : List Call) (d v : List ℕ) → known at tags h d ≡ Some v → known at tags (c ∷ h) d ≡ Some v
known_stays at tags c h d v e = option_or_older (known at tags h d) (if_digest tags d (brought_by at h c)) v e

asked_stays : (o more : Option Full) (v : List ℕ) → asked_for o ≡ Some v → asked_for (option_or o more) ≡ Some v
asked_stays None more v e = absurd (cc)
asked_stays (Some full) more v e = e

pub value_stays : (at : Place) (tags : Tags) (c : Call) (h : List Call) (kind : Kind) (v : List ℕ) → due_value at tags h kind ≡ Some v → due_value at tags (c ∷ h) kind ≡ Some v
value_stays at tags c h kinds.Init v e = first_stays start_of c h v e
value_stays at tags c h kinds.Echo v e = echo_stays tags.digest (first h at.slot.origin Init) (told at.slot.origin Init c) v e
value_stays at tags c h kinds.Ready v e = at_shortest_stays (some_backed at.numbers) (c ∷ []) h v e
value_stays at tags c h kinds.Want v e = asked_stays (full_of at tags h) (full_if at tags (c ∷ h) (some_carried at.numbers (c ∷ h))) v e
value_stays at tags c h kinds.Send v e = absurd (cc)
value_stays at tags c h kinds.Hashes v e = absurd (cc)
value_stays at tags c h kinds.Column v e = absurd (cc)
value_stays at tags c h kinds.Value v e = absurd (cc)

known_of_stays : (at : Place) (tags : Tags) (c : Call) (h : List Call) (o more : Option (List ℕ)) (v : List ℕ) → known_of at tags h o ≡ Some v
    → known_of at tags (c ∷ h) (option_or o more) ≡ Some v
known_of_stays at tags c h None more v e = absurd (cc)
known_of_stays at tags c h (Some d) more v e = known_stays at tags c h d v e

pub value_for_stays : (at : Place) (tags : Tags) (c : Call) (h : List Call) (k : ℕ) (v : List ℕ) → value_for at tags h k ≡ Some v → value_for at tags (c ∷ h) k ≡ Some v
value_for_stays at tags c h k v e = go (k == at.me) e
  where
    go : (b : Bool) → (if b then None else known_of at tags h (first h k Want)) ≡ Some v → (if b then None else known_of at tags (c ∷ h) (first (c ∷ h) k Want)) ≡ Some v
    go true e = absurd (cc)
    go false e = known_of_stays at tags c h (first h k Want) (told k Want c) v e
