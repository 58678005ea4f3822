-- What a call makes newly due in reliable broadcast by digests.
use Rattle.std.specs.Prelude.{◌≡◌, ℕ, true, false, List, [], ◌∷◌, ◌++◌, Option, Some, None, refl}
use Rattle.std.proofs.Common.{sym, ◌∙◌, ap, inl, inr}
use Rattle.std.specs.List.{flat_map}
use Rattle.std.specs.Option.{option_or}
use Rattle.std.proofs.lemmas.Bool.{cond-true, cond-false, not_from_true, not_from_false, false_from_ne_true}
use Rattle.ritas_base.specs.declared.item.Kind.{Kind}
use Rattle.ritas_base.specs.declared.item.Kind.TheVariants.{Init, Echo, Ready, Want}
use Rattle.ritas_base.specs.declared.item.To.TheVariants.{All, One}
use Rattle.ritas_base.specs.declared.item.Msg.{Msg}
use Rattle.ritas_base.specs.declared.slot.Slot.{Slot}
use Rattle.ritas_base.specs.History.{Call, replicas}
use Rattle.ritas_base.specs.Messages.{Place, has, without, to_all}
use Rattle.ritas_base.specs.MessagesLaws.{gained, message, without_append, without_of_kind}
use Rattle.ritas_base.specs.Tags.{Tags}
use Rattle.layer_api.specs.Broadcast.{news}
use Rattle.layer_api.specs.Runs.{Has}
use Rattle.layer_api.specs.HasLaws.{has_listed, listed_has}
use Rattle.reliable_bcast.specs.Digests.{to_one, value_for, values_due, due_by_digest, by_digest, echo_of}
use Rattle.reliable_bcast.specs.Laws.DigestDue.{one_message, same_one, due_value, IsDigestDue, ToAll, ToOne, due_is, due_all, due_one, value_stays, value_for_stays}

-- messages to some, each to one
abbrev pub ones : Slot → (ℕ → Option (List ℕ)) → List ℕ → List Msg
ones s o ks = flat_map (λ k. to_one s k (o k)) ks

-- ---- messages to all

now_is : (was now : Option (List ℕ)) → ((v : List ℕ) → was ≡ Some v → now ≡ Some v) → option_or was now ≡ now
now_is None now stays = refl
now_is (Some v) now stays = sym (stays v refl)

without_kind : (s : Slot) (kind : Kind) (before : List Msg) (was now : Option (List ℕ)) → ((v : List ℕ) → was ≡ Some v → now ≡ Some v)
    → ((m : List ℕ) → was ≡ Some m → has before (message s kind m) ≡ true) → ((m : List ℕ) → was ≡ None → has before (message s kind m) ≡ false)
    → without before (to_all s kind now) ≡ to_all s kind (gained was now)
without_kind s kind before was now stays there missing =
    ap (λ (o : Option (List ℕ)). without before (to_all s kind o)) (sym (now_is was now stays)) ∙ without_of_kind s kind before was now there missing

-- ---- messages to one

without_to_one : (s : Slot) (k : ℕ) (before : List Msg) (was now : Option (List ℕ))
    → ((m : List ℕ) → was ≡ Some m → has before (one_message s k m) ≡ true) → ((m : List ℕ) → was ≡ None → has before (one_message s k m) ≡ false)
    → without before (to_one s k (option_or was now)) ≡ to_one s k (gained was now)
unfolding without
without_to_one s k before None None there missing = refl
without_to_one s k before None (Some m) there missing = cond-true _ _ _ (not_from_false _ (missing m refl))
without_to_one s k before (Some m) now there missing = cond-false _ _ _ (not_from_true _ (there m refl))

joined_two : (x x' y y' : List Msg) → x ≡ x' → y ≡ y' → x ++ y ≡ x' ++ y'
joined_two x x' y y' p q = cc

without_ones : (s : Slot) (before : List Msg) (was now : ℕ → Option (List ℕ)) (ks : List ℕ) → ((k : ℕ) (v : List ℕ) → was k ≡ Some v → now k ≡ Some v)
    → ((k : ℕ) (v : List ℕ) → Has ks k → was k ≡ Some v → has before (one_message s k v) ≡ true)
    → ((k : ℕ) (v : List ℕ) → was k ≡ None → has before (one_message s k v) ≡ false)
    → without before (ones s now ks) ≡ ones s (λ k. gained (was k) (now k)) ks
unfolding without
without_ones s before was now [] stays there missing = refl
without_ones s before was now (k ∷ ks) stays there missing =
    without_append before (to_one s k (now k)) (ones s now ks)
    ∙ joined_two _ _ _ _
    (ap (λ (o : Option (List ℕ)). without before (to_one s k o)) (sym (now_is (was k) (now k) (stays k)))
    ∙ without_to_one s k before (was k) (now k) (λ m e. there k m (inl refl) e) (λ m e. missing k m e))
    (without_ones s before was now ks stays (λ j v in_it e. there j v (inr in_it) e) missing)

-- ---- all that is new

-- what is new with a kind, and for a replica
abbrev pub gain : Place → Tags → List Call → Call → Kind → Option (List ℕ)
gain at tags h c kind = gained (due_value at tags h kind) (due_value at tags (c ∷ h) kind)

abbrev pub gain_for : Place → Tags → List Call → Call → ℕ → Option (List ℕ)
gain_for at tags h c k = gained (value_for at tags h k) (value_for at tags (c ∷ h) k)

abbrev pub digest_parts : Slot → Option (List ℕ) → Option (List ℕ) → Option (List ℕ) → Option (List ℕ) → List Msg → List Msg
digest_parts s a b c d vs = to_all s Init a ++ to_all s Echo b ++ to_all s Ready c ++ to_all s Want d ++ vs

same_some : (o : Option (List ℕ)) (v : List ℕ) → o ≡ None → o ≡ Some v → ⊥
same_some o v a b = let wrong : None ≡ Some v = sym a ∙ b in cc

to_all_differs : (s : Slot) (kind : Kind) (m v : List ℕ) (k : ℕ) → message s kind m ≡ one_message s k v → ⊥
to_all_differs s kind m v k e = let wrong : All ≡ One k = ap (λ (x : Msg). x.to) e in cc

due_missing : (at : Place) (tags : Tags) (h : List Call) (kind : Kind) (m : List ℕ) → due_value at tags h kind ≡ None → has (due_by_digest at tags h) (message at.slot kind m) ≡ false
due_missing at tags h kind m none =
    false_from_ne_true (has (due_by_digest at tags h) (message at.slot kind m))
    (λ t. wrong (due_is at tags h (message at.slot kind m) (has_listed (due_by_digest at tags h) (message at.slot kind m) t)))
  where
    wrong : IsDigestDue at tags h (message at.slot kind m) → ⊥
    wrong (ToAll k v whole is of_form) =
        let same : kind ≡ k = ap (λ (x : Msg). x.kind) whole in
        same_some (due_value at tags h kind) v none (ap (due_value at tags h) same ∙ is)
    wrong (ToOne k v there whole is) = to_all_differs at.slot kind m v k whole

one_missing : (at : Place) (tags : Tags) (h : List Call) (k : ℕ) (m : List ℕ) → value_for at tags h k ≡ None → has (due_by_digest at tags h) (one_message at.slot k m) ≡ false
one_missing at tags h k m none =
    false_from_ne_true (has (due_by_digest at tags h) (one_message at.slot k m))
    (λ t. wrong (due_is at tags h (one_message at.slot k m) (has_listed (due_by_digest at tags h) (one_message at.slot k m) t)))
  where
    wrong : IsDigestDue at tags h (one_message at.slot k m) → ⊥
    wrong (ToAll kind v whole is of_form) = to_all_differs at.slot kind v m k (sym whole)
    wrong (ToOne j v there whole is) =
        let same = same_one k j (ap (λ (x : Msg). x.to) whole) in
        same_some (value_for at tags h k) v none (ap (value_for at tags h) same ∙ is)

joined_five : (x x' y y' z z' w w' v v' : List Msg) → x ≡ x' → y ≡ y' → z ≡ z' → w ≡ w' → v ≡ v' → x ++ y ++ z ++ w ++ v ≡ x' ++ y' ++ z' ++ w' ++ v'
joined_five x x' y y' z z' w w' v v' a b c d e = cc

without_five : (before x y z w v : List Msg)
    → without before (x ++ y ++ z ++ w ++ v) ≡ without before x ++ without before y ++ without before z ++ without before w ++ without before v
without_five before x y z w v =
    without_append before (x ++ y ++ z ++ w) v
    ∙ ap (λ (l : List Msg). l ++ without before v)
    (without_append before (x ++ y ++ z) w
    ∙ ap (λ (l : List Msg). l ++ without before w)
    (without_append before (x ++ y) z ∙ ap (λ (l : List Msg). l ++ without before z) (without_append before x y)))

pub news_is : (at : Place) (tags : Tags) (h : List Call) (c : Call)
    → news by_digest at tags h c
    ≡ digest_parts at.slot (gain at tags h c Init) (gain at tags h c Echo) (gain at tags h c Ready) (gain at tags h c Want) (ones at.slot (gain_for at tags h c) (replicas at.numbers.n))
news_is at tags h c =
    let before = due_by_digest at tags h in
    let of_kind : (kind : Kind) → without before (to_all at.slot kind (due_value at tags (c ∷ h) kind)) ≡ to_all at.slot kind (gain at tags h c kind) =
    λ kind. without_kind at.slot kind before (due_value at tags h kind) (due_value at tags (c ∷ h) kind) (λ v e. value_stays at tags c h kind v e)
    (λ m e. listed_has before (message at.slot kind m) (due_all at tags h kind m e)) (λ m e. due_missing at tags h kind m e) in
    without_five before (to_all at.slot Init (due_value at tags (c ∷ h) Init)) (to_all at.slot Echo (due_value at tags (c ∷ h) Echo)) (to_all at.slot Ready (due_value at tags (c ∷ h) Ready))
    (to_all at.slot Want (due_value at tags (c ∷ h) Want)) (values_due at tags (c ∷ h))
    ∙ joined_five _ _ _ _ _ _ _ _ _ _ (of_kind Init) (of_kind Echo) (of_kind Ready) (of_kind Want)
    (without_ones at.slot before (value_for at tags h) (value_for at tags (c ∷ h)) (replicas at.numbers.n) (λ k v e. value_for_stays at tags c h k v e)
    (λ k v in_it e. listed_has before (one_message at.slot k v) (due_one at tags h k v in_it e)) (λ k v e. one_missing at tags h k v e))

-- ---- what is gained

-- what there was is not gained
pub gained_or : (o more : Option (List ℕ)) → gained o (option_or o more) ≡ gained o more
gained_or None more = refl
gained_or (Some v) more = refl

pub gained_itself : (o : Option (List ℕ)) → gained o o ≡ None
gained_itself None = refl
gained_itself (Some v) = refl

pub gained_echo : (make : List ℕ → List ℕ) (o more : Option (List ℕ)) → gained (echo_of make o) (echo_of make (option_or o more)) ≡ gained (echo_of make o) (echo_of make more)
gained_echo make None more = refl
gained_echo make (Some v) more = refl

pub no_ones : (s : Slot) (o : ℕ → Option (List ℕ)) (ks : List ℕ) → ((k : ℕ) → o k ≡ None) → ones s o ks ≡ []
no_ones s o [] none = refl
no_ones s o (k ∷ ks) none = ap (λ (x : Option (List ℕ)). to_one s k x ++ ones s o ks) (none k) ∙ no_ones s o ks none

pub ones_alike : (s : Slot) (o u : ℕ → Option (List ℕ)) (ks : List ℕ) → ((k : ℕ) → Has ks k → o k ≡ u k) → ones s o ks ≡ ones s u ks
ones_alike s o u [] same = refl
ones_alike s o u (k ∷ ks) same =
    ap (λ (x : Option (List ℕ)). to_one s k x ++ ones s o ks) (same k (inl refl)) ∙ ap (λ (l : List Msg). to_one s k (u k) ++ l) (ones_alike s o u ks (λ j there. same j (inr there)))

pub same_parts : (s : Slot) (a a' b b' c c' d d' : Option (List ℕ)) (v v' : List Msg) → a ≡ a' → b ≡ b' → c ≡ c' → d ≡ d' → v ≡ v' → digest_parts s a b c d v ≡ digest_parts s a' b' c' d' v'
same_parts s a a' b b' c c' d d' v v' p q r t u = cc
