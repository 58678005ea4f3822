-- Messages that compare alike are one; what one list of messages has beyond another.
use Rattle.std.specs.Prelude.{◌≡◌, ℕ, Bool, true, false, not, ◌&&◌, ◌||◌, List, [], ◌∷◌, ◌++◌, Option, Some, None, is_some, filter, cond, refl}
use Rattle.std.proofs.Common.{sym, ◌∙◌, ap, inl, inr, zero, suc}
use Rattle.std.specs.Option.{option_or}
use Rattle.std.specs.declared.cmp.Ordering.{Ordering}
use Rattle.std.specs.Ordering.{nat_cmp, ordering_then}
use Rattle.std.specs.Cmp.Lexicographic.{slice_cmp}
use Rattle.std.proofs.lemmas.Bool.{both_ways, eq-eqb, false_from_ne_true, or_cases, or_left, or_right, or_from, cond-true, cond-false, not_from_true, not_from_false}
use Rattle.std.proofs.lemmas.List.Folds.{list_any-append}
use Rattle.std.proofs.lemmas.List.Elements.{filter-append}
use Rattle.std.proofs.lemmas.Cmp.{tied_itself}
use Rattle.std.proofs.lemmas.Map.Lookups.{CmpEqualImpliesEq, exact_pairs, exact_unsigned, exact_bytes}
use Rattle.std.proofs.lemmas.Map.Views.{tells_apart}
use Rattle.std.specs.Ordering.{is_eq}
use Rattle.ritas_base.specs.declared.item.Kind.{Kind}
use Rattle.ritas_base.specs.declared.item.To.{To}
use Rattle.ritas_base.specs.declared.item.To.TheVariants as receivers
use Rattle.ritas_base.specs.declared.item.Msg.{Msg}
use Rattle.ritas_base.specs.declared.slot.Slot.{Slot}
use Rattle.ritas_base.specs.SlotOrder.{slot_cmp, exact_slots}
use Rattle.ritas_base.specs.Messages.{kind_rank, kind_eq, to_rank, msg_cmp, msg_eq, messages_total, has, without, to_all}
use Rattle.ritas_base.specs.HistoryLaws.{same_rank}

-- ---- messages that compare alike are one

receiver_of_rank : ℕ → To
receiver_of_rank zero = receivers.All
receiver_of_rank (suc k) = receivers.One k

receiver_back : (a : To) → receiver_of_rank (to_rank a) ≡ a
unfolding receiver_of_rank
receiver_back receivers.All = refl
receiver_back (receivers.One k) = refl

-- receivers of one rank are one
pub same_receiver : (a b : To) → to_rank a ≡ to_rank b → a ≡ b
same_receiver a b e = sym (receiver_back a) ∙ (ap receiver_of_rank e ∙ receiver_back b)

abbrev kind_cmp : Kind → Kind → Ordering
kind_cmp a b = nat_cmp (kind_rank a) (kind_rank b)

abbrev to_cmp : To → To → Ordering
to_cmp a b = nat_cmp (to_rank a) (to_rank b)

exact_kinds : CmpEqualImpliesEq kind_cmp
exact_kinds a b e = same_rank a b (exact_unsigned (kind_rank a) (kind_rank b) e)

exact_receivers : CmpEqualImpliesEq to_cmp
exact_receivers a b e = same_receiver a b (exact_unsigned (to_rank a) (to_rank b) e)

abbrev Two : Type 0
Two = To × List ℕ

abbrev Three : Type 0
Three = Kind × Two

abbrev Four : Type 0
Four = Slot × Three

abbrev cmp2 : Two → Two → Ordering
cmp2 x y = ordering_then (to_cmp x.0 y.0) (slice_cmp nat_cmp x.1 y.1)

abbrev cmp3 : Three → Three → Ordering
cmp3 x y = ordering_then (kind_cmp x.0 y.0) (cmp2 x.1 y.1)

abbrev as_four : Msg → Four
as_four m = (m.slot, (m.kind, (m.to, m.value)))

abbrev as_msg : Four → Msg
as_msg x = record { to = x.1.1.0; kind = x.1.0; slot = x.0; value = x.1.1.1 }

pub exact_messages : CmpEqualImpliesEq msg_cmp
unfolding msg_cmp
exact_messages a b h = ap as_msg
    (exact_pairs slot_cmp cmp3 exact_slots
    (exact_pairs kind_cmp cmp2 exact_kinds
    (exact_pairs to_cmp (slice_cmp nat_cmp) exact_receivers exact_bytes)) (as_four a) (as_four b) h)

pub same_message : (a b : Msg) → msg_eq a b ≡ true → a ≡ b
same_message a b e = tells_apart exact_messages a b e

pub message_itself : (a : Msg) → msg_eq a a ≡ true
message_itself a = ap is_eq (tied_itself messages_total a)

pub other_message : (a b : Msg) → (a ≡ b → ⊥) → msg_eq a b ≡ false
other_message a b ne = false_from_ne_true (msg_eq a b) (λ t. ne (same_message a b t))

-- ---- a message among others

pub has_append : (xs ys : List Msg) (m : Msg) → has (xs ++ ys) m ≡ (has xs m || has ys m)
has_append xs ys m = list_any-append (msg_eq m) xs ys

abbrev pub message : Slot → Kind → List ℕ → Msg
message s kind m = record { to = receivers.All; kind = kind; slot = s; value = m }

-- a message to all of this kind is that of the value
pub to_all_has : (s : Slot) (kind : Kind) (o : Option (List ℕ)) (x : Msg) → has (to_all s kind o) x ≡ true
    → (x ≡ message s kind x.value) × (o ≡ Some x.value)
to_all_has s kind None x e = absurd (cc)
to_all_has s kind (Some v) x e =
    elim (or_cases (msg_eq x (message s kind v)) false e) [
      | inl t ↦
          let same = same_message x (message s kind v) t in
          let value : x.value ≡ v = ap (λ (y : Msg). y.value) same in
          (same ∙ ap (message s kind) (sym value), ap Some (sym value))
      | inr f ↦ absurd (both_ways false refl f)
    ]

pub to_all_itself : (s : Slot) (kind : Kind) (o : Option (List ℕ)) (m : List ℕ) → o ≡ Some m → has (to_all s kind o) (message s kind m) ≡ true
to_all_itself s kind o m e =
    ap (λ x. has (to_all s kind x) (message s kind m)) e ∙ or_left (msg_eq (message s kind m) (message s kind m)) false (message_itself (message s kind m))

-- nothing of another kind is among them
pub to_all_other_kind : (s : Slot) (kind : Kind) (o : Option (List ℕ)) (x : Msg) → kind_eq x.kind kind ≡ false → has (to_all s kind o) x ≡ false
to_all_other_kind s kind None x e = refl
to_all_other_kind s kind (Some v) x e =
    or_from _ _ (other_message x (message s kind v) (λ same. both_ways (kind_eq x.kind kind) e (ap (λ (y : Msg). kind_eq x.kind y.kind) (sym same) ∙ kind_itself x.kind))) refl
  where
    kind_itself : (k : Kind) → kind_eq k k ≡ true
    kind_itself k = eq-eqb (kind_rank k) (kind_rank k) refl

-- what is due with a value that stays is due then too
pub to_all_stays : (s : Slot) (kind : Kind) (o u : Option (List ℕ)) (x : Msg) → ((v : List ℕ) → o ≡ Some v → u ≡ Some v)
    → has (to_all s kind o) x ≡ true → has (to_all s kind u) x ≡ true
to_all_stays s kind None u x stays e = absurd (cc)
to_all_stays s kind (Some v) u x stays e = ap (λ y. has (to_all s kind y) x) (stays v refl) ∙ e

-- ---- what one list has beyond another

pub without_append : (before xs ys : List Msg) → without before (xs ++ ys) ≡ without before xs ++ without before ys
unfolding without
without_append before xs ys = filter-append (λ m. not (has before m)) xs ys

-- nothing, where all of it was there
pub without_nothing : (before xs : List Msg) → ((m : Msg) → has xs m ≡ true → has before m ≡ true) → without before xs ≡ []
unfolding without
without_nothing before [] there = refl
without_nothing before (x ∷ xs) there =
    cond-false (not (has before x)) (x ∷ filter (λ m. not (has before m)) xs) (filter (λ m. not (has before m)) xs)
    (not_from_true (has before x) (there x (or_left (msg_eq x x) (has xs x) (message_itself x))))
    ∙ without_nothing before xs (λ m e. there m (or_right (msg_eq m x) (has xs m) e))

-- all of it, where none of it was there
pub without_all : (before xs : List Msg) → ((m : Msg) → has xs m ≡ true → has before m ≡ false) → without before xs ≡ xs
unfolding without
without_all before [] missing = refl
without_all before (x ∷ xs) missing =
    cond-true (not (has before x)) (x ∷ filter (λ m. not (has before m)) xs) (filter (λ m. not (has before m)) xs)
    (not_from_false (has before x) (missing x (or_left (msg_eq x x) (has xs x) (message_itself x))))
    ∙ ap (λ (ys : List Msg). x ∷ ys) (without_all before xs (λ m e. missing m (or_right (msg_eq m x) (has xs m) e)))

-- a value that there is now and that there was not
abbrev pub gained : {A : Type 0} → Option A → Option A → Option A
gained None now = now
gained (Some m) now = None

pub gained_none : {A : Type 0} (o : Option A) → gained o None ≡ None
gained_none None = refl
gained_none (Some m) = refl

pub gained_if : {A : Type 0} (o : Option A) (b : Bool) (m : A) → gained o (cond b (Some m) None) ≡ cond (not (is_some o) && b) (Some m) None
gained_if None b m = refl
gained_if (Some v) b m = refl

-- of the messages to all of one kind, the one whose value is gained is new
pub without_of_kind : (s : Slot) (kind : Kind) (before : List Msg) (was now : Option (List ℕ))
    → ((m : List ℕ) → was ≡ Some m → has before (message s kind m) ≡ true)
    → ((m : List ℕ) → was ≡ None → has before (message s kind m) ≡ false)
    → without before (to_all s kind (option_or was now)) ≡ to_all s kind (gained was now)
unfolding without
without_of_kind s kind before None None there missing = refl
without_of_kind s kind before None (Some m) there missing = cond-true _ _ _ (not_from_false _ (missing m refl))
without_of_kind s kind before (Some m) now there missing = cond-false _ _ _ (not_from_true _ (there m refl))
