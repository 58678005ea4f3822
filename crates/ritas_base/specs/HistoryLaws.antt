-- What one more call does to the words of `History`.
use Rattle.std.specs.Prelude.{◌≡◌, ℕ, ◌<◌, ◌≤◌, ◌⊎◌, Bool, true, false, ◌==◌, ◌&&◌, List, [], ◌∷◌, Option, Some, None, cond, count_by, length, refl}
use Rattle.std.proofs.Common.{sym, ◌∙◌, ap, subst, inl, inr, arith, set, get_or, get_or-set_same, get_or-set_other, length-set, zero, suc}
use Rattle.std.specs.List.{find}
use Rattle.std.specs.Option.{option_or}
use Rattle.std.specs.Str.{bytes_eq}
use Rattle.std.proofs.lemmas.Bool.{eq-eqb, ne_eqb, cases_eq, cases_Bool, both_ways, eqb-true, and_parts, cond-true, cond-false, and_from, and_left, and_right}
use Rattle.std.proofs.lemmas.Slice.Eq.{bytes_eq-Decides}
use Rattle.std.proofs.lemmas.List.FromFn.{fill_by_all, length-map-range_with_len, get_or-map-range_with_len}
use Rattle.std.proofs.lemmas.Option.{none-some, cond_some}
use Rattle.ritas_base.specs.declared.item.Kind.{Kind}
use Rattle.ritas_base.specs.declared.item.Kind.TheVariants as kinds
use Rattle.ritas_base.specs.declared.item.Item.{Item}
use Rattle.ritas_base.specs.Messages.{kind_rank, kind_eq}
use Rattle.ritas_base.specs.Shortest.{option_or_none, option_or_some, option_or_older}
use Rattle.ritas_base.specs.Quorums.{map_same, count_by-map, count_same, count_none, count_more}
use Rattle.ritas_base.specs.History.{Call, Start, Take, told, first_of_calls, first, firsts, replicas, is_value, voters, values}

-- ---- kinds

kind_of_rank : ℕ → Kind
kind_of_rank zero = kinds.Init
kind_of_rank (suc zero) = kinds.Echo
kind_of_rank (suc (suc zero)) = kinds.Ready
kind_of_rank (suc (suc (suc zero))) = kinds.Send
kind_of_rank (suc (suc (suc (suc zero)))) = kinds.Hashes
kind_of_rank (suc (suc (suc (suc (suc zero))))) = kinds.Column
kind_of_rank (suc (suc (suc (suc (suc (suc zero)))))) = kinds.Want
kind_of_rank _ = kinds.Value

kind_back : (a : Kind) → kind_of_rank (kind_rank a) ≡ a
unfolding kind_of_rank
kind_back kinds.Init = refl
kind_back kinds.Echo = refl
kind_back kinds.Ready = refl
kind_back kinds.Send = refl
kind_back kinds.Hashes = refl
kind_back kinds.Column = refl
kind_back kinds.Want = refl
kind_back kinds.Value = refl

-- kinds of one rank are one
pub same_rank : (a b : Kind) → kind_rank a ≡ kind_rank b → a ≡ b
same_rank a b e = sym (kind_back a) ∙ (ap kind_of_rank e ∙ kind_back b)

pub kind_eq_is : (a b : Kind) → kind_eq a b ≡ true → a ≡ b
kind_eq_is a b e = same_rank a b (eqb-true (kind_rank a) (kind_rank b) e)

-- ---- first values

-- what was first stays so
pub first_stays : {A : Type 0} (g : Call → Option A) (c : Call) (h : List Call) (m : A) → first_of_calls g h ≡ Some m → first_of_calls g (c ∷ h) ≡ Some m
first_stays g c h m e = option_or_older (first_of_calls g h) (g c) m e

pub told_mine : (kind : Kind) (i : Item) → kind_eq i.kind kind ≡ true → told i.from kind (Take i) ≡ Some i.value
told_mine kind i e = cond-true _ _ _ (and_from (i.from == i.from) _ (eq-eqb i.from i.from refl) e)

pub told_not_by : (k : ℕ) (kind : Kind) (i : Item) → (i.from ≡ k → ⊥) → told k kind (Take i) ≡ None
told_not_by k kind i ne = cond-false _ _ _ (and_left (i.from == k) _ (ne_eqb i.from k ne))

pub told_not_this : (k : ℕ) (kind : Kind) (i : Item) → kind_eq i.kind kind ≡ false → told k kind (Take i) ≡ None
told_not_this k kind i e = cond-false _ _ _ (and_right (i.from == k) _ e)

-- the item that tells this value
pub record IsToldBy (k : ℕ) (kind : Kind) (c : Call) (m : List ℕ) : Type 0 where
  pub item : Item
  pub call : c ≡ Take item
  pub from : item.from ≡ k
  pub kind_is : item.kind ≡ kind
  pub value : item.value ≡ m

-- the item is of this kind, from k, and of this value
pub told_item : (k : ℕ) (kind : Kind) (i : Item) (m : List ℕ) → told k kind (Take i) ≡ Some m → (i.from ≡ k) × (i.kind ≡ kind) × (i.value ≡ m)
told_item k kind i m e =
    let parts = cond_some ((i.from == k) && kind_eq i.kind kind) i.value m e in
    let both = and_parts (i.from == k) (kind_eq i.kind kind) parts.0 in
    (eqb-true i.from k both.0, kind_eq_is i.kind kind both.1, parts.1)

pub told_by : (k : ℕ) (kind : Kind) (c : Call) (m : List ℕ) → told k kind c ≡ Some m → IsToldBy k kind c m
told_by k kind (Start v) m e = absurd (none-some m e)
told_by k kind (Take i) m e =
    let parts = told_item k kind i m e in record { item = i; call = refl; from = parts.0; kind_is = parts.1; value = parts.2 }

-- a first value is an older one, or the newest call tells it
pub first_cases : (c : Call) (h : List Call) (k : ℕ) (kind : Kind) (m : List ℕ) → first (c ∷ h) k kind ≡ Some m
    → (first h k kind ≡ Some m) ⊎ IsToldBy k kind c m
first_cases c h k kind m e =
    elim (option_or_some (first h k kind) (told k kind c) m e) [ inl older ↦ inl older | inr now ↦ inr (told_by k kind c m now.1) ]

-- ---- the first value from each replica

-- a call that tells no value of this kind
pub firsts_same : (n : ℕ) (h : List Call) (kind : Kind) (c : Call) → ((k : ℕ) → told k kind c ≡ None) → firsts n (c ∷ h) kind ≡ firsts n h kind
firsts_same n h kind c t =
    map_same (λ k. first (c ∷ h) k kind) (λ k. first h k kind)
    (λ k. ap (option_or (first h k kind)) (t k) ∙ option_or_none (first h k kind)) (replicas n)

pub length-firsts : (n : ℕ) (h : List Call) (kind : Kind) → length (firsts n h kind) ≡ n
length-firsts n h kind = length-map-range_with_len (λ k. first h k kind) 0 n

pub firsts_at : (n : ℕ) (h : List Call) (kind : Kind) (k : ℕ) → k < n → get_or (firsts n h kind) k None ≡ first h k kind
firsts_at n h kind k lt = get_or-map-range_with_len (λ k. first h k kind) 0 n k k None lt (omega arith)

first_after_vote : (n : ℕ) (h : List Call) (kind : Kind) (i : Item) → kind_eq i.kind kind ≡ true → first h i.from kind ≡ None → i.from < n
    → (k : ℕ) → k < n → get_or (set (firsts n h kind) i.from (Some i.value)) k None ≡ first (Take i ∷ h) k kind
first_after_vote n h kind i e new within k lt =
    elim (cases_eq k i.from) [
      | inl same ↦
          let inside : i.from < length (firsts n h kind) = subst (λ x. i.from < x) (sym (length-firsts n h kind)) within in
          ap (λ x. get_or (set (firsts n h kind) i.from (Some i.value)) x None) same
          ∙ (get_or-set_same (firsts n h kind) i.from (Some i.value) None inside
          ∙ sym (ap (λ x. first (Take i ∷ h) x kind) same
          ∙ (ap (λ o. option_or o (told i.from kind (Take i))) new ∙ told_mine kind i e)))
      | inr other ↦
          get_or-set_other (firsts n h kind) i.from k (Some i.value) None other
          ∙ (firsts_at n h kind k lt
          ∙ sym (ap (option_or (first h k kind)) (told_not_by k kind i (λ s. other (sym s))) ∙ option_or_none (first h k kind)))
    ]

-- the first item of this kind from a sender
pub firsts_vote : (n : ℕ) (h : List Call) (kind : Kind) (i : Item) → kind_eq i.kind kind ≡ true → first h i.from kind ≡ None → i.from < n
    → firsts n (Take i ∷ h) kind ≡ set (firsts n h kind) i.from (Some i.value)
firsts_vote n h kind i e new within =
    sym (fill_by_all (λ k. first (Take i ∷ h) k kind) (set (firsts n h kind) i.from (Some i.value)) n None
    (length-set (firsts n h kind) i.from (Some i.value) ∙ length-firsts n h kind)
    (first_after_vote n h kind i e new within))

-- ---- voters

pub is_value_is : (m : List ℕ) (o : Option (List ℕ)) → is_value m o ≡ true → o ≡ Some m
is_value_is m None e = absurd (cc)
is_value_is m (Some v) e = ap Some ((bytes_eq-Decides v m).0 e)

pub is_value_at : (m : List ℕ) (o : Option (List ℕ)) → o ≡ Some m → is_value m o ≡ true
is_value_at m o e = ap (is_value m) e ∙ (bytes_eq-Decides m m).1 refl

-- the voters, as a count over the replicas
pub voters_are : (n : ℕ) (h : List Call) (kind : Kind) (m : List ℕ) → voters n h kind m ≡ count_by (λ k. is_value m (first h k kind)) (replicas n)
voters_are n h kind m = count_by-map (is_value m) (λ k. first h k kind) (replicas n)

-- a value that no one voted for has no voters
pub voters_none : (n : ℕ) (h : List Call) (kind : Kind) (m : List ℕ) → ((k : ℕ) → first h k kind ≡ Some m → ⊥) → voters n h kind m ≡ 0
voters_none n h kind m nobody =
    voters_are n h kind m
    ∙ count_none (λ k. is_value m (first h k kind)) (replicas n) (λ k e. nobody k (is_value_is m (first h k kind) e))

-- a call that tells no value of this kind
pub voters_same : (n : ℕ) (h : List Call) (kind : Kind) (c : Call) → ((k : ℕ) → told k kind c ≡ None) → (m : List ℕ) → voters n (c ∷ h) kind m ≡ voters n h kind m
voters_same n h kind c t m = ap (count_by (is_value m)) (firsts_same n h kind c t)

told_other : (w v : List ℕ) (o : Option (List ℕ)) (b : Bool) → (w ≡ v → ⊥) → is_value w (option_or o (cond b (Some v) None)) ≡ is_value w o
told_other w v (Some x) b ne = refl
told_other w v None false ne = refl
told_other w v None true ne =
    elim (cases_Bool (bytes_eq v w)) [ inl e ↦ absurd (ne (sym ((bytes_eq-Decides v w).0 e))) | inr e ↦ e ]

-- no item changes the votes for another value, whoever sends it and however often
pub voters_kept : (n : ℕ) (h : List Call) (kind : Kind) (i : Item) (w : List ℕ) → (w ≡ i.value → ⊥) → voters n (Take i ∷ h) kind w ≡ voters n h kind w
voters_kept n h kind i w ne =
    voters_are n (Take i ∷ h) kind w
    ∙ (count_same (λ k. is_value w (first (Take i ∷ h) k kind)) (λ k. is_value w (first h k kind))
    (λ k. told_other w i.value (first h k kind) ((i.from == k) && kind_eq i.kind kind) ne) (replicas n)
    ∙ sym (voters_are n h kind w))

-- votes stay
pub voters_stay : (n : ℕ) (c : Call) (h : List Call) (kind : Kind) (m : List ℕ) → voters n h kind m ≤ voters n (c ∷ h) kind m
voters_stay n c h kind m =
    let before = voters_are n h kind m in
    let after = voters_are n (c ∷ h) kind m in
    let grows = count_more (λ k. is_value m (first h k kind)) (λ k. is_value m (first (c ∷ h) k kind))
    (λ k t. is_value_at m (first (c ∷ h) k kind) (first_stays (told k kind) c h m (is_value_is m (first h k kind) t))) (replicas n) in
    omega (arith, before, after, grows)

-- ---- a value that passes a test, among the values of all items

find_parts : (p : List ℕ → Bool) (v : List ℕ) (vs : List (List ℕ)) → find p (v ∷ vs) ≡ None → (p v ≡ false) × (find p vs ≡ None)
find_parts p v vs e =
    elim (cases_Bool (p v)) [
      | inl t ↦ absurd (none-some v (sym e ∙ cond-true (p v) (Some v) (find p vs) t))
      | inr f ↦ (f, sym (cond-false (p v) (Some v) (find p vs) f) ∙ e)
    ]

-- where no value passes, no first value does
pub first_fails : (p : List ℕ → Bool) (h : List Call) → find p (values h) ≡ None → (k : ℕ) (kind : Kind) (m : List ℕ) → first h k kind ≡ Some m → p m ≡ false
first_fails p [] none k kind m e = absurd (none-some m e)
first_fails p (Start v ∷ h) none k kind m e = first_fails p h none k kind m (sym (option_or_none (first h k kind)) ∙ e)
first_fails p (Take i ∷ h) none k kind m e =
    let parts = find_parts p i.value (values h) none in
    elim (option_or_some (first h k kind) (told k kind (Take i)) m e) [
      | inl older ↦ first_fails p h parts.1 k kind m older
      | inr now ↦ subst (λ (v : List ℕ). p v ≡ false) (cond_some _ i.value m now.1).1 parts.0
    ]

pub find_passes : (p : List ℕ → Bool) (vs : List (List ℕ)) (v : List ℕ) → find p vs ≡ Some v → p v ≡ true
find_passes p [] v e = absurd (none-some v e)
find_passes p (w ∷ vs) v e =
    elim (cases_Bool (p w)) [
      | inl t ↦ let same : w ≡ v = (cond_some true w v (sym (ap (λ (b : Bool). cond b (Some w) (find p vs)) t) ∙ e)).1 in subst (λ (x : List ℕ). p x ≡ true) same t
      | inr f ↦ find_passes p vs v (sym (cond-false (p w) (Some w) (find p vs) f) ∙ e)
    ]

pub find_none : (p : List ℕ → Bool) (vs : List (List ℕ)) → ((w : List ℕ) → p w ≡ false) → find p vs ≡ None
find_none p [] none = refl
find_none p (v ∷ vs) none = cond-false (p v) (Some v) (find p vs) (none v) ∙ find_none p vs none

-- a test that changes at one value alone, and fails there
find_still_none : (p q : List ℕ → Bool) (m : List ℕ) → ((w : List ℕ) → (w ≡ m → ⊥) → q w ≡ p w) → q m ≡ false
    → (vs : List (List ℕ)) → find p vs ≡ None → find q vs ≡ None
find_still_none p q m same fails [] none = refl
find_still_none p q m same fails (v ∷ vs) none =
    let parts = find_parts p v vs none in
    let not_here : q v ≡ false = elim (cases_Bool (bytes_eq v m)) [
      | inl e ↦ ap q ((bytes_eq-Decides v m).0 e) ∙ fails
      | inr e ↦ same v (λ s. both_ways (bytes_eq v m) e ((bytes_eq-Decides v m).1 s)) ∙ parts.0
    ] in
    cond-false (q v) (Some v) (find q vs) not_here ∙ find_still_none p q m same fails vs parts.1

-- a test that changes at the newest value alone
pub find_newest : (p q : List ℕ → Bool) (m : List ℕ) → ((w : List ℕ) → (w ≡ m → ⊥) → q w ≡ p w)
    → (vs : List (List ℕ)) → find p vs ≡ None → find q (m ∷ vs) ≡ cond (q m) (Some m) None
find_newest p q m same vs none =
    elim (cases_Bool (q m)) [
      | inl t ↦ cond-true (q m) (Some m) (find q vs) t ∙ sym (cond-true (q m) (Some m) None t)
      | inr f ↦ cond-false (q m) (Some m) (find q vs) f ∙ (find_still_none p q m same f vs none ∙ sym (cond-false (q m) (Some m) None f))
    ]
