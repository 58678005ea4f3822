-- The least value of the entries that pass is the least of all values that pass.
use Rattle.std.specs.Prelude.{◌≡◌, ◌⊎◌, ℕ, zero, suc, ◌+◌, ◌≤◌, ◌<◌, Bool, true, false, nat_le, List, [], ◌∷◌, count_by, Option, Some, None, length, if◌then◌else◌, refl}
use Rattle.std.specs.List.{slice_get, range_with_len}
use Rattle.std.proofs.Common.{Ordering, Less, Equal, Greater}
use Rattle.std.specs.Ordering.{nat_cmp, is_lt, is_eq, ordering_reverse}
use Rattle.std.specs.Cmp.Lexicographic.{slice_cmp}
use Rattle.std.proofs.Common.{sym, ◌∙◌, ap, subst, inl, inr, arith}
use Rattle.std.proofs.lemmas.Cmp.{nat_list_cmp_total}
use Rattle.std.proofs.lemmas.Map.Text.{is_eq-slice_cmp}
use Rattle.std.proofs.lemmas.Bool.{cases_lt, both_ways, false_from_ne_true, leb-true}
use Rattle.std.proofs.lemmas.Option.{same_Some, slice_get_within}
use Rattle.std.proofs.lemmas.Slice.Eq.{bytes_eq-Decides}
use Rattle.ritas_base.specs.Members.{has_member, member_count}
use Rattle.ritas_base.specs.History.{replicas, is_value}
use Rattle.ritas_base.specs.Quorums.{some_member}
use Rattle.ritas_base.specs.Places.{push, listed}
use Rattle.multivalued.specs.Consensus.{lesser, least}
use Rattle.multivalued.specs.Places.{count_of_set}
use Rattle.multivalued.specs.Entries.{HasEntry}
use Rattle.multivalued.specs.Least.{is_less, LeastTo, IsLesser, ValueOf}
use Rattle.multivalued.specs.declared.entry.Entry.{Entry}

-- ---- the order

cmp : List ℕ → List ℕ → Ordering
cmp u v = slice_cmp nat_cmp u v

not_less_self : (u : List ℕ) → is_less u u ≡ false
not_less_self u = go (slice_cmp nat_cmp u u) refl (nat_list_cmp_total.antisymm u u)
  where
    go : (o : Ordering) → slice_cmp nat_cmp u u ≡ o → slice_cmp nat_cmp u u ≡ ordering_reverse (slice_cmp nat_cmp u u) → is_lt (slice_cmp nat_cmp u u) ≡ false
    go Less e r = absurd (clash (sym e ∙ (r ∙ ap ordering_reverse e)))
      where
        clash : Less ≡ Greater → ⊥
        clash e = cc
    go Equal e r = ap is_lt e
    go Greater e r = ap is_lt e

less_is : (o : Ordering) → is_lt o ≡ true → o ≡ Less
less_is Less e = refl
less_is Equal e = absurd cc
less_is Greater e = absurd cc

less_more : (u v w : List ℕ) → is_less u v ≡ true → is_less v w ≡ true → is_less u w ≡ true
less_more u v w a b = ap is_lt (nat_list_cmp_total.trans u v w (less_is _ a) (less_is _ b))

neither : (u v : List ℕ) → is_less u v ≡ false → is_less v u ≡ false → u ≡ v
neither u v a b = go (slice_cmp nat_cmp u v) refl
  where
    go : (o : Ordering) → slice_cmp nat_cmp u v ≡ o → u ≡ v
    go Less e = absurd (both_ways (is_less u v) a (ap is_lt e))
    go Equal e = (bytes_eq-Decides u v).0 (sym (is_eq-slice_cmp u v) ∙ ap is_eq e)
    go Greater e = absurd (both_ways (is_less v u) b (ap is_lt (nat_list_cmp_total.antisymm v u ∙ ap ordering_reverse e)))

-- ---- the scan

cases_last : (j k : ℕ) → j < k + 1 → (j < k) ⊎ (j ≡ k)
cases_last j k l = elim (cases_lt j k) [ inl m ↦ inl m | inr g ↦ inr (omega (arith, l, g)) ]

module _ (test : Entry → Bool) (es : List Entry) (k : ℕ) (x : Entry) (is : slice_get es k ≡ Some x) (within : k < length es) where
  pub next_fails : (best : Option ℕ) → test x ≡ false → LeastTo test es k best → LeastTo test es (k + 1) best
  next_fails None f h = λ j d l q. elim (cases_last j k l) [ inl m ↦ h j d m q | inr m ↦ ap test (same_Some d x (sym q ∙ (ap (slice_get es) m ∙ is))) ∙ f ]
  next_fails (Some i) f h = (
    h.0,
    (
      h.1.0,
      h.1.1,
      h.1.2,
      λ j d l q t. elim (cases_last j k l) [
        | inl m ↦ h.1.3 j d m q t
        | inr m ↦ absurd (both_ways (test x) f (ap test (sym (same_Some d x (sym q ∙ (ap (slice_get es) m ∙ is)))) ∙ t))
      ],
    ),
  )

  pub next_first : test x ≡ true → LeastTo test es k None → LeastTo test es (k + 1) (Some k)
  next_first p h = (
    within,
    (
      x,
      is,
      p,
      λ j d l q t. elim (cases_last j k l) [
        | inl m ↦ absurd (both_ways (test d) (h j d m q) t)
        | inr m ↦ ap (λ (y : Entry). is_less y.value x.value) (same_Some d x (sym q ∙ (ap (slice_get es) m ∙ is))) ∙ not_less_self x.value
      ],
    ),
  )

  pub next_stays : (i : ℕ) (e : Entry) → slice_get es i ≡ Some e → is_less x.value e.value ≡ false → LeastTo test es k (Some i) → LeastTo test es (k + 1) (Some i)
  next_stays i e at f h =
      let same : h.1.0 ≡ e = same_Some h.1.0 e (sym h.1.1 ∙ at) in (
        h.0,
        (
          h.1.0,
          h.1.1,
          h.1.2,
          λ j d l q t. elim (cases_last j k l) [
            | inl m ↦ h.1.3 j d m q t
            | inr m ↦ ap (λ (y : Entry). is_less y.value h.1.0.value) (same_Some d x (sym q ∙ (ap (slice_get es) m ∙ is))) ∙ (ap (λ (y : Entry). is_less x.value y.value) same ∙ f)
          ],
        ),
      )

  pub next_less : (i : ℕ) (e : Entry) → slice_get es i ≡ Some e → test x ≡ true → is_less x.value e.value ≡ true → LeastTo test es k (Some i) → LeastTo test es (k + 1) (Some k)
  next_less i e at p less h =
      let same : h.1.0 ≡ e = same_Some h.1.0 e (sym h.1.1 ∙ at) in (
        within,
        (
          x,
          is,
          p,
          λ j d l q t. elim (cases_last j k l) [
            | inl m ↦ false_from_ne_true (is_less d.value x.value) (λ b. both_ways (is_less d.value h.1.0.value) (h.1.3 j d m q t)
                (less_more d.value x.value h.1.0.value b (ap (λ (y : Entry). is_less x.value y.value) same ∙ less)))
            | inr m ↦ ap (λ (y : Entry). is_less y.value x.value) (same_Some d x (sym q ∙ (ap (slice_get es) m ∙ is))) ∙ not_less_self x.value
          ],
        ),
      )

-- the next entry is weighed against the best so far
pub next_weighed : (test : Entry → Bool) (es : List Entry) (k i r : ℕ) (x e : Entry) → slice_get es k ≡ Some x → k < length es → slice_get es i ≡ Some e → test x ≡ true
    → IsLesser es i k r → LeastTo test es k (Some i) → LeastTo test es (k + 1) (Some r)
next_weighed test es k i r x e is within at p less h =
    elim (less x e at is) [
      | inl a ↦ subst (λ (z : ℕ). LeastTo test es (k + 1) (Some z)) (sym a.0) (next_less test es k x is within i e at p a.1 h)
      | inr b ↦ subst (λ (z : ℕ). LeastTo test es (k + 1) (Some z)) (sym b.0) (next_stays test es k x is within i e at b.1 h)
    ]

-- ---- the least of a list

abbrev pub In : List ℕ → List (List ℕ) → Type 0
In v [] = ⊥
In v (x ∷ xs) = (x ≡ v) ⊎ In v xs

least_some : (test : List ℕ → Bool) (vs : List (List ℕ)) (u : List ℕ) → least test vs ≡ Some u → In u vs × (test u ≡ true)
least_some test [] u e = absurd cc
least_some test (v ∷ vs) u e = go (least_some test vs) (test v) refl (least test vs) refl e
  where
    go : ((w : List ℕ) → least test vs ≡ Some w → In w vs × (test w ≡ true)) → (b : Bool) → test v ≡ b → (o : Option (List ℕ)) → least test vs ≡ o → (if b then Some (lesser v o) else o) ≡ Some u
        → In u (v ∷ vs) × (test u ≡ true)
    go ih false t o f e = let r = ih u (f ∙ e) in (inr r.0, r.1)
    go ih true t None f e = let s = same_Some v u e in (inl s, ap test (sym s) ∙ t)
    go ih true t (Some w) f e = pick (is_lt (slice_cmp nat_cmp w v)) e
      where
        pick : (b : Bool) → Some (if b then w else v) ≡ Some u → In u (v ∷ vs) × (test u ≡ true)
        pick true e = let r = ih w f in let s = same_Some w u e in (inr (subst (λ (z : List ℕ). In z vs) s r.0), ap test (sym s) ∙ r.1)
        pick false e = let s = same_Some v u e in (inl s, ap test (sym s) ∙ t)

pub least_none : (test : List ℕ → Bool) (vs : List (List ℕ)) → ((u : List ℕ) → In u vs → test u ≡ false) → least test vs ≡ None
least_none test [] none = refl
least_none test (v ∷ vs) none = ap (λ (b : Bool). if b then Some (lesser v (least test vs)) else least test vs) (none v (inl refl)) ∙ least_none test vs (λ u i. none u (inr i))

pub least_is : (test : List ℕ → Bool) (vs : List (List ℕ)) (v : List ℕ) → In v vs → test v ≡ true → ((u : List ℕ) → In u vs → test u ≡ true → is_less u v ≡ false) → least test vs ≡ Some v
least_is test [] v i t min = absurd i
least_is test (x ∷ xs) v i t min = go (λ j. least_is test xs v j t (λ u k. min u (inr k))) i (test x) refl
  where
    stop : (x ≡ v) → test x ≡ true → (o : Option (List ℕ)) → least test xs ≡ o → Some (lesser x o) ≡ Some v
    stop s p None f = ap Some s
    stop s p (Some w) f =
        let r = least_some test xs w f in
        ap (λ (b : Bool). Some (if b then w else x)) (ap (is_less w) s ∙ min w (inr r.0) r.1) ∙ ap Some s

    go : (In v xs → least test xs ≡ Some v) → (x ≡ v) ⊎ In v xs → (b : Bool) → test x ≡ b → (if b then Some (lesser x (least test xs)) else least test xs) ≡ Some v
    go ih (inl s) true p = stop s p (least test xs) refl
    go ih (inl s) false p = absurd (both_ways (test x) p (ap test s ∙ t))
    go ih (inr i) false p = ih i
    go ih (inr i) true p =
        ap (λ (o : Option (List ℕ)). Some (lesser x o)) (ih i) ∙ pick (is_less v x) refl
      where
        pick : (b : Bool) → is_less v x ≡ b → Some (if b then v else x) ≡ Some v
        pick true e = refl
        pick false e = ap Some (neither x v (min x (inl refl) p) e)

-- ---- values of replicas

pub listed_out : (f : ℕ → Option (List ℕ)) (ks : List ℕ) (v : List ℕ) → In v (listed f ks) → (k : ℕ) × (is_value v (f k) ≡ true)
listed_out f [] v i = absurd i
listed_out f (k ∷ ks) v i = go (listed_out f ks v) (f k) refl i
  where
    go : (In v (listed f ks) → (j : ℕ) × (is_value v (f j) ≡ true)) → (o : Option (List ℕ)) → f k ≡ o → In v (push o (listed f ks)) → (j : ℕ) × (is_value v (f j) ≡ true)
    go ih None e i = ih i
    go ih (Some u) e (inl s) = (k, ap (is_value v) e ∙ (bytes_eq-Decides u v).1 s)
    go ih (Some u) e (inr i) = ih i

pushed : (o : Option (List ℕ)) (vs : List (List ℕ)) (v : List ℕ) → In v vs → In v (push o vs)
pushed None vs v i = i
pushed (Some u) vs v i = inr i

listed_in : (f : ℕ → Option (List ℕ)) (a d k : ℕ) (v : List ℕ) → a ≤ k → k < a + d → is_value v (f k) ≡ true → In v (listed f (range_with_len a d))
listed_in f a zero k v l m t = absurd (omega (arith, l, m))
listed_in f a (suc d) k v l m t =
    elim (cases_lt a k) [
      | inl n ↦ pushed (f a) (listed f (range_with_len (a + 1) d)) v (listed_in f (a + 1) d k v (omega (arith, n)) (omega (arith, m)) t)
      | inr n ↦ let same : k ≡ a = omega (arith, l, n) in go (f a) (ap (λ (j : ℕ). is_value v (f j)) (sym same) ∙ t)
    ]
  where
    go : (o : Option (List ℕ)) → is_value v o ≡ true → In v (push o (listed f (range_with_len (a + 1) d)))
    go None e = absurd cc
    go (Some u) e = inl ((bytes_eq-Decides u v).0 e)

-- ---- the least of the entries

module _ (n support : ℕ) (small : n ≤ 31) (some : 1 ≤ support) (f : ℕ → Option (List ℕ)) (inside : (k : ℕ) → n ≤ k → f k ≡ None)
    (es : List Entry) (set : Entry → ℕ) (each : (i : ℕ) (e : Entry) → slice_get es i ≡ Some e → (k : ℕ) → has_member (set e) k ≡ is_value e.value (f k))
    (all : (v : List ℕ) (k : ℕ) → is_value v (f k) ≡ true → HasEntry es v) where
  abbrev passing : List ℕ → Bool
  passing v = nat_le support (count_by (λ k. is_value v (f k)) (replicas n))

  abbrev enough : Entry → Bool
  enough e = nat_le support (member_count 32 (set e))

  pub enough_is : (i : ℕ) (e : Entry) → slice_get es i ≡ Some e → nat_le support (member_count 32 (set e)) ≡ nat_le support (count_by (λ k. is_value e.value (f k)) (replicas n))
  enough_is i e q = ap (nat_le support) (count_of_set (set e) n (λ k. is_value e.value (f k)) small (each i e q) (λ k l. ap (is_value e.value) (inside k l)))

  below : (v : List ℕ) (k : ℕ) → is_value v (f k) ≡ true → k < n
  below v k t =
      elim (cases_lt k n) [
        | inl l ↦ l
        | inr g ↦ absurd (both_ways (is_value v (f k)) (ap (is_value v) (inside k g)) t)
      ]

  pub listed_here : (v : List ℕ) → passing v ≡ true → In v (listed f (replicas n))
  listed_here v t =
      let l = leb-true support _ t in
      let m = some_member (λ k. is_value v (f k)) (replicas n) (omega (arith, l, some)) in
      listed_in f 0 n m.0 v (omega arith) (omega (arith, below v m.0 m.1)) m.1

  pub value_of_least : (r : Option ℕ) → LeastTo enough es (length es) r → ValueOf es r (least passing (listed f (replicas n)))
  value_of_least None h = least_none passing (listed f (replicas n)) (λ u i.
      let o = listed_out f (replicas n) u i in
      let x = all u o.0 o.1 in
      ap passing (sym x.1.2) ∙ (sym (enough_is x.0 x.1.0 x.1.1) ∙ h x.0 x.1.0 (slice_get_within es x.0 x.1.0 x.1.1) x.1.1))
  value_of_least (Some i) h =
      let e = h.1.0 in
      let is = h.1.1 in
      let pass : passing e.value ≡ true = sym (enough_is i e is) ∙ h.1.2 in (
        e.value,
        (e, is, refl),
        least_is passing (listed f (replicas n)) e.value (listed_here e.value pass) pass (λ u j t.
            let o = listed_out f (replicas n) u j in
            let x = all u o.0 o.1 in
            ap (λ (y : List ℕ). is_less y e.value) (sym x.1.2)
            ∙ h.1.3 x.0 x.1.0 (slice_get_within es x.0 x.1.0 x.1.1) x.1.1 (enough_is x.0 x.1.0 x.1.1 ∙ (ap passing x.1.2 ∙ t))),
      )
