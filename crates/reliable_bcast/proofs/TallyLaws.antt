-- What a list of ballots says of each replica.
use Rattle.std.proofs.Common.{◌≡◌, ℕ, ◌<◌, ◌≤◌, ◌+◌, ◌-◌, Bool, true, false, List, [], ◌∷◌, ◌++◌, Some, None, cond, refl, sym, ◌∙◌, ap, subst, inl, inr, arith, zero, suc, get_or, set, length, length-set, get_or-set_same, get_or-set_other}
use Rattle.std.specs.Prelude.{Option, ◌==◌, ◌||◌, ◌&&◌, not, count_by, is_none}
use Rattle.std.specs.List.{range_with_len, AllByRecursion, position, position_or_len, list_any}
use Rattle.std.specs.Prelude.{nat_lt}
use Rattle.std.specs.Str.{bytes_eq}
use Rattle.std.proofs.lemmas.Bool.{cases_Bool, both_ways, cond-true, cond-false, cases_eq, eq-eqb, ne_eqb, eqb-true, or_cases, or_right, false_from_ne_true, ltb-false, ltb-true, lt-ltb, le-ltb, and_parts}
use Rattle.std.proofs.lemmas.Slice.Eq.{bytes_eq-Decides}
use Rattle.std.proofs.lemmas.List.FromFn.{fill_by_all, length-map-range_with_len, get_or-map-range_with_len}
use Rattle.std.proofs.lemmas.List.Quantifiers.{position-Some}
use Rattle.std.proofs.lemmas.List.Sums.{sum_by_push, fails_before_first}
use Rattle.std.proofs.lemmas.List.Elements.{recursion_from_All}
use Rattle.std.proofs.lemmas.Nat.Bits.{bit_at-zero}
use Rattle.std.proofs.lemmas.Option.{none-some}
use Rattle.ritas_base.specs.Members.{has_member, member_count}
use Rattle.ritas_base.specs.RangeLaws.{range_more}
use Rattle.ritas_base.specs.History.{replicas, is_value}
use Rattle.ritas_base.specs.Quorums.{count_by-map, count_same, count_none}
use Rattle.reliable_bcast.specs.declared.votes.Ballot.{Ballot}
use Rattle.ritas_base.specs.Places.{is_awaited}
use Rattle.reliable_bcast.specs.Tally.{ballot_value, votes_in, AreVotersWithin, IsApartFrom, IsBallotTally}

pub length-votes_in : (n : ℕ) (bs : List Ballot) → length (votes_in n bs) ≡ n
length-votes_in n bs = length-map-range_with_len (ballot_value bs) 0 n

pub votes_at : (n : ℕ) (bs : List Ballot) (k : ℕ) → k < n → get_or (votes_in n bs) k None ≡ ballot_value bs k
votes_at n bs k lt = get_or-map-range_with_len (ballot_value bs) 0 n k k None lt (omega arith)

pub member_of_none : (k : ℕ) → has_member 0 k ≡ false
unfolding has_member
member_of_none k = ap (λ (b : ℕ). b == 1) (bit_at-zero k)

-- the voters of a value
abbrev pub voters_for : List ℕ → List Ballot → ℕ
voters_for m [] = 0
voters_for m (b ∷ bs) = cond (bytes_eq b.value m) b.voters (voters_for m bs)

apart_value : (b : Ballot) (bs : List Ballot) (m : List ℕ) (k : ℕ) → IsApartFrom b bs → b.value ≡ m → is_value m (ballot_value bs k) ≡ false
apart_value b [] m k apart e = refl
apart_value b (c ∷ bs) m k apart e =
    elim (cases_Bool (has_member c.voters k)) [
      | inl t ↦ ap (is_value m) (cond-true (has_member c.voters k) (Some c.value) (ballot_value bs k) t)
          ∙ false_from_ne_true (bytes_eq c.value m) (λ s. apart.0 (e ∙ sym ((bytes_eq-Decides c.value m).0 s)))
      | inr f ↦ ap (is_value m) (cond-false (has_member c.voters k) (Some c.value) (ballot_value bs k) f) ∙ apart_value b bs m k apart.2 e
    ]

apart_voters : (b : Ballot) (bs : List Ballot) (m : List ℕ) (k : ℕ) → IsApartFrom b bs → has_member b.voters k ≡ true → has_member (voters_for m bs) k ≡ false
apart_voters b [] m k apart e = member_of_none k
apart_voters b (c ∷ bs) m k apart e =
    elim (cases_Bool (bytes_eq c.value m)) [
      | inl t ↦ ap (λ (s : ℕ). has_member s k) (cond-true (bytes_eq c.value m) c.voters (voters_for m bs) t) ∙ apart.1 k e
      | inr f ↦ ap (λ (s : ℕ). has_member s k) (cond-false (bytes_eq c.value m) c.voters (voters_for m bs) f) ∙ apart_voters b bs m k apart.2 e
    ]

vote_is_member : (n : ℕ) (bs : List Ballot) (m : List ℕ) (k : ℕ) → IsBallotTally n bs → is_value m (ballot_value bs k) ≡ has_member (voters_for m bs) k
vote_is_member n [] m k tally = sym (member_of_none k)
vote_is_member n (b ∷ bs) m k tally =
    elim (cases_Bool (bytes_eq b.value m)) [
      | inl same ↦
          let mask = ap (λ (s : ℕ). has_member s k) (cond-true (bytes_eq b.value m) b.voters (voters_for m bs) same) in
          elim (cases_Bool (has_member b.voters k)) [
            | inl t ↦ ap (is_value m) (cond-true (has_member b.voters k) (Some b.value) (ballot_value bs k) t) ∙ (same ∙ sym (mask ∙ t))
            | inr f ↦ ap (is_value m) (cond-false (has_member b.voters k) (Some b.value) (ballot_value bs k) f)
                ∙ (apart_value b bs m k tally.1 ((bytes_eq-Decides b.value m).0 same) ∙ sym (mask ∙ f))
          ]
      | inr other ↦
          let mask = ap (λ (s : ℕ). has_member s k) (cond-false (bytes_eq b.value m) b.voters (voters_for m bs) other) in
          elim (cases_Bool (has_member b.voters k)) [
            | inl t ↦ ap (is_value m) (cond-true (has_member b.voters k) (Some b.value) (ballot_value bs k) t) ∙ (other ∙ sym (mask ∙ apart_voters b bs m k tally.1 t))
            | inr f ↦ ap (is_value m) (cond-false (has_member b.voters k) (Some b.value) (ballot_value bs k) f) ∙ (vote_is_member n bs m k tally.2 ∙ sym mask)
          ]
    ]

within_for : (n : ℕ) (bs : List Ballot) (m : List ℕ) → IsBallotTally n bs → AreVotersWithin n (voters_for m bs)
within_for n [] m tally = λ k e. absurd (both_ways (has_member 0 k) (member_of_none k) e)
within_for n (b ∷ bs) m tally =
    elim (cases_Bool (bytes_eq b.value m)) [
      | inl t ↦ subst (λ (s : ℕ). AreVotersWithin n s) (sym (cond-true (bytes_eq b.value m) b.voters (voters_for m bs) t)) tally.0
      | inr f ↦ subst (λ (s : ℕ). AreVotersWithin n s) (sym (cond-false (bytes_eq b.value m) b.voters (voters_for m bs) f)) (within_for n bs m tally.2)
    ]

-- members from n on don't count
pub count_within : (n s : ℕ) → AreVotersWithin n s → (d w : ℕ) → w ≡ n + d → count_by (has_member s) (range_with_len 0 w) ≡ count_by (has_member s) (range_with_len 0 n)
count_within n s within zero w e = let same : w ≡ n = omega (arith, e) in ap (λ (x : ℕ). count_by (has_member s) (range_with_len 0 x)) same
count_within n s within (suc d) w e =
    let next : w ≡ suc (n + d) = omega (arith, e) in
    let none : has_member s (n + d) ≡ false = false_from_ne_true (has_member s (n + d)) (λ t. let lt = within (n + d) t in absurd (omega (arith, lt))) in
    let more = sum_by_push (λ (k : ℕ). cond (has_member s k) 1 0) (range_with_len 0 (n + d)) (n + d) in
    let one : Bool → ℕ = λ b. cond b 1 0 in
    let last : one (has_member s (n + d)) ≡ 0 = ap one none in
    let rest = count_within n s within d (n + d) refl in
    ap (λ (x : ℕ). count_by (has_member s) (range_with_len 0 x)) next
    ∙ (ap (count_by (has_member s)) (range_more 0 (n + d) (n + d) (omega arith)) ∙ omega (arith, more, last, rest))

-- as many votes for a value as its ballot has voters
pub tally_count : (n : ℕ) (bs : List Ballot) (m : List ℕ) → n ≤ 31 → IsBallotTally n bs → count_by (is_value m) (votes_in n bs) ≡ member_count 32 (voters_for m bs)
unfolding member_count
tally_count n bs m small tally =
    count_by-map (is_value m) (ballot_value bs) (replicas n)
    ∙ (count_same (λ k. is_value m (ballot_value bs k)) (has_member (voters_for m bs)) (λ k. vote_is_member n bs m k tally) (replicas n)
    ∙ sym (count_within n (voters_for m bs) (within_for n bs m tally) (32 - n) 32 (omega arith)))

-- the voters with one more
abbrev pub IsMore : ℕ → ℕ → ℕ → Type 0
IsMore old k new = (j : ℕ) → has_member new j ≡ (has_member old j || (j == k))

or_no : (b c : Bool) → c ≡ false → (b || c) ≡ b
or_no true c e = refl
or_no false c e = e

-- one vote more, where k gave none
pub votes_changed : (n : ℕ) (bs new : List Ballot) (k : ℕ) (m : List ℕ) → k < n → ((j : ℕ) → ballot_value new j ≡ cond (j == k) (Some m) (ballot_value bs j))
    → votes_in n new ≡ set (votes_in n bs) k (Some m)
votes_changed n bs new k m within e =
    let inside : k < length (votes_in n bs) = subst (λ (x : ℕ). k < x) (sym (length-votes_in n bs)) within in
    sym (fill_by_all (ballot_value new) (set (votes_in n bs) k (Some m)) n None (length-set (votes_in n bs) k (Some m) ∙ length-votes_in n bs)
    (λ j lt. elim (cases_eq j k) [
      | inl same ↦
          ap (λ (x : ℕ). get_or (set (votes_in n bs) k (Some m)) x None) same
          ∙ (get_or-set_same (votes_in n bs) k (Some m) None inside
          ∙ sym (e j ∙ cond-true (j == k) (Some m) (ballot_value bs j) (eq-eqb j k same)))
      | inr other ↦
          get_or-set_other (votes_in n bs) k j (Some m) None other
          ∙ (votes_at n bs j lt ∙ sym (e j ∙ cond-false (j == k) (Some m) (ballot_value bs j) (ne_eqb j k other)))
    ]))

-- who gave nothing is no voter
none_parts : (b : Ballot) (bs : List Ballot) (k : ℕ) → ballot_value (b ∷ bs) k ≡ None → (has_member b.voters k ≡ false) × (ballot_value bs k ≡ None)
none_parts b bs k e =
    elim (cases_Bool (has_member b.voters k)) [
      | inl t ↦ absurd (none-some b.value (sym e ∙ cond-true (has_member b.voters k) (Some b.value) (ballot_value bs k) t))
      | inr f ↦ (f, sym (cond-false (has_member b.voters k) (Some b.value) (ballot_value bs k) f) ∙ e)
    ]

pub with_voters : Ballot → ℕ → Ballot
with_voters b v = record { value = b.value; voters = v }

more_head : (b : Ballot) (bs : List Ballot) (v k j : ℕ) → IsMore b.voters k v → cond (has_member v j) (Some b.value) (ballot_value bs j) ≡ cond (j == k) (Some b.value) (ballot_value (b ∷ bs) j)
more_head b bs v k j more =
    elim (cases_Bool (j == k)) [
      | inl t ↦ cond-true _ _ _ (more j ∙ or_right (has_member b.voters j) (j == k) t) ∙ sym (cond-true (j == k) (Some b.value) (ballot_value (b ∷ bs) j) t)
      | inr f ↦ ap (λ (x : Bool). cond x (Some b.value) (ballot_value bs j)) (more j ∙ or_no (has_member b.voters j) (j == k) f) ∙ sym (cond-false (j == k) (Some b.value) (ballot_value (b ∷ bs) j) f)
    ]

more_tail : (c : Ballot) (bs new : List Ballot) (k j : ℕ) (m : List ℕ) → has_member c.voters k ≡ false → ballot_value new j ≡ cond (j == k) (Some m) (ballot_value bs j)
    → ballot_value (c ∷ new) j ≡ cond (j == k) (Some m) (ballot_value (c ∷ bs) j)
more_tail c bs new k j m no_k e =
    elim (cases_Bool (j == k)) [
      | inl t ↦
          let same : j ≡ k = eqb-true j k t in
          cond-false _ _ _ (ap (has_member c.voters) same ∙ no_k) ∙ (e ∙ (cond-true (j == k) (Some m) (ballot_value bs j) t ∙ sym (cond-true (j == k) (Some m) (ballot_value (c ∷ bs) j) t)))
      | inr f ↦
          ap (λ (o : Option (List ℕ)). cond (has_member c.voters j) (Some c.value) o) (e ∙ cond-false (j == k) (Some m) (ballot_value bs j) f)
          ∙ sym (cond-false (j == k) (Some m) (ballot_value (c ∷ bs) j) f)
    ]

apart_of_more : (b : Ballot) (bs : List Ballot) (v k : ℕ) → IsMore b.voters k v → ballot_value bs k ≡ None → IsApartFrom b bs → IsApartFrom (with_voters b v) bs
unfolding with_voters
apart_of_more b [] v k more none apart = tt
apart_of_more b (c ∷ bs) v k more none apart =
    let parts = none_parts c bs k none in (
      apart.0,
      λ j e. elim (or_cases (has_member b.voters j) (j == k) (sym (more j) ∙ e)) [
        | inl was ↦ apart.1 j was
        | inr now ↦ ap (has_member c.voters) (eqb-true j k now) ∙ parts.0
      ],
      apart_of_more b bs v k more parts.1 apart.2,
    )

-- a voter more at one ballot
pub record Voted (n : ℕ) (bs new : List Ballot) (k : ℕ) (m : List ℕ) : Type 0 where
  pub votes : (j : ℕ) → ballot_value new j ≡ cond (j == k) (Some m) (ballot_value bs j)
  pub tally : IsBallotTally n new

apart_from_set : (c : Ballot) (bs : List Ballot) (i : ℕ) (d : Ballot) (v k : ℕ) → IsMore (get_or bs i d).voters k v → has_member c.voters k ≡ false → IsApartFrom c bs
    → IsApartFrom c (set bs i (with_voters (get_or bs i d) v))
unfolding with_voters
apart_from_set c [] i d v k more no_k apart = tt
apart_from_set c (b ∷ bs) zero d v k more no_k apart = (
  apart.0,
  λ j e. more j ∙ (or_no (has_member b.voters j) (j == k) (ne_eqb j k (λ s. both_ways (has_member c.voters k) no_k (sym (ap (has_member c.voters) s) ∙ e))) ∙ apart.1 j e),
  apart.2,
)
apart_from_set c (b ∷ bs) (suc i) d v k more no_k apart = (apart.0, apart.1, apart_from_set c bs i d v k more no_k apart.2)

pub voted_set : (n : ℕ) (bs : List Ballot) (i : ℕ) (d : Ballot) (v k : ℕ) → i < length bs → k < n → IsMore (get_or bs i d).voters k v → ballot_value bs k ≡ None → IsBallotTally n bs
    → Voted n bs (set bs i (with_voters (get_or bs i d) v)) k (get_or bs i d).value
unfolding with_voters
voted_set n [] i d v k lt within more none tally = absurd (omega (arith, lt))
voted_set n (b ∷ bs) zero d v k lt within more none tally =
    record {
      votes = λ j. more_head b bs v k j more;
      tally = (
        λ j e. elim (or_cases (has_member b.voters j) (j == k) (sym (more j) ∙ e)) [
          | inl was ↦ tally.0 j was
          | inr now ↦ subst (λ (x : ℕ). x < n) (sym (eqb-true j k now)) within
        ],
        apart_of_more b bs v k more (none_parts b bs k none).1 tally.1,
        tally.2,
      );
    }
voted_set n (c ∷ bs) (suc i) d v k lt within more none tally =
    let parts = none_parts c bs k none in
    let lower : i < length bs = omega (arith, lt) in
    let rest = voted_set n bs i d v k lower within more parts.1 tally.2 in
    record {
      votes = λ j. more_tail c bs _ k j _ parts.0 (rest.votes j);
      tally = (tally.0, apart_from_set c bs i d v k more parts.0 tally.1, rest.tally);
    }

apart_from_push : (c : Ballot) (bs : List Ballot) (m : List ℕ) (v k : ℕ) → IsMore 0 k v → (c.value ≡ m → ⊥) → has_member c.voters k ≡ false → IsApartFrom c bs
    → IsApartFrom c (bs ++ record { value = m; voters = v } ∷ [])
apart_from_push c [] m v k more other no_k apart = (
  other,
  λ j e. more j ∙ (ap (λ (x : Bool). x || (j == k)) (member_of_none j) ∙ ne_eqb j k (λ s. both_ways (has_member c.voters k) no_k (sym (ap (has_member c.voters) s) ∙ e))),
  tt,
)
apart_from_push c (b ∷ bs) m v k more other no_k apart = (apart.0, apart.1, apart_from_push c bs m v k more other no_k apart.2)

-- a ballot more, where none is for the value
pub voted_push : (n : ℕ) (bs : List Ballot) (m : List ℕ) (v k : ℕ) → k < n → IsMore 0 k v → ballot_value bs k ≡ None → AllByRecursion (λ b. bytes_eq b.value m ≡ false) bs → IsBallotTally n bs
    → Voted n bs (bs ++ record { value = m; voters = v } ∷ []) k m
voted_push n [] m v k within more none other tally =
    record {
      votes = λ j. ap (λ (x : Bool). cond x (Some m) None) (more j ∙ ap (λ (x : Bool). x || (j == k)) (member_of_none j));
      tally = (
        λ j e. elim (or_cases (has_member 0 j) (j == k) (sym (more j) ∙ e)) [
          | inl was ↦ absurd (both_ways (has_member 0 j) (member_of_none j) was)
          | inr now ↦ subst (λ (x : ℕ). x < n) (sym (eqb-true j k now)) within
        ],
        tt,
        tt,
      );
    }
voted_push n (c ∷ bs) m v k within more none other tally =
    let parts = none_parts c bs k none in
    let rest = voted_push n bs m v k within more parts.1 other.1 tally.2 in
    record {
      votes = λ j. more_tail c bs _ k j m parts.0 (rest.votes j);
      tally = (tally.0, apart_from_push c bs m v k more (λ e. both_ways (bytes_eq c.value m) other.0 ((bytes_eq-Decides c.value m).1 e)) parts.0 tally.1, rest.tally);
    }

pub no_members : member_count 32 0 ≡ 0
unfolding member_count
no_members = count_none (has_member 0) (range_with_len 0 32) (λ k e. both_ways (has_member 0 k) (member_of_none k) e)

-- at a ballot that was read
pub voted_at : (n : ℕ) (bs : List Ballot) (i : ℕ) (b : Ballot) (v k : ℕ) (m : List ℕ) → i < length bs → k < n → b ≡ get_or bs i b → b.value ≡ m → ((j : ℕ) → has_member v j ≡ (has_member b.voters j || (j == k)))
    → ballot_value bs k ≡ None → IsBallotTally n bs → Voted n bs (set bs i (record { value = b.value; voters = v })) k m
unfolding with_voters
voted_at n bs i b v k m lt within read value more none tally =
    subst (λ (x : List ℕ). Voted n bs (set bs i (record { value = b.value; voters = v })) k x) value
    (subst (λ (x : Ballot). Voted n bs (set bs i (record { value = x.value; voters = v })) k x.value) (sym read)
    (voted_set n bs i b v k lt within (subst (λ (x : Ballot). (j : ℕ) → has_member v j ≡ (has_member x.voters j || (j == k))) read more) none tally))

-- no ballot is for the value, where its place is not found
pub none_found : (bs : List Ballot) (m : List ℕ) → position (λ b. bytes_eq b.value m) bs ≡ None → AllByRecursion (λ b. bytes_eq b.value m ≡ false) bs
none_found bs m e =
    let test : Ballot → Bool = λ b. bytes_eq b.value m in
    let past : nat_lt (position_or_len test bs) (length bs) ≡ false =
    false_from_ne_true (nat_lt (position_or_len test bs) (length bs)) (λ t. none-some (position_or_len test bs) (sym e ∙ cond-true (nat_lt (position_or_len test bs) (length bs)) (Some (position_or_len test bs)) None t)) in
    let all = ltb-false (position_or_len test bs) (length bs) past in
    recursion_from_All (λ b. bytes_eq b.value m ≡ false) bs (λ k d lt. let before : k < position_or_len test bs = omega (arith, lt, all) in fails_before_first test bs k d before)

-- ---- who is awaited

none_is_any : (bs : List Ballot) (k : ℕ) → is_none (ballot_value bs k) ≡ not (list_any (λ b. has_member b.voters k) bs)
none_is_any [] k = refl
none_is_any (b ∷ bs) k = by_cases (has_member b.voters k) (ballot_value bs k) (list_any (λ b. has_member b.voters k) bs) b.value (none_is_any bs k)
  where
    by_cases : (t : Bool) (o : Option (List ℕ)) (any : Bool) (m : List ℕ) → is_none o ≡ not any → is_none (cond t (Some m) o) ≡ not (t || any)
    by_cases true o any m e = refl
    by_cases false o any m e = e

pub awaited_within : (n : ℕ) (bs : List Ballot) (votes : List (Option (List ℕ))) (k : ℕ) → votes_in n bs ≡ votes → k < n
    → is_awaited votes k ≡ not (list_any (λ b. has_member b.voters k) bs)
awaited_within n bs votes k e lt =
    let inside : k < length (votes_in n bs) = subst (λ (x : ℕ). k < x) (sym (length-votes_in n bs)) lt in
    ap (λ (l : List (Option (List ℕ))). is_awaited l k) (sym e)
    ∙ (ap (λ (t : Bool). t && is_none (get_or (votes_in n bs) k None)) (lt-ltb k (length (votes_in n bs)) inside)
    ∙ (ap is_none (votes_at n bs k lt) ∙ none_is_any bs k))

pub awaited_outside : (n : ℕ) (bs : List Ballot) (votes : List (Option (List ℕ))) (k : ℕ) → votes_in n bs ≡ votes → n ≤ k → is_awaited votes k ≡ false
awaited_outside n bs votes k e le =
    let outside : length (votes_in n bs) ≤ k = omega (arith, length-votes_in n bs, le) in
    ap (λ (l : List (Option (List ℕ))). is_awaited l k) (sym e)
    ∙ ap (λ (t : Bool). t && is_none (get_or (votes_in n bs) k None)) (le-ltb k (length (votes_in n bs)) outside)

is_none_is : (o : Option (List ℕ)) → is_none o ≡ true → o ≡ None
is_none_is None e = refl
is_none_is (Some m) e = absurd (cc)

-- whoever is awaited is a replica, and gave nothing
pub record IsAwaited (n : ℕ) (bs : List Ballot) (k : ℕ) : Type 0 where
  pub within : k < n
  pub fits : k < 32
  pub none : ballot_value bs k ≡ None

pub awaited_is : (n : ℕ) (bs : List Ballot) (votes : List (Option (List ℕ))) (k : ℕ) → votes_in n bs ≡ votes → n ≤ 31 → is_awaited votes k ≡ true → IsAwaited n bs k
awaited_is n bs votes k e small awaited =
    let parts = and_parts (nat_lt k (length (votes_in n bs))) (is_none (get_or (votes_in n bs) k None)) (ap (λ (l : List (Option (List ℕ))). is_awaited l k) e ∙ awaited) in
    let inside = ltb-true k (length (votes_in n bs)) parts.0 in
    let lt : k < n = omega (arith, length-votes_in n bs, inside) in
    record { within = lt; fits = omega (arith, lt, small); none = sym (votes_at n bs k lt) ∙ is_none_is (get_or (votes_in n bs) k None) parts.1 }

-- ---- the count of a value

voters_at : (m : List ℕ) (bs : List Ballot) (i : ℕ) (d : Ballot) → i < length bs → bytes_eq (get_or bs i d).value m ≡ true
    → ((k : ℕ) → k < i → bytes_eq (get_or bs k d).value m ≡ false) → voters_for m bs ≡ (get_or bs i d).voters
voters_at m [] i d lt here before = absurd (omega (arith, lt))
voters_at m (b ∷ bs) zero d lt here before = cond-true (bytes_eq b.value m) b.voters (voters_for m bs) here
voters_at m (b ∷ bs) (suc i) d lt here before =
    let lower : i < length bs = omega (arith, lt) in
    cond-false (bytes_eq b.value m) b.voters (voters_for m bs) (before 0 (omega arith))
    ∙ voters_at m bs i d lower here (λ k l. before (suc k) (omega (arith, l)))

voters_nowhere : (m : List ℕ) (bs : List Ballot) → AllByRecursion (λ b. bytes_eq b.value m ≡ false) bs → voters_for m bs ≡ 0
voters_nowhere m [] none = refl
voters_nowhere m (b ∷ bs) none = cond-false (bytes_eq b.value m) b.voters (voters_for m bs) none.0 ∙ voters_nowhere m bs none.1

pub count_found : (n : ℕ) (bs : List Ballot) (m : List ℕ) (i : ℕ) (b : Ballot) → n ≤ 31 → IsBallotTally n bs
    → position (λ b. bytes_eq b.value m) bs ≡ Some i → b ≡ get_or bs i b → count_by (is_value m) (votes_in n bs) ≡ member_count 32 b.voters
count_found n bs m i b small tally found read =
    let at = position-Some (λ (x : Ballot). bytes_eq x.value m) bs i b found in
    tally_count n bs m small tally
    ∙ ap (member_count 32) (voters_at m bs i b at.0 at.1 at.2 ∙ ap (λ (x : Ballot). x.voters) (sym read))

pub count_nowhere : (n : ℕ) (bs : List Ballot) (m : List ℕ) → n ≤ 31 → IsBallotTally n bs
    → position (λ b. bytes_eq b.value m) bs ≡ None → count_by (is_value m) (votes_in n bs) ≡ 0
count_nowhere n bs m small tally none =
    tally_count n bs m small tally ∙ (ap (member_count 32) (voters_nowhere m bs (none_found bs m none)) ∙ no_members)
