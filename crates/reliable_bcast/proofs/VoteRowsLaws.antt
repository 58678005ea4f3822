-- What rows of votes say of each replica, and what one vote more does to them.
use Rattle.std.specs.Prelude.{◌≡◌, ℕ, zero, suc, ◌<◌, ◌≤◌, ◌-◌, ◌/◌, ◌^◌, Bool, true, false, not, ◌&&◌, ◌||◌, ◌==◌, nat_lt, List, [], ◌∷◌, Option, Some, None, is_none, count_by, length, refl}
use Rattle.std.proofs.Common.{sym, ◌∙◌, ap, ap₂, map, subst, inl, inr, arith, cond, get_or, set, get_or-set_same, get_or-set_other, length-set}
use Rattle.std.specs.Int.{bit_at}
use Rattle.std.specs.Str.{bytes_eq}
use Rattle.std.proofs.lemmas.Bool.{cases_lt, cases_eq, both_ways, cond-true, cond-false, eq-eqb, ne_eqb, eqb-true, or_cases, or_right, false_from_ne_true, lt-ltb, le-ltb, ltb-true, and_parts}
use Rattle.std.proofs.lemmas.List.{get_or_past}
use Rattle.std.proofs.lemmas.List.FromFn.{fill_by_all, length-map-range_with_len, get_or-map-range_with_len}
use Rattle.std.proofs.lemmas.Nat.Bits.{bit_at-lt, bit_at-suc, bit_at-zero, same_from_bits}
use Rattle.ritas_base.specs.Members.{has_member, member_count}
use Rattle.ritas_base.specs.History.{replicas, is_value}
use Rattle.ritas_base.specs.Places.{is_awaited}
use Rattle.ritas_base.specs.Quorums.{count_by-map, count_same}
use Rattle.vote_lanes.specs.Plain.{is_equal_row}
use Rattle.reliable_bcast.specs.VoteRows.{row_in, vote_in, votes_of, HasVoteRows, without_value, without_values}
use Rattle.reliable_bcast.proofs.TallyLaws.{count_within}

pub length-votes_of : (n voters kept : ℕ) (rows : List (List ℕ)) → length (votes_of n voters kept rows) ≡ n
length-votes_of n voters kept rows = length-map-range_with_len (vote_in voters kept rows) 0 n

pub votes_at : (n voters kept : ℕ) (rows : List (List ℕ)) (k : ℕ) → k < n → get_or (votes_of n voters kept rows) k None ≡ vote_in voters kept rows k
votes_at n voters kept rows k lt = get_or-map-range_with_len (vote_in voters kept rows) 0 n k k None lt (omega arith)

-- ---- the voters are a mask of as many bits as there are rows

-- a number with no bit from w on is below 2 ^ w
pub below_by_bits : (w mask : ℕ) → ((k : ℕ) → has_member mask k ≡ true → k < w) → mask < 2 ^ w
unfolding has_member
below_by_bits zero mask within =
    let none : mask ≡ 0 = same_from_bits mask 0 (λ k. no_bit k (bit_at mask k) refl ∙ sym (bit_at-zero k)) in
    omega (arith, none)
  where
    no_bit : (k b : ℕ) → bit_at mask k ≡ b → bit_at mask k ≡ 0
    no_bit k zero e = e
    no_bit k (suc zero) e = absurd (let lt = within k (eq-eqb (bit_at mask k) 1 e) in omega (arith, lt))
    no_bit k (suc (suc b)) e = absurd (let lt = bit_at-lt mask k in omega (arith, lt, e))
below_by_bits (suc w) mask within =
    let half : mask / 2 < 2 ^ w =
    below_by_bits w (mask / 2) (λ k t. let lt = within (suc k) (ap (λ (b : ℕ). b == 1) (bit_at-suc mask k) ∙ t) in omega (arith, lt)) in
    omega (arith, half)

-- ---- who is awaited

is_none_vote : (b : Bool) (m : List ℕ) → is_none (cond b (Some m) None) ≡ not b
is_none_vote true m = refl
is_none_vote false m = refl

pub awaited_row : (n voters kept : ℕ) (rows : List (List ℕ)) (votes : List (Option (List ℕ))) (k : ℕ) → votes_of n voters kept rows ≡ votes → k < n → is_awaited votes k ≡ not (has_member voters k)
awaited_row n voters kept rows votes k view lt =
    let inside : k < length (votes_of n voters kept rows) = subst (λ (x : ℕ). k < x) (sym (length-votes_of n voters kept rows)) lt in
    ap (λ (l : List (Option (List ℕ))). is_awaited l k) (sym view)
    ∙ (ap (λ (t : Bool). t && is_none (get_or (votes_of n voters kept rows) k None)) (lt-ltb k (length (votes_of n voters kept rows)) inside)
    ∙ (ap is_none (votes_at n voters kept rows k lt) ∙ is_none_vote (has_member voters k) (row_in kept rows k)))

pub no_row : (n voters kept : ℕ) (rows : List (List ℕ)) (votes : List (Option (List ℕ))) (k : ℕ) → votes_of n voters kept rows ≡ votes → n ≤ k → is_awaited votes k ≡ false
no_row n voters kept rows votes k view le =
    let outside : length (votes_of n voters kept rows) ≤ k = omega (arith, length-votes_of n voters kept rows, le) in
    ap (λ (l : List (Option (List ℕ))). is_awaited l k) (sym view)
    ∙ ap (λ (t : Bool). t && is_none (get_or (votes_of n voters kept rows) k None)) (le-ltb k (length (votes_of n voters kept rows)) outside)

pub not_voted : (b : Bool) → not b ≡ true → b ≡ false
not_voted true e = absurd (both_ways false refl e)
not_voted false e = refl

-- whoever is awaited is a replica
pub awaited_below : (n voters kept : ℕ) (rows : List (List ℕ)) (votes : List (Option (List ℕ))) (k : ℕ) → votes_of n voters kept rows ≡ votes → is_awaited votes k ≡ true → k < n
awaited_below n voters kept rows votes k view awaited =
    elim (cases_lt k n) [
      | inl lt ↦ lt
      | inr ge ↦ absurd (both_ways (is_awaited votes k) (no_row n voters kept rows votes k view ge) awaited)
    ]

-- ---- those who gave a value

-- no row is that of a value that isn't empty
of_row : (voted kept : Bool) (m d : List ℕ) → (kept ≡ true → voted ≡ true) → bytes_eq [] d ≡ false
    → is_value d (cond voted (Some (cond kept m [])) None) ≡ (kept && bytes_eq m d)
of_row true true m d within some = refl
of_row true false m d within some = some
of_row false true m d within some = absurd (both_ways false refl (within refl))
of_row false false m d within some = refl

not_empty : (d : List ℕ) → length d ≡ 32 → bytes_eq [] d ≡ false
not_empty [] e = absurd (omega (arith, e))
not_empty (x ∷ d) e = refl

-- the rows that the mask of those whose row is kept names, and that equal a digest, are those of the replicas that gave it
pub named_rows : (n voters kept : ℕ) (rows : List (List ℕ)) (votes : List (Option (List ℕ))) (d : List ℕ) (equal : ℕ) → length d ≡ 32 → votes_of n voters kept rows ≡ votes → HasVoteRows n voters kept rows
    → ((i : ℕ) → (bit_at equal i == 1) ≡ is_equal_row rows kept d i) → (k : ℕ) → has_member equal k ≡ (nat_lt k (length votes) && is_value d (get_or votes k None))
unfolding has_member
named_rows n voters kept rows votes d equal whole view has are k =
    are k
    ∙ (sym (at_place k)
    ∙ ap (λ (l : List (Option (List ℕ))). nat_lt k (length l) && is_value d (get_or l k None)) view)
  where
    below : (k : ℕ) → has_member kept k ≡ true → k < n
    below k t =
        let lt = has.there k t in
        elim has.whole [
          | inl none ↦ absurd (let nobody = ap length none in omega (arith, lt, nobody))
          | inr all ↦ omega (arith, lt, all)
        ]

    at_place : (k : ℕ) → (nat_lt k (length (votes_of n voters kept rows)) && is_value d (get_or (votes_of n voters kept rows) k None)) ≡ (has_member kept k && bytes_eq (get_or rows k []) d)
    at_place k =
        let len = length-votes_of n voters kept rows in
        elim (cases_lt k n) [
          | inl lt ↦
              ap (λ (t : Bool). t && is_value d (get_or (votes_of n voters kept rows) k None)) (lt-ltb k (length (votes_of n voters kept rows)) (omega (arith, lt, len)))
              ∙ (ap (is_value d) (votes_at n voters kept rows k lt) ∙ of_row (has_member voters k) (has_member kept k) (get_or rows k []) d (has.voted k) (not_empty d whole))
          | inr ge ↦
              ap (λ (t : Bool). t && is_value d (get_or (votes_of n voters kept rows) k None)) (le-ltb k (length (votes_of n voters kept rows)) (omega (arith, ge, len)))
              ∙ sym (ap (λ (t : Bool). t && bytes_eq (get_or rows k []) d) (false_from_ne_true (has_member kept k) (λ t. let lt = below k t in omega (arith, lt, ge))))
        ]

-- the members of a set that are the places of a value in a list are as many as these places
pub count_members : (votes : List (Option (List ℕ))) (d : List ℕ) (s : ℕ) → length votes ≤ 31 → ((k : ℕ) → has_member s k ≡ (nat_lt k (length votes) && is_value d (get_or votes k None)))
    → member_count 32 s ≡ count_by (is_value d) votes
unfolding member_count
count_members votes d s few members =
    let n = length votes in
    let at : ℕ → Option (List ℕ) = λ k. get_or votes k None in
    count_within n s within (32 - n) 32 (omega (arith, few))
    ∙ (count_same (has_member s) (λ k. is_value d (at k)) each (replicas n)
    ∙ (sym (count_by-map (is_value d) at (replicas n))
    ∙ ap (count_by (is_value d)) (sym (fill_by_all at votes n None refl (λ k lt. refl)))))
  where
    within : (k : ℕ) → has_member s k ≡ true → k < length votes
    within k t = ltb-true k (length votes) (and_parts (nat_lt k (length votes)) (is_value d (get_or votes k None)) (sym (members k) ∙ t)).0

    each : (k : ℕ) → has_member s k ≡ is_value d (get_or votes k None)
    each k =
        members k
        ∙ elim (cases_lt k (length votes)) [
          | inl lt ↦ ap (λ (t : Bool). t && is_value d (get_or votes k None)) (lt-ltb k (length votes) lt)
          | inr ge ↦
              ap (λ (t : Bool). t && is_value d (get_or votes k None)) (le-ltb k (length votes) ge)
              ∙ ap (is_value d) (sym (get_or_past votes k None ge))
        ]

-- ---- one vote more

-- rows for all replicas, in which those that are kept are as before
pub record HasRoom (n kept : ℕ) (rows new : List (List ℕ)) : Type 0 where
  pub whole : length new ≡ n
  pub same : (k : ℕ) → has_member kept k ≡ true → get_or new k [] ≡ get_or rows k []

pub room_made : (n voters kept : ℕ) (rows new : List (List ℕ)) → HasVoteRows n voters kept rows → (rows ≡ [] → length new ≡ n) → ((rows ≡ [] → ⊥) → new ≡ rows) → HasRoom n kept rows new
room_made n voters kept [] new has made stays = record {
  whole = made refl;
  same = λ k t. absurd (let lt = has.there k t in omega (arith, lt));
}
room_made n voters kept (row ∷ rows) new has made stays =
    let some : (row ∷ rows ≡ [] → ⊥) = λ e. absurd (cc) in
    let same = stays some in
    record {
      whole = ap length same ∙ elim has.whole [ inl none ↦ absurd (some none) | inr all ↦ all ];
      same = λ k t. ap (λ (l : List (List ℕ)). get_or l k []) same;
    }

or_false : (b c : Bool) → c ≡ false → (b || c) ≡ b
or_false true c e = refl
or_false false c e = e

-- where one replica's vote is new, and is that, what the others gave stays
one_vote_more : (n voters kept : ℕ) (rows : List (List ℕ)) (k : ℕ) → k < n → (now kept' : ℕ) (new : List (List ℕ)) (d : List ℕ) → vote_in now kept' new k ≡ Some d
    → ((j : ℕ) → (j ≡ k → ⊥) → vote_in now kept' new j ≡ vote_in voters kept rows j) → votes_of n now kept' new ≡ set (votes_of n voters kept rows) k (Some d)
one_vote_more n voters kept rows k within now kept' new d this others =
    let was = votes_of n voters kept rows in
    let there : k < length was = subst (λ (x : ℕ). k < x) (sym (length-votes_of n voters kept rows)) within in
    sym (fill_by_all (vote_in now kept' new) (set was k (Some d)) n None (length-set was k (Some d) ∙ length-votes_of n voters kept rows)
    (λ j lt. elim (cases_eq j k) [
      | inl same ↦
          ap (λ (x : ℕ). get_or (set was k (Some d)) x None) same
          ∙ (get_or-set_same was k (Some d) None there
          ∙ sym (ap (vote_in now kept' new) same ∙ this))
      | inr other ↦
          get_or-set_other was k j (Some d) None other
          ∙ (votes_at n voters kept rows j lt ∙ sym (others j other))
    ]))

-- a set is another one with k
abbrev pub IsMore : ℕ → ℕ → ℕ → Type 0
IsMore k old new = (j : ℕ) → has_member new j ≡ (has_member old j || (j == k))

has_now : (k old new : ℕ) → IsMore k old new → has_member new k ≡ true
has_now k old new more = more k ∙ or_right (has_member old k) (k == k) (eq-eqb k k refl)

has_still : (k old new : ℕ) → IsMore k old new → (j : ℕ) → (j ≡ k → ⊥) → has_member new j ≡ has_member old j
has_still k old new more j other = more j ∙ or_false (has_member old j) (j == k) (ne_eqb j k other)

-- a vote whose value is kept
module _ (n voters kept : ℕ) (rows new : List (List ℕ)) (room : HasRoom n kept rows new) (k : ℕ) (within : k < n)
    (now kept' : ℕ) (more : IsMore k voters now) (more_kept : IsMore k kept kept') (d : List ℕ) where
  pub has_row : HasVoteRows n voters kept rows → HasVoteRows n now kept' (set new k d)
  has_row has = record {
    whole = inr (length-set new k d ∙ room.whole);
    there = λ j t.
        subst (λ (x : ℕ). j < x) (sym (length-set new k d ∙ room.whole))
        (elim (or_cases (has_member kept j) (j == k) (sym (more_kept j) ∙ t)) [
          | inl was ↦ below j was
          | inr same ↦ subst (λ (x : ℕ). x < n) (sym (eqb-true j k same)) within
        ]);
    voted = λ j t.
        more j
        ∙ elim (or_cases (has_member kept j) (j == k) (sym (more_kept j) ∙ t)) [
          | inl was ↦ ap (λ (b : Bool). b || (j == k)) (has.voted j was)
          | inr same ↦ or_right (has_member voters j) (j == k) same
        ];
  }
    where
      below : (j : ℕ) → has_member kept j ≡ true → j < n
      below j t =
          let lt = has.there j t in
          elim has.whole [
            | inl none ↦ absurd (let nobody = ap length none in omega (arith, lt, nobody))
            | inr all ↦ omega (arith, lt, all)
          ]

  pub one_vote : votes_of n now kept' (set new k d) ≡ set (votes_of n voters kept rows) k (Some d)
  one_vote = one_vote_more n voters kept rows k within now kept' (set new k d) d this others
    where
      inside : k < length new
      inside = let whole = room.whole in omega (arith, within, whole)

      this : vote_in now kept' (set new k d) k ≡ Some d
      this =
          cond-true (has_member now k) (Some (row_in kept' (set new k d) k)) None (has_now k voters now more)
          ∙ ap (λ (m : List ℕ). Some m)
          (cond-true (has_member kept' k) (get_or (set new k d) k []) [] (has_now k kept kept' more_kept) ∙ get_or-set_same new k d [] inside)

      row_of : (j : ℕ) → (j ≡ k → ⊥) → (b : Bool) → has_member kept j ≡ b → cond b (get_or (set new k d) j []) [] ≡ cond b (get_or rows j []) []
      row_of j other true t = get_or-set_other new k j d [] other ∙ room.same j t
      row_of j other false t = refl

      others : (j : ℕ) → (j ≡ k → ⊥) → vote_in now kept' (set new k d) j ≡ vote_in voters kept rows j
      others j other =
          ap (λ (b : Bool). cond b (Some (row_in kept' (set new k d) j)) None) (has_still k voters now more j other)
          ∙ ap (λ (m : List ℕ). cond (has_member voters j) (Some m) None)
          (ap (λ (b : Bool). cond b (get_or (set new k d) j []) []) (has_still k kept kept' more_kept j other)
          ∙ row_of j other (has_member kept j) refl)

-- a vote whose value isn't kept
module _ (n voters kept : ℕ) (rows : List (List ℕ)) (k : ℕ) (within : k < n) (now : ℕ) (more : IsMore k voters now) where
  pub one_mark : has_member voters k ≡ false → HasVoteRows n voters kept rows → votes_of n now kept rows ≡ set (votes_of n voters kept rows) k (Some [])
  one_mark awaited has =
      one_vote_more n voters kept rows k within now kept rows []
      (cond-true (has_member now k) (Some (row_in kept rows k)) None (has_now k voters now more)
      ∙ ap (λ (m : List ℕ). Some m) (cond-false (has_member kept k) (get_or rows k []) [] unkept))
      (λ j other. ap (λ (b : Bool). cond b (Some (row_in kept rows j)) None) (has_still k voters now more j other))
    where
      unkept : has_member kept k ≡ false
      unkept = false_from_ne_true (has_member kept k) (λ t. both_ways (has_member voters k) awaited (has.voted k t))

-- ---- values that are dropped

pub has_no_row : (n voters kept : ℕ) → ((k : ℕ) → has_member kept k ≡ false) → HasVoteRows n voters kept []
has_no_row n voters kept none = record {
  whole = inl refl;
  there = λ k t. absurd (both_ways (has_member kept k) (none k) t);
  voted = λ k t. absurd (both_ways (has_member kept k) (none k) t);
}

pub all_dropped : (n voters kept : ℕ) (rows : List (List ℕ)) (none : ℕ) → ((k : ℕ) → has_member none k ≡ false) → votes_of n voters none [] ≡ without_values (votes_of n voters kept rows)
all_dropped n voters kept rows none nobody = all (replicas n)
  where
    dropped : (voted kept : Bool) (m : List ℕ) → kept ≡ false → cond voted (Some (cond kept [] [])) None ≡ without_value (cond voted (Some m) None)
    dropped true true m e = absurd (both_ways true e refl)
    dropped true false m e = refl
    dropped false kept m e = refl

    all : (ks : List ℕ) → map (vote_in voters none []) ks ≡ without_values (map (vote_in voters kept rows) ks)
    all [] = refl
    all (k ∷ ks) =
        ap₂ (λ (o : Option (List ℕ)) (os : List (Option (List ℕ))). o ∷ os) (dropped (has_member voters k) (has_member none k) (row_in kept rows k) (nobody k)) (all ks)
