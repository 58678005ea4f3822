-- The replicas of a world without the rest of it.
use Rattle.std.proofs.Common.{◌≡◌, ℕ, zero, suc, ◌+◌, false, List, [], ◌∷◌, ◌++◌, length, Option, Some, None, inl, inr, true, refl, sym, ◌∙◌, ap, subst, arith, if◌then◌else◌}
use Rattle.std.specs.Prelude.{filter}
use Rattle.std.specs.List.{filter_map, slice_get, range_with_len}
use Rattle.std.proofs.lemmas.List.{append-nil}
use Rattle.std.proofs.lemmas.List.Elements.{filter_map-append}
use Rattle.std.proofs.lemmas.Option.{same_Some}
use Rattle.keyed_channel.specs.KeyRow.{KeyRow}
use Rattle.ritas_core.specs.Machine.{CoreState}
use Rattle.ritas_core.specs.Stands.{Meaning}
use Rattle.replica.specs.declared.replica.Replica.{Replica}
use Rattle.world_model.specs.World.{Setting, CallAt}
use Rattle.world_model.specs.Stands.{IsReplica, StandsAt, ReplicasStand, AreInOrder, AreMembers, IsLeft, LeftAt, ReplicasLeft, AreMembersLeft}

pub present_more : {X : Type 0} (xs : List (Option X)) (x : Option X) (value : X) (ys zs : List X) → x ≡ Some value → ys ≡ filter_map (λ place. place) xs
    → zs ≡ ys ++ value ∷ [] → zs ≡ filter_map (λ place. place) (xs ++ x ∷ [])
present_more {X = X} xs x value ys zs is here more =
    let P : Option X → Type 0 = λ y. zs ≡ filter_map (λ place. place) (xs ++ y ∷ []) in
    subst P (sym is) (more ∙ ap (λ l. l ++ value ∷ []) here ∙ sym (filter_map-append (λ place. place) xs (Some value ∷ [])))

pub present_none : {X : Type 0} (xs : List (Option X)) (x : Option X) (ys : List X) → ((value : X) → x ≡ Some value → ⊥) → ys ≡ filter_map (λ place. place) xs
    → ys ≡ filter_map (λ place. place) (xs ++ x ∷ [])
present_none xs (Some y) ys none here = absurd (none y refl)
present_none xs None ys none here = here ∙ sym (filter_map-append (λ place. place) xs (None ∷ []) ∙ append-nil (filter_map (λ place. place) xs))

-- ---- the members

module _ {X : Type 0} (w : Setting) (Is : ℕ → X → Type 0) where
  -- what is at a place is as this says where the replica of its number is correct, and nothing is where it is faulty
  abbrev IsAtPlace : ℕ → Option X → Type 0
  IsAtPlace i None = w.is_correct i ≡ false
  IsAtPlace i (Some x) = (w.is_correct i ≡ true) × Is i x

  -- the correct ones of the numbers from k on, and what stands at their places
  record AreFrom (k : ℕ) (places : List (Option X)) : Type 0 where
    many : length (filter_map (λ place. place) places) ≡ length (filter w.is_correct (range_with_len k (length places)))
    each : (j i : ℕ) (x : X) → slice_get (filter w.is_correct (range_with_len k (length places))) j ≡ Some i
        → slice_get (filter_map (λ place. place) places) j ≡ Some x → Is i x

  abbrev StandFrom : ℕ → List (Option X) → Type 0
  StandFrom k places = (i : ℕ) (place : Option X) → slice_get places i ≡ Some place → IsAtPlace (k + i) place

  stand_behind : (k : ℕ) (place : Option X) (places : List (Option X)) → StandFrom k (place ∷ places) → StandFrom (k + 1) places
  stand_behind k place places stand i x e =
      subst (λ (n : ℕ). IsAtPlace n x) (omega arith) (stand (suc i) x e)

  -- a faulty one is left out
  left_out : (k : ℕ) (places : List (Option X)) → w.is_correct k ≡ false → AreFrom (k + 1) places → AreFrom k (None ∷ places)
  left_out k places faulty are =
      let numbers = filter w.is_correct (range_with_len (k + 1) (length places)) in
      let same : filter w.is_correct (range_with_len k (suc (length places))) ≡ numbers = ap (λ b. if b then k ∷ numbers else numbers) faulty in
      record {
        many = are.many ∙ sym (ap length same);
        each = λ j i x number there. are.each j i x (sym (ap (λ (l : List ℕ). slice_get l j) same) ∙ number) there;
      }

  -- a correct one stands in front
  put_in : (k : ℕ) (first : X) (places : List (Option X)) → (w.is_correct k ≡ true) × Is k first → AreFrom (k + 1) places → AreFrom k (Some first ∷ places)
  put_in k first places is are =
      let numbers = filter w.is_correct (range_with_len (k + 1) (length places)) in
      let here = filter_map (λ place. place) places in
      let same : filter w.is_correct (range_with_len k (suc (length places))) ≡ k ∷ numbers = ap (λ b. if b then k ∷ numbers else numbers) is.0 in
      record {
        many = ap suc are.many ∙ sym (ap length same);
        each = λ j i x number there. at j i x (sym (ap (λ (l : List ℕ). slice_get l j) same) ∙ number) there;
      }
    where
      at : (j i : ℕ) (x : X) → slice_get (k ∷ filter w.is_correct (range_with_len (k + 1) (length places))) j ≡ Some i
          → slice_get (first ∷ filter_map (λ place. place) places) j ≡ Some x → Is i x
      at zero i x number there =
          subst (λ (n : ℕ). Is n x) (same_Some k i number)
          (let P : X → Type 0 = λ y. Is k y in subst P (same_Some first x there) is.1)
      at (suc j) i x number there = are.each j i x number there

  all_from : (k : ℕ) (places : List (Option X)) → StandFrom k places → AreFrom k places
  all_from k [] stand = record { many = refl; each = λ j i x number there. absurd (cc) }
  all_from k (None ∷ places) stand =
      left_out k places (subst (λ (n : ℕ). w.is_correct n ≡ false) (omega arith) (stand 0 None refl)) (all_from (k + 1) places (stand_behind k None places stand))
  all_from k (Some x ∷ places) stand =
      put_in k x places (subst (λ (n : ℕ). IsAtPlace n (Some x)) (omega arith) (stand 0 (Some x) refl))
      (all_from (k + 1) places (stand_behind k (Some x) places stand))

  in_order : (places : List (Option X)) (here : List X) → length places ≡ w.numbers.n
      → ((i : ℕ) (place : Option X) → slice_get places i ≡ Some place → IsAtPlace i place)
      → here ≡ filter_map (λ place. place) places → AreInOrder w Is here
  in_order places here many each is =
      let are = all_from 0 places (λ i place e. subst (λ (n : ℕ). IsAtPlace n place) (omega arith) (each i place e)) in
      let P : ℕ → List X → Type 0 = λ n xs. (length xs ≡ length (filter w.is_correct (range_with_len 0 n)))
      × ((k i : ℕ) (x : X) → slice_get (filter w.is_correct (range_with_len 0 n)) k ≡ Some i → slice_get xs k ≡ Some x → Is i x) in
      let both : P w.numbers.n here = subst (λ (n : ℕ). P n here) many (subst (λ (xs : List X). P (length places) xs) (sym is) (are.many, are.each)) in
      record { many = both.0; each = both.1 }

-- ---- of a world, and of a stopped one

module _ {S E C : Type 0} (m : Meaning S E C KeyRow) (w : Setting) where
  pub members_stand : (states : ℕ → CoreState) (places : List (Option (Replica S E C))) (here : List (Replica S E C)) → ReplicasStand m w states places
      → here ≡ filter_map (λ place. place) places → AreMembers m w states here
  members_stand states places here stand is =
      in_order w (λ i rep. IsReplica m w states i rep) places here stand.many (λ i place e. at i place (stand.each i place e)) is
    where
      at : (i : ℕ) (place : Option (Replica S E C)) → StandsAt m w states i place → IsAtPlace w (λ i rep. IsReplica m w states i rep) i place
      at i None stands = stands
      at i (Some rep) stands = (stands.correct, stands)

  left_correct : (before after : ℕ → CoreState) (c : Option CallAt) (i : ℕ) (rep : Replica S E C) → IsLeft m w before after c i rep → w.is_correct i ≡ true
  left_correct before after c i rep (inl is) = is.correct
  left_correct before after c i rep (inr (inl is)) = is.correct
  left_correct before after c i rep (inr (inr is)) = is.correct

  pub members_left : (before after : ℕ → CoreState) (c : Option CallAt) (places : List (Option (Replica S E C))) (here : List (Replica S E C))
      → ReplicasLeft m w before after c places → here ≡ filter_map (λ place. place) places → AreMembersLeft m w before after c here
  members_left before after c places here left is =
      in_order w (λ i rep. IsLeft m w before after c i rep) places here left.many (λ i place e. at i place (left.each i place e)) is
    where
      at : (i : ℕ) (place : Option (Replica S E C)) → LeftAt m w before after c i place → IsAtPlace w (λ i rep. IsLeft m w before after c i rep) i place
      at i None was = was
      at i (Some rep) was = (left_correct before after c i rep was, was)
