-- A word at a step says nothing of the VECT and the bit.
use Rattle.std.specs.Prelude.{◌≡◌, ℕ, Bool, true, false, ◌&&◌, nat_le, List, [], ◌∷◌, ◌++◌, Option, Some, None, is_some, option_map, if◌then◌else◌, refl}
use Rattle.std.specs.Option.{option_or}
use Rattle.std.proofs.Common.{sym, ◌∙◌, ap, ap₂, subst}
use Rattle.std.proofs.lemmas.Bool.{eq-eqb}
use Rattle.ritas_base.specs.declared.slot.Slot.{Slot}
use Rattle.ritas_base.specs.declared.item.Say.{Say}
use Rattle.ritas_base.specs.Numbers.{wait_of, support_of}
use Rattle.ritas_base.specs.History.{replicas}
use Rattle.ritas_base.specs.Shortest.{at_shortest, at_shortest_none}
use Rattle.ritas_base.specs.Quorums.{count_same}
use Rattle.layer_api.specs.Words.{Word, Hear, bit_byte}
use Rattle.layer_api.specs.Binary.{BinaryRules, Bench}
use Rattle.layer_api.specs.Part.{proposed, newly, newly_asked, passed, part_of, says_in}
use Rattle.layer_api.specs.Multi.{Scope, Desk}
use Rattle.multivalued.specs.Consensus.{bit_asked, bit_words, bench_of, is_step, multivalued, init, init_slot, vect_slot, count_passing, common, vect_told, vect_now, own_vect, valid, bit_at, proposed_bit, multi_decision}
use Rattle.multivalued.specs.Entries.{is_valid_vect}
use Rattle.multivalued.specs.Known.{vect_of}
use Rattle.multivalued.specs.Settling.{Decides}
use Rattle.multivalued.specs.Holding.{BoxHolds, BoxHeard}
use Rattle.multivalued.specs.declared.settling.Decision.{Decision}
use Rattle.multivalued.specs.declared.mvc.Mvc.{Mvc}
use Rattle.multivalued.proofs.KnownLaws.{known_step, heard_other, holds_same, valids_at}
use Rattle.multivalued.proofs.HoldingLaws.{nothing_new}
use Rattle.multivalued.proofs.Deciding.{decided_at}

pub shortest_same : {V : Type 0} (f : List Word → Option V) (c : Word) (w : List Word) → (f w ≡ None → f (c ∷ w) ≡ None) → at_shortest f (c ∷ w) ≡ at_shortest f w
shortest_same {V = V} f c w still = go (at_shortest f w) refl
  where
    go : (o : Option V) → at_shortest f w ≡ o → option_or o (f (c ∷ w)) ≡ o
    go (Some x) e = refl
    go None e = still (at_shortest_none f w e)

not_if : {V : Type 0} (b : Bool) (x : V) → (if b then Some x else None) ≡ None → b ≡ false
not_if true x e = absurd cc
not_if false x e = refl

if_not : {V : Type 0} (b : Bool) (x : V) → b ≡ false → (if b then Some x else None) ≡ None
if_not true x e = absurd cc
if_not false x e = refl

module _ (at : Scope) (w : List Word) (s : Slot) (v : List ℕ) (five : s.class ≡ 5) where
  same_init : (j : ℕ) → init at (Hear s v ∷ w) j ≡ init at w j
  same_init j = heard_other w s (init_slot at j) v (λ e. no3 (sym five ∙ ap (λ (q : Slot). q.class) e))
    where
      no3 : ◌≡◌ {A = ℕ} 5 3 → ⊥
      no3 e = cc

  same_vect : (j : ℕ) → vect_of at (Hear s v ∷ w) j ≡ vect_of at w j
  same_vect j = heard_other w s (vect_slot at j) v (λ e. no4 (sym five ∙ ap (λ (q : Slot). q.class) e))
    where
      no4 : ◌≡◌ {A = ℕ} 5 4 → ⊥
      no4 e = cc

  many : count_passing at (λ k. is_some (init at (Hear s v ∷ w) k)) ≡ count_passing at (λ k. is_some (init at w k))
  many = count_same (λ k. is_some (init at (Hear s v ∷ w) k)) (λ k. is_some (init at w k)) (λ k. ap is_some (same_init k)) (replicas at.numbers.n)

  pub vect_still : own_vect at (Hear s v ∷ w) ≡ own_vect at w
  vect_still = shortest_same (vect_now at) (Hear s v) w (λ e. if_not _ (vect_told at (Hear s v ∷ w) (common at (Hear s v ∷ w)))
      (ap (λ (m : ℕ). is_some (proposed w) && nat_le (wait_of at.numbers) m) many
      ∙ not_if (is_some (proposed w) && nat_le (wait_of at.numbers) (count_passing at (λ k. is_some (init at w k)))) (vect_told at w (common at w)) e))

  many_valid : count_passing at (λ k. is_some (valid at (Hear s v ∷ w) k)) ≡ count_passing at (λ k. is_some (valid at w k))
  many_valid =
      sym (valids_at at (Hear s v ∷ w))
      ∙ (count_same (λ k. is_valid_vect at.numbers.n (support_of at.numbers) (init at (Hear s v ∷ w)) true (vect_of at (Hear s v ∷ w) k)) (λ k. is_valid_vect at.numbers.n (support_of at.numbers) (init at w) true (vect_of at w k))
      (λ k. holds_same at.numbers.n (support_of at.numbers) (init at (Hear s v ∷ w)) (init at w) (vect_of at (Hear s v ∷ w)) (vect_of at w) same_init same_vect true (vect_of at (Hear s v ∷ w) k)
      ∙ ap (is_valid_vect at.numbers.n (support_of at.numbers) (init at w) true) (same_vect k)) (replicas at.numbers.n)
      ∙ valids_at at w)

  pub bit_still : proposed_bit at (Hear s v ∷ w) ≡ proposed_bit at w
  bit_still = shortest_same (bit_at at) (Hear s v) w (λ e. if_not _ _
      (ap₂ (λ (o : Option (List ℕ)) (m : ℕ). is_some o && nat_le (wait_of at.numbers) m) vect_still many_valid
      ∙ not_if (is_some (own_vect at w) && nat_le (wait_of at.numbers) (count_passing at (λ k. is_some (valid at w k)))) _ e))

nothing_asked : (o : Option (List ℕ)) → newly_asked o o ≡ []
nothing_asked None = refl
nothing_asked (Some v) = refl

module _ {B : Type 0} (stands : B → Bench → List Word → Type 0) (b : BinaryRules) (at : Desk) (w : List Word) (s : Slot) (v : List ℕ) (five : s.class ≡ 5) where
  -- the binary instance hears the word alone
  part_is : part_of (bit_asked at.scope) is_step w (Hear s v) ≡ Hear s v ∷ []
  part_is =
      ap (λ (o : Option Bool). newly_asked (bit_asked at.scope w) (option_map (λ b. bit_byte b ∷ []) o) ++ passed is_step (Hear s v)) (bit_still at.scope w s v five)
      ∙ (ap (λ (ys : List Word). ys ++ passed is_step (Hear s v)) (nothing_asked (bit_asked at.scope w)) ∙ ap (λ (t : Bool). if t then Hear s v ∷ [] else []) (eq-eqb s.class 5 five))

  pub words_are : bit_words at.scope (Hear s v ∷ w) ≡ Hear s v ∷ bit_words at.scope w
  words_are = ap (λ (ys : List Word). ys ++ bit_words at.scope w) part_is

  says_are : (multivalued b).says at w (Hear s v) ≡ b.says (bench_of at) (bit_words at.scope w) (Hear s v)
  says_are =
      ap (λ (xs : List Say). xs ++ (newly (vect_slot at.scope at.me) (own_vect at.scope w) (own_vect at.scope (Hear s v ∷ w)) ++ says_in (b.says (bench_of at)) (part_of (bit_asked at.scope) is_step w (Hear s v)) (bit_words at.scope w)))
      (nothing_new (init_slot at.scope at.me) (proposed w))
      ∙ (ap (λ (xs : List Say). xs ++ says_in (b.says (bench_of at)) (part_of (bit_asked at.scope) is_step w (Hear s v)) (bit_words at.scope w))
      (ap (newly (vect_slot at.scope at.me) (own_vect at.scope w)) (vect_still at.scope w s v five) ∙ nothing_new (vect_slot at.scope at.me) (own_vect at.scope w))
      ∙ ap (λ (ys : List Word). says_in (b.says (bench_of at)) ys (bit_words at.scope w)) part_is)

  -- what follows from a vote
  pub votes : (x : Mvc B) (inner : B) (bit : Option Bool) (decided : Decision) (before after : List Say) → BoxHolds stands b x x.place at w
      → stands inner (bench_of at) (Hear s v ∷ bit_words at.scope w) → after ≡ before ++ b.says (bench_of at) (bit_words at.scope w) (Hear s v)
      → (round : ℕ) → round ≡ b.round (bench_of at) (Hear s v ∷ bit_words at.scope w) → bit ≡ b.decision (bench_of at) (Hear s v ∷ bit_words at.scope w)
      → Decides x.table x.place.decided bit decided
      → BoxHeard stands b (record x { inner = inner }) (record x.place { round = round; decided = decided }) at w (Hear s v) before after
  votes x inner bit decided before after h stood said round round_is bit_is decides =
      let known = known_step at.scope w s v x.table five h.known in
      record {
        holds = record {
          part_is = h.part_is;
          known = known;
          reached = record {
            owns = h.reached.owns;
            told = h.reached.told ∙ sym (ap is_some (vect_still at.scope w s v five));
            asked = h.reached.asked ∙ sym (ap is_some (bit_still at.scope w s v five));
            decided = decided_at b at (Hear s v ∷ w) x.table x.place.decided decided bit h.part_is.session known (bit_is ∙ sym (ap (b.decision (bench_of at)) words_are)) decides
                (multi_decision b at w) h.reached.decided;
            round = round_is ∙ sym (ap (b.round (bench_of at)) words_are);
            stood = subst (λ (u : List Word). stands inner (bench_of at) u) (sym words_are) stood;
          };
        };
        made = said ∙ ap (λ (ys : List Say). before ++ ys) (sym says_are);
      }
