-- What a box stands for, and what its getters answer.
use Rattle.std.specs.Prelude.{◌≡◌, ℕ, zero, suc, ◌+◌, ◌*◌, ◌/◌, ◌<◌, ◌≤◌, ◌==◌, ◌&&◌, Bool, true, false, not, List, [], ◌∷◌, ◌++◌, Option, Some, None, is_some, is_none, option_map, if◌then◌else◌, refl, ◌⊎◌}
use Rattle.std.specs.Option.{option_or}
use Rattle.std.proofs.Common.{sym, ◌∙◌, ap, subst, inl, inr, arith}
use Rattle.std.proofs.lemmas.Bool.{cases_eq, and_parts}
use Rattle.ritas_base.specs.declared.slot.Slot.{Slot}
use Rattle.ritas_base.specs.declared.item.Say.{Say}
use Rattle.ritas_base.specs.Numbers.{IsSession}
use Rattle.layer_api.specs.Words.{Word, Hear}
use Rattle.layer_api.specs.Binary.{Bench, MayVote}
use Rattle.layer_api.specs.Calls.{IsCoin}
use Rattle.layer_api.specs.BinaryCalls.{BoxShown, ShowsBox, ShowsBoxNear}
use Rattle.binary_consensus.specs.Steps.{step_of}
use Rattle.binary_consensus.specs.Consensus.{left, next_vote, decides, vote_said, decided_below, binary_rounds, steps, last_step, binary_decision, over, round_below, steps_say_below, binary}
use Rattle.binary_consensus.specs.Laws.Stays.{rounds_are, steps_are, last_is, unleft, next_none, silent, silent_above, clash}
use Rattle.binary_consensus.specs.Going.{IsBinaryPart, AreRowsHeard, IsOver, IsHere}
use Rattle.binary_consensus.specs.declared.place.Place.{Place}
use Rattle.binary_consensus.specs.declared.bin.Bin.{Bin}

-- once no more is said, what is heard counts for nothing
pub record BinaryStands (b : Bin) (at : Bench) (w : List Word) : Type 0 where
  pub session : IsSession at.numbers
  pub part : IsBinaryPart b.part b.line.numbers at
  pub heard : b.place.ended ≡ false → AreRowsHeard at b.line.rows w
  pub here : IsHere at b.place.ended b.place.said w
  pub decided : b.place.decided ≡ binary_decision at w
  pub live : b.live ≡ true

-- the vote is heard, and what is newly said is put out
abbrev pub Votes : (Slot → Bool) → Bin → Slot → ℕ → List Say → List Say → Bin → Type 0
Votes bits old slot value before after new = (at : Bench) (w : List Word) → BinaryStands old at w → IsCoin at.coin bits → MayVote binary at w slot value →
    BinaryStands new at (Hear slot (value ∷ []) ∷ w) × (after ≡ before ++ steps_say_below at steps w (Hear slot (value ∷ [])))

abbrev pub with_place : Bin → Place → Bin
with_place b place = record { part = b.part; line = b.line; place = place; live = b.live }

-- what the getters answer
abbrev pub box_shown_at : Place → BoxShown
box_shown_at place = record {
  round = (place.said + 2) / 3;
  decision = place.decided;
  over = place.ended && is_none place.decided;
}

abbrev pub binary_shown : Bin → BoxShown
binary_shown b = box_shown_at b.place

-- ---- they answer what the rules say

module _ (at : Bench) where
  -- a step that is said has all below it said
  said_below : (t s : ℕ) (w : List Word) → (v : ℕ) → vote_said at t w ≡ Some v → s ≤ t → vote_said at s w ≡ None → ⊥
  said_below t s w v q l e = clash at (vote_said at t w) v (silent_above at s t w e l) q

  -- the round of the greatest step that is said
  round_is : (t : ℕ) (w : List Word) (v : ℕ) → vote_said at t w ≡ Some v → (vote_said at (suc t) w ≡ None) ⊎ (t ≡ 599) → (r : ℕ) → t / 3 < r → 3 * r ≤ 600 → round_below at r w ≡ t / 3 + 1
  round_is t w v q next zero l m = absurd (omega arith)
  round_is t w v q next (suc r) l m = go (vote_said at (3 * r) w) refl (λ n. round_is t w v q next r n (omega arith)) (cases_eq (t / 3) r)
    where
      go : (o : Option ℕ) → vote_said at (3 * r) w ≡ o → (t / 3 < r → round_below at r w ≡ t / 3 + 1) → (t / 3 ≡ r) ⊎ (t / 3 ≡ r → ⊥)
          → (if is_some o then suc r else round_below at r w) ≡ t / 3 + 1
      go (Some u) e ih (inl same) = omega (arith, same)
      go None e ih (inl same) = absurd (said_below t (3 * r) w v q (omega (arith, same)) e)
      go None e ih (inr other) = ih (omega (arith, l, other))
      go (Some u) e ih (inr other) = above next
        where
          above : (vote_said at (suc t) w ≡ None) ⊎ (t ≡ 599) → suc r ≡ t / 3 + 1
          above (inl none) = absurd (clash at (vote_said at (3 * r) w) u (silent_above at (suc t) (3 * r) w none (omega (arith, l, other))) e)
          above (inr last) = absurd (omega (arith, last, l, other, m))

  round_at : (t : ℕ) (w : List Word) (v : ℕ) → t < 600 → vote_said at t w ≡ Some v → (vote_said at (suc t) w ≡ None) ⊎ (t ≡ 599) → (suc t + 2) / 3 ≡ round_below at binary_rounds w
  round_at t w v l q next =
      let r = rounds_are in
      let e = round_is t w v q next binary_rounds (omega (arith, r, l)) (omega (arith, r)) in
      omega (arith, e)

  no_round : (r : ℕ) → 0 ≡ round_below at r []
  no_round zero = refl
  no_round (suc r) = no_round r ∙ sym (ap (λ (o : Option ℕ). if is_some o then suc r else round_below at r []) (silent at (3 * r)))

  -- nothing follows a round that is over after a decision
  ends_round : (t : ℕ) (w : List Word) → (step_of t == 3 && is_some (decided_below at t w)) ≡ true → vote_said at (suc t) w ≡ None
  ends_round t w e = ap (λ (b : Bool). if b then None else option_map (next_vote at t) (left at t w)) e

  not_over : (t : ℕ) (w : List Word) → t < 600 → left at t w ≡ None → false ≡ over at w
  not_over t w l none =
      let e = last_is in
      let last : left at last_step w ≡ None = elim (cases_eq t last_step) [
        | inl same ↦ subst (λ (s : ℕ). left at s w ≡ None) same none
        | inr other ↦ unleft at last_step w (silent_above at (suc t) last_step w (next_none at t w none) (omega (arith, e, l, other)))
      ] in
      sym (ap (λ (o : Option (List ℕ)). is_some o && not (is_some (binary_decision at w))) last)

  over_at : (t : ℕ) (w : List Word) → IsOver at t w → is_none (binary_decision at w) ≡ over at w
  over_at t w o = go (binary_decision at w) refl
    where
      go : (d : Option Bool) → binary_decision at w ≡ d → is_none d ≡ (is_some (left at last_step w) && not (is_some d))
      go (Some b) e = none (is_some (left at last_step w))
        where
          none : (r : Bool) → false ≡ (r && false)
          none true = refl
          none false = refl
      go None e = last o.ends
        where
          some_first : (a b : Option Bool) → is_some a ≡ true → option_or a b ≡ None → ⊥
          some_first None b h q = absurd cc
          some_first (Some x) b h q = absurd cc

          last : ((step_of t == 3 && is_some (decided_below at t w)) ≡ true) ⊎ (suc t ≡ steps) → true ≡ (is_some (left at last_step w) && true)
          last (inl f) =
              absurd (some_first (decided_below at t w) (decides at.numbers t (left at t w)) (and_parts (step_of t == 3) _ f).1 (sym o.is_decided ∙ e))
          last (inr f) =
              let s = steps_are in
              let l = last_is in
              let same : t ≡ last_step = omega (arith, s, l, f) in
              sym (ap (λ (x : Option (List ℕ)). is_some x && true) (subst (λ (m : ℕ). left at m w ≡ Some o.votes) same o.is_left))

  pub shows_here : (place : Place) (w : List Word) → IsHere at place.ended place.said w → place.decided ≡ binary_decision at w → ShowsBox binary at w (box_shown_at place)
  shows_here place w here decided = go place.ended place.said here
    where
      go : (ended : Bool) (count : ℕ) → IsHere at ended count w
          → ShowsBox binary at w (record { round = (count + 2) / 3; decision = place.decided; over = ended && is_none place.decided })
      go true zero h = absurd h
      go false zero h = record {
        round = subst (λ (x : List Word). 0 ≡ round_below at binary_rounds x) (sym h) (no_round binary_rounds);
        decision = decided;
        over = subst (λ (x : List Word). false ≡ over at x) (sym h) (not_over 0 [] (omega arith) (unleft at 0 [] (silent at 0)));
      }
      go false (suc t) h = record {
        round = round_at t w h.value h.below h.is_said (inl (next_none at t w h.not_left));
        decision = decided;
        over = not_over t w h.below h.not_left;
      }
      go true (suc t) h = record {
        round = round_at t w h.value h.below h.is_said (elim h.ends [ inl f ↦ inl (ends_round t w f) | inr f ↦ inr (let s = steps_are in omega (arith, s, f)) ]);
        decision = decided;
        over = ap (λ (d : Option Bool). is_none d) decided ∙ over_at t w h;
      }

pub shows_box : (b : Bin) (at : Bench) (w : List Word) → BinaryStands b at w → (b.live ≡ true) × ShowsBox binary at w (binary_shown b)
shows_box b at w stands = (stands.live, shows_here at b.place w stands.here stands.decided)

-- where what is kept stays, all is answered as before the call
pub shows_as_before : (b : Bin) (at : Bench) (w : List Word) (c : Word) → BinaryStands b at w → ShowsBoxNear binary at w c (binary_shown b)
shows_as_before b at w c stands =
    let s = shows_here at b.place w stands.here stands.decided in
    record { round = inl s.round; decision = inl s.decision; over = inl s.over; ending = inl (s.decision, s.over) }
