-- The slots that open go by class, number, attempt and round alone.
use Rattle.std.specs.Prelude.{◌≡◌, ℕ, Bool, true, false, ◌==◌, ◌&&◌, nat_lt, List, if◌then◌else◌}
use Rattle.std.proofs.Common.{◌∙◌, ap}
use Rattle.std.proofs.lemmas.Bool.{and_parts, and_from}
use Rattle.ritas_base.specs.declared.slot.Slot.{Slot}
use Rattle.layer_api.specs.Service.{Seat}
use Rattle.layer_api.specs.Words.{Word}
use Rattle.layer_api.specs.Multi.{Desk}
use Rattle.layer_api.specs.OpeningLaws.{IsNoLater, OpensDown, no_later_in}
use Rattle.ordered_rounds.specs.Box.{RoundRules, last_attempt, is_round_slot}
use Rattle.ordered_rounds.specs.Rounds.{rounds, is_kept, complete_of, round_scope, round_desk, round_words, ordered}

-- whether a round has the slot and takes it, and whether a slot may be taken: a command's, or one of a round
abbrev takes : RoundRules → Seat → List Word → ℕ → Slot → Bool
takes v seat w a s =
    is_round_slot v (round_scope v seat.numbers a) s
    && v.opens (round_desk v seat a) (round_words v seat a w) s

abbrev allowed : RoundRules → Seat → List Word → Bool → ℕ → Slot → Bool
allowed v seat w command a s =
    if command then true
    else nat_lt a rounds && (is_kept seat.mode.version (complete_of v seat rounds w) a && takes v seat w a s)

module _ (v : RoundRules) (down : (at : Desk) (w : List Word) → OpensDown (v.opens at w)) (seat : Seat) (w : List Word) where
  takes_down : (a : ℕ) (s t : Slot) → IsNoLater s t → takes v seat w a t ≡ true → takes v seat w a s ≡ true
  takes_down a s t near e =
      let x = and_parts (is_round_slot v (round_scope v seat.numbers a) t) _ e in
      and_from (is_round_slot v (round_scope v seat.numbers a) s) _
      (no_later_in (last_attempt v seat.numbers) a s t near x.0)
      (down (round_desk v seat a) (round_words v seat a w) s t near x.1)

  allowed_down : (command : Bool) (a : ℕ) (s t : Slot) → IsNoLater s t
      → allowed v seat w command a t ≡ true → allowed v seat w command a s ≡ true
  allowed_down true a s t near e = e
  allowed_down false a s t near e =
      let x = and_parts (nat_lt a rounds) _ e in
      let y = and_parts (is_kept seat.mode.version (complete_of v seat rounds w) a) _ x.1 in
      and_from (nat_lt a rounds) _ x.0
      (and_from (is_kept seat.mode.version (complete_of v seat rounds w) a) _ y.0 (takes_down a s t near y.1))

  pub ordered_opens_down : OpensDown ((ordered v).opens seat w)
  ordered_opens_down s t near e =
      let same : (s.class == 1) ≡ (t.class == 1) = ap (λ (c : ℕ). c == 1) near.class in
      let there = allowed_down (t.class == 1) t.a s t near e in
      ap (λ (b : Bool). allowed v seat w b s.a s) same
      ∙ ap (λ (a : ℕ). allowed v seat w (t.class == 1) a s) near.number ∙ there
