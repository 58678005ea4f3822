-- By a word that delivers no command, a round whose log and words stay as they were is asked nothing new, and doesn't become complete.
use Rattle.std.specs.Prelude.{◌≡◌, ℕ, zero, suc, Bool, ◌==◌, ◌&&◌, ◌||◌, false, true, if◌then◌else◌, List, [], ◌∷◌, Option, Some, None, is_some, unwrap_or, refl}
use Rattle.std.specs.Option.{option_or}
use Rattle.std.proofs.Common.{◌∙◌, ap, ap₂}
use Rattle.std.proofs.lemmas.Bool.{eq-eqb, both_ways, false_from_ne_true}
use Rattle.ritas_base.specs.declared.slot.Slot.{Slot}
use Rattle.ritas_base.specs.declared.id.Id.{Id}
use Rattle.ritas_base.specs.Shortest.{at_shortest, at_shortest_none}
use Rattle.ritas_base.specs.SlotOrder.{is_slot, same_slot}
use Rattle.ritas_base.specs.Slots.{command_slot}
use Rattle.layer_api.specs.Words.{Word, Hear}
use Rattle.layer_api.specs.Service.{Seat}
use Rattle.ordered_rounds.specs.Box.{RoundRules}
use Rattle.ordered_rounds.specs.Identifiers.{passing_ids, is_without, all_pass}
use Rattle.ordered_rounds.specs.Rounds.{delivered_ids, has_command, appended, first_ids, begins_with, completes_with, completes_at, round_desk, log_below, log_of, complete_of, round_ask, round_words}

-- what is nothing new at this prefix changes nothing
again : {C V : Type 0} (f : List C → Option V) (h : List C) → option_or (at_shortest f h) (f h) ≡ at_shortest f h
again f h = go (at_shortest f h) refl
  where
    go : (o : Option _) → at_shortest f h ≡ o → option_or o (f h) ≡ o
    go None e = at_shortest_none f h e
    go (Some v) e = refl

-- what depends on the commands that were delivered
pub pass_same : (f g : Id → Bool) (xs : List Id) → ((x : Id) → f x ≡ g x) → all_pass f xs ≡ all_pass g xs
pass_same f g [] same = refl
pass_same f g (x ∷ xs) same = ap₂ (λ (a b : Bool). a && b) (same x) (pass_same f g xs same)

begins_same : (seat : Seat) (before : Option (List Id)) (h k : List Word) → delivered_ids h ≡ delivered_ids k → begins_with seat before h ≡ begins_with seat before k
begins_same seat None h k same = refl
begins_same seat (Some log) h k same = ap (λ (xs : List Id). first_ids seat.numbers.n (passing_ids (is_without log) xs)) same

completes_same : (v : RoundRules) (seat : Seat) (before : Option (List Id)) (decision : Option (List ℕ)) (h k : List Word) → ((x : Id) → has_command h x ≡ has_command k x)
    → completes_with v seat before decision h ≡ completes_with v seat before decision k
completes_same v seat None decision h k same = refl
completes_same v seat (Some log) None h k same = refl
completes_same v seat (Some log) (Some vector) h k same =
    ap (λ (b : Bool). if b then Some (appended v seat.numbers vector log) else None) (pass_same (has_command h) (has_command k) (v.wanted seat.numbers vector) same)

-- a slot that isn't a command's delivers none
pub no_command : (s : Slot) (x : List ℕ) (w : List Word) → (s.class == 1) ≡ false → (y : Id) → has_command (Hear s x ∷ w) y ≡ has_command w y
no_command s x w other y = ap (λ (b : Bool). b || has_command w y) (false_from_ne_true (is_slot s (command_slot y.origin y.num)) (λ e. both_ways (s.class == 1) other (class_one e)))
  where
    class_one : is_slot s (command_slot y.origin y.num) ≡ true → (s.class == 1) ≡ true
    class_one e = eq-eqb s.class 1 (ap (λ (q : Slot). q.class) (same_slot s (command_slot y.origin y.num) e))

pub none_delivered : (s : Slot) (x : List ℕ) (w : List Word) → (s.class == 1) ≡ false → delivered_ids (Hear s x ∷ w) ≡ delivered_ids w
none_delivered s x w other = ap (λ (b : Bool). if b then record { origin = s.origin; num = s.a } ∷ delivered_ids w else delivered_ids w) other

module _ (v : RoundRules) (seat : Seat) where
  pub ask_same : (a : ℕ) (c : Word) (w : List Word) → delivered_ids (c ∷ w) ≡ delivered_ids w → log_below v seat a (c ∷ w) ≡ log_below v seat a w
      → round_ask v seat a (c ∷ w) ≡ round_ask v seat a w
  ask_same a c w same log =
      ap (λ (o : Option (List ℕ)). option_or (round_ask v seat a w) o)
      (ap (λ (before : Option (List Id)). begins_with seat before (c ∷ w)) log ∙ begins_same seat (log_below v seat a w) (c ∷ w) w same)
      ∙ again (λ h. begins_with seat (log_below v seat a h) h) w

  pub log_same : (a : ℕ) (c : Word) (w : List Word) → ((x : Id) → has_command (c ∷ w) x ≡ has_command w x) → log_below v seat a (c ∷ w) ≡ log_below v seat a w
      → round_words v seat a (c ∷ w) ≡ round_words v seat a w → log_below v seat (suc a) (c ∷ w) ≡ log_below v seat (suc a) w
  log_same a c w same log words =
      ap (λ (o : Option (List Id)). option_or (log_below v seat (suc a) w) o)
      (ap₂ (λ (before : Option (List Id)) (ds : List Word). completes_with v seat before (v.decision (round_desk v seat a) ds) (c ∷ w)) log words
      ∙ completes_same v seat (log_below v seat a w) (v.decision (round_desk v seat a) (round_words v seat a w)) (c ∷ w) w same)
      ∙ again (completes_at v seat a (log_below v seat a)) w

  -- where all logs stay, so do the number of complete rounds and the log after them
  pub count_same : (n : ℕ) (c : Word) (w : List Word) → ((a : ℕ) → log_below v seat a (c ∷ w) ≡ log_below v seat a w) → complete_of v seat n (c ∷ w) ≡ complete_of v seat n w
  count_same zero c w same = refl
  count_same (suc n) c w same =
      ap₂ (λ (o : Option (List Id)) (k : ℕ). if is_some o then suc n else k) (same (suc n)) (count_same n c w same)

  pub last_same : (n : ℕ) (c : Word) (w : List Word) → ((a : ℕ) → log_below v seat a (c ∷ w) ≡ log_below v seat a w) → log_of v seat n (c ∷ w) ≡ log_of v seat n w
  last_same zero c w same = refl
  last_same (suc n) c w same = ap₂ (λ (o : Option (List Id)) (log : List Id). unwrap_or o log) (same (suc n)) (last_same n c w same)
