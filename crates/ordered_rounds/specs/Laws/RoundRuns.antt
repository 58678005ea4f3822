-- The run of each round: it is a run of its boxes, and what the layer says at its slots, the round says.
use Rattle.std.specs.Prelude.{◌≡◌, ℕ, zero, suc, ◌<◌, ◌≤◌, Bool, true, not, ◌==◌, nat_le, List, [], ◌∷◌, Option, refl}
use Rattle.std.proofs.Common.{sym, ◌∙◌, ap, subst, inl, inr, arith}
use Rattle.std.proofs.lemmas.Bool.{and_parts, and_from, both_ways, eqb-true, eq-eqb, ne_eqb, leb-true, not-true}
use Rattle.ritas_base.specs.declared.slot.Slot.{Slot}
use Rattle.ritas_base.specs.declared.item.Say.{Say}
use Rattle.ritas_base.specs.declared.mode.Mode.{Mode}
use Rattle.ritas_base.specs.Numbers.{Numbers, IsSession}
use Rattle.ritas_base.specs.Slots.{within}
use Rattle.layer_api.specs.Runs.{ReplicaStep, calls_of, inner_run}
use Rattle.layer_api.specs.Words.{Word, Ask, Hear, HasSay, all_said}
use Rattle.layer_api.specs.Service.{Seat, said, AreProper}
use Rattle.layer_api.specs.OneLog.{Session, seat_at, service_play}
use Rattle.layer_api.specs.Part.{part_of, says_in}
use Rattle.layer_api.specs.Fed.{Play, IsFedRun}
use Rattle.layer_api.specs.FedLaws.{say_append}
use Rattle.layer_api.specs.PartLaws.{says_in_all, all_said_later, Feeds, Passes, part_inner, part_calls, part_fed}
use Rattle.layer_api.specs.FreshLaws.{said_each}
use Rattle.ordered_rounds.specs.Box.{RoundRules, RoundLaws, is_round_slot, MayRound, IsRoundSaid, round_play}
use Rattle.ordered_rounds.specs.Rounds.{says_input}
use Rattle.ordered_rounds.specs.Rounds.{round_scope, round_desk, is_of_round, round_ask, round_words, rounds_say_below, rounds, ordered}
use Rattle.ordered_rounds.specs.Laws.Roots.{atomic_root}
use Rattle.ordered_rounds.specs.Laws.WordsMeet.{round_asks, round_hears, round_met}

-- ---- slots of a round

-- a slot of a round: its class is not that of a command, and its number is the round's
pub record IsOfRound (a : ℕ) (s : Slot) : Type 0 where
  pub class : 2 ≤ s.class
  pub number : s.a ≡ a
  pub takes : is_of_round a s ≡ true

-- a slot of a round's instance is one of the round
pub of_round_is : (v : RoundRules) (p : Numbers) (a : ℕ) (s : Slot) → is_round_slot v (round_scope v p a) s ≡ true → IsOfRound a s
of_round_is v p a s e =
    let x = and_parts (within 2 5 s.class) _ e in
    let y = and_parts (s.a == a) _ x.1 in
    let l = leb-true 2 s.class (and_parts (nat_le 2 s.class) _ x.0).0 in
    record {
      class = l;
      number = eqb-true s.a a y.0;
      takes = and_from (not (s.class == 1)) _ (ap not (ne_eqb s.class 1 (λ z. omega (arith, z, l)))) y.0;
    }

-- a command is said at a slot of class 1
pub command_class : (seat : Seat) (w : List Word) (c : Word) (y : Say) → HasSay (says_input seat w c) y → y.slot.class ≡ 1
command_class seat w (Ask x) y (inl e) = sym (ap (λ (z : Say). z.slot.class) e)
command_class seat w (Ask x) y (inr h) = absurd h
command_class seat w (Hear s x) y h = absurd h

-- ---- what the layer says in a round, the round says

module _ (v : RoundRules) (laws : RoundLaws v) (seat : Seat) (session : IsSession seat.numbers) where
  -- what a word newly says in a round, and what was said there
  abbrev pub says_of_round : ℕ → List Word → Word → List Say
  says_of_round a w c = says_in (v.says (round_desk v seat a)) (part_of (round_ask v seat a) (is_of_round a) w c) (round_words v seat a w)

  abbrev pub said_in_round : ℕ → List Word → List Say
  said_in_round a w = all_said (v.says (round_desk v seat a)) (round_words v seat a w)

  -- what a word newly says in the rounds below one, one of these says
  pub below_said : (n : ℕ) (w : List Word) (c : Word) (y : Say) → HasSay (rounds_say_below v seat n w c) y → (a : ℕ) × (a < n) × HasSay (says_of_round a w c) y
  below_said zero w c y h = absurd h
  below_said (suc n) w c y h =
      elim (say_append (rounds_say_below v seat n w c) _ y h) [
        | inl x ↦ let b = below_said n w c y x in let l = b.1 in (b.0, omega (arith, l), b.2)
        | inr x ↦ (n, omega arith, x)
      ]

  -- what a round said is as it must be
  pub round_good : (a : ℕ) (w : List Word) (y : Say) → AreProper (ordered v) seat w → HasSay (said_in_round a w) y → IsRoundSaid v (round_desk v seat a) y
  round_good a w y proper h =
      said_each (v.says (round_desk v seat a)) (MayRound v (round_desk v seat a)) (IsRoundSaid v (round_desk v seat a))
      (λ c u m. laws.says_new (round_desk v seat a) c u session refl m) (round_words v seat a w) y (round_met v (atomic_root v laws) seat a w proper) h

  -- what the layer said at a slot of a round, the round said
  pub round_said : (a : ℕ) (w : List Word) (s : Slot) (x : List ℕ) → AreProper (ordered v) seat w → is_of_round a s ≡ true
      → HasSay (said (ordered v) seat w) (record { slot = s; value = x }) → HasSay (said_in_round a w) (record { slot = s; value = x })
  round_said a [] s x proper of h = absurd h
  round_said a (c ∷ w) s x proper of h =
      let u = and_parts (not (s.class == 1)) _ of in
      elim (say_append ((ordered v).says seat w c) _ _ h) [
        | inl y ↦ elim (say_append (says_input seat w c) _ _ y) [
          | inl z ↦
              absurd (both_ways (s.class == 1) (not-true (s.class == 1) u.0) (eq-eqb s.class 1 (command_class seat w c (record { slot = s; value = x }) z)))
          | inr z ↦
              let b = below_said rounds w c _ z in
              let t = says_in_all (v.says (round_desk v seat b.0)) (part_of (round_ask v seat b.0) (is_of_round b.0) w c) (round_words v seat b.0 w) _ b.2 in
              let o = of_round_is v seat.numbers b.0 s (round_good b.0 (c ∷ w) (record { slot = s; value = x }) proper t).slot in
              subst (λ (k : ℕ). HasSay (said_in_round k (c ∷ w)) (record { slot = s; value = x })) (sym o.number ∙ eqb-true s.a a u.1) t
        ]
        | inr y ↦
            all_said_later (v.says (round_desk v seat a)) (part_of (round_ask v seat a) (is_of_round a) w c) (round_words v seat a w) _
            (round_said a w s x proper.1 of y)
      ]

-- ---- the run of a round

module _ (v : RoundRules) (laws : RoundLaws v) (p : Numbers) (mode : Mode) (is_correct : ℕ → Bool) (coins : ℕ → Slot → Bool) (session : IsSession p) where
  -- a session's services and their values, and the values of a round inside
  abbrev pub round_session : Session
  round_session = record { rules = ordered v; numbers = p; mode = mode; is_correct = is_correct; coins = coins }

  abbrev pub session_play : Play
  session_play = service_play round_session

  abbrev pub seat : ℕ → Seat
  seat i = seat_at round_session i

  abbrev pub ask_round : ℕ → ℕ → List Word → Option (List ℕ)
  ask_round a i = round_ask v (seat i) a

  abbrev pub play_of : ℕ → Play
  play_of a = round_play v (round_scope v p a) coins

  -- the services' words feed those of the round
  pub feeds : (a : ℕ) → Feeds session_play (play_of a) (ask_round a) (is_of_round a)
  feeds a = record {
    asks = λ i c w x m none now. round_asks v (atomic_root v laws) (seat i) a c w x m none now;
    hears = λ i s x w m of. round_hears v (seat i) a s x w m.0 of;
  }

  -- and what they say at its slots, it says
  pub passes : (a : ℕ) → Passes session_play (play_of a) (ask_round a) (is_of_round a)
  passes a = record { feeds = feeds a; says = λ i s x w m of mine h. round_said v laws (seat i) session a w s x m of h }

  -- the run that the steps of the services make of a round
  abbrev pub round_run : ℕ → List (ReplicaStep Word) → List (ReplicaStep Word)
  round_run a xs = inner_run (part_inner (ask_round a) (is_of_round a)) xs

  -- it is a run of its boxes
  pub round_fed : (a : ℕ) (xs : List (ReplicaStep Word)) → IsFedRun session_play is_correct xs → IsFedRun (play_of a) is_correct (round_run a xs)
  round_fed a xs fed = part_fed session_play (play_of a) is_correct (ask_round a) (is_of_round a) (passes a) xs fed

  -- each replica's words in it are those of its round
  pub round_calls : (a i : ℕ) (xs : List (ReplicaStep Word)) → calls_of i (round_run a xs) ≡ round_words v (seat i) a (calls_of i xs)
  round_calls a i xs = part_calls (ask_round a) (is_of_round a) i xs
