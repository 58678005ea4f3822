-- What a correct replica decided in an instance of a round was proposed to it by correct replicas.
use Rattle.std.specs.Prelude.{◌≡◌, ℕ, zero, suc, ◌<◌, Bool, true, List, Option, Some, None, refl}
use Rattle.std.proofs.Common.{sym, ◌∙◌, ap, subst, inl, inr, arith}
use Rattle.std.proofs.lemmas.Bool.{cases_order, cases_lt}
use Rattle.std.proofs.lemmas.Option.{none-some}
use Rattle.ritas_base.specs.declared.slot.Slot.{Slot}
use Rattle.ritas_base.specs.declared.item.Say.{Say}
use Rattle.ritas_base.specs.declared.mode.Mode.{Mode}
use Rattle.ritas_base.specs.Numbers.{Numbers}
use Rattle.layer_api.specs.Runs.{ReplicaStep, calls_of, IsEnough}
use Rattle.layer_api.specs.Words.{Word, HasSay}
use Rattle.layer_api.specs.Service.{Seat, Instance, OfBit, OfValue, OfVector, Decision, Bit, Value}
use Rattle.layer_api.specs.OneLog.{Session, seat_at, service_play}
use Rattle.layer_api.specs.Fed.{IsFedRun}
use Rattle.layer_api.specs.FedLaws.{say_earlier, say_later, met}
use Rattle.layer_api.specs.Part.{newly_asked, part_of, says_in}
use Rattle.layer_api.specs.Proposals.{Proposal, SaidProposal, IsProposed, proposal_slot}
use Rattle.layer_api.specs.ProposalLaws.{part_said, proposed_as}
use Rattle.ordered_rounds.specs.Box.{RoundRules, RoundLaws, round_play, OneRound}
use Rattle.ordered_rounds.specs.Rounds.{says_input, round_scope, round_desk, is_of_round, round_ask, round_words, rounds_say_below, rounds, ordered}
use Rattle.ordered_rounds.specs.Laws.AskedFirst.{words_over}
use Rattle.ordered_rounds.specs.Laws.RoundRuns.{session_play, round_run, round_fed, round_calls}

-- what a word newly says in a round
abbrev round_says : RoundRules → Seat → ℕ → List Word → Word → List Say
round_says v seat a w c =
    says_in (v.says (round_desk v seat a)) (part_of (round_ask v seat a) (is_of_round a) w c) (round_words v seat a w)

-- what one of the rounds below newly says is among what these newly say
below_says : (v : RoundRules) (seat : Seat) (n a : ℕ) (w : List Word) (c : Word) (y : Say) → a < n
    → HasSay (round_says v seat a w c) y → HasSay (rounds_say_below v seat n w c) y
below_says v seat zero a w c y l h = absurd (omega (arith, l))
below_says v seat (suc n) a w c y l h =
    elim (cases_order a n) [
      | inl same ↦
          say_later (rounds_say_below v seat n w c) _ y
          (subst (λ (b : ℕ). HasSay (round_says v seat b w c) y) same h)
      | inr (inl less) ↦ say_earlier (rounds_say_below v seat n w c) _ y (below_says v seat n a w c y less h)
      | inr (inr more) ↦ absurd (omega (arith, l, more))
    ]

module _ (v : RoundRules) (laws : RoundLaws v) (one : OneRound v) (p : Numbers) (mode : Mode) (is_correct : ℕ → Bool) (coins : ℕ → Slot → Bool)
    (enough : IsEnough p is_correct) (xs : List (ReplicaStep Word))
    (fed : IsFedRun (service_play (record { rules = ordered v; numbers = p; mode = mode; is_correct = is_correct; coins = coins })) is_correct xs) where
  abbrev group : Session
  group = record { rules = ordered v; numbers = p; mode = mode; is_correct = is_correct; coins = coins }

  abbrev seat : ℕ → Seat
  seat i = seat_at group i

  abbrev words : ℕ → List Word
  words i = calls_of i xs

  -- what is said in a run of the services, and in that of a round
  abbrev pub saying : Proposal
  saying = SaidProposal (service_play group) xs

  abbrev run : ℕ → List (ReplicaStep Word)
  run a = round_run v laws p mode is_correct coins enough.session a xs

  abbrev pub saying_in : ℕ → Proposal
  saying_in a = SaidProposal (round_play v (round_scope v p a) coins) (run a)

  -- what an instance of a round decided
  abbrev pub inside : ℕ → ℕ → Instance → Option Decision
  inside a i = v.inside (round_desk v (seat i) a) (round_words v (seat i) a (words i))

  -- a round's words are those of its run
  calls : (a i : ℕ) → calls_of i (run a) ≡ round_words v (seat i) a (words i)
  calls a i = round_calls v laws p mode is_correct coins enough.session a i xs

  -- what a replica said in a round, it said
  pub rounds_out : (a : ℕ) → a < rounds → (k : ℕ) (x : Instance) (u : List ℕ) → saying_in a k x u → saying k x u
  rounds_out a less k x u h =
      let y : Say = record { slot = proposal_slot x k; value = u } in
      part_said (round_ask v (seat k) a) (is_of_round a) ((ordered v).says (seat k)) (v.says (round_desk v (seat k) a))
      (λ c w z s. say_later (says_input (seat k) w c) _ z (below_says v (seat k) rounds a w c z less s))
      (words k) y
      (subst (λ (w : List Word). HasSay ((round_play v (round_scope v p a) coins).said k w) y) (calls a k) h)

  -- so what is decided in a round was proposed
  round_proposed : (a : ℕ) → a < rounds → (i : ℕ) → is_correct i ≡ true → IsProposed is_correct saying (inside a i)
  round_proposed a less i ci =
      subst (λ (w : List Word). IsProposed is_correct saying (v.inside (round_desk v (seat i) a) w)) (calls a i)
      (proposed_as is_correct (saying_in a) saying (λ k x u ck h. rounds_out a less k x u h) _
      (one.proposed (round_scope v p a) is_correct coins (run a) enough refl
      (round_fed v laws p mode is_correct coins enough.session a xs fed) i ci))

  -- an instance that decided is of a round that there is
  pub has_round : (a i : ℕ) (x : Instance) (d : Decision) → inside a i x ≡ Some d → a < rounds
  has_round a i x d q =
      elim (cases_lt a rounds) [
        | inl less ↦ less
        | inr over ↦
            let m = met (session_play v laws p mode is_correct coins enough.session) is_correct xs fed i in
            let is = words_over v laws (seat i) enough.session a (words i) over m in
            absurd (none-some d (sym (asked_alone (round_ask v (seat i) a (words i)))
            ∙ (ap (λ (w : List Word). v.inside (round_desk v (seat i) a) w x) (sym is) ∙ q)))
      ]
    where
      asked_alone : (o : Option (List ℕ)) → v.inside (round_desk v (seat i) a) (newly_asked None o) x ≡ None
      asked_alone None = laws.inside_first (round_desk v (seat i) a) x
      asked_alone (Some u) = laws.inside_asked (round_desk v (seat i) a) u x enough.session

  pub decisions_proposed : (i : ℕ) → is_correct i ≡ true → IsProposed is_correct saying ((ordered v).decided (seat i) (words i))
  decisions_proposed i ci = record {
    bits = λ a t b q. (round_proposed a (has_round a i (OfBit a t) (Bit b) q) i ci).bits a t b q;
    values = λ a t u q. (round_proposed a (has_round a i (OfValue a t) (Value u) q) i ci).values a t u q;
    entries = λ a k u e ck q r.
        (round_proposed a (has_round a i (OfVector a) (Value u) q) i ci).entries a k u e ck q r;
  }
