-- What the law of one log of atomic broadcast rests on, over any rounds with their laws: logs, the instances inside, and last
-- vectors.
use Rattle.std.specs.Prelude.{◌≡◌, ℕ, zero, suc, ◌≤◌, Bool, true, List, Some, refl, ◌⊎◌}
use Rattle.std.proofs.Common.{sym, ◌∙◌, ap₂, subst, inl, inr, arith}
use Rattle.std.proofs.lemmas.Bool.{cases_order}
use Rattle.ritas_base.specs.declared.slot.Slot.{Slot}
use Rattle.ritas_base.specs.declared.id.Id.{Id}
use Rattle.ritas_base.specs.declared.mode.Mode.{Mode}
use Rattle.ritas_base.specs.Numbers.{Numbers, IsSession}
use Rattle.layer_api.specs.Runs.{ReplicaStep, calls_of, IsEnough}
use Rattle.layer_api.specs.Words.{Word}
use Rattle.layer_api.specs.Service.{Seat, Instance, Decision, IsPart, LastVector}
use Rattle.layer_api.specs.OneLog.{seat_at, service_play}
use Rattle.layer_api.specs.Fed.{IsFedRun}
use Rattle.layer_api.specs.FedLaws.{met}
use Rattle.layer_api.specs.Multi.{desk_at}
use Rattle.ordered_rounds.specs.Box.{RoundRules, RoundLaws, round_play, OneRound, instance_round}
use Rattle.ordered_rounds.specs.Rounds.{appended, round_scope, round_desk, log_below, complete_of, round_words, round_decides, rounds, ordered, vector_of_round, last_complete}
use Rattle.ordered_rounds.specs.RoundsAgree.{RoundDecisionsAgree}
use Rattle.ordered_rounds.specs.Laws.RoundVectors.{completes_by}
use Rattle.ordered_rounds.specs.Laws.RoundRuns.{session_play, round_run, round_fed, round_calls}
use Rattle.ordered_rounds.specs.Laws.LogsByRound.{Completes, log_earlier, log_complete}
use Rattle.std.specs.Option.{option_or}
use Rattle.ritas_base.specs.Shortest.{option_or_some}

-- ---- a run

module _ (v : RoundRules) (laws : RoundLaws v) (one : OneRound v) (p : Numbers) (mode : Mode) (is_correct : ℕ → Bool) (coins : ℕ → Slot → Bool)
    (enough : IsEnough p is_correct) (xs : List (ReplicaStep Word))
    (fed : IsFedRun (service_play (record { rules = ordered v; numbers = p; mode = mode; is_correct = is_correct; coins = coins })) is_correct xs) where
  abbrev session : IsSession p
  session = enough.session

  abbrev seat : ℕ → Seat
  seat i = seat_at (record { rules = ordered v; numbers = p; mode = mode; is_correct = is_correct; coins = coins }) i

  abbrev words : ℕ → List Word
  words i = calls_of i xs

  -- the run of a round, which is one of its boxes, and its words, which are the round's
  abbrev run : ℕ → List (ReplicaStep Word)
  run a = round_run v laws p mode is_correct coins session a xs

  run_fed : (a : ℕ) → IsFedRun (round_play v (round_scope v p a) coins) is_correct (run a)
  run_fed a = round_fed v laws p mode is_correct coins session a xs fed

  -- what holds of the round's words at a replica holds of the replica's words in that run
  in_run : (a i : ℕ) (P : List Word → Type 0) → P (round_words v (seat i) a (words i)) → P (calls_of i (run a))
  in_run a i P h = subst P (sym (round_calls v laws p mode is_correct coins session a i xs)) h

  pub to_run : (a i : ℕ) (x : List ℕ) → round_decides v (seat i) a (words i) ≡ Some x → v.decision (desk_at (round_scope v p a) coins i) (calls_of i (run a)) ≡ Some x
  to_run a i x q = in_run a i (λ w. v.decision (round_desk v (seat i) a) w ≡ Some x) q

  -- decisions of one round are equal
  pub same_vector : (a i j : ℕ) (x y : List ℕ) → is_correct i ≡ true → is_correct j ≡ true
      → round_decides v (seat i) a (words i) ≡ Some x → round_decides v (seat j) a (words j) ≡ Some y → x ≡ y
  same_vector a i j x y ci cj q r =
      one.agree (round_scope v p a) is_correct coins (run a) enough refl (run_fed a) i j x y ci cj (to_run a i x q) (to_run a j y r)

  -- ---- the logs

  -- a complete round's log is that before it, with what its decision wants
  pub completed_by : (a i : ℕ) (log : List Id) → log_below v (seat i) (suc a) (words i) ≡ Some log
      → Completes v p (log_below v (seat i) a (words i)) (round_decides v (seat i) a (words i)) log
  completed_by a i log q = completes_by v laws (seat i) a (words i) log (met (session_play v laws p mode is_correct coins session) is_correct xs fed i) q

  -- logs after as many rounds are equal
  same_log : (a i j : ℕ) (l m : List Id) → is_correct i ≡ true → is_correct j ≡ true
      → log_below v (seat i) a (words i) ≡ Some l → log_below v (seat j) a (words j) ≡ Some m → l ≡ m
  same_log zero i j l m ci cj q r = cc
  same_log (suc a) i j l m ci cj q r =
      let x = completed_by a i l q in
      let y = completed_by a j m r in
      let old = same_log a i j x.old y.old ci cj x.there y.there in
      let vector = same_vector a i j x.vector y.vector ci cj x.decides y.decides in
      sym x.whole ∙ (ap₂ (appended v p) vector old ∙ y.whole)

  -- of two logs that after no more rounds is a part of the other
  one_of_two : (a b i j : ℕ) (l m : List Id) → is_correct i ≡ true → is_correct j ≡ true → a ≤ b
      → log_below v (seat i) a (words i) ≡ Some l → log_below v (seat j) b (words j) ≡ Some m → IsPart l m
  one_of_two a b i j l m ci cj le q r =
      let e = log_earlier v (seat j) b a (words j) m le r in
      let same = same_log a i j l e.old ci cj q e.there in
      subst (λ (k : List Id). IsPart k m) (sym same) e.part

  -- of two logs one is a part of the other
  pub logs : (i j : ℕ) → is_correct i ≡ true → is_correct j ≡ true →
      let x = (ordered v).done (seat i) (words i) in let y = (ordered v).done (seat j) (words j) in IsPart x y ⊎ IsPart y x
  logs i j ci cj =
      let x = complete_of v (seat i) rounds (words i) in
      let y = complete_of v (seat j) rounds (words j) in
      let lx = log_complete v (seat i) rounds (words i) in
      let ly = log_complete v (seat j) rounds (words j) in
      elim (cases_order x y) [
        | inl same ↦ let e = same in inl (one_of_two x y i j _ _ ci cj (omega (arith, e)) lx ly)
        | inr (inl less) ↦ inl (one_of_two x y i j _ _ ci cj (omega (arith, less)) lx ly)
        | inr (inr more) ↦ inr (one_of_two y x j i _ _ cj ci (omega (arith, more)) ly lx)
      ]

  -- ---- the instances inside

  -- what an instance inside decided is equal
  same_inner : (a i j : ℕ) (x : Instance) (d e : Decision) → is_correct i ≡ true → is_correct j ≡ true
      → v.inside (round_desk v (seat i) a) (round_words v (seat i) a (words i)) x ≡ Some d
      → v.inside (round_desk v (seat j) a) (round_words v (seat j) a (words j)) x ≡ Some e → d ≡ e
  same_inner a i j x d e ci cj q r =
      one.insides (round_scope v p a) is_correct coins (run a) enough refl (run_fed a) i j x d e ci cj
      (in_run a i (λ w. v.inside (round_desk v (seat i) a) w x ≡ Some d) q)
      (in_run a j (λ w. v.inside (round_desk v (seat j) a) w x ≡ Some e) r)

  -- no round's attempts are spent
  pub unspent : (a i : ℕ) → is_correct i ≡ true → v.spent (round_desk v (seat i) a) (round_words v (seat i) a (words i)) ≡ true → ⊥
  unspent a i ci q =
      one.unspent (round_scope v p a) is_correct coins (run a) enough refl (run_fed a) i ci (in_run a i (λ w. v.spent (round_desk v (seat i) a) w ≡ true) q)

  -- what each instance decided is equal
  pub decisions : (i j : ℕ) (x : Instance) (d e : Decision) → is_correct i ≡ true → is_correct j ≡ true
      → (ordered v).decided (seat i) (words i) x ≡ Some d → (ordered v).decided (seat j) (words j) x ≡ Some e → d ≡ e
  decisions i j x d e ci cj q r = same_inner (instance_round x) i j x d e ci cj q r

  -- ---- the last vectors

  -- a last vector is that of its round
  last_has : (i : ℕ) (x : LastVector) → (ordered v).last (seat i) (words i) ≡ Some x → vector_of_round v (seat i) x.round (words i) ≡ Some x
  last_has i x q = go (complete_of v (seat i) rounds (words i)) q
    where
      of_round : (a : ℕ) → vector_of_round v (seat i) a (words i) ≡ Some x → vector_of_round v (seat i) x.round (words i) ≡ Some x
      of_round a h =
          let r = (laws.vector_is (round_desk v (seat i) a) (round_words v (seat i) a (words i)) x h).round in
          subst (λ (b : ℕ). vector_of_round v (seat i) b (words i) ≡ Some x) (sym r) h

      complete : (a : ℕ) → last_complete v (seat i) a (words i) ≡ Some x → vector_of_round v (seat i) x.round (words i) ≡ Some x
      complete zero q = absurd cc
      complete (suc a) q = of_round a q

      go : (a : ℕ) → option_or (vector_of_round v (seat i) a (words i)) (last_complete v (seat i) a (words i)) ≡ Some x
          → vector_of_round v (seat i) x.round (words i) ≡ Some x
      go a q =
          elim (option_or_some (vector_of_round v (seat i) a (words i)) (last_complete v (seat i) a (words i)) x q) [
            | inl y ↦ of_round a y
            | inr y ↦ complete a y.1
          ]

  -- of one round they are one
  pub one_last : (i j : ℕ) (x y : LastVector) → is_correct i ≡ true → is_correct j ≡ true
      → (ordered v).last (seat i) (words i) ≡ Some x → (ordered v).last (seat j) (words j) ≡ Some y → x.round ≡ y.round → x ≡ y
  one_last i j x y ci cj q r same =
      let a : ℕ = x.round in
      let k = subst (λ (b : ℕ). vector_of_round v (seat j) b (words j) ≡ Some y) (sym same) (last_has j y r) in
      one.vectors (round_scope v p a) is_correct coins (run a) enough refl (run_fed a) i j x y ci cj
      (in_run a i (λ w. v.vector (round_desk v (seat i) a) w ≡ Some x) (last_has i x q)) (in_run a j (λ w. v.vector (round_desk v (seat j) a) w ≡ Some y) k)

-- decisions of one round are equal, over every run, by the laws of their boxes
pub decisions_agree : (v : RoundRules) → RoundLaws v → OneRound v → RoundDecisionsAgree v
decisions_agree v laws one p mode is_correct coins steps run a i j x y ci cj q r =
    same_vector v laws one p mode is_correct coins run.enough steps run.fed a i j x y ci cj q r
