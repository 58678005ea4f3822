-- The law of one log of binary consensus as a root service, from the law of one bit of its box: a run of the service is one of
-- the box.
use Rattle.std.specs.Prelude.{◌≡◌, ℕ, Bool, true, false, ◌==◌, ◌&&◌, if◌then◌else◌, List, [], ◌∷◌, Option, Some, None, option_map, refl}
use Rattle.std.proofs.Common.{sym, ◌∙◌, ap, subst, inl}
use Rattle.std.proofs.lemmas.Bool.{and_parts, eqb-true}
use Rattle.ritas_base.specs.declared.slot.Slot.{Slot}
use Rattle.ritas_base.specs.declared.mode.Mode.{Mode}
use Rattle.ritas_base.specs.Numbers.{Numbers}
use Rattle.layer_api.specs.Runs.{ReplicaStep, calls_of, Has}
use Rattle.layer_api.specs.Service.{Decides, Instance, OfBit, OfValue, OfVector, Decision, Bit, Decided, Spent}
use Rattle.layer_api.specs.Words.{Word, Ask, bit_byte}
use Rattle.layer_api.specs.Fed.{IsFedRun}
use Rattle.layer_api.specs.FedLaws.{same_fed}
use Rattle.layer_api.specs.OneLog.{Session, seat_at, service_play, IsRunOf, OneLog}
use Rattle.layer_api.specs.Proposals.{SaidProposal, SomeProposed, IsProposed}
use Rattle.layer_api.specs.Binary.{BinaryRules, Bench, bench_at, binary_play, OneBit}
use Rattle.binary_consensus.specs.Root.{binary_ending, binary_decided_in, binary_root}
use Rattle.binary_consensus.specs.Laws.RootWords.{are_votes}

ending_is : (o : Option Bool) (over : Bool) (d : Decision) → binary_ending o over ≡ Decided d → (x : Bool) × (o ≡ Some x) × (d ≡ Bit x)
ending_is None true d e = absurd cc
ending_is None false d e = absurd cc
ending_is (Some x) over d e = (x, refl, cc)

decided_is : (o : Option Bool) (x : Instance) (d : Decision) → binary_decided_in o x ≡ Some d → (y : Bool) × (o ≡ Some y) × (d ≡ Bit y)
decided_is o (OfBit a attempt) d e = go (a == 0 && attempt == 0) o e
  where
    go : (c : Bool) (z : Option Bool) → (if c then option_map Bit z else None) ≡ Some d → (y : Bool) × (z ≡ Some y) × (d ≡ Bit y)
    go false z e = absurd cc
    go true None e = absurd cc
    go true (Some y) e = (y, refl, cc)
decided_is o (OfValue a attempt) d e = absurd cc
decided_is o (OfVector a) d e = absurd cc

-- a bit that is decided is that of the one instance
own_bit : (a attempt : ℕ) (o : Option Bool) (x : Bool) → binary_decided_in o (OfBit a attempt) ≡ Some (Bit x) → (a ≡ 0) × (attempt ≡ 0) × (o ≡ Some x)
own_bit a attempt o x q = go (a == 0 && attempt == 0) refl o q
  where
    go : (c : Bool) → (a == 0 && attempt == 0) ≡ c → (z : Option Bool) → (if c then option_map Bit z else None) ≡ Some (Bit x)
        → (a ≡ 0) × (attempt ≡ 0) × (z ≡ Some x)
    go false e z q = absurd cc
    go true e None q = absurd cc
    go true e (Some y) q =
        let h = and_parts (a == 0) (attempt == 0) e in
        let same : y ≡ x = cc in
        (eqb-true a 0 h.0, eqb-true attempt 0 h.1, ap Some same)

-- the one instance is one of a bit
no_value : (a attempt : ℕ) → Decides (OfBit 0 0) ≡ Decides (OfValue a attempt) → ⊥
no_value a attempt e = cc

no_vector : (a : ℕ) → Decides (OfBit 0 0) ≡ Decides (OfVector a) → ⊥
no_vector a e = cc

bit_same : (x y : Bool) → Bit x ≡ Bit y → x ≡ y
bit_same x y e = cc

module _ (b : BinaryRules) (one : OneBit b) (p : Numbers) (mode : Mode) (is_correct : ℕ → Bool) (coins : ℕ → Slot → Bool) (steps : List (ReplicaStep Word))
    (run : IsRunOf (record { rules = binary_root b; numbers = p; mode = mode; is_correct = is_correct; coins = coins }) steps) where
  abbrev session : Session
  session = record { rules = binary_root b; numbers = p; mode = mode; is_correct = is_correct; coins = coins }

  abbrev bench : ℕ → Bench
  bench i = bench_at p 0 0 coins i

  -- a run of the service is one of the box: the words are the same, and so is what is said
  voted : IsFedRun (binary_play b p 0 0 coins) is_correct steps
  voted =
      same_fed (service_play session) (binary_play b p 0 0 coins) is_correct (λ i c w m. (are_votes b (seat_at session i) (c ∷ w) m).0) (λ i w y m h. h) steps run.fed

  bit_of : (d e : Decision) (x y : Bool) → d ≡ Bit x → e ≡ Bit y → x ≡ y → d ≡ e
  bit_of d e x y p q s = p ∙ (ap Bit s ∙ sym q)

  agrees : (i j : ℕ) (x y : Bool) → is_correct i ≡ true → is_correct j ≡ true → b.decision (bench i) (calls_of i steps) ≡ Some x
      → b.decision (bench j) (calls_of j steps) ≡ Some y → x ≡ y
  agrees i j x y ci cj q s = one.agree p 0 0 is_correct coins steps run.enough voted i j x y ci cj q s

  pub same_outcomes : (i j : ℕ) (d e : Decision) → is_correct i ≡ true → is_correct j ≡ true
      → (binary_root b).outcome (seat_at session i) (calls_of i steps) ≡ Decided d
      → (binary_root b).outcome (seat_at session j) (calls_of j steps) ≡ Decided e → d ≡ e
  same_outcomes i j d e ci cj q s =
      let x = ending_is _ _ d q in
      let y = ending_is _ _ e s in
      bit_of d e x.0 y.0 x.2 y.2 (agrees i j x.0 y.0 ci cj x.1 y.1)

  pub same_decisions : (i j : ℕ) (x : Instance) (d e : Decision) → is_correct i ≡ true → is_correct j ≡ true
      → (binary_root b).decided (seat_at session i) (calls_of i steps) x ≡ Some d
      → (binary_root b).decided (seat_at session j) (calls_of j steps) x ≡ Some e → d ≡ e
  same_decisions i j x d e ci cj q s =
      let m = decided_is _ x d q in
      let n = decided_is _ x e s in
      bit_of d e m.0 n.0 m.2 n.2 (agrees i j m.0 n.0 ci cj m.1 n.1)

  pub bits_are_inputs : (i : ℕ) (x : Bool) → is_correct i ≡ true
      → (binary_root b).outcome (seat_at session i) (calls_of i steps) ≡ Decided (Bit x)
      → (k : ℕ) × (is_correct k ≡ true) × Has (calls_of k steps) (Ask (bit_byte x ∷ []))
  bits_are_inputs i x ci q =
      let m = ending_is _ _ (Bit x) q in
      one.valid p 0 0 is_correct coins steps run.enough voted i x ci (m.1 ∙ ap Some (sym (bit_same x m.0 m.2)))

  -- what the instance decided a correct replica said at its first step
  said_bit : (i a attempt : ℕ) (x : Bool) → is_correct i ≡ true
      → (binary_root b).decided (seat_at session i) (calls_of i steps) (OfBit a attempt) ≡ Some (Bit x)
      → SomeProposed is_correct (SaidProposal (service_play session) steps) (OfBit a attempt) (bit_byte x ∷ [])
  said_bit i a attempt x ci q =
      let y = own_bit a attempt (b.decision (bench i) (calls_of i steps)) x q in
      subst (λ (k : ℕ). SomeProposed is_correct (SaidProposal (service_play session) steps) (OfBit k attempt) (bit_byte x ∷ [])) (sym y.0)
      (subst (λ (k : ℕ). SomeProposed is_correct (SaidProposal (service_play session) steps) (OfBit 0 k) (bit_byte x ∷ [])) (sym y.1)
      (one.proposed p 0 0 is_correct coins steps run.enough voted i x ci y.2))

  pub decisions_proposed : (i : ℕ) → is_correct i ≡ true
      → IsProposed is_correct (SaidProposal (service_play session) steps) ((binary_root b).decided (seat_at session i) (calls_of i steps))
  decisions_proposed i ci = record {
    bits = λ a attempt x q. said_bit i a attempt x ci q;
    values = λ a attempt v q. absurd cc;
    entries = λ a k v e ck q r. absurd cc;
  }

spent_bit : (b : Bool) → Spent ≡ Bit b → ⊥
spent_bit b e = cc

pub root_one_log : (b : BinaryRules) → OneBit b → OneLog (binary_root b)
root_one_log b one = record {
  logs = λ p mode is_correct coins steps run i j ci cj. inl ([], refl);
  outcomes = λ p mode is_correct coins steps run. same_outcomes b one p mode is_correct coins steps run;
  decisions = λ p mode is_correct coins steps run. same_decisions b one p mode is_correct coins steps run;
  bits = λ p mode is_correct coins steps run. bits_are_inputs b one p mode is_correct coins steps run;
  proposals = λ p mode is_correct coins steps run a attempt other i v ci q. absurd (no_value a attempt other);
  unspent = λ p mode is_correct coins steps run i ci q. absurd (let x = ending_is _ _ Spent q in spent_bit x.0 x.2);
  last_vectors = λ p mode is_correct coins steps run i j x y ci cj q. absurd cc;
  proposed = λ p mode is_correct coins steps run i ci. decisions_proposed b one p mode is_correct coins steps run i ci;
  entries = λ p mode is_correct coins steps run a other i k v e ci ck q r. absurd (no_vector a other);
  appended = λ p mode is_correct coins steps run i x ci there. absurd cc;
}
