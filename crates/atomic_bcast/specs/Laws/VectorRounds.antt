-- The laws of rounds of vector consensus, from those of its box.
use Rattle.std.specs.Prelude.{◌≡◌, ℕ, ◌+◌, Bool, true, nat_le, List, [], ◌∷◌, length, Option, Some, None, is_some, refl}
use Rattle.std.proofs.Common.{sym, ◌∙◌, ap, ap₂, subst, arith}
use Rattle.std.proofs.lemmas.List.FromFn.{length-range_with_len}
use Rattle.ritas_base.specs.declared.slot.Slot.{Slot}
use Rattle.ritas_base.specs.declared.id.Id.{Id}
use Rattle.ritas_base.specs.declared.root_service.RootService.TheVariants.{Atomic}
use Rattle.ritas_base.specs.RootServices.{root_number}
use Rattle.ritas_base.specs.Numbers.{Numbers, IsSession}
use Rattle.ritas_base.specs.Slots.{has_tries}
use Rattle.ritas_base.specs.History.{replicas}
use Rattle.ritas_base.specs.Quorums.{meet_two}
use Rattle.frame_codec.specs.EntryCountLaws.{entries_by_place}
use Rattle.frame_codec.specs.Values.{ids_of, vector_entries, entry_at_place, is_passed}
use Rattle.layer_api.specs.Runs.{ReplicaStep, calls_of, IsEnough}
use Rattle.layer_api.specs.Words.{Word, Ask, Hear, all_said}
use Rattle.layer_api.specs.Service.{OfVector, Value, LastVector, IsAttemptOf, has_id, vector_with, vector_decision}
use Rattle.layer_api.specs.DecisionLaws.{vector_is, vector_parts}
use Rattle.layer_api.specs.Fed.{IsFedRun}
use Rattle.layer_api.specs.FedLaws.{same_fed, met}
use Rattle.layer_api.specs.FreshLaws.{fresh_other}
use Rattle.layer_api.specs.Multi.{Scope, Desk, desk_at}
use Rattle.layer_api.specs.Vectors.{VectorRules, VectorLaws, OneVector, MayVector, AreVector, IsVectorSaid, vector_play}
use Rattle.ordered_rounds.specs.Identifiers.{IsSorted, in_order}
use Rattle.layer_api.specs.Proposals.{backers}
use Rattle.ordered_rounds.specs.Rounds.{entry_ids, backed}
use Rattle.ordered_rounds.specs.Box.{RoundLaws, OneRound, MayRound, AreRound, IsRoundSaid, IsVectorHere, WasInList, round_play}
use Rattle.ordered_rounds.specs.Laws.Ordered.{in_order_sorted, kept_sorted}
use Rattle.ordered_rounds.specs.Laws.ListedIds.{backed_has, backed_many}
use Rattle.atomic_bcast.specs.VectorRounds.{by_vectors}

-- ---- a word of a round is one of its box

has_vectors : (root : ℕ) → root ≡ root_number Atomic → has_tries root ≡ true
has_vectors root six = ap has_tries six

pub may_vector : (v : VectorRules) (at : Desk) (w : List Word) (c : Word) → MayRound (by_vectors v) at w c → MayVector v at w c
may_vector v at w (Ask x) may = (may.0, may.1, has_vectors at.scope.root may.2)
may_vector v at w (Hear s x) may =
    record { slot = may.slot; origin = may.origin; is_open = may.is_open; first = may.first; good = may.good; has = has_vectors at.scope.root may.root }

pub are_vector : (v : VectorRules) (at : Desk) (w : List Word) → AreRound (by_vectors v) at w → AreVector v at w
are_vector v at [] all = tt
are_vector v at (c ∷ w) all = (may_vector v at w c all.0, are_vector v at w all.1)

there : (o : Option ℕ) → is_some o ≡ true → (k : ℕ) × (o ≡ Some k)
there None e = absurd cc
there (Some k) e = (k, refl)

no_vector : (a : ℕ) (o : Option ℕ) → vector_with a o None ≡ None
no_vector a None = refl
no_vector a (Some k) = refl

module _ (v : VectorRules) (laws : VectorLaws v) (at : Desk) where
  -- a vector that is decided, its instance decided
  pub vector_decided : (w : List Word) (x : List ℕ) → v.decision at w ≡ Some x → v.inside at w (OfVector at.scope.a) ≡ Some (Value x)
  vector_decided w x q = laws.inside_own at w ∙ ap (λ (o : Option (List ℕ)). vector_decision o (v.spent at w)) q

  vector_there : (w : List Word) (x : List ℕ) → v.decision at w ≡ Some x → (y : LastVector) × (vector_with at.scope.a (v.attempt at w) (v.decision at w) ≡ Some y)
  vector_there w x q =
      let k = there (v.attempt at w) (laws.attempt_there at w ∙ ap is_some q) in
      (record { round = at.scope.a; attempt = k.0; value = x }, ap₂ (vector_with at.scope.a) k.1 q)

  vector_here : (w : List Word) (x : LastVector) → vector_with at.scope.a (v.attempt at w) (v.decision at w) ≡ Some x → IsVectorHere (by_vectors v) at w x
  vector_here w x q =
      let p = vector_parts at.scope.a (v.attempt at w) (v.decision at w) x q in
      record {
        round = ap (λ (y : LastVector). y.round) p.4;
        attempt = subst (λ (y : LastVector). IsAttemptOf (v.inside at w) y.round y.attempt y.value) (sym p.4) (laws.inside_attempt at w p.0 p.1 p.2 p.3);
      }

  vector_stays : (c : Word) (w : List Word) (x : LastVector) → IsSession at.scope.numbers → at.scope.root ≡ root_number Atomic → AreRound (by_vectors v) at (c ∷ w)
      → vector_with at.scope.a (v.attempt at w) (v.decision at w) ≡ Some x → vector_with at.scope.a (v.attempt at (c ∷ w)) (v.decision at (c ∷ w)) ≡ Some x
  vector_stays c w x session six all q =
      let p = vector_parts at.scope.a (v.attempt at w) (v.decision at w) x q in
      let has = has_vectors at.scope.root six in
      let met = are_vector v at (c ∷ w) all in
      ap₂ (vector_with at.scope.a) (laws.attempt_stays at c w p.0 session has met p.2) (laws.decision_stays at c w p.1 session has met p.3) ∙ ap Some (sym p.4)

pub vectors_sorted : (p : Numbers) (x : List ℕ) → IsSorted (backed p (vector_entries x))
vectors_sorted p x =
    kept_sorted (λ y. nat_le (p.f + 1) (backers (vector_entries x) y)) (in_order (entry_ids (vector_entries x))) (in_order_sorted (entry_ids (vector_entries x)))

-- the laws of a single value
pub vector_round_laws : (v : VectorRules) → VectorLaws v → RoundLaws (by_vectors v)
vector_round_laws v laws = record {
  purpose = refl;
  instance_of = λ a. refl;
  wanted_sorted = vectors_sorted;
  says_new = λ at c w session six all.
      fresh_other (IsVectorSaid at) (IsRoundSaid (by_vectors v) at) (all_said (v.says at) w) (all_said (v.says at) w) (v.says at w c)
      (λ y h. record { slot = h.slot; origin = h.origin; good = h.good }) (λ y h e. e)
      (laws.says_new at c w session (has_vectors at.scope.root six) (are_vector v at (c ∷ w) all));
  opens_stays = λ at c w s session six all q. laws.opens_stays at c w s session (has_vectors at.scope.root six) (are_vector v at (c ∷ w) all) q;
  opens_first = laws.opens_first;
  decision_first = laws.decision_first;
  spent_first = laws.spent_first;
  decision_asked = laws.decision_asked;
  spent_asked = laws.spent_asked;
  decision_stays = λ at c w x session six all q. laws.decision_stays at c w x session (has_vectors at.scope.root six) (are_vector v at (c ∷ w) all) q;
  spent_stays = λ at c w session six all q. laws.spent_stays at c w session (has_vectors at.scope.root six) (are_vector v at (c ∷ w) all) q;
  spent_alone = λ at w all q. (laws.spent_alone at w (are_vector v at w all) q, tt);
  vector_none = λ at w q. ap (vector_with at.scope.a (v.attempt at w)) q ∙ no_vector at.scope.a (v.attempt at w);
  vector_untried = λ at w off. absurd cc;
  vector_stays = λ at c w x session six all q. vector_stays v laws at c w x session six all q;
  vector_there = λ at w x tries q. vector_there v laws at w x q;
  vector_is = λ at w x q. vector_here v laws at w x q;
  vector_inside = λ at w x q. (refl, x, vector_is (v.decision at w) (v.spent at w) x (sym (laws.inside_own at w) ∙ q));
  inside_decided = λ at w x q. record {
    decision = Value x;
    decides = vector_decided v laws at w x q;
    wants = λ id. sym (backed_has at.scope.numbers (vector_entries x) id);
  };
  inside_bit = λ at w a k session six all. laws.inside_bit at w a k session (has_vectors at.scope.root six) (are_vector v at w all);
  inside_stays = λ at c w x d session six all q. laws.inside_stays at c w x d session (has_vectors at.scope.root six) (are_vector v at (c ∷ w) all) q;
  inside_first = laws.inside_first;
  inside_asked = laws.inside_asked;
}

-- ---- a run

module _ (v : VectorRules) (laws : VectorLaws v) (one : OneVector v) (at : Scope) (is_correct : ℕ → Bool) (coins : ℕ → Slot → Bool) (xs : List (ReplicaStep Word))
    (enough : IsEnough at.numbers is_correct) (six : at.root ≡ root_number Atomic) (fed : IsFedRun (round_play (by_vectors v) at coins) is_correct xs) where
  -- a run of the rounds is one of their boxes
  pub box_fed : IsFedRun (vector_play v at coins) is_correct xs
  box_fed =
      same_fed (round_play (by_vectors v) at coins) (vector_play v at coins) is_correct (λ i c w m. may_vector v (desk_at at coins i) w c m.0) (λ i w y m h. h) xs fed

  -- of the f + 1 lists of a vector that name an identifier one is a correct replica's
  pub listed : (i : ℕ) (x : List ℕ) (id : Id) → is_correct i ≡ true → v.decision (desk_at at coins i) (calls_of i xs) ≡ Some x
      → has_id (backed at.numbers (vector_entries x)) id ≡ true → WasInList (by_vectors v) at is_correct coins xs id
  listed i x id ci q h =
      let t : List ℕ → Bool = λ e. has_id (ids_of e) id in
      let l = backed_many at.numbers (vector_entries x) id h in
      let has = has_vectors at.root six in
      let good = laws.decision_good (desk_at at coins i) (calls_of i xs) x enough.session has
      (met (vector_play v at coins) is_correct xs box_fed i) q in
      let count = entries_by_place at.numbers at.root x t good in
      let many = enough.many in
      let size : length (replicas at.numbers.n) ≡ at.numbers.n = length-range_with_len 0 at.numbers.n in
      let k = meet_two (λ j. is_passed t (entry_at_place x j)) is_correct (replicas at.numbers.n) (omega (arith, count, many, l, size)) in
      let e = entry (entry_at_place x k.member) k.first in
      record {
        who = k.member;
        list = e.0;
        correct = k.second;
        asked = one.entries at is_correct coins xs enough has box_fed i k.member x e.0 ci k.second q e.1;
        said = (one.proposed at is_correct coins xs enough has box_fed i ci).entries at.a k.member x e.0 k.second (vector_decided v laws (desk_at at coins i) (calls_of i xs) x q) e.1;
        stands = e.2;
      }
    where
      entry : (o : Option (List ℕ)) → is_passed (λ e. has_id (ids_of e) id) o ≡ true → (e : List ℕ) × (o ≡ Some e) × (has_id (ids_of e) id ≡ true)
      entry None q = absurd cc
      entry (Some e) q = (e, refl, q)

  -- of one round vectors are one
  pub one_vector : (i j : ℕ) (x y : LastVector) → is_correct i ≡ true → is_correct j ≡ true
      → (by_vectors v).vector (desk_at at coins i) (calls_of i xs) ≡ Some x → (by_vectors v).vector (desk_at at coins j) (calls_of j xs) ≡ Some y → x ≡ y
  one_vector i j x y ci cj q r =
      let has = has_vectors at.root six in
      let p = vector_parts at.a (v.attempt (desk_at at coins i) (calls_of i xs)) (v.decision (desk_at at coins i) (calls_of i xs)) x q in
      let s = vector_parts at.a (v.attempt (desk_at at coins j) (calls_of j xs)) (v.decision (desk_at at coins j) (calls_of j xs)) y r in
      let k = one.attempts at is_correct coins xs enough has box_fed i j p.0 s.0 ci cj p.2 s.2 in
      let u = one.agree at is_correct coins xs enough has box_fed i j p.1 s.1 ci cj p.3 s.3 in
      p.4 ∙ (ap₂ (λ (n : ℕ) (z : List ℕ). record { round = at.a; attempt = n; value = z }) k u ∙ sym s.4)

-- the law, over every run
pub one_vector_round : (v : VectorRules) → VectorLaws v → OneVector v → OneRound (by_vectors v)
one_vector_round v laws one = record {
  agree = λ at is_correct coins steps enough six fed i j x y ci cj q r.
      one.agree at is_correct coins steps enough (has_vectors at.root six) (box_fed v laws one at is_correct coins steps enough six fed) i j x y ci cj q r;
  vectors = λ at is_correct coins steps enough six fed i j x y ci cj q r. one_vector v laws one at is_correct coins steps enough six fed i j x y ci cj q r;
  unspent = λ at is_correct coins steps enough six fed i ci q.
      one.unspent at is_correct coins steps enough (has_vectors at.root six) (box_fed v laws one at is_correct coins steps enough six fed) i ci q;
  listed = λ at is_correct coins steps enough six fed i x id ci q h. listed v laws one at is_correct coins steps enough six fed i x id ci q h;
  insides = λ at is_correct coins steps enough six fed i j x d e ci cj q r.
      one.insides at is_correct coins steps enough (has_vectors at.root six) (box_fed v laws one at is_correct coins steps enough six fed) i j x d e ci cj q r;
  proposed = λ at is_correct coins steps enough six fed i ci.
      one.proposed at is_correct coins steps enough (has_vectors at.root six) (box_fed v laws one at is_correct coins steps enough six fed) i ci;
}
