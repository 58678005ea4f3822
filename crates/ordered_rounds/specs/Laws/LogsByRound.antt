-- The identifier log of one replica after so many rounds: once it is there it stays, it has that after fewer rounds as a part, and
-- each identifier stands in it once.
use Rattle.std.specs.Prelude.{◌≡◌, ℕ, zero, suc, ◌+◌, ◌≤◌, Bool, true, false, if◌then◌else◌, List, [], ◌∷◌, ◌++◌, Option, Some, None, is_some, unwrap_or, refl}
use Rattle.std.proofs.Common.{sym, ◌∙◌, ap, subst, arith, append_assoc}
use Rattle.ritas_base.specs.declared.id.Id.{Id}
use Rattle.ritas_base.specs.Numbers.{Numbers}
use Rattle.ritas_base.specs.Shortest.{option_or_older}
use Rattle.layer_api.specs.Words.{Word}
use Rattle.layer_api.specs.Service.{Seat, AreDistinct, IsPart}
use Rattle.layer_api.specs.FedLaws.{some_if, shortest_at}
use Rattle.ordered_rounds.specs.Box.{RoundRules}
use Rattle.ordered_rounds.specs.Identifiers.{IsSorted, passing_ids, is_without, all_pass}
use Rattle.ordered_rounds.specs.Rounds.{has_command, appended, completes_with, completes_at, log_below, log_of, complete_of, round_decides, rounds, ordered}
use Rattle.ordered_rounds.specs.Laws.Ordered.{append_new, append_part}

-- ---- lists

-- a list is a part of itself, and a part of a part is a part
part_itself : {X : Type 0} (xs : List X) → IsPart xs xs
part_itself xs = ([], refl)

pub part_through : {X : Type 0} (xs ys zs : List X) → IsPart xs ys → IsPart ys zs → IsPart xs zs
part_through xs ys zs a b = (b.0 ++ a.0, append_assoc b.0 a.0 xs ∙ (ap (λ t. b.0 ++ t) a.1 ∙ b.1))

-- ---- a complete round

-- what completes a round: the log before it, and its decision
pub record Completes (v : RoundRules) (p : Numbers) (before : Option (List Id)) (decision : Option (List ℕ)) (log : List Id) : Type 0 where
  pub old : List Id
  pub vector : List ℕ
  pub there : before ≡ Some old
  pub decides : decision ≡ Some vector
  pub whole : appended v p vector old ≡ log

-- each complete round has them
pub completes_is : (v : RoundRules) (seat : Seat) (before : Option (List Id)) (decision : Option (List ℕ)) (h : List Word) (log : List Id)
    → completes_with v seat before decision h ≡ Some log → Completes v seat.numbers before decision log
completes_is v seat None decision h log q = absurd cc
completes_is v seat (Some old) None h log q = absurd cc
completes_is v seat (Some old) (Some vector) h log q =
    let i = some_if (all_pass (has_command h) (v.wanted seat.numbers vector)) (appended v seat.numbers vector old) log q in
    record { old = old; vector = vector; there = refl; decides = refl; whole = i.1 }

module _ (v : RoundRules) (seat : Seat) where
  -- a log that is there stays
  pub log_stays : (a : ℕ) (c : Word) (w : List Word) (log : List Id) → log_below v seat a w ≡ Some log → log_below v seat a (c ∷ w) ≡ Some log
  log_stays zero c w log q = q
  log_stays (suc a) c w log q = option_or_older (log_below v seat (suc a) w) (completes_at v seat a (log_below v seat a) (c ∷ w)) log q

  -- each identifier stands in it once
  pub log_distinct : ((p : Numbers) (x : List ℕ) → IsSorted (v.wanted p x)) → (a : ℕ) (w : List Word) (log : List Id) → log_below v seat a w ≡ Some log → AreDistinct log
  log_distinct sorted zero w log q = let e : [] ≡ log = cc in subst AreDistinct e tt
  log_distinct sorted (suc a) w log q =
      let t = shortest_at (λ (h : List Word). Unit {0}) (λ c h u. u) (completes_at v seat a (log_below v seat a)) w log tt q in
      let x = completes_is v seat (log_below v seat a t.0) (round_decides v seat a t.0) t.0 log t.2 in
      subst AreDistinct x.whole (append_new (v.wanted seat.numbers x.vector) x.old (sorted seat.numbers x.vector) (log_distinct sorted a t.0 x.old x.there))

  -- ---- more rounds

  -- after more rounds it has the log before them
  pub record Earlier (b : ℕ) (w : List Word) (log : List Id) : Type 0 where
    pub old : List Id
    pub there : log_below v seat b w ≡ Some old
    pub part : IsPart old log

  -- with one more round
  earlier_one : (a : ℕ) (w : List Word) (log : List Id) → log_below v seat (suc a) w ≡ Some log → Earlier a w log
  earlier_one a w log q =
      let t = shortest_at (λ (h : List Word). (old : List Id) → log_below v seat a h ≡ Some old → log_below v seat a w ≡ Some old)
      (λ c h keep old r. keep old (log_stays a c h old r)) (completes_at v seat a (log_below v seat a)) w log (λ old r. r) q in
      let x = completes_is v seat (log_below v seat a t.0) (round_decides v seat a t.0) t.0 log t.2 in
      record {
        old = x.old;
        there = t.1 x.old x.there;
        part = subst (λ (ys : List Id). IsPart x.old ys) x.whole (append_part (passing_ids (is_without x.old) (v.wanted seat.numbers x.vector)) x.old);
      }

  -- with so many more rounds
  earlier_many : (d b : ℕ) (w : List Word) (log : List Id) → log_below v seat (d + b) w ≡ Some log → Earlier b w log
  earlier_many zero b w log q =
      let e : zero + b ≡ b = omega arith in
      record { old = log; there = subst (λ (k : ℕ). log_below v seat k w ≡ Some log) e q; part = part_itself log }
  earlier_many (suc d) b w log q =
      let e : suc d + b ≡ suc (d + b) = omega arith in
      let x = earlier_one (d + b) w log (subst (λ (k : ℕ). log_below v seat k w ≡ Some log) e q) in
      let y = earlier_many d b w x.old x.there in
      record { old = y.old; there = y.there; part = part_through y.old x.old log y.part x.part }

  -- so after any fewer
  pub log_earlier : (a b : ℕ) (w : List Word) (log : List Id) → b ≤ a → log_below v seat a w ≡ Some log → Earlier b w log
  log_earlier a b w log l q = let d = the_rest a b l in earlier_many d.0 b w log (subst (λ (k : ℕ). log_below v seat k w ≡ Some log) (sym d.1) q)
    where
      the_rest : (a b : ℕ) → b ≤ a → (d : ℕ) × (d + b ≡ a)
      the_rest a zero l = (a, omega arith)
      the_rest zero (suc b) l = absurd (omega (arith, l))
      the_rest (suc a) (suc b) l = let x = the_rest a b (omega (arith, l)) in let e = x.1 in (x.0, omega (arith, e))

  -- ---- the complete rounds

  -- of so many rounds no more are complete
  pub complete_small : (n : ℕ) (w : List Word) → complete_of v seat n w ≤ n
  complete_small zero w = omega arith
  complete_small (suc n) w = go (is_some (log_below v seat (suc n) w)) (complete_small n w)
    where
      go : (b : Bool) → complete_of v seat n w ≤ n → (if b then suc n else complete_of v seat n w) ≤ suc n
      go true l = omega arith
      go false l = omega (arith, l)

  -- those that are complete stay so
  pub complete_stays : (n : ℕ) (c : Word) (w : List Word) → complete_of v seat n w ≤ complete_of v seat n (c ∷ w)
  complete_stays zero c w = omega arith
  complete_stays (suc n) c w =
      go (log_below v seat (suc n) w) (log_below v seat (suc n) (c ∷ w)) (λ log q. log_stays (suc n) c w log q) (complete_stays n c w)
    where
      go : (o u : Option (List Id)) → ((log : List Id) → o ≡ Some log → u ≡ Some log) → complete_of v seat n w ≤ complete_of v seat n (c ∷ w)
          → (if is_some o then suc n else complete_of v seat n w) ≤ (if is_some u then suc n else complete_of v seat n (c ∷ w))
      go None None stays ih = ih
      go None (Some x) stays ih = let l = complete_small n w in omega (arith, l)
      go (Some x) (Some y) stays ih = omega arith
      go (Some x) None stays ih = absurd (let z = stays x refl in cc)

  -- the log is that after them
  pub log_complete : (n : ℕ) (w : List Word) → log_below v seat (complete_of v seat n w) w ≡ Some (log_of v seat n w)
  log_complete zero w = refl
  log_complete (suc n) w = go (log_below v seat (suc n) w) refl (log_complete n w)
    where
      go : (o : Option (List Id)) → log_below v seat (suc n) w ≡ o → log_below v seat (complete_of v seat n w) w ≡ Some (log_of v seat n w)
          → log_below v seat (if is_some o then suc n else complete_of v seat n w) w ≡ Some (unwrap_or o (log_of v seat n w))
      go None e ih = ih
      go (Some log) e ih = e

  -- it grows at its end alone
  pub log_grows : (n : ℕ) (c : Word) (w : List Word) → IsPart (log_of v seat n w) (log_of v seat n (c ∷ w))
  log_grows n c w =
      let now = log_of v seat n (c ∷ w) in
      let e = log_earlier (complete_of v seat n (c ∷ w)) (complete_of v seat n w) (c ∷ w) now (complete_stays n c w) (log_complete n (c ∷ w)) in
      let q = log_stays (complete_of v seat n w) c w (log_of v seat n w) (log_complete n w) in
      let same : e.old ≡ log_of v seat n w = some_same e.old (log_of v seat n w) (sym e.there ∙ q) in
      subst (λ (t : List Id). IsPart t now) same e.part
    where
      some_same : (x y : List Id) → Some x ≡ Some y → x ≡ y
      some_same x y e = cc

  -- in the log of the service each identifier stands once
  pub done_distinct : ((p : Numbers) (x : List ℕ) → IsSorted (v.wanted p x)) → (w : List Word) → AreDistinct ((ordered v).done seat w)
  done_distinct sorted w = log_distinct sorted (complete_of v seat rounds w) w ((ordered v).done seat w) (log_complete rounds w)
