-- Garbage, a frame at a time.
use Rattle.std.proofs.Common.{◌≡◌, ℕ, zero, suc, ◌+◌, ◌-◌, ◌<◌, ◌≤◌, Bool, not, cond, nat_lt, List, [], ◌∷◌, ◌++◌, filter, refl, sym, ◌∙◌, ap, ap₂, inl, inr, arith}
use Rattle.std.specs.List.{range_with_len}
use Rattle.std.proofs.lemmas.Bool.{cases_lt, le-ltb, lt-ltb}
use Rattle.ritas_base.specs.History.{replicas}
use Rattle.ritas_base.specs.declared.plan.Plan.{Plan}
use Rattle.ritas_base.specs.declared.plan.Attack.{Attack}
use Rattle.ritas_base.specs.declared.plan.Attack.TheVariants.{Garbage}
use Rattle.rand_pcg.specs.Lcg.{Lcg}
use Rattle.world_model.specs.Players.{Throw}
use Rattle.schedule_plan.specs.Plans.{correct_of, is_correct_in}
use Rattle.schedule_plan.specs.Garbage.{filler, after_filler, throws_to, throws_by, faulty_of, throws_of}
use Rattle.schedule_drive.proofs.Toward.{up_to, next_up}

-- ---- one sender

pub to_next : (i k n : ℕ) (g next : Lcg) (rest : List ℕ) → k < n → rest ≡ filler g → next ≡ after_filler g
    → (throws_to i (up_to k n) g).0 ≡ (Throw i k rest ∷ []) ++ (throws_to i (up_to (k + 1) n) next).0
to_next i k n g next rest below text is =
    ap (λ (js : List ℕ). (throws_to i js g).0) (next_up k n below)
    ∙ ap₂ (λ (bytes : List ℕ) (h : Lcg). Throw i k bytes ∷ (throws_to i (up_to (k + 1) n) h).0) (sym text) (sym is)

pub to_words : (i k n : ℕ) (g next : Lcg) → k < n → next ≡ after_filler g → (throws_to i (up_to k n) g).1 ≡ (throws_to i (up_to (k + 1) n) next).1
to_words i k n g next below is = ap (λ (js : List ℕ). (throws_to i js g).1) (next_up k n below) ∙ ap (λ (h : Lcg). (throws_to i (up_to (k + 1) n) h).1) (sym is)

-- ---- all senders

pub by_next : (js : List ℕ) (k n : ℕ) (g next : Lcg) → k < n → next ≡ (throws_to k js g).1
    → (throws_by (up_to k n) js g).0 ≡ (throws_to k js g).0 ++ (throws_by (up_to (k + 1) n) js next).0
by_next js k n g next below same =
    ap (λ (is : List ℕ). (throws_by is js g).0) (next_up k n below)
    ∙ ap (λ (h : Lcg). (throws_to k js g).0 ++ (throws_by (up_to (k + 1) n) js h).0) (sym same)

pub by_words : (js : List ℕ) (k n : ℕ) (g next : Lcg) → k < n → next ≡ (throws_to k js g).1 → (throws_by (up_to k n) js g).1 ≡ (throws_by (up_to (k + 1) n) js next).1
by_words js k n g next below same = ap (λ (is : List ℕ). (throws_by is js g).1) (next_up k n below) ∙ ap (λ (h : Lcg). (throws_by (up_to (k + 1) n) js h).1) (sym same)

-- ---- who is faulty

module _ (test : ℕ → Bool) (m : ℕ) (is : (i : ℕ) → test i ≡ nat_lt i m) where
  all_above : (a k : ℕ) → m ≤ a → filter (λ i. not (test i)) (range_with_len a k) ≡ range_with_len a k
  all_above a zero above = refl
  all_above a (suc k) above =
      ap (λ (b : Bool). cond (not b) (a ∷ filter (λ i. not (test i)) (range_with_len (a + 1) k)) (filter (λ i. not (test i)) (range_with_len (a + 1) k))) (is a ∙ le-ltb a m above)
      ∙ ap (λ (l : List ℕ). a ∷ l) (all_above (a + 1) k (omega (arith, above)))

  pub those_above : (a k : ℕ) → a ≤ m → m ≤ a + k → filter (λ i. not (test i)) (range_with_len a k) ≡ up_to m (a + k)
  those_above a zero low high = sym (ap (range_with_len m) (let e : a + 0 - m ≡ 0 = omega (arith, low) in e))
  those_above a (suc k) low high =
      elim (cases_lt a m) [
        | inl below ↦
            ap (λ (b : Bool). cond (not b) (a ∷ filter (λ i. not (test i)) (range_with_len (a + 1) k)) (filter (λ i. not (test i)) (range_with_len (a + 1) k))) (is a ∙ lt-ltb a m below)
            ∙ those_above (a + 1) k (omega (arith, below)) (omega (arith, high))
            ∙ ap (λ (n : ℕ). up_to m n) (let e : a + 1 + k ≡ a + suc k = omega arith in e)
        | inr above ↦
            let same : a ≡ m = omega (arith, low, above) in
            all_above a (suc k) above ∙ ap (λ (l : ℕ). range_with_len a l) (let e : suc k ≡ a + suc k - m = omega (arith, same) in e)
            ∙ ap (λ (i : ℕ). range_with_len i (a + suc k - m)) same
      ]

pub faulty_are : (p : Plan) → correct_of p ≤ p.p.n → faulty_of p ≡ up_to (correct_of p) p.p.n
faulty_are p most = those_above (is_correct_in p) (correct_of p) (λ i. refl) 0 p.p.n (omega arith) (omega (arith, most)) ∙ ap (λ (n : ℕ). up_to (correct_of p) n) (let e : 0 + p.p.n ≡ p.p.n = omega arith in e)

-- all that is thrown, where the attack is garbage
pub thrown_all : (p : Plan) (attack : Attack) (g : Lcg) (k n : ℕ) → attack ≡ Garbage → correct_of p ≤ p.p.n → k ≡ correct_of p → n ≡ p.p.n
    → throws_by (up_to k n) (replicas k) g ≡ throws_of p attack g
thrown_all p attack g k n garbage most first last =
    ap₂ (λ (i j : ℕ). throws_by (up_to i j) (replicas i) g) first last
    ∙ ap (λ (is : List ℕ). throws_by is (replicas (correct_of p)) g) (sym (faulty_are p most))
    ∙ ap (λ (a : Attack). throws_of p a g) (sym garbage)
