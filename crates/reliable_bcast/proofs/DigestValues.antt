-- Where a digest's value stands among those that are known.
use Rattle.std.proofs.Common.{◌≡◌, ℕ, zero, suc, cond, ◌<◌, ◌+◌, ◌++◌, Bool, true, false, List, [], ◌∷◌, Some, None, sym, ◌∙◌, ap, arith, length, get_or, ap₂, refl}
use Rattle.std.specs.Prelude.{slice_set, is_some, position, nat_lt, not, ◌&&◌, ◌==◌}
use Rattle.std.specs.List.{AllByRecursion, position_or_len, flat_map, range_with_len}
use Rattle.std.specs.Str.{bytes_eq}
use Rattle.std.proofs.lemmas.Bool.{cond-true, cond-false, false_from_ne_true, ltb-false}
use Rattle.std.proofs.lemmas.List.Quantifiers.{position-Some}
use Rattle.std.proofs.lemmas.List.Sums.{fails_before_first}
use Rattle.std.proofs.lemmas.List.Elements.{recursion_from_All}
use Rattle.std.proofs.lemmas.Option.{none-some}
use Rattle.std.proofs.lemmas.List.{flat_map_more}
use Rattle.ritas_base.specs.declared.item.Item.{Item}
use Rattle.ritas_base.specs.declared.item.Msg.{Msg}
use Rattle.ritas_base.specs.Members.{has_member}
use Rattle.ritas_base.specs.History.{replicas, is_value}
use Rattle.reliable_bcast.specs.declared.digest_rb.DigestRb.{DigestRb}
use Rattle.reliable_bcast.specs.VoteRows.{kept_value}
use Rattle.reliable_bcast.specs.Laws.DigestNews.{ones, ones_alike}
use Rattle.reliable_bcast.specs.declared.digest_rb.Known.{Known}
use Rattle.reliable_bcast.specs.DigestState.{value_with_digest, answer_in, answer_for, answers_to, DigestSettles, Carries, readied_by, settled_by_digest, carried_by_digest, after_ready, ready_message, want_message}

found_at : (d : List ℕ) (ks : List Known) (i : ℕ) (k : Known) → i < length ks → bytes_eq (get_or ks i k).digest d ≡ true
    → ((j : ℕ) → j < i → bytes_eq (get_or ks j k).digest d ≡ false) → value_with_digest ks d ≡ Some (get_or ks i k).value
found_at d [] i k lt here before = absurd (omega (arith, lt))
found_at d (x ∷ ks) zero k lt here before = cond-true (bytes_eq x.digest d) (Some x.value) (value_with_digest ks d) here
found_at d (x ∷ ks) (suc i) k lt here before =
    let lower : i < length ks = omega (arith, lt) in
    cond-false (bytes_eq x.digest d) (Some x.value) (value_with_digest ks d) (before 0 (omega arith))
    ∙ found_at d ks i k lower here (λ j l. before (suc j) (omega (arith, l)))

pub value_found : (ks : List Known) (d : List ℕ) (i : ℕ) (k : Known) → position (λ x. bytes_eq x.digest d) ks ≡ Some i → value_with_digest ks d ≡ Some (get_or ks i k).value
value_found ks d i k found = let at = position-Some (λ (x : Known). bytes_eq x.digest d) ks i k found in found_at d ks i k at.0 at.1 at.2

none_known : (ks : List Known) (d : List ℕ) → AllByRecursion (λ k. bytes_eq k.digest d ≡ false) ks → value_with_digest ks d ≡ None
none_known [] d all = refl
none_known (k ∷ ks) d all = cond-false (bytes_eq k.digest d) (Some k.value) (value_with_digest ks d) all.0 ∙ none_known ks d all.1

pub value_not_found : (ks : List Known) (d : List ℕ) → position (λ k. bytes_eq k.digest d) ks ≡ None → value_with_digest ks d ≡ None
value_not_found ks d e =
    let test : Known → Bool = λ k. bytes_eq k.digest d in
    let past : nat_lt (position_or_len test ks) (length ks) ≡ false =
    false_from_ne_true (nat_lt (position_or_len test ks) (length ks)) (λ t. none-some (position_or_len test ks) (sym e ∙ cond-true (nat_lt (position_or_len test ks) (length ks)) (Some (position_or_len test ks)) None t)) in
    let all = ltb-false (position_or_len test ks) (length ks) past in
    none_known ks d (recursion_from_All (λ k. bytes_eq k.digest d ≡ false) ks (λ j k lt. let before : j < position_or_len test ks = omega (arith, lt, all) in fails_before_first test ks j k before))

-- one replica more
pub one_more : (f : ℕ → List Msg) (k : ℕ) (base before after : List Msg) → before ≡ base ++ flat_map f (replicas k) → after ≡ before ++ f k
    → after ≡ base ++ flat_map f (replicas (k + 1))
one_more f k base before after was put =
    put
    ∙ (ap (λ (l : List Msg). l ++ f k) was
    ∙ (flat_map_more f base (replicas k) k ∙ ap (λ (ks : List ℕ). base ++ flat_map f ks) (sym (one_replica_more k))))
  where
    range_step : (from n m : ℕ) → from + n ≡ m → range_with_len from (suc n) ≡ range_with_len from n ++ m ∷ []
    range_step from zero m e = let same : from ≡ m = omega (arith, e) in ap (λ (x : ℕ). x ∷ []) same
    range_step from (suc n) m e =
        let next : from + 1 + n ≡ m = omega (arith, e) in ap (λ (l : List ℕ). from ∷ l) (range_step (from + 1) n m next)

    one_replica_more : (n : ℕ) → replicas (n + 1) ≡ replicas n ++ n ∷ []
    one_replica_more n = ap (range_with_len 0) (let one : n + 1 ≡ suc n = omega arith in one) ∙ range_step 0 n n (omega arith)

pub all_answered : (b : DigestRb) (d m : List ℕ) (asked k : ℕ) (base after : List Msg) → k ≡ b.params.n
    → ((j : ℕ) → has_member asked j ≡ (nat_lt j (length b.wants) && is_value d (get_or b.wants j None)))
    → after ≡ base ++ ones b.slot (answer_in b.me asked m) (replicas k) → after ≡ base ++ answers_to b d m
all_answered b d m asked k base after all members put =
    put
    ∙ (ap (λ (n : ℕ). base ++ ones b.slot (answer_in b.me asked m) (replicas n)) all
    ∙ ap (λ (l : List Msg). base ++ l)
    (ones_alike b.slot (answer_in b.me asked m) (answer_for b d m) (replicas b.params.n) (λ j there. ap (λ (t : Bool). cond (not (j == b.me) && t) (Some m) None) (members j))))

-- ---- READY

-- what is kept, and what is said, after a READY
pub ready_step : (old : DigestRb) (i : Item) (voted settled carried : DigestRb) (d : List ℕ) (counted : Bool) (none said all : List Msg) → d ≡ i.value → is_some old.full ≡ not counted
    → voted ≡ record old { readies = slice_set old.readies i.from (Some (kept_value (not counted) d)) } → DigestSettles voted settled d none said → Carries settled carried d said all → none ≡ []
    → (carried ≡ after_ready old i) × (all ≡ ready_message (readied_by old i) i.value ++ want_message (settled_by_digest (readied_by old i) i.value) i.value)
ready_step old i voted settled carried d counted none said all same counts vote settles carries empty =
    let v : voted ≡ readied_by old i =
    vote ∙ ap (λ (e : List ℕ). record old { readies = slice_set old.readies i.from (Some e) }) (ap (λ (b : Bool). kept_value b d) (sym counts) ∙ ap (kept_value (is_some old.full)) same) in
    let s : settled ≡ settled_by_digest (readied_by old i) i.value = settles.state ∙ ap₂ settled_by_digest v same in
    let first : said ≡ ready_message (readied_by old i) i.value = settles.said ∙ (ap (λ (l : List Msg). l ++ ready_message voted d) empty ∙ ap₂ ready_message v same) in (
      carries.state ∙ ap₂ carried_by_digest s same,
      carries.said ∙ ap₂ (λ (l m : List Msg). l ++ m) first (ap₂ want_message s same),
    )
