-- Frames by their places, and what is left without a number.
use Rattle.std.specs.Prelude.{◌≡◌, ◌≢◌, ℕ, ◌+◌, ◌-◌, ◌<◌, ◌≤◌, ◌^◌, ◌==◌, zero, suc, Option, Some, None, is_some, unwrap_or, Bool, true, false, not, cond, List, [], ◌∷◌, ◌++◌, filter, length, refl}
use Rattle.std.specs.declared.cmp.Ordering.TheVariants.{Greater}
use Rattle.std.specs.List.{All}
use Rattle.std.specs.Map.Calls.{RetainsPairs}
use Rattle.std.specs.Map.{keys_of, values_of, lookup, remove_entry}
use Rattle.std.specs.BTreeMap.{insert_entry, is_at}
use Rattle.std.specs.Ordering.{nat_cmp, match_ordering}
use Rattle.std.specs.Cmp.{nat_cmp_is, unsigned_tied}
use Rattle.std.specs.Option.{option_map}
use Rattle.std.proofs.Common.{sym, ◌∙◌, ap, subst, inl, inr, arith, eq-eqb}
use Rattle.std.proofs.lemmas.Bool.{cases_Bool, false≢true, eqb-true, eqb-false, cond-true, cond-false}
use Rattle.std.proofs.lemmas.List.Elements.{All-filter, All-push}
use Rattle.std.proofs.lemmas.List.Sums.{sum_by-append, sum_by-cons}
use Rattle.std.proofs.lemmas.Map.Entries.{filter_from_retain_pairs, sum_by-remove_entry}
use Rattle.link_resume.specs.declared.kept.Kept.{Kept}
use Rattle.link_resume.specs.Lanes.{IsPeerLane, StandByNumber}
use Rattle.link_resume.specs.Lists.{bytes_in, all_but}

-- ---- a frame behind the others

above : (k q : ℕ) → q < k → Greater ≡ nat_cmp k q
above k q less = nat_cmp_is k q Greater less

pub inserted : (es : List (ℕ × Kept)) (place : ℕ) (k : Kept) → All (λ q. q < place) (keys_of es) → insert_entry nat_cmp es place k ≡ es ++ (place, k) ∷ []
inserted [] place k behind = refl
inserted (e ∷ es) place k behind =
    ap (λ r. match_ordering r ((place, k) ∷ e ∷ es) ((e.0, k) ∷ es) (e ∷ insert_entry nat_cmp es place k)) (sym (above place e.0 (behind 0 e.0 (omega arith))))
    ∙ ap (λ (xs : List (ℕ × Kept)). e ∷ xs) (inserted es place k (λ i d within. behind (suc i) d (omega (arith, within))))

pub values_behind : (es : List (ℕ × Kept)) (place : ℕ) (k : Kept) → values_of (es ++ (place, k) ∷ []) ≡ values_of es ++ k ∷ []
values_behind [] place k = refl
values_behind (e ∷ es) place k = ap (λ (xs : List Kept). e.1 ∷ xs) (values_behind es place k)

-- ---- what is left without a number

all_with : {X : Type 0} (P : X → Type 0) (x : X) (xs : List X) → P x → All P xs → All P (x ∷ xs)
all_with P x xs one others zero d within = one
all_with P x xs one others (suc i) d within = others i d (omega (arith, within))

some_is_none : {X : Type 0} {x : X} → Some x ≡ None → ⊥
some_is_none e = false≢true (sym (ap is_some e))

-- another number passes
differs : (a b : ℕ) → a ≢ b → not (a == b) ≡ true
differs a b other = elim (cases_Bool (a == b)) [
  | inl same ↦ absurd (other (eqb-true a b same))
  | inr not_same ↦ ap not not_same
]

-- where the places are the numbers, the frame at the place of a number is the only one with it
other_stays : (es : List (ℕ × Kept)) (seq : ℕ) → StandByNumber es → All (λ q. q ≢ seq) (keys_of es) → all_but seq (values_of es) ≡ values_of es
other_stays [] seq by other = refl
other_stays (e ∷ es) seq by other =
    let apart : e.1.seq ≢ seq = λ same. other 0 e.0 (omega arith) (by 0 e (omega arith) ∙ same) in
    cond-true (not (e.1.seq == seq)) (e.1 ∷ all_but seq (values_of es)) (all_but seq (values_of es)) (differs e.1.seq seq apart)
    ∙ ap (λ (xs : List Kept). e.1 ∷ xs)
    (other_stays es seq (λ i d within. by (suc i) d (omega (arith, within))) (λ i d within. other (suc i) d (omega (arith, within))))

-- no frame stands at the place of a number that isn't found
absent : (es : List (ℕ × Kept)) (seq : ℕ) → lookup (is_at (nat_cmp seq)) es ≡ None → All (λ q. q ≢ seq) (keys_of es)
absent [] seq none = λ k d within. absurd (omega (arith, within))
absent (e ∷ es) seq none = elim (cases_Bool (is_at (nat_cmp seq) e.0)) [
  | inl same ↦
      let found : Some e.1 ≡ None = sym (cond-true (is_at (nat_cmp seq) e.0) (Some e.1) (lookup (is_at (nat_cmp seq)) es) same) ∙ none in
      absurd (some_is_none found)
  | inr other ↦
      let later : lookup (is_at (nat_cmp seq)) es ≡ None = sym (cond-false (is_at (nat_cmp seq) e.0) (Some e.1) (lookup (is_at (nat_cmp seq)) es) other) ∙ none in
      all_with (λ q. q ≢ seq) e.0 (keys_of es) (λ is. eqb-false seq e.0 (sym (unsigned_tied seq e.0) ∙ other) (sym is)) (absent es seq later)
]

-- the first frame, and those behind it
removed_first : (e : ℕ × Kept) (es : List (ℕ × Kept)) (seq : ℕ) → StandByNumber (e ∷ es) → seq ≡ e.0 → lookup (is_at (nat_cmp seq)) es ≡ None
    → values_of es ≡ all_but seq (values_of (e ∷ es))
removed_first e es seq by is none =
    let number : e.1.seq ≡ seq = sym (by 0 e (omega arith)) ∙ sym is in
    let fails : not (e.1.seq == seq) ≡ false = ap not (eq-eqb e.1.seq seq number) in
    sym (cond-false (not (e.1.seq == seq)) (e.1 ∷ all_but seq (values_of es)) (all_but seq (values_of es)) fails
    ∙ other_stays es seq (λ i d within. by (suc i) d (omega (arith, within))) (absent es seq none))

removed_later : (e : ℕ × Kept) (es : List (ℕ × Kept)) (seq : ℕ) → StandByNumber (e ∷ es) → (seq ≢ e.0)
    → (rest : List Kept) → rest ≡ all_but seq (values_of es) → e.1 ∷ rest ≡ all_but seq (values_of (e ∷ es))
removed_later e es seq by is_not rest later =
    let passes : not (e.1.seq == seq) ≡ true = differs e.1.seq seq (λ same. is_not (sym same ∙ sym (by 0 e (omega arith)))) in
    ap (λ (xs : List Kept). e.1 ∷ xs) later ∙ sym (cond-true (not (e.1.seq == seq)) (e.1 ∷ all_but seq (values_of es)) (all_but seq (values_of es)) passes)

-- without the frame at the place of a number, where then none stands there
pub removed : (es : List (ℕ × Kept)) (seq : ℕ) → StandByNumber es → lookup (is_at (nat_cmp seq)) (remove_entry (is_at (nat_cmp seq)) es) ≡ None
    → values_of (remove_entry (is_at (nat_cmp seq)) es) ≡ all_but seq (values_of es)
removed [] seq by none = refl
removed (e ∷ es) seq by none =
    let test : ℕ → Bool = is_at (nat_cmp seq) in
    elim (cases_Bool (test e.0)) [
      | inl same ↦
          let left = cond-true (test e.0) es (e ∷ remove_entry test es) same in
          ap values_of left ∙ removed_first e es seq by (eqb-true seq e.0 (sym (unsigned_tied seq e.0) ∙ same)) (sym (ap (lookup test) left) ∙ none)
      | inr other ↦
          let left = cond-false (test e.0) es (e ∷ remove_entry test es) other in
          let later : lookup test (remove_entry test es) ≡ None =
          sym (cond-false (test e.0) (Some e.1) (lookup test (remove_entry test es)) other) ∙ (sym (ap (lookup test) left) ∙ none) in
          ap values_of left
          ∙ removed_later e es seq by (eqb-false seq e.0 (sym (unsigned_tied seq e.0) ∙ other)) (values_of (remove_entry test es))
          (removed es seq (λ i d within. by (suc i) d (omega (arith, within))) later)
    ]

-- the frames that pass a test, wherever they stand
pub retained : {F : Type 0} (T : F → ℕ → Kept → Bool → Kept → F → Type 0) (p : Kept → Bool) (f : F) (es kept : List (ℕ × Kept))
    → ((k : ℕ) (v : Kept) (b : Bool) (w : Kept) (g : F) → T f k v b w g → (b ≡ p v) × (w ≡ v) × (g ≡ f))
    → RetainsPairs T f es kept → kept ≡ filter (λ e. p e.1) es
retained {F} T p f es kept does =
    filter_from_retain_pairs T (λ g. g ≡ f) (λ e. p e.1)
    (λ g k v b w h same step. let did = does k v b w h (subst (λ (x : F). T x k v b w h) same step) in (did.0, did.1, did.2))
    f es kept refl

pub values_that_pass : (p : Kept → Bool) (es : List (ℕ × Kept)) → values_of (filter (λ e. p e.1) es) ≡ filter p (values_of es)
values_that_pass p [] = refl
values_that_pass p (e ∷ es) =
    let rest : List (ℕ × Kept) = filter (λ (x : ℕ × Kept). p x.1) es in
    elim (p e.1) as (λ b. values_of (cond b (e ∷ rest) rest) ≡ cond b (e.1 ∷ filter p (values_of es)) (filter p (values_of es))) [
      | true ↦ ap (λ (xs : List Kept). e.1 ∷ xs) (values_that_pass p es)
      | false ↦ values_that_pass p es
    ]

-- ---- the bytes of some of the frames

pub fewer_bytes : (p : Kept → Bool) (xs : List Kept) → bytes_in (filter p xs) ≤ bytes_in xs
fewer_bytes p [] = omega arith
fewer_bytes p (x ∷ xs) =
    let whole : bytes_in (x ∷ xs) ≡ length x.frame + bytes_in xs = sum_by-cons (λ (y : Kept). length y.frame) x xs in
    let one : bytes_in (x ∷ filter p xs) ≡ length x.frame + bytes_in (filter p xs) = sum_by-cons (λ (y : Kept). length y.frame) x (filter p xs) in
    elim (cases_Bool (p x)) [
      | inl passes ↦
          let e = ap bytes_in (cond-true (p x) (x ∷ filter p xs) (filter p xs) passes) in
          omega (arith, e, one, whole, fewer_bytes p xs)
      | inr fails ↦
          let e = ap bytes_in (cond-false (p x) (x ∷ filter p xs) (filter p xs) fails) in
          omega (arith, e, whole, fewer_bytes p xs)
    ]

-- ---- the frames of one peer

-- what holds of all holds without one
others_stand : (test : ℕ → Bool) (P : ℕ × Kept → Type 0) (es : List (ℕ × Kept)) → All P es → All P (remove_entry test es)
others_stand test P [] all = all
others_stand test P (e ∷ es) all =
    let later : All P es = λ i d within. all (suc i) d (omega (arith, within)) in
    elim (test e.0) as (λ b. All P (cond b es (e ∷ remove_entry test es))) [
      | true ↦ later
      | false ↦ all_with P e (remove_entry test es) (all 0 e (omega arith)) (others_stand test P es later)
    ]

pub none_stands : (es : List (ℕ × Kept)) → length es ≡ 0 → StandByNumber es
none_stands es none i d within = absurd (omega (arith, none, within))

-- one frame more
pub lane_more : (bytes total seq place : ℕ) (frame : List ℕ) (before now : Bool) (es : List (ℕ × Kept)) → IsPeerLane bytes before es
    → total ≡ bytes + length frame → total < 2 ^ 64
    → (now ≡ true → (place ≡ seq) × StandByNumber es)
    → IsPeerLane total now (es ++ (place, record { seq = seq; frame = frame }) ∷ [])
lane_more bytes total seq place frame before now es lane is fits by =
    let k : Kept = record { seq = seq; frame = frame } in
    let sum = sum_by-append (λ (y : Kept). length y.frame) (values_of es) (k ∷ []) in
    let whole = ap bytes_in (values_behind es place k) in
    record {
      count = omega (arith, sum, whole, lane.count, is);
      most = omega (arith, sum, whole, lane.count, is, fits);
      places = λ t. All-push (λ (e : ℕ × Kept). e.0 ≡ e.1.seq) es (place, k) (by t).1 (by t).0;
    }

-- the bytes of one are among those of all
pub no_more : (seq : ℕ) (x : Kept) (es : List (ℕ × Kept)) → Some x ≡ lookup (is_at (nat_cmp seq)) es → length x.frame ≤ bytes_in (values_of es)
no_more seq x es is =
    let sum = sum_by-remove_entry (λ (y : Kept). length y.frame) (is_at (nat_cmp seq)) es in
    let this = ap (λ (o : Option Kept). unwrap_or (option_map (λ (y : Kept). length y.frame) o) 0) is in
    omega (arith, sum, this)

-- one less, which stood at the place of its number
pub lane_less : (bytes seq : ℕ) (x : Kept) (by_number : Bool) (es : List (ℕ × Kept)) → IsPeerLane bytes by_number es → Some x ≡ lookup (is_at (nat_cmp seq)) es
    → IsPeerLane (bytes - length x.frame) by_number (remove_entry (is_at (nat_cmp seq)) es)
lane_less bytes seq x by_number es lane is =
    let sum = sum_by-remove_entry (λ (y : Kept). length y.frame) (is_at (nat_cmp seq)) es in
    let this = ap (λ (o : Option Kept). unwrap_or (option_map (λ (y : Kept). length y.frame) o) 0) is in
    record {
      count = omega (arith, sum, this, lane.count);
      most = omega (arith, sum, this, lane.most);
      places = λ t. others_stand (is_at (nat_cmp seq)) (λ (e : ℕ × Kept). e.0 ≡ e.1.seq) es (lane.places t);
    }

-- the oldest less
pub lane_newer : (bytes : ℕ) (e : ℕ × Kept) (by_number : Bool) (es : List (ℕ × Kept)) → IsPeerLane bytes by_number (e ∷ es)
    → IsPeerLane (bytes - length e.1.frame) by_number es
lane_newer bytes e by_number es lane =
    let sum = sum_by-cons (λ (y : Kept). length y.frame) e.1 (values_of es) in
    record {
      count = omega (arith, sum, lane.count);
      most = omega (arith, sum, lane.most);
      places = λ t i d within. lane.places t (suc i) d (omega (arith, within));
    }

-- those that pass a test
pub lane_others : (bytes : ℕ) (p : Kept → Bool) (by_number : Bool) (es : List (ℕ × Kept)) → IsPeerLane bytes by_number es
    → IsPeerLane (bytes_in (values_of (filter (λ e. p e.1) es))) by_number (filter (λ e. p e.1) es)
lane_others bytes p by_number es lane = record {
  count = refl;
  most = omega (arith, ap bytes_in (values_that_pass p es), fewer_bytes p (values_of es), lane.most);
  places = λ t. All-filter (λ e. p e.1) (λ e. e.0 ≡ e.1.seq) es (lane.places t);
}
