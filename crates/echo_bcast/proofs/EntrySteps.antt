-- Steps of the loops over entries, and what a column is.
use Rattle.std.specs.Prelude.{◌≡◌, ℕ, zero, suc, ◌<◌, ◌≤◌, ◌+◌, ◌*◌, ◌^◌, Bool, true, false, not, map, ◌&&◌, ◌||◌, ◌==◌, nat_lt, nat_le, List, [], ◌∷◌, ◌++◌, take, drop, length, slice_index_or, refl}
use Rattle.std.proofs.Common.{sym, ◌∙◌, ap, subst, arith, inl, inr}
use Rattle.std.specs.Int.{bit_at, w32, from_be_bytes}
use Rattle.std.specs.Int.RustNames.{count_ones}
use Rattle.std.specs.List.{list_any}
use Rattle.std.specs.Str.{bytes_eq}
use Rattle.std.proofs.lemmas.Nat.Bits.{bit_at-suc, bit_at-zero}
use Rattle.std.proofs.lemmas.Bool.{both_ways, and_parts, and_from, lt-ltb, le-ltb, le-leb, leb-true, ltb-true, ltb-false, cases_eq, cases_Bool, eq-eqb, ne_eqb, eqb-true, or_left, or_right, or_from}
use Rattle.std.proofs.lemmas.Grind.{flat_map-append}
use Rattle.std.proofs.lemmas.List.Concat.{flat_map-cons}
use Rattle.std.proofs.lemmas.List.Folds.{list_any-append}
use Rattle.std.proofs.lemmas.List.FromFn.{map-range_with_len_more}
use Rattle.ritas_base.specs.declared.slot.Slot.{Slot}
use Rattle.ritas_base.specs.Members.{has_member}
use Rattle.ritas_base.specs.MemberLaws.{same_mask}
use Rattle.ritas_base.specs.History.{replicas}
use Rattle.std.proofs.lemmas.List.{take_at, length-append, length-drop, length-take-le, take-append-drop, append-nil}
use Rattle.frame_codec.specs.Format.{Is}
use Rattle.frame_codec.specs.Grammar.{column, is_places}
use Rattle.frame_codec.specs.Values.{mask_of}
use Rattle.vote_lanes.specs.Plain.{is_equal_row}
use Rattle.layer_api.specs.Broadcast.{Tagging}
use Rattle.echo_bcast.specs.Matrix.{as_entry, hashes_bytes}
use Rattle.echo_bcast.specs.State.{tagged, has_valid_entry, adds_to, JoinsSet}
use Rattle.echo_bcast.proofs.ListMembers.{one_replica_more}
use Rattle.echo_bcast.specs.Laws.Columns.{as_entry_is}

-- a column has a mask, and 32 bytes for each of its ones
pub column_parts : (n : ℕ) (value : List ℕ) → Is (column n) value
    → (4 ≤ length value) × (1 ≤ count_ones (mask_of value)) × (length value ≡ 4 + 32 * count_ones (mask_of value))
unfolding column mask_of
column_parts n value (front, rest, parts, four, ok, (rows, nothing, parts2, len, ok2, nil)) =
    let first : take 4 value ≡ front = ap (take 4) parts ∙ take_at front rest 4 four in
    let mask = from_be_bytes w32 front in
    let same : mask ≡ from_be_bytes w32 (take 4 value) = ap (from_be_bytes w32) (sym first) in
    let whole = ap length parts ∙ length-append front rest in
    let tail = ap length parts2 ∙ length-append rows nothing in
    let none = ap length nil in
    let some = leb-true 1 (count_ones mask) (and_parts (nat_lt mask (2 ^ n)) (nat_le 1 (count_ones mask)) ok).1 in (
      omega (arith, whole, four),
      subst (λ (m : ℕ). 1 ≤ count_ones m) same some,
      subst (λ (m : ℕ). length value ≡ 4 + 32 * count_ones m) same (omega (arith, whole, tail, four, len, none)),
    )

pub column_from : (value : List ℕ) → mask_of value < 2 ^ 32 → 4 ≤ length value → 1 ≤ count_ones (mask_of value)
    → length value ≡ 4 + 32 * count_ones (mask_of value) → Is (column 32) value
unfolding column mask_of
column_from value small four some len =
    let mask = from_be_bytes w32 (take 4 value) in
    let places : is_places 32 1 mask ≡ true =
    and_from (nat_lt mask (2 ^ 32)) (nat_le 1 (count_ones mask)) (lt-ltb mask (2 ^ 32) small) (le-leb 1 (count_ones mask) some) in
    let tail : length (drop 4 value) ≡ 32 * count_ones mask = omega (arith, length-drop 4 value, len) in
    (take 4 value, drop 4 value, sym (take-append-drop 4 value), length-take-le 4 value four, places, (drop 4 value, [], sym (append-nil (drop 4 value)), tail, refl, refl))

-- ---- one row

no_more_bits : (i : ℕ) (b : Bool) → ((bit_at 1 (suc i) == 1) && b) ≡ (bit_at 1 (suc i) == 1)
no_more_bits i b =
    let none : (bit_at 1 (suc i) == 1) ≡ false = ap (λ (k : ℕ). k == 1) (bit_at-suc 1 i ∙ bit_at-zero i) in
    ap (λ (c : Bool). c && b) none ∙ sym none

-- of one row the mask of one bit that comes back is that bit exactly where the row is this one
pub one_row : (row d : List ℕ) (equal : ℕ) → ((i : ℕ) → (bit_at equal i == 1) ≡ is_equal_row (row ∷ []) 1 d i) → (equal == 1) ≡ bytes_eq row d
unfolding has_member
one_row row d equal are =
    elim (cases_Bool (bytes_eq row d)) [
      | inl same ↦ eq-eqb equal 1 (same_mask equal 1 (bits same)) ∙ sym same
      | inr other ↦ ne_eqb equal 1 (λ e. both_ways (bit_at equal 0 == 1) (are 0 ∙ other) (ap (λ (m : ℕ). bit_at m 0 == 1) e)) ∙ sym other
    ]
  where
    bits : bytes_eq row d ≡ true → (i : ℕ) → (bit_at equal i == 1) ≡ (bit_at 1 i == 1)
    bits same zero = are 0 ∙ same
    bits same (suc i) = are (suc i) ∙ no_more_bits i (bytes_eq (slice_index_or (row ∷ []) (suc i) []) d)

-- ---- one echoer more

lt_more : (k e : ℕ) → nat_lt k (e + 1) ≡ (nat_lt k e || (k == e))
lt_more k e =
    elim (cases_eq k e) [
      | inl same ↦ lt-ltb k (e + 1) (omega (arith, same)) ∙ sym (or_right (nat_lt k e) (k == e) (eq-eqb k e same))
      | inr other ↦ elim (cases_Bool (nat_lt k e)) [
        | inl less ↦ let l = ltb-true k e less in lt-ltb k (e + 1) (omega (arith, l)) ∙ sym (or_left (nat_lt k e) (k == e) less)
        | inr not_less ↦ let l = ltb-false k e not_less in le-ltb k (e + 1) (omega (arith, l, other)) ∙ sym (or_from (nat_lt k e) (k == e) not_less (ne_eqb k e other))
      ]
    ]

joined_with : (g a b t : Bool) → (b ≡ true → t ≡ true) → ((g || (a && t)) || b) ≡ (g || ((a || b) && t))
joined_with true a b t f = refl
joined_with false true true true f = refl
joined_with false true true false f = sym (f refl)
joined_with false true false true f = refl
joined_with false true false false f = refl
joined_with false false true t f = sym (f refl)
joined_with false false false t f = refl

joined_without : (g a b t : Bool) → (b ≡ true → g ≡ false → t ≡ false) → (g || (a && t)) ≡ (g || ((a || b) && t))
joined_without true a b t f = refl
joined_without false true b t f = refl
joined_without false false true t f = sym (f refl refl)
joined_without false false false t f = refl

any_more : (p : ℕ → Bool) (e : ℕ) → list_any p (replicas (e + 1)) ≡ (list_any p (replicas e) || p e)
any_more p e =
    ap (list_any p) (one_replica_more e) ∙ (list_any-append p (replicas e) (e ∷ []) ∙ ap (λ (b : Bool). list_any p (replicas e) || b) (or_nothing (p e)))
  where
    or_nothing : (b : Bool) → (b || false) ≡ b
    or_nothing true = refl
    or_nothing false = refl

module _ (t : Tagging) (s : Slot) (digest value : List ℕ) (good e : ℕ) where
  abbrev valid : ℕ → Bool
  valid k = has_valid_entry t s digest value k

  abbrev pub IsJudged : ℕ → ℕ → Bool → Type 0
  IsJudged n all news = JoinsSet t s n digest value good all × (news ≡ adds_to t s n digest value good)

  -- a new one
  judged_new : (all more : ℕ) (news : Bool) → IsJudged e all news → has_member good e ≡ false → valid e ≡ true
      → ((k : ℕ) → has_member more k ≡ (has_member all k || (k == e))) → IsJudged (e + 1) more true
  judged_new all more news was new is with_e = (
    λ k.
        with_e k ∙ (ap (λ (b : Bool). b || (k == e)) (was.0 k)
        ∙ (joined_with (has_member good k) (nat_lt k e) (k == e) (valid k) (λ same. ap valid (eqb-true k e same) ∙ is)
        ∙ ap (λ (b : Bool). has_member good k || (b && valid k)) (sym (lt_more k e)))),
    sym (any_more (λ k. valid k && not (has_member good k)) e
        ∙ or_right (list_any (λ k. valid k && not (has_member good k)) (replicas e)) (valid e && not (has_member good e))
        (and_from (valid e) (not (has_member good e)) is (ap not new))),
  )

  -- none that is new
  judged_old : (all : ℕ) (news : Bool) → IsJudged e all news → (has_member good e ≡ false → valid e ≡ false) → IsJudged (e + 1) all news
  judged_old all news was old = (
    λ k.
        was.0 k ∙ (joined_without (has_member good k) (nat_lt k e) (k == e) (valid k)
        (λ same not_good. ap valid (eqb-true k e same) ∙ old (ap (has_member good) (sym (eqb-true k e same)) ∙ not_good))
        ∙ ap (λ (b : Bool). has_member good k || (b && valid k)) (sym (lt_more k e))),
    was.1 ∙ sym (any_more (λ k. valid k && not (has_member good k)) e ∙ nothing (list_any (λ k. valid k && not (has_member good k)) (replicas e)) (has_member good e) (valid e) old),
  )
    where
      nothing : (l g v : Bool) → (g ≡ false → v ≡ false) → (l || (v && not g)) ≡ l
      nothing true g v f = refl
      nothing false true true f = refl
      nothing false true false f = refl
      nothing false false v f = ap (λ (b : Bool). b && true) (f refl)

  -- the same, for what the variables are after it
  pub takes_new : (all more after : ℕ) (news is_news : Bool) → IsJudged e all news → has_member good e ≡ false → valid e ≡ true
      → ((k : ℕ) → has_member more k ≡ (has_member all k || (k == e))) → after ≡ more → is_news ≡ true → IsJudged (e + 1) after is_news
  takes_new all more after news is_news was new is with_e same_set same_news =
      subst (λ (b : Bool). IsJudged (e + 1) after b) (sym same_news)
      (subst (λ (m : ℕ). IsJudged (e + 1) m true) (sym same_set) (judged_new all more news was new is with_e))

  pub takes_old : (all after : ℕ) (news is_news : Bool) → IsJudged e all news → (has_member good e ≡ false → valid e ≡ false)
      → after ≡ all → is_news ≡ news → IsJudged (e + 1) after is_news
  takes_old all after news is_news was old same_set same_news =
      subst (λ (b : Bool). IsJudged (e + 1) after b) (sym same_news)
      (subst (λ (m : ℕ). IsJudged (e + 1) m news) (sym same_set) (judged_old all news was old))

-- ---- one entry more

hashes_more : (t : Tagging) (s : Slot) (n : ℕ) (digest : List ℕ) → length (t.tags.entry s t.me n digest) ≡ 32
    → hashes_bytes (tagged t s n digest) ++ t.tags.entry s t.me n digest ≡ hashes_bytes (tagged t s (n + 1) digest)
hashes_more t s n digest len =
    let f : ℕ → List ℕ = λ k. t.tags.entry s t.me k digest in
    sym (ap hashes_bytes (map-range_with_len_more f 0 n n (omega arith))
    ∙ (flat_map-append as_entry (map f (replicas n)) (f n ∷ [])
    ∙ ap (λ (l : List ℕ). hashes_bytes (tagged t s n digest) ++ l) (flat_map-cons as_entry (f n) [] ∙ (append-nil (as_entry (f n)) ∙ as_entry_is (f n) len))))

pub hashes_put : (t : Tagging) (s : Slot) (n : ℕ) (digest before after entry : List ℕ) → before ≡ hashes_bytes (tagged t s n digest) → after ≡ before ++ entry
    → entry ≡ t.tags.entry s t.me n digest → length entry ≡ 32 → after ≡ hashes_bytes (tagged t s (n + 1) digest)
hashes_put t s n digest before after entry was put is len =
    put
    ∙ (ap (λ (l : List ℕ). l ++ entry) was
    ∙ (ap (λ (l : List ℕ). hashes_bytes (tagged t s n digest) ++ l) is ∙ hashes_more t s n digest (ap length (sym is) ∙ len)))
