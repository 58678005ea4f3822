-- What a pick leaves is an image.
use Rattle.std.specs.Prelude.{◌≡◌, Bool, true, false, ℕ, ◌+◌, ◌-◌, ◌/◌, ◌%◌, ◌<◌, ◌≤◌, min, List, [], ◌∷◌, length, take, drop, replicate, if◌then◌else◌, ◌==◌, refl}
use Rattle.std.proofs.Common.{inl, inr, sym, ap, ◌∙◌, subst, arith, lit≤, length-take}
use Rattle.std.proofs.lemmas.Bool.{cases_lt}
use Rattle.std.proofs.lemmas.List.{take-take, take_min, take_all, drop_all, drop-take, length-replicate, get_or-replicate, get_or_past, get_or-take}
use Rattle.ritas_base.specs.Bytes.{IsBytes}
use Rattle.outside.specs.Disks.{Range, DiskState, IsTorn, IsImage, MayLeave, range_end, bytes_written}
use Rattle.outside.specs.DisksLaws.{torn_whole, length-written, seen_image}
use Rattle.outside.specs.Stops.{end_left, fills, filled_by, image_left_by}

cut_before : (at len : ℕ) (a b : List ℕ) → take (min at (length a)) b ≡ take at a → take (min at (length (take len a))) (take len b) ≡ take at (take len a)
cut_before at len a b before = elim (cases_lt len at) [
  | inl short ↦
      let m = min len (length a) in
      let is : min at (length (take len a)) ≡ m = omega (arith, short, length-take len a) in
      let low : m ≤ len = omega arith in
      let lower : m ≤ min at (length a) = omega (arith, short) in
      let lowest : m ≤ at = omega (arith, short) in
      ap (λ (x : ℕ). take x (take len b)) is ∙ take-take m len b low ∙ sym (take-take m (min at (length a)) b lower) ∙ ap (take m) before ∙ take-take m at a lowest
      ∙ take_min len a ∙ sym (take_all at (take len a) (omega (arith, short, length-take len a)))
  | inr le ↦
      let is : min at (length (take len a)) ≡ min at (length a) = omega (arith, le, length-take len a) in
      let low : min at (length a) ≤ len = omega (arith, le) in
      ap (λ (x : ℕ). take x (take len b)) is ∙ take-take (min at (length a)) len b low ∙ before ∙ sym (take-take at len a le)
]

cut_after : (end len : ℕ) (a b : List ℕ) → drop end b ≡ drop end a → drop end (take len b) ≡ drop end (take len a)
cut_after end len a b after = elim (cases_lt end len) [
  | inl lt ↦
      let m = len - end in
      let is : len ≡ end + m = omega (arith, lt) in
      ap (λ (x : ℕ). drop end (take x b)) is ∙ drop-take end m b ∙ ap (take m) after ∙ sym (drop-take end m a) ∙ ap (λ (x : ℕ). drop end (take x a)) (sym is)
  | inr le ↦ drop_all end (take len b) (omega (arith, le, length-take len b)) ∙ sym (drop_all end (take len a) (omega (arith, le, length-take len a)))
]

-- what is torn is torn still where both are cut to a length
pub torn_cut : (range : Range) (len : ℕ) (a b : List ℕ) → IsTorn range a b → IsTorn range (take len a) (take len b)
torn_cut range len a b torn = record {
  before = cut_before range.at len a b torn.before;
  after = cut_after (range_end range) len a b torn.after;
  least = omega (arith, torn.least, length-take len a, length-take len b);
  most = omega (arith, torn.most, length-take len a, length-take len b);
  bytes = λ i low high. elim (cases_lt i len) [
    | inl lt ↦ rw (get_or-take len b i 0 lt) (torn.bytes i (omega (arith, low, lt, length-take len a)) high)
    | inr le ↦ rw (get_or_past (take len b) i 0 (omega (arith, le, length-take len b))) (lit≤ tt)
  ];
}

pub IsBytes-replicate : (n byte : ℕ) → byte < 256 → IsBytes (replicate n byte)
IsBytes-replicate n byte lt i = elim (cases_lt i n) [
  | inl in_it ↦ rw (get_or-replicate n i byte 0 in_it) lt
  | inr le ↦ rw (get_or_past (replicate n byte) i 0 (omega (arith, le, length-replicate {A = ℕ} n byte))) (lit≤ tt)
]

torn_fill : (byte : ℕ) (range : Range) (file : List ℕ) → byte < 256 → IsTorn range file (bytes_written range.at (replicate range.count byte) file)
torn_fill byte range file lt =
    subst (λ (n : ℕ). IsTorn (record { at = range.at; count = n }) file (bytes_written range.at (replicate range.count byte) file)) (length-replicate {A = ℕ} range.count byte)
    (torn_whole range.at (replicate range.count byte) file (IsBytes-replicate range.count byte lt))

-- a file with filled ranges is an image, at whatever length from the old end on it is cut
filled_image : (byte len : ℕ) (synced : List ℕ) (ranges : List Range) → byte < 256 → length synced ≤ len → IsImage synced ranges (take len (fills byte ranges synced))
filled_image byte len synced [] lt le = take_all len synced le
filled_image byte len synced (range ∷ ranges) lt le =
    (take len (fills byte ranges synced), filled_image byte len synced ranges lt le, torn_cut range len (fills byte ranges synced) _ (torn_fill byte range (fills byte ranges synced) lt))

-- the file that was synced is an image
synced_image : (synced : List ℕ) (ranges : List Range) → IsBytes synced → IsImage synced ranges synced
synced_image synced [] fits = refl
synced_image synced (range ∷ ranges) fits = (
  synced,
  synced_image synced ranges fits,
  record {
    before = take_min range.at synced;
    after = refl;
    least = omega arith;
    most = omega arith;
    bytes = λ i low high. fits i;
  },
)

-- it only grows
pub fills_long : (byte : ℕ) (ranges : List Range) (file : List ℕ) → length file ≤ length (fills byte ranges file)
fills_long byte [] file = omega arith
fills_long byte (range ∷ ranges) file =
    let bytes = replicate range.count byte in
    omega (arith, fills_long byte ranges file, length-written range.at bytes (fills byte ranges file))

end_low : (way old new : ℕ) → old ≤ new → old ≤ end_left way old new
end_low way old new le = first (way == 0)
  where
    second : (b : Bool) → old ≤ (if b then old + (new - old) / 2 else new)
    second true = omega arith
    second false = le

    first : (b : Bool) → old ≤ (if b then old else (if way == 1 then old + (new - old) / 2 else new))
    first true = omega arith
    first false = second (way == 1)

pub left_image : (pick : ℕ) (s : DiskState) → IsBytes s.synced → MayLeave s (image_left_by pick s)
left_image pick s fits = first (pick == 0)
  where
    second : (b : Bool) → MayLeave s (if b then s.seen else filled_by pick s.synced s.ranges)
    second true = seen_image s
    second false = inl (filled_image (pick % 256) _ s.synced s.ranges (omega arith) (end_low (pick % 3) _ _ (fills_long (pick % 256) s.ranges s.synced)))

    first : (b : Bool) → MayLeave s (if b then s.synced else (if pick == 1 then s.seen else filled_by pick s.synced s.ranges))
    first true = inl (synced_image s.synced s.ranges fits)
    first false = second (pick == 1)
