-- What follows for the states of a disk where one call comes after another.
use Rattle.std.specs.Prelude.{◌≡◌, ℕ, zero, ◌+◌, ◌-◌, ◌<◌, ◌≤◌, min, List, [], ◌∷◌, ◌++◌, length, take, drop, replicate, get_or, refl}
use Rattle.std.specs.List.{AllByRecursion}
use Rattle.std.proofs.Common.{inl, inr, sym, ap, ◌∙◌, subst, append_assoc, arith, lit≤, length-append, length-drop, length-take}
use Rattle.std.proofs.lemmas.Bool.{cases_lt}
use Rattle.std.proofs.lemmas.List.{append-nil, take_at, drop_at, take_all, length-replicate, get_or-replicate, get_or_past}
use Rattle.std.proofs.Math.ListN.{get_or-append}
use Rattle.std.proofs.Math.Seq.{get_or-append_right}
use Rattle.ritas_base.specs.Bytes.{IsBytes}
use Rattle.outside.specs.Disks.{Range, DiskState, IsTorn, MayLeave, at_rest, disk_state_of, padded, bytes_written, after_write, after_sync, Tears, FailsToWrite, LeavesOnly, LeavesTorn}

-- ---- moments

all_joined : {X : Type 0} (P : X → Type 0) (xs ys : List X) → AllByRecursion P xs → AllByRecursion P ys → AllByRecursion P (xs ++ ys)
all_joined P [] ys first second = second
all_joined P (x ∷ xs) ys first second = (first.0, all_joined P xs ys first.1 second)

all_weaker : {X : Type 0} (P Q : X → Type 0) (xs : List X) → ((x : X) → P x → Q x) → AllByRecursion P xs → AllByRecursion Q xs
all_weaker P Q [] to all = tt
all_weaker P Q (x ∷ xs) to all = (to x all.0, all_weaker P Q xs to all.1)

pub leaves_none : (P : List ℕ → Type 0) (states : List DiskState) → LeavesOnly P states states
leaves_none P states = record { more = []; states = refl; each = tt }

pub leaves_more : (P : List ℕ → Type 0) (old : List DiskState) (s : DiskState) → ((image : List ℕ) → MayLeave s image → P image) → LeavesOnly P old (s ∷ old)
leaves_more P old s here = record { more = s ∷ []; states = refl; each = (here, tt) }

pub leaves_then : (P : List ℕ → Type 0) (old mid new : List DiskState) → LeavesOnly P old mid → LeavesOnly P mid new → LeavesOnly P old new
leaves_then P old mid new first second = record {
  more = second.more ++ first.more;
  states = second.states ∙ ap (λ (x : List DiskState). second.more ++ x) first.states ∙ sym (append_assoc second.more first.more old);
  each = all_joined _ second.more first.more second.each first.each;
}

pub leaves_weaker : (P Q : List ℕ → Type 0) (old new : List DiskState) → ((image : List ℕ) → P image → Q image) → LeavesOnly P old new → LeavesOnly Q old new
leaves_weaker P Q old new to leaves = record {
  more = leaves.more;
  states = leaves.states;
  each = all_weaker _ _ leaves.more (λ s all. λ image may. to image (all image may)) leaves.each;
}

-- ---- a write

padded_low : (at : ℕ) (file : List ℕ) → at ≤ length file → padded at file ≡ take at file
padded_low at file le = let none : at - length file ≡ 0 = omega (arith, le) in rw none (append-nil (take at file))

pub length-padded : (at : ℕ) (file : List ℕ) → length (padded at file) ≡ at
length-padded at file = omega (arith, length-append (take at file) (replicate (at - length file) 0), length-take at file, length-replicate {A = ℕ} (at - length file) 0)

pub length-written : (at : ℕ) (bytes file : List ℕ) → length (bytes_written at bytes file) ≡ at + (length bytes + (length file - (at + length bytes)))
length-written at bytes file =
    omega (arith, length-append (padded at file) (bytes ++ drop (at + length bytes) file), length-append bytes (drop (at + length bytes) file), length-drop (at + length bytes) file, length-padded at file)

written_before : (at : ℕ) (bytes file : List ℕ) → take (min at (length file)) (bytes_written at bytes file) ≡ take at file
written_before at bytes file = elim (cases_lt (length file) at) [
  | inl short ↦
      let least : min at (length file) ≡ length file = omega (arith, short) in
      let whole : take at file ≡ file = take_all at file (omega (arith, short)) in
      rw (least, whole, append_assoc) (take_at file _ (length file) refl)
  | inr le ↦
      let least : min at (length file) ≡ at = omega (arith, le) in
      rw least (take_at (padded at file) _ at (length-padded at file) ∙ padded_low at file le)
]

written_after : (at : ℕ) (bytes file : List ℕ) → drop (at + length bytes) (bytes_written at bytes file) ≡ drop (at + length bytes) file
written_after at bytes file =
    let rest = drop (at + length bytes) file in
    let long : length (padded at file ++ bytes) ≡ at + length bytes = omega (arith, length-append (padded at file) bytes, length-padded at file) in
    ap (λ (x : List ℕ). drop (at + length bytes) x) (sym (append_assoc (padded at file) bytes rest)) ∙ drop_at (padded at file ++ bytes) rest (at + length bytes) long

-- at the end of a file and behind it, a front has zeros
padded_zero : (at : ℕ) (file : List ℕ) (i : ℕ) → length file ≤ i → get_or (padded at file) i 0 ≡ zero
padded_zero at file i le =
    let front = take at file in
    let fewer : length front ≤ i = omega (arith, le, length-take at file) in
    get_or-append_right front (replicate (at - length file) 0) i 0 fewer ∙ zeros (at - length file) (i - length front)
  where
    zeros : (n j : ℕ) → get_or (replicate n 0) j 0 ≡ zero
    zeros n j = elim (cases_lt j n) [
      | inl lt ↦ get_or-replicate n j 0 0 lt
      | inr le ↦ get_or_past (replicate n 0) j 0 (omega (arith, le, length-replicate {A = ℕ} n 0))
    ]

-- what was written, and the zeros in front of it, are bytes
written_bytes : (at : ℕ) (bytes file : List ℕ) → IsBytes bytes → (i : ℕ) → min at (length file) ≤ i → i < at + length bytes → get_or (bytes_written at bytes file) i 0 < 256
written_bytes at bytes file fits i low high = elim (cases_lt i at) [
  | inl lt ↦
      let is = get_or-append (padded at file) (bytes ++ drop (at + length bytes) file) 0 i (omega (arith, lt, length-padded at file)) in
      rw (is, padded_zero at file i (omega (arith, low, lt))) (lit≤ tt)
  | inr le ↦
      let is = get_or-append_right (padded at file) (bytes ++ drop (at + length bytes) file) i 0 (omega (arith, le, length-padded at file)) in
      let here = get_or-append bytes (drop (at + length bytes) file) 0 (i - length (padded at file)) (omega (arith, le, high, length-padded at file)) in
      rw (is, here) (fits (i - length (padded at file)))
]

-- what a write leaves when it isn't cut off
pub torn_whole : (at : ℕ) (bytes file : List ℕ) → IsBytes bytes → IsTorn (record { at = at; count = length bytes }) file (bytes_written at bytes file)
torn_whole at bytes file fits =
    let long = length-written at bytes file in
    record {
      before = written_before at bytes file;
      after = written_after at bytes file;
      least = omega (arith, long);
      most = omega (arith, long);
      bytes = written_bytes at bytes file fits;
    }

-- a write at or before the end
pub written_inside : (at : ℕ) (bytes file : List ℕ) → at ≤ length file → bytes_written at bytes file ≡ take at file ++ (bytes ++ drop (at + length bytes) file)
written_inside at bytes file le = rw (padded_low at file le) refl

-- ---- images

-- what a read gives
pub seen_image : (s : DiskState) → MayLeave s s.seen
seen_image s = inr refl

-- where all is on the disk, there is one image
pub rest_image : (file image : List ℕ) → MayLeave (at_rest file) image → image ≡ file
rest_image file image (inl is) = is
rest_image file image (inr is) = is

-- ---- a write and a sync

tears_leaves : (range : Range) (old new : List DiskState) → Tears range old new → LeavesOnly (LeavesTorn range (disk_state_of old)) old new
tears_leaves range old new tears =
    let s : DiskState = record { seen = tears.seen; synced = (disk_state_of old).synced; ranges = range ∷ (disk_state_of old).ranges } in
    subst (λ (x : List DiskState). LeavesOnly (LeavesTorn range (disk_state_of old)) old x) (sym tears.states)
    (leaves_more (LeavesTorn range (disk_state_of old)) old s left)
  where
    left : (image : List ℕ) → MayLeave (record { seen = tears.seen; synced = (disk_state_of old).synced; ranges = range ∷ (disk_state_of old).ranges }) image → LeavesTorn range (disk_state_of old) image
    left image (inl may) = record { older = may.0; was = inl may.1; torn = may.2 }
    left image (inr is) = record { older = (disk_state_of old).seen; was = seen_image (disk_state_of old); torn = subst (IsTorn range (disk_state_of old).seen) (sym is) tears.torn }

-- the write failed
pub failed_leaves : (range : Range) (old new : List DiskState) → FailsToWrite range old new → LeavesOnly (LeavesTorn range (disk_state_of old)) old new
failed_leaves range old new (inl same) = subst (λ (x : List DiskState). LeavesOnly (LeavesTorn range (disk_state_of old)) old x) (sym same) (leaves_none _ old)
failed_leaves range old new (inr tears) = tears_leaves range old new tears

-- it didn't
pub wrote_leaves : (at : ℕ) (bytes : List ℕ) (old new : List DiskState) → IsBytes bytes → new ≡ after_write at bytes old
    → LeavesOnly (LeavesTorn (record { at = at; count = length bytes }) (disk_state_of old)) old new
wrote_leaves at bytes old new fits e =
    tears_leaves (record { at = at; count = length bytes }) old new
    (record { seen = bytes_written at bytes (disk_state_of old).seen; torn = torn_whole at bytes (disk_state_of old).seen fits; states = e })

-- and the sync neither
pub synced_leaves : (at : ℕ) (bytes : List ℕ) (old mid new : List DiskState) → IsBytes bytes → mid ≡ after_write at bytes old → new ≡ after_sync mid
    → LeavesOnly (LeavesTorn (record { at = at; count = length bytes }) (disk_state_of old)) old new
synced_leaves at bytes old mid new fits e f =
    let range : Range = record { at = at; count = length bytes } in
    let file = bytes_written at bytes (disk_state_of old).seen in
    let is : new ≡ at_rest file ∷ mid = f ∙ ap (λ (x : List DiskState). at_rest (disk_state_of x).seen ∷ mid) e in
    let torn = torn_whole at bytes (disk_state_of old).seen fits in
    let second : LeavesOnly (LeavesTorn range (disk_state_of old)) mid (at_rest file ∷ mid) =
    leaves_more _ mid (at_rest file) (λ image may. record { older = (disk_state_of old).seen; was = seen_image (disk_state_of old); torn = subst (IsTorn range (disk_state_of old).seen) (sym (rest_image file image may)) torn }) in
    subst (λ (x : List DiskState). LeavesOnly (LeavesTorn range (disk_state_of old)) old x) (sym is)
    (leaves_then _ old mid (at_rest file ∷ mid) (wrote_leaves at bytes old mid fits e) second)

pub synced_state : (at : ℕ) (bytes : List ℕ) (old mid new : List DiskState) → mid ≡ after_write at bytes old → new ≡ after_sync mid
    → disk_state_of new ≡ at_rest (bytes_written at bytes (disk_state_of old).seen)
synced_state at bytes old mid new e f = ap disk_state_of f ∙ ap (λ (x : List DiskState). at_rest (disk_state_of x).seen) e
