-- Every image of a stop in or after an append opens as the records before it, with all of the new ones or with none.
use Rattle.std.proofs.Common.{◌≡◌, ◌≢◌, inl, inr, ℕ, ◌+◌, ◌<◌, ◌≤◌, List, [], ◌∷◌, ◌++◌, length, drop, reverse, refl, sym, ap, ◌∙◌, subst, append_assoc, arith, Result, Ok, Err, OnOk}
use Rattle.std.proofs.lemmas.Bool.{cases_eq}
use Rattle.std.proofs.lemmas.List.{reverse-append, length-reverse}
use Rattle.std.proofs.lemmas.List.Concat.{flat_map-append}
use Rattle.std.specs.List.{flat_map, AllByRecursion}
use Rattle.outside.specs.Disks.{Range, DiskState, IsTorn, MayLeave, LeavesOnly, LeavesTorn, at_rest, disk_state_of, bytes_written}
use Rattle.outside.specs.DisksLaws.{length-written, rest_image, seen_image, leaves_weaker, leaves_then}
use Rattle.record_file.specs.Form.{Form}
use Rattle.record_file.specs.Records.{IsRecord, Opens, closed_front, record_text, records}
use Rattle.record_file.specs.Appending.{AllOpen, KeepsRecords, OpensWithout}
use Rattle.record_file.proofs.Lists.{torn_behind, torn_gate, written_behind, written_gate}

pub records_then : (form : Form) (rs more : List (List ℕ)) → records form (more ++ rs) ≡ records form rs ++ records form more
records_then form rs more = ap (flat_map (record_text form)) (reverse-append more rs) ∙ flat_map-append (record_text form) (reverse rs) (reverse more)

pub front_more : (form : Form) (head : List ℕ) (rs more : List (List ℕ)) → closed_front form head (more ++ rs) ≡ closed_front form head rs ++ records form more
front_more form head rs more =
    ap (λ (x : List ℕ). 1 ∷ head ++ x) (records_then form rs more) ∙ ap (λ (x : List ℕ). 1 ∷ x) (sym (append_assoc head (records form rs) (records form more)))

-- the records of some records begin with a gate
pub records_tail : (form : Form) (more : List (List ℕ)) → 0 < length more → records form more ≡ 1 ∷ drop 1 (records form more)
records_tail form more some = begins (reverse more) (omega (arith, some, length-reverse more))
  where
    begins : (xs : List (List ℕ)) → 0 < length xs → flat_map (record_text form) xs ≡ 1 ∷ drop 1 (flat_map (record_text form) xs)
    begins [] lt = absurd (omega (arith, lt))
    begins (x ∷ xs) lt = refl

pub all_more : (P : List ℕ → Type 0) (more rs : List (List ℕ)) → AllByRecursion P more → AllByRecursion P rs → AllByRecursion P (more ++ rs)
all_more P [] rs first second = second
all_more P (e ∷ more) rs first second = (first.0, all_more P more rs first.1 second)

-- `tail` is the records of the new ones but for their first gate
module _ (form : Form) (head : List ℕ) (rs more : List (List ℕ)) (tail : List ℕ) (tail_is : records form more ≡ 1 ∷ tail) (all : AllByRecursion (IsRecord form) more) (at : ℕ) (place : at ≡ length (closed_front form head rs))
    (low : at + 1 + length (tail ++ 0 ∷ []) ≤ form.limit) where
  -- a write behind the gate is torn: the records stay
  pub first_torn : (file image : List ℕ) → Opens form head file rs → IsTorn (record { at = at + 1; count = length (tail ++ 0 ∷ []) }) file image → Opens form head image rs
  first_torn file image opens torn =
      let range : Range = record { at = at + 1; count = length (tail ++ 0 ∷ []) } in
      let behind = torn_behind (closed_front form head rs) opens.gate opens.rest image (at + 1) (length (tail ++ 0 ∷ [])) (omega (arith, place)) (subst (λ (x : List ℕ). IsTorn range x image) opens.text torn) in
      record {
        gate = opens.gate;
        rest = behind.rest;
        text = behind.text;
        shut = opens.shut;
        each = opens.each;
        size = omega (arith, torn.most, opens.size, low);
      }

  -- the file with the records behind the closed gate
  pub record Staged (file : List ℕ) : Type 0 where
    pub gate : ℕ
    pub rest : List ℕ
    pub text : file ≡ closed_front form head rs ++ gate ∷ (tail ++ 0 ∷ rest)
    pub shut : gate ≢ 1
    pub each : AllByRecursion (IsRecord form) rs
    pub size : length file ≤ form.limit

  -- the write isn't torn
  pub first_written : (file : List ℕ) → Opens form head file rs → Staged (bytes_written (at + 1) (tail ++ 0 ∷ []) file)
  first_written file opens =
      let behind = written_behind (closed_front form head rs) opens.gate opens.rest (tail ++ 0 ∷ []) (at + 1) (omega (arith, place)) in
      let long = length-written (at + 1) (tail ++ 0 ∷ []) file in
      let left = drop (length (tail ++ 0 ∷ [])) opens.rest in
      record {
        gate = opens.gate;
        rest = left;
        text = ap (bytes_written (at + 1) (tail ++ 0 ∷ [])) opens.text ∙ behind ∙ ap (λ (x : List ℕ). closed_front form head rs ++ opens.gate ∷ x) (append_assoc tail (0 ∷ []) left);
        shut = opens.shut;
        each = opens.each;
        size = omega (arith, long, opens.size, low);
      }

  pub staged_opens : (file : List ℕ) → Staged file → Opens form head file rs
  staged_opens file staged = record {
    gate = staged.gate;
    rest = tail ++ 0 ∷ staged.rest;
    text = staged.text;
    shut = staged.shut;
    each = staged.each;
    size = staged.size;
  }

  -- an open gate before the records
  opened : (rest : List ℕ) → closed_front form head rs ++ 1 ∷ (tail ++ 0 ∷ rest) ≡ closed_front form head (more ++ rs) ++ 0 ∷ rest
  opened rest =
      ap (λ (x : List ℕ). closed_front form head rs ++ (x ++ 0 ∷ rest)) (sym tail_is)
      ∙ sym (append_assoc (closed_front form head rs) (records form more) (0 ∷ rest)) ∙ ap (λ (x : List ℕ). x ++ 0 ∷ rest) (sym (front_more form head rs more))

  with_it : (image rest : List ℕ) → image ≡ closed_front form head rs ++ 1 ∷ (tail ++ 0 ∷ rest) → AllByRecursion (IsRecord form) rs → length image ≤ form.limit → Opens form head image (more ++ rs)
  with_it image rest text each size = record { gate = 0; rest = rest; text = text ∙ opened rest; shut = λ is. cc; each = all_more (IsRecord form) more rs all each; size = size }

  -- a write of the gate is torn: it's open or closed
  pub second_torn : (file image : List ℕ) → Staged file → IsTorn (record { at = at; count = 1 }) file image → OpensWithout form head rs more image
  second_torn file image staged torn =
      let range : Range = record { at = at; count = 1 } in
      let behind = tail ++ 0 ∷ staged.rest in
      let gated = torn_gate (closed_front form head rs) staged.gate behind image at place (subst (λ (x : List ℕ). IsTorn range x image) staged.text torn) in
      let size : length image ≤ form.limit = omega (arith, torn.most, staged.size, low) in
      elim (cases_eq gated.gate 1) [
        | inl is_open ↦ inl (with_it image staged.rest (gated.text ∙ ap (λ (x : ℕ). closed_front form head rs ++ x ∷ behind) is_open) staged.each size)
        | inr shut ↦ inr (record { gate = gated.gate; rest = behind; text = gated.text; shut = shut; each = staged.each; size = size })
      ]

  -- it isn't torn
  pub second_written : (file : List ℕ) → Staged file → Opens form head (bytes_written at (1 ∷ []) file) (more ++ rs)
  second_written file staged =
      let behind = tail ++ 0 ∷ staged.rest in
      let long = length-written at (1 ∷ []) file in
      with_it (bytes_written at (1 ∷ []) file) staged.rest (ap (bytes_written at (1 ∷ [])) staged.text ∙ written_gate (closed_front form head rs) staged.gate 1 behind at place) staged.each (omega (arith, long, staged.size, low))

  -- ---- two writes, each with its sync

  abbrev first_range : Range
  first_range = record { at = at + 1; count = length (tail ++ 0 ∷ []) }

  abbrev second_range : Range
  second_range = record { at = at; count = 1 }

  pub first_since : (s : DiskState) (old new : List DiskState) → AllOpen form head rs s → LeavesOnly (LeavesTorn first_range s) old new → LeavesOnly (OpensWithout form head rs more) old new
  first_since s old new were leaves = leaves_weaker _ _ old new (λ image left. inr (first_torn left.older image (were left.older left.was) left.torn)) leaves

  pub second_since : (file : List ℕ) (s : DiskState) (old new : List DiskState) → Staged file → s ≡ at_rest file → LeavesOnly (LeavesTorn second_range s) old new → LeavesOnly (OpensWithout form head rs more) old new
  second_since file s old new staged rests leaves =
      leaves_weaker _ _ old new (λ image left. second_torn file image staged (subst (λ (x : List ℕ). IsTorn second_range x image) (older left rests) left.torn)) leaves
    where
      older : {image : List ℕ} (left : LeavesTorn second_range s image) → s ≡ at_rest file → left.older ≡ file
      older left rests = rest_image file left.older (subst (λ (x : DiskState). MayLeave x left.older) rests left.was)

  pub all_open : (file : List ℕ) (s : DiskState) (now : List (List ℕ)) → s ≡ at_rest file → Opens form head file now → AllOpen form head now s
  all_open file s now rests opens image may =
      subst (λ (x : List ℕ). Opens form head x now) (sym (rest_image file image (subst (λ (x : DiskState). MayLeave x image) rests may))) opens

  -- the second put ended so
  pub kept : {E : Type 0} (r : Result (Unit {0}) E) (old mid new : List DiskState) → AllOpen form head rs (disk_state_of old)
      → disk_state_of mid ≡ at_rest (bytes_written (at + 1) (tail ++ 0 ∷ []) (disk_state_of old).seen) → LeavesOnly (LeavesTorn first_range (disk_state_of old)) old mid
      → OnOk r (disk_state_of new ≡ at_rest (bytes_written at (1 ∷ []) (disk_state_of mid).seen)) → LeavesOnly (LeavesTorn second_range (disk_state_of mid)) mid new
      → KeepsRecords form head rs more old new r
  kept {E = E} r old mid new were first since second later =
      let file = bytes_written (at + 1) (tail ++ 0 ∷ []) (disk_state_of old).seen in
      let staged = first_written (disk_state_of old).seen (were (disk_state_of old).seen (seen_image (disk_state_of old))) in
      let same : (disk_state_of mid).seen ≡ file = ap (λ (x : DiskState). x.seen) first in
      record {
        images = done r second same staged;
        since = leaves_then _ old mid new (first_since (disk_state_of old) old mid were since) (second_since file (disk_state_of mid) mid new staged first later);
      }
    where
      done : (r : Result (Unit {0}) E) → OnOk r (disk_state_of new ≡ at_rest (bytes_written at (1 ∷ []) (disk_state_of mid).seen)) → (disk_state_of mid).seen ≡ bytes_written (at + 1) (tail ++ 0 ∷ []) (disk_state_of old).seen
          → Staged (bytes_written (at + 1) (tail ++ 0 ∷ []) (disk_state_of old).seen) → OnOk r (AllOpen form head (more ++ rs) (disk_state_of new))
      done (Ok x) second same staged =
          let file = bytes_written (at + 1) (tail ++ 0 ∷ []) (disk_state_of old).seen in
          all_open (bytes_written at (1 ∷ []) file) (disk_state_of new) (more ++ rs) (second ∙ ap (λ (x : List ℕ). at_rest (bytes_written at (1 ∷ []) x)) same) (second_written file staged)
      done (Err x) second same staged = tt
