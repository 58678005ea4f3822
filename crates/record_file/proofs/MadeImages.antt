-- What a stop leaves while a file is made.
use Rattle.std.proofs.Common.{◌≡◌, ◌≢◌, ◌⊎◌, inl, inr, ℕ, ◌+◌, ◌<◌, ◌≤◌, List, [], ◌∷◌, ◌++◌, length, drop, get_or, Result, Ok, Err, OnOk, refl, sym, ap, ◌∙◌, subst, append_assoc, arith, length-append}
use Rattle.std.proofs.lemmas.Bool.{cases_eq}
use Rattle.std.proofs.lemmas.List.{append-nil}
use Rattle.outside.specs.Disks.{Range, DiskState, IsTorn, MayLeave, LeavesOnly, LeavesTorn, at_rest, disk_state_of, bytes_written}
use Rattle.outside.specs.DisksLaws.{length-written, rest_image, written_inside, leaves_then, leaves_weaker, seen_image}
use Rattle.record_file.specs.Form.{Form, IsForm}
use Rattle.record_file.specs.Records.{IsUnmade, Opens}
use Rattle.record_file.specs.Appending.{AllOpen, FileState, StandsFor}
use Rattle.record_file.specs.Making.{IsClear, OpensAsKept, OpensEmpty, OpensFile, OpensLike, RestsClear, Makes}
use Rattle.record_file.proofs.Lists.{torn_behind, torn_gate, written_behind, written_gate}

pub unmade_empty : (form : Form) (head image : List ℕ) → IsUnmade form image → length image ≤ form.limit → OpensEmpty form head image
unmade_empty form head image is short = inl (is, short, refl)

pub rests_only : (file image : List ℕ) (s : DiskState) → s ≡ at_rest file → MayLeave s image → image ≡ file
rests_only file image s rests may = rest_image file image (subst (λ (x : DiskState). MayLeave x image) rests may)

-- what was all on the disk
pub was_file : (range : Range) (file image : List ℕ) (s : DiskState) → s ≡ at_rest file → LeavesTorn range s image → IsTorn range file image
was_file range file image s rests left =
    let older : left.older ≡ file = rests_only file left.older s rests left.was in
    subst (λ (x : List ℕ). IsTorn range x image) older left.torn

-- ---- the first byte

abbrev pub made_range : Range
made_range = record { at = 0; count = 1 }

low_unmade : (form : Form) (file : List ℕ) → IsUnmade form file → (length file ≡ 0) ⊎ (get_or file 0 0 ≡ 1) → length file < form.head_length + 2
low_unmade form file (inl short) why = short
low_unmade form file (inr not) (inl none) = omega (arith, none)
low_unmade form file (inr not) (inr one) = absurd (not one)

pub clear_since : (form : Form) (head file : List ℕ) (old new : List DiskState) → IsForm form → IsUnmade form file → (length file ≡ 0) ⊎ (get_or file 0 0 ≡ 1) → disk_state_of old ≡ at_rest file
    → LeavesOnly (LeavesTorn made_range (disk_state_of old)) old new → LeavesOnly (OpensEmpty form head) old new
clear_since form head file old new is_form is why rests leaves =
    leaves_weaker _ _ old new (λ image left.
    let torn = was_file made_range file image (disk_state_of old) rests left in
    unmade_empty form head image (inl (omega (arith, torn.most, low_unmade form file is why))) (omega (arith, torn.most, low_unmade form file is why, is_form.room))) leaves

-- a whole write of it
pub cleared : (form : Form) (file : List ℕ) (s t : DiskState) → IsForm form → length file ≤ form.limit → s.seen ≡ file → t ≡ at_rest (bytes_written 0 (0 ∷ []) s.seen) → RestsClear form t
cleared form file s t is_form short seen now =
    let long = length-written 0 (0 ∷ []) file in
    let is : bytes_written 0 (0 ∷ []) file ≡ 0 ∷ drop (0 + 1) file = written_inside 0 (0 ∷ []) file (omega arith) in
    record {
      file = bytes_written 0 (0 ∷ []) file;
      rests = now ∙ ap (λ (x : List ℕ). at_rest (bytes_written 0 (0 ∷ []) x)) seen;
      clear = record {
        some = omega (arith, ap length is);
        other = λ one. let clash : 0 ≡ 1 = sym (ap (λ (x : List ℕ). get_or x 0 0) is) ∙ one in omega (arith, clash);
        size = omega (arith, long, short, is_form.room);
      };
    }

-- ---- the head

-- a clear file with a head and a closed gate behind its first byte
pub record HasHead (form : Form) (head file : List ℕ) : Type 0 where
  pub first : ℕ
  pub rest : List ℕ
  pub text : file ≡ first ∷ (head ++ 0 ∷ rest)
  pub other : first ≢ 1
  pub size : length file ≤ form.limit

module _ (form : Form) (is_form : IsForm form) (head : List ℕ) (long : length head ≡ form.head_length) where
  abbrev head_range : Range
  head_range = record { at = 1; count = length (head ++ 0 ∷ []) }

  head_size : length (head ++ 0 ∷ []) ≡ form.head_length + 1
  head_size = omega (arith, long, length-append head (0 ∷ []))

  pub head_torn : (file image : List ℕ) → IsClear form file → IsTorn head_range file image → OpensEmpty form head image
  head_torn [] image clear torn = absurd (omega (arith, clear.some))
  head_torn (b ∷ rest) image clear torn =
      let behind = torn_behind [] b rest image 1 (length (head ++ 0 ∷ [])) (omega arith) torn in
      unmade_empty form head image (inr (λ one. clear.other (sym (ap (λ (x : List ℕ). get_or x 0 0) behind.text) ∙ one))) (omega (arith, torn.most, clear.size, head_size, is_form.room))

  pub head_written : (file : List ℕ) → IsClear form file → HasHead form head (bytes_written 1 (head ++ 0 ∷ []) file)
  head_written [] clear = absurd (omega (arith, clear.some))
  head_written (b ∷ rest) clear =
      let written_long = length-written 1 (head ++ 0 ∷ []) (b ∷ rest) in
      let left = drop (length (head ++ 0 ∷ [])) rest in
      record {
        first = b;
        rest = left;
        text = written_behind [] b rest (head ++ 0 ∷ []) 1 (omega arith) ∙ ap (λ (x : List ℕ). b ∷ x) (append_assoc head (0 ∷ []) left);
        other = clear.other;
        size = omega (arith, written_long, clear.size, head_size, is_form.room);
      }

  made_empty : (image rest : List ℕ) → image ≡ 1 ∷ (head ++ 0 ∷ rest) → length image ≤ form.limit → Opens form head image []
  made_empty image rest text size = record {
    gate = 0;
    rest = rest;
    text = text ∙ ap (λ (x : List ℕ). 1 ∷ (x ++ 0 ∷ rest)) (sym (append-nil head));
    shut = λ one. cc;
    each = tt;
    size = size;
  }

  pub made_torn : (file image : List ℕ) → HasHead form head file → IsTorn made_range file image → OpensEmpty form head image
  made_torn file image has torn =
      let behind = head ++ 0 ∷ has.rest in
      let gated = torn_gate [] has.first behind image 0 refl (subst (λ (x : List ℕ). IsTorn made_range x image) has.text torn) in
      elim (cases_eq gated.gate 1) [
        | inl one ↦ inr (made_empty image has.rest (gated.text ∙ ap (λ (x : ℕ). x ∷ behind) one) (omega (arith, torn.most, has.size, is_form.room)))
        | inr not ↦ unmade_empty form head image (inr (λ one. not (sym (ap (λ (x : List ℕ). get_or x 0 0) gated.text) ∙ one))) (omega (arith, torn.most, has.size, is_form.room))
      ]

  pub made_written : (file : List ℕ) → HasHead form head file → Opens form head (bytes_written 0 (1 ∷ []) file) []
  made_written file has =
      let written_long = length-written 0 (1 ∷ []) file in
      made_empty (bytes_written 0 (1 ∷ []) file) has.rest (ap (bytes_written 0 (1 ∷ [])) has.text ∙ written_gate [] has.first 1 (head ++ 0 ∷ has.rest) 0 refl) (omega (arith, written_long, has.size, is_form.room))

  pub head_since : (old new : List DiskState) → RestsClear form (disk_state_of old) → LeavesOnly (LeavesTorn head_range (disk_state_of old)) old new → LeavesOnly (OpensEmpty form head) old new
  head_since old new clear leaves =
      leaves_weaker _ _ old new (λ image left. head_torn clear.file image clear.clear (was_file head_range clear.file image (disk_state_of old) clear.rests left)) leaves

  pub makes : {E : Type 0} (r : Result (Unit {0}) E) (old mid new : List DiskState) → RestsClear form (disk_state_of old)
      → disk_state_of mid ≡ at_rest (bytes_written 1 (head ++ 0 ∷ []) (disk_state_of old).seen) → LeavesOnly (LeavesTorn head_range (disk_state_of old)) old mid
      → OnOk r (disk_state_of new ≡ at_rest (bytes_written 0 (1 ∷ []) (disk_state_of mid).seen)) → LeavesOnly (LeavesTorn made_range (disk_state_of mid)) mid new → Makes form head old new r
  makes {E = E} r old mid new clear first since second later =
      let seen : (disk_state_of old).seen ≡ clear.file = ap (λ (x : DiskState). x.seen) clear.rests in
      let file = bytes_written 1 (head ++ 0 ∷ []) clear.file in
      let has = head_written clear.file clear.clear in
      let rests : disk_state_of mid ≡ at_rest file = first ∙ ap (λ (x : List ℕ). at_rest (bytes_written 1 (head ++ 0 ∷ []) x)) seen in
      let last = leaves_weaker _ (OpensEmpty form head) mid new (λ image left. made_torn file image has (was_file made_range file image (disk_state_of mid) rests left)) later in
      record { images = done r second rests has; since = leaves_then _ old mid new (head_since old mid clear since) last }
    where
      done : (q : Result (Unit {0}) E) → OnOk q (disk_state_of new ≡ at_rest (bytes_written 0 (1 ∷ []) (disk_state_of mid).seen)) → disk_state_of mid ≡ at_rest (bytes_written 1 (head ++ 0 ∷ []) clear.file)
          → HasHead form head (bytes_written 1 (head ++ 0 ∷ []) clear.file) → OnOk q (AllOpen form head [] (disk_state_of new))
      done (Ok x) second rests has =
          let file = bytes_written 1 (head ++ 0 ∷ []) clear.file in
          let now : disk_state_of new ≡ at_rest (bytes_written 0 (1 ∷ []) file) = second ∙ ap (λ (x : DiskState). at_rest (bytes_written 0 (1 ∷ []) x.seen)) rests in
          λ image may. subst (λ (x : List ℕ). Opens form head x []) (sym (rests_only (bytes_written 0 (1 ∷ []) file) image (disk_state_of new) now may)) (made_written file has)
      done (Err x) second rests has = tt

-- ---- opening

-- a file that was made stands for no records, as which it was read
pub opens_empty : (form : Form) (head : List ℕ) (told : List DiskState) (file : FileState) (rs : List (List ℕ)) → rs ≡ [] → StandsFor file head [] → AllOpen form head [] (disk_state_of told) → OpensFile form head told file rs
opens_empty form head told file rs none stands all = subst (λ (x : List (List ℕ)). OpensFile form head told file x) (sym none) (stands, all)

-- what is left while it is made
pub like_since : (form : Form) (head file : List ℕ) (old new : List DiskState) → IsUnmade form file → length file ≤ form.limit → LeavesOnly (OpensEmpty form head) old new → LeavesOnly (OpensLike form head file) old new
like_since form head file old new unmade short since =
    leaves_weaker (OpensEmpty form head) (OpensLike form head file) old new (λ image empty. record { unmade = unmade; size = short; empty = empty }) since

-- a file is read, and then opened
pub kept_since : (form : Form) (head file : List ℕ) (old mid new : List DiskState) → file ≡ (disk_state_of old).seen → LeavesOnly (MayLeave (disk_state_of old)) old mid → LeavesOnly (OpensLike form head file) mid new
    → LeavesOnly (OpensAsKept form head (disk_state_of old)) old new
kept_since form head file old mid new is first second =
    let s = disk_state_of old in
    leaves_then (OpensAsKept form head s) old mid new (leaves_weaker (MayLeave s) (OpensAsKept form head s) old mid (λ image may. inl may) first)
    (leaves_weaker (OpensLike form head file) (OpensAsKept form head s) mid new (λ image like. inr (s.seen, seen_image s, subst (λ (x : List ℕ). OpensLike form head x image) is like)) second)
