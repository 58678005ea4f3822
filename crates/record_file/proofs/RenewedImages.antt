-- What a stop leaves while a file is begun anew.
use Rattle.std.proofs.Common.{◌≡◌, ◌≤◌, inl, inr, ℕ, List, [], ◌∷◌, ◌++◌, length, get_or, Result, refl, sym, ap, ◌∙◌, subst, arith}
use Rattle.std.proofs.lemmas.Bool.{cases_eq}
use Rattle.outside.specs.Disks.{DiskState, IsTorn, LeavesOnly, LeavesTorn, at_rest, disk_state_of, bytes_written}
use Rattle.outside.specs.DisksLaws.{leaves_then, leaves_weaker, seen_image}
use Rattle.record_file.specs.Form.{Form, IsForm}
use Rattle.record_file.specs.Records.{Opens, records}
use Rattle.record_file.specs.Appending.{AllOpen}
use Rattle.record_file.specs.Making.{OpensEmpty, OpensOver, Makes, Renews, RestsClear}
use Rattle.record_file.proofs.Lists.{torn_gate}
use Rattle.record_file.proofs.MadeImages.{cleared, made_range, unmade_empty}

module _ (form : Form) (is_form : IsForm form) (head next : List ℕ) (rs : List (List ℕ)) where
  -- the first byte is torn: the file stays as it is, or isn't made
  pub first_torn : (file image : List ℕ) → Opens form head file rs → IsTorn made_range file image → OpensOver form head next rs image
  first_torn file image opens torn =
      let behind = (head ++ records form rs) ++ opens.gate ∷ opens.rest in
      let gated = torn_gate [] 1 behind image 0 refl (subst (λ (x : List ℕ). IsTorn made_range x image) opens.text torn) in
      let size : length image ≤ form.limit = omega (arith, torn.most, opens.size, is_form.room) in
      elim (cases_eq gated.gate 1) [
        | inl one ↦ inl (record { gate = opens.gate; rest = opens.rest; text = gated.text ∙ ap (λ (x : ℕ). x ∷ behind) one; shut = opens.shut; each = opens.each; size = size })
        | inr not ↦ inr (unmade_empty form next image (inr (λ one. not (sym (ap (λ (x : List ℕ). get_or x 0 0) gated.text) ∙ one))) size)
      ]

  pub first_since : (old new : List DiskState) → AllOpen form head rs (disk_state_of old) → LeavesOnly (LeavesTorn made_range (disk_state_of old)) old new → LeavesOnly (OpensOver form head next rs) old new
  first_since old new were leaves = leaves_weaker _ _ old new (λ image left. first_torn left.older image (were left.older left.was) left.torn) leaves

  -- the first byte is cleared
  pub first_done : (old mid : List DiskState) → AllOpen form head rs (disk_state_of old) → disk_state_of mid ≡ at_rest (bytes_written 0 (0 ∷ []) (disk_state_of old).seen) → RestsClear form (disk_state_of mid)
  first_done old mid were whole =
      let seen = (disk_state_of old).seen in
      cleared form seen (disk_state_of old) (disk_state_of mid) is_form (were seen (seen_image (disk_state_of old))).size refl whole

  -- and then the file is made under the next head
  pub renews : {E : Type 0} (r : Result (Unit {0}) E) (old mid new : List DiskState) → LeavesOnly (OpensOver form head next rs) old mid → Makes form next mid new r → Renews form head next rs old new r
  renews r old mid new first makes = record {
    images = makes.images;
    since = leaves_then (OpensOver form head next rs) old mid new first (leaves_weaker (OpensEmpty form next) (OpensOver form head next rs) mid new (λ image empty. inr empty) makes.since);
  }
