-- In which of some lists identifiers stand: for each identifier a mask, whose bit j stands for list j.
use Rattle.std.specs.Prelude.{ℕ, Bool, ◌||◌, ◌&&◌, ◌==◌, ◌≡◌, List, unwrap_or}
use Rattle.std.specs.BTreeMap.{BTreeMap, get}
use Rattle.ritas_base.specs.declared.id.Id.{Id}
use Rattle.ritas_base.specs.Members.{has_member, member_count}
use Rattle.layer_api.specs.Service.{has_id}
use Rattle.ordered_rounds.specs.Early.{id_cmp}

abbrev pub backing_mask : BTreeMap Id ℕ → Id → ℕ
backing_mask noted x = unwrap_or (get id_cmp noted x) 0

-- whether it is noted that an identifier stands in a list
abbrev pub is_noted : BTreeMap Id ℕ → Id → ℕ → Bool
is_noted noted x j = has_member (backing_mask noted x) j

-- in how many lists it stands
abbrev pub lists_with : BTreeMap Id ℕ → Id → ℕ
lists_with noted x = member_count 32 (backing_mask noted x)

-- it was noted that these identifiers stand in list k, and nothing else changed
abbrev pub NotesList : BTreeMap Id ℕ → BTreeMap Id ℕ → List Id → ℕ → Type 0
NotesList before after ids k = (x : Id) (j : ℕ) → is_noted after x j ≡ (has_id ids x && j == k || is_noted before x j)
