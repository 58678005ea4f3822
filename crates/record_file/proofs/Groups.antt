-- The texts of records that are appended together, the oldest first.
use Rattle.std.proofs.Common.{◌≡◌, ◌≢◌, ℕ, ◌+◌, ◌-◌, ◌<◌, List, [], ◌∷◌, ◌++◌, length, reverse, Ok, ap, subst, sym, arith, refl, ◌∙◌, length-append}
use Rattle.std.specs.List.{AllByRecursion}
use Rattle.std.proofs.lemmas.List.{reverse-append}
use Rattle.outside.specs.Disks.{DiskState, disk_state_of}
use Rattle.outside.specs.DisksLaws.{leaves_none}
use Rattle.record_file.specs.Form.{Form}
use Rattle.record_file.specs.Records.{closed_front, group_text, records}
use Rattle.record_file.specs.Appending.{AllOpen, AppendsRecords, FileState, OpensWithout, StandsFor}
use Rattle.record_file.proofs.Images.{all_more, front_more, records_tail}

pub all_reverse : (P : List ℕ → Type 0) (xs : List (List ℕ)) → AllByRecursion P xs → AllByRecursion P (reverse xs)
all_reverse P [] all = tt
all_reverse P (x ∷ xs) all =
    subst (AllByRecursion P) (sym (reverse-append (x ∷ []) xs)) (all_more P (reverse xs) (x ∷ []) (all_reverse P xs all.1) (all.0, tt))

group_length : (form : Form) (more : List (List ℕ)) (text : List ℕ) → text ≡ group_text form more → length text ≡ length (records form more) + 1
group_length form more text is = omega (arith, ap length is, length-append (records form more) (0 ∷ []))

-- a text of more than one byte has a record
pub some_records : (form : Form) (more : List (List ℕ)) (text : List ℕ) → text ≡ group_text form more → length text ≢ 1 → 0 < length more
some_records form [] text is not = absurd (not (ap length is))
some_records form (r ∷ more) text is not = omega arith

-- where the closed gate is once they are appended
pub ends_behind : (form own : Form) (head : List ℕ) (rs more : List (List ℕ)) (end : ℕ) (text : List ℕ) → own ≡ form → end ≡ length (closed_front form head rs) → text ≡ group_text form more
    → end + length text - 1 ≡ length (closed_front own head (more ++ rs))
ends_behind form own head rs more end text same place is =
    let there : end + length text - 1 ≡ length (closed_front form head (more ++ rs)) =
    omega (arith, place, group_length form more text is, ap length (front_more form head rs more), length-append (closed_front form head rs) (records form more)) in
    there ∙ ap (λ (f : Form). length (closed_front f head (more ++ rs))) (sym same)

-- a text of one byte has none
pub no_records : (form : Form) (more : List (List ℕ)) (text : List ℕ) → text ≡ group_text form more → length text ≡ 1 → more ≡ []
no_records form [] text is one = refl
no_records form (r ∷ more) text is one =
    let first = records_tail form (r ∷ more) (omega arith) in
    absurd (omega (arith, one, group_length form (r ∷ more) text is, ap length first))

-- and nothing is done for it
pub appends_none : (form : Form) (head : List ℕ) (rs more : List (List ℕ)) (told : List DiskState) (file : FileState) → more ≡ [] → StandsFor file head rs → AllOpen form head rs (disk_state_of told)
    → AppendsRecords form head rs more told told file (Ok tt)
appends_none form head rs more told file none stands were =
    let all : more ++ rs ≡ rs = ap (λ (x : List (List ℕ)). x ++ rs) none in
    record {
      stands = rw all stands;
      kept = record { images = rw all were; since = leaves_none (OpensWithout form head rs more) told };
    }
