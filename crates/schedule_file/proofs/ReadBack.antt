-- What is written is read back.
use Rattle.std.proofs.Common.{◌≡◌, ◌≤◌, List, [], ◌∷◌, ◌++◌, length, reverse, Ok, sym, subst}
use Rattle.std.specs.List.{AllByRecursion}
use Rattle.std.proofs.lemmas.List.{reverse-append}
use Rattle.ritas_base.specs.declared.event.Event.{Event}
use Rattle.schedule_file.specs.FileBytes.{limit}
use Rattle.schedule_file.specs.ReadHeader.{Heading}
use Rattle.schedule_file.specs.Schedule.{file_of}
use Rattle.schedule_file.specs.Spelling.{FileOf, IsEvent, IsHeading}
use Rattle.schedule_file.proofs.FileLaws.{file_again}

all_added : {X : Type 0} (P : X → Type 0) (x : X) (xs : List X) → P x → AllByRecursion P xs → AllByRecursion P (xs ++ x ∷ [])
all_added P x [] here all = (here, tt)
all_added P x (y ∷ xs) here all = (all.0, all_added P x xs here all.1)

all_reversed : {X : Type 0} (P : X → Type 0) (xs : List X) → AllByRecursion P xs → AllByRecursion P (reverse xs)
all_reversed P [] all = tt
all_reversed P (x ∷ xs) all = subst (AllByRecursion P) (sym (reverse-append (x ∷ []) xs)) (all_added P x (reverse xs) all.0 (all_reversed P xs all.1))

pub read_back : (h : Heading) (es : List Event) → IsHeading h → AllByRecursion (IsEvent h) es → length (FileOf h es) ≤ limit → file_of (FileOf h es) ≡ Ok (h, es)
read_back h es is each size = file_again h es is (all_reversed (IsEvent h) es each) size
