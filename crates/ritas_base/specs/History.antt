-- What the calls on one broadcast's value tell. Every list of calls has the newest first.
use Rattle.std.specs.Prelude.{ℕ, Bool, false, ◌==◌, ◌&&◌, List, [], ◌∷◌, map, Option, Some, None, if◌then◌else◌, count_by}
use Rattle.std.specs.List.{range_with_len}
use Rattle.std.specs.Option.{option_or}
use Rattle.std.specs.Str.{bytes_eq}
use Rattle.ritas_base.specs.declared.item.Kind.{Kind}
use Rattle.ritas_base.specs.declared.item.Item.{Item}
use Rattle.ritas_base.specs.Messages.{kind_eq}

-- a call: a value to broadcast, or an item
pub data Call : Type 0 where
  Start : List ℕ → Call
  Take : Item → Call

-- what a call says of the value that a sender gives with this kind
abbrev pub told : ℕ → Kind → Call → Option (List ℕ)
told k kind (Start m) = None
told k kind (Take i) = if (i.from == k) && kind_eq i.kind kind then Some i.value else None

-- the first thing that g gives of the calls
abbrev pub first_of_calls : {A : Type 0} → (Call → Option A) → List Call → Option A
first_of_calls g [] = None
first_of_calls g (c ∷ h) = option_or (first_of_calls g h) (g c)

-- the value of the first item of this kind from k: it alone counts
abbrev pub first : List Call → ℕ → Kind → Option (List ℕ)
first h k kind = first_of_calls (told k kind) h

abbrev pub start_of : Call → Option (List ℕ)
start_of (Start m) = Some m
start_of (Take i) = None

-- the value that was started
abbrev pub started : List Call → Option (List ℕ)
started h = first_of_calls start_of h

-- the replicas
abbrev pub replicas : ℕ → List ℕ
replicas n = range_with_len 0 n

-- the first value of this kind from each replica
abbrev pub firsts : ℕ → List Call → Kind → List (Option (List ℕ))
firsts n h kind = map (λ k. first h k kind) (replicas n)

abbrev pub is_value : List ℕ → Option (List ℕ) → Bool
is_value m None = false
is_value m (Some v) = bytes_eq v m

-- how many replicas have m as their first value of this kind
abbrev pub voters : ℕ → List Call → Kind → List ℕ → ℕ
voters n h kind m = count_by (is_value m) (firsts n h kind)

abbrev pub cons_value : Call → List (List ℕ) → List (List ℕ)
cons_value (Start m) vs = vs
cons_value (Take i) vs = i.value ∷ vs

-- the values of all items
abbrev pub values : List Call → List (List ℕ)
values [] = []
values (c ∷ h) = cons_value c (values h)
