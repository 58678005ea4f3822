-- Commands that were heard before others of lower numbers, kept in a set.
use Rattle.std.specs.Prelude.{◌≡◌, ℕ, ◌<◌, nat_lt, Bool, true, false, ◌||◌, ◌&&◌, ◌==◌, List, slice_index}
use Rattle.std.specs.declared.cmp.Ordering.{Ordering}
use Rattle.std.specs.Ordering.{nat_cmp, then_cmp, on}
use Rattle.std.specs.BTreeSet.{BTreeSet, contains}
use Rattle.ritas_base.specs.declared.id.Id.{Id}
use Rattle.ritas_base.specs.Limits.{number_limit}

abbrev pub id_cmp : Id → Id → Ordering
id_cmp = then_cmp (on (λ i. i.origin) nat_cmp) (on (λ i. i.num) nat_cmp)

-- whether the command of this origin and number came early
abbrev pub has_early : BTreeSet Id → ℕ → ℕ → Bool
has_early early origin num = contains id_cmp early (record { origin = origin; num = num })

-- whether the command was heard: its number lies below its origin's base, or it came early
abbrev pub is_known : ℕ → BTreeSet Id → ℕ → ℕ → Bool
is_known base early origin num = nat_lt num base || has_early early origin num

-- an origin's base was raised over the commands that came early, and nothing else changed
pub record Advances (before after : BTreeSet Id) (origin base raised : ℕ) : Type 0 where
  pub known : (k : ℕ) → is_known raised after origin k ≡ is_known base before origin k
  pub others : (o k : ℕ) → (o ≡ origin → ⊥) → has_early after o k ≡ has_early before o k
  pub fewer : (o k : ℕ) → has_early after o k ≡ true → has_early before o k ≡ true
  pub stops : raised < number_limit → has_early after origin raised ≡ false

-- no base is the number of a command that came early, and no such number is too great
pub record IsTight (n : ℕ) (bases : List ℕ) (early : BTreeSet Id) : Type 0 where
  pub missing : (o : ℕ) → o < n → has_early early o (slice_index bases o) ≡ false
  pub small : (o k : ℕ) → has_early early o k ≡ true → k < number_limit

-- a command was noted
pub record Notes (n origin num : ℕ) (bases bases' : List ℕ) (early early' : BTreeSet Id) : Type 0 where
  pub known : (o k : ℕ) → o < n → origin < n → num < number_limit
      → is_known (slice_index bases' o) early' o k ≡ (o == origin && k == num || is_known (slice_index bases o) early o k)
  pub tight : IsTight n bases early → IsTight n bases' early'
