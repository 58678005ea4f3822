-- Closures that compute a test of items.
use Rattle.std.specs.Prelude.{◌≡◌, Bool}
use Rattle.std.specs.Fn.{FnReturnsAt}
use Rattle.ritas_base.specs.declared.item.Item.{Item}
use denote.Param.Members.{Shared}
use denote.Ref.{Bor}

-- each answer of the closure is that of the test
abbrev pub Computes : {F : Type 0} → Shared F (Bor Item × Unit {0}) Bool → F → (Item → Bool) → Type 0
Computes g f test = (x : Item) (r : Bool) → FnReturnsAt g f x r → r ≡ test x
