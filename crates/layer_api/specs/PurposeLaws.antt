-- What the purpose of a root service says of its number.
use Rattle.std.specs.Prelude.{◌≡◌, ℕ, not, Option, Some, None, option_map, refl}
use Rattle.std.proofs.Common.{◌∙◌, ap}
use Rattle.ritas_base.specs.declared.root_service.RootService.{RootService}
use Rattle.ritas_base.specs.declared.root_service.RootService.TheVariants.{Reliable, Echo, Binary, MultiValued, Vector, Atomic, Direct}
use Rattle.ritas_base.specs.RootServices.{root_number, root_service, service_of_number}
use Rattle.ritas_base.specs.Slots.{has_class, is_atomic}
use Rattle.layer_api.specs.Purpose.{Purpose, service_purpose, purpose_of, has_instance, orders_commands}

-- the root service of the number
record IsPurposeOf (root : ℕ) (purpose : Purpose) : Type 0 where
  service : RootService
  number : root ≡ root_number service
  same : service_purpose service ≡ purpose

is_of : (root : ℕ) (purpose : Purpose) → purpose_of root ≡ Some purpose → IsPurposeOf root purpose
is_of root purpose e = go (root_service root) refl e
  where
    go : (o : Option RootService) → root_service root ≡ o → option_map service_purpose o ≡ Some purpose → IsPurposeOf root purpose
    go None q e = absurd cc
    go (Some s) q e = record { service = s; number = service_of_number root s q; same = cc }

has_commands : (s : RootService) → has_class (root_number s) 1 ≡ not (has_instance (service_purpose s))
unfolding has_class
has_commands Reliable = refl
has_commands Echo = refl
has_commands Binary = refl
has_commands MultiValued = refl
has_commands Vector = refl
has_commands Atomic = refl
has_commands Direct = refl

puts_in_order : (s : RootService) → is_atomic (root_number s) ≡ orders_commands (service_purpose s)
puts_in_order Reliable = refl
puts_in_order Echo = refl
puts_in_order Binary = refl
puts_in_order MultiValued = refl
puts_in_order Vector = refl
puts_in_order Atomic = refl
puts_in_order Direct = refl

-- it has commands exactly where it has no instance of its own
pub commands_of : (root : ℕ) (purpose : Purpose) → purpose_of root ≡ Some purpose → has_class root 1 ≡ not (has_instance purpose)
commands_of root purpose e =
    let is = is_of root purpose e in
    ap (λ (k : ℕ). has_class k 1) is.number ∙ (has_commands is.service ∙ ap (λ (p : Purpose). not (has_instance p)) is.same)

-- it is one of atomic broadcast exactly where it orders commands
pub order_of : (root : ℕ) (purpose : Purpose) → purpose_of root ≡ Some purpose → is_atomic root ≡ orders_commands purpose
order_of root purpose e =
    let is = is_of root purpose e in
    ap is_atomic is.number ∙ (puts_in_order is.service ∙ ap orders_commands is.same)
