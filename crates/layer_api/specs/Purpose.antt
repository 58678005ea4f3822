-- What a root service is for, and what its instances of consensus decide.
use Rattle.std.specs.Prelude.{ℕ, ◌+◌, Bool, true, false, ◌==◌, ◌&&◌, ◌||◌, nat_le, List, [], ◌∷◌, count_by, Option, Some, None, is_some, option_map}
use Rattle.ritas_base.specs.declared.id.Id.{Id}
use Rattle.ritas_base.specs.declared.root_service.RootService.{RootService}
use Rattle.ritas_base.specs.declared.root_service.RootService.TheVariants.{Reliable, Echo, Binary, MultiValued, Vector, Atomic, Direct}
use Rattle.ritas_base.specs.Numbers.{Numbers}
use Rattle.ritas_base.specs.RootServices.{root_service}
use Rattle.frame_codec.specs.Values.{ids_of, vector_entries}

-- an instance of consensus inside a service: of one bit or of one value, by its round and attempt, or of a vector, by
-- its round
pub data Instance : Type 0 where
  OfBit : ℕ → ℕ → Instance
  OfValue : ℕ → ℕ → Instance
  OfVector : ℕ → Instance

-- what an instance decided: a bit, no value, a value, or no vector in any attempt
pub data Decision : Type 0 where
  Bit : Bool → Decision
  Nothing : Decision
  Value : List ℕ → Decision
  Spent : Decision

-- ---- rounds

-- whether an identifier is in the list
abbrev pub has_id : List Id → Id → Bool
has_id [] x = false
has_id (y ∷ ys) x = (y.origin == x.origin && y.num == x.num) || has_id ys x

-- in how many of these lists of identifiers one stands
abbrev pub backers : List (List ℕ) → Id → ℕ
backers lists x = count_by (λ list. has_id (ids_of list) x) lists

-- The rounds of a service that puts commands in one order: which instance decides a round, and whether its decision wants an
-- identifier in the log.
pub record Rounds : Type 0 where
  pub instance : ℕ → Instance
  pub wants : Numbers → Decision → Id → Bool

-- a vector of lists wants what stands in f + 1 of them or more
abbrev pub vector_wants : Numbers → Decision → Id → Bool
vector_wants p (Value v) x = nat_le (p.f + 1) (backers (vector_entries v) x)
vector_wants p d x = false

-- a list wants what stands in it, and where no value is decided nothing is wanted
abbrev pub list_wants : Numbers → Decision → Id → Bool
list_wants p (Value v) x = has_id (ids_of v) x
list_wants p d x = false

-- each round decides a vector of lists
abbrev pub vector_rounds : Rounds
vector_rounds = record { instance = OfVector; wants = vector_wants }

-- each round decides one list, in one attempt
abbrev pub list_rounds : Rounds
list_rounds = record { instance = λ a. OfValue a 0; wants = list_wants }

-- ---- purposes

-- A root service delivers commands, each by itself; or it takes one input and decides one instance; or it puts commands in one
-- order, by rounds.
pub data Purpose : Type 0 where
  Carries : Purpose
  Decides : Instance → Purpose
  Orders : Rounds → Purpose

-- what each root service is for
abbrev pub service_purpose : RootService → Purpose
service_purpose Reliable = Carries
service_purpose Echo = Carries
service_purpose Binary = Decides (OfBit 0 0)
service_purpose MultiValued = Decides (OfValue 0 0)
service_purpose Vector = Decides (OfVector 0)
service_purpose Atomic = Orders vector_rounds
service_purpose Direct = Orders list_rounds

-- by its number
abbrev pub purpose_of : ℕ → Option Purpose
purpose_of root = option_map service_purpose (root_service root)

-- the one instance that it decides
abbrev pub own_instance : Purpose → Option Instance
own_instance Carries = None
own_instance (Decides x) = Some x
own_instance (Orders rounds) = None

abbrev pub has_instance : Purpose → Bool
has_instance purpose = is_some (own_instance purpose)

-- it puts commands in one order
abbrev pub orders_commands : Purpose → Bool
orders_commands Carries = false
orders_commands (Decides x) = false
orders_commands (Orders rounds) = true
