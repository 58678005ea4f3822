-- What the code decides is what the rules say is decided.
use Rattle.std.specs.Prelude.{◌≡◌, ℕ, ◌≤◌, Bool, List, Option, refl}
use Rattle.std.specs.Option.{option_or}
use Rattle.std.proofs.Common.{ap₂, subst, arith}
use Rattle.ritas_base.specs.Numbers.{IsSession, support_of}
use Rattle.layer_api.specs.Words.{Word}
use Rattle.layer_api.specs.Binary.{BinaryRules}
use Rattle.layer_api.specs.Multi.{Desk}
use Rattle.multivalued.specs.Consensus.{init_slot, vect_slot, init, bit_words, bench_of, multi_verdict, decision_at}
use Rattle.multivalued.specs.Entries.{KeepsValues}
use Rattle.multivalued.specs.Known.{IsKnown, vect_of}
use Rattle.multivalued.specs.Settling.{IsEntryDecided, Decides}
use Rattle.multivalued.specs.declared.entry.Entry.{Entry}
use Rattle.multivalued.specs.Parts.{IsMultiPart, own_class_slot}
use Rattle.multivalued.specs.declared.part.Part.{Part}
use Rattle.multivalued.specs.declared.table.Table.{Table}
use Rattle.multivalued.specs.declared.settling.Decision.{Decision}
use Rattle.multivalued.specs.declared.settling.Decision.TheVariants as decisions
use Rattle.multivalued.proofs.TableLaws.{has_still}
use Rattle.multivalued.proofs.KnownLaws.{supported_is}

-- where each entry's value stays, what is decided does
pub decided_still : (a b : List Entry) (d : Decision) (o : Option (Option (List ℕ))) → KeepsValues a b → IsEntryDecided a d o → IsEntryDecided b d o
decided_still a b decisions.NotYet o k h = h
decided_still a b decisions.Nothing o k h = h
decided_still a b (decisions.At i) o k h = (h.0, has_still a b i h.0 k h.1, h.2)

pub some_support : (at : Desk) → IsSession at.scope.numbers → 1 ≤ support_of at.scope.numbers
some_support at s = let e = s.enough in omega (arith, e)

pub decided_at : (b : BinaryRules) (at : Desk) (h : List Word) (t : Table) (old new : Decision) (bit : Option Bool) → IsSession at.scope.numbers → IsKnown at.scope h t
    → bit ≡ b.decision (bench_of at) (bit_words at.scope h) → Decides t old bit new → (o : Option (Option (List ℕ))) → IsEntryDecided t.entries.items old o
    → IsEntryDecided t.entries.items new (option_or o (decision_at b at h))
decided_at b at h t old new bit session known bit_is decides o was =
    subst (λ (x : Option (Option (List ℕ))). IsEntryDecided t.entries.items new (option_or o x)) (ap₂ (λ (p : Option Bool) (q : Option (List ℕ)). multi_verdict p q) bit_is (supported_is at.scope h))
    (decides at.scope.numbers.n (support_of at.scope.numbers) (init at.scope h) (vect_of at.scope h) session.most (some_support at session) known o was)

-- the part's slots are the desk's
pub vect_place : (part : Part) (at : Desk) → IsMultiPart part at → own_class_slot part 4 ≡ vect_slot at.scope at.me
vect_place part at is = rw (is.a, is.attempt, is.me) refl

pub init_place : (part : Part) (at : Desk) → IsMultiPart part at → own_class_slot part 3 ≡ init_slot at.scope at.me
init_place part at is = rw (is.a, is.attempt, is.me) refl
