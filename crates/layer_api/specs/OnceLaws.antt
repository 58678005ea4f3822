-- Lists in which each message stands once.
use Rattle.std.specs.Prelude.{◌≡◌, ℕ, true, false, List, [], ◌∷◌, ◌++◌, Option, Some, None, refl}
use Rattle.std.proofs.Common.{◌∙◌, ap}
use Rattle.std.proofs.lemmas.Bool.{or_left, or_right, or_from}
use Rattle.ritas_base.specs.declared.slot.Slot.{Slot}
use Rattle.ritas_base.specs.declared.item.Kind.{Kind}
use Rattle.ritas_base.specs.declared.item.Msg.{Msg}
use Rattle.ritas_base.specs.Messages.{msg_eq, has, kind_eq, to_all}
use Rattle.ritas_base.specs.MessagesLaws.{message_itself, has_append, to_all_has, to_all_other_kind}
use Rattle.layer_api.specs.OneValue.{IsOnce}

-- two such lists that share no message
pub once_append : (xs ys : List Msg) → IsOnce xs → IsOnce ys → ((m : Msg) → has xs m ≡ true → has ys m ≡ false) → IsOnce (xs ++ ys)
once_append [] ys once more apart = more
once_append (x ∷ xs) ys once more apart = (
  has_append xs ys x ∙ or_from (has xs x) (has ys x) once.0 (apart x (or_left (msg_eq x x) (has xs x) (message_itself x))),
  once_append xs ys once.1 more (λ m e. apart m (or_right (msg_eq m x) (has xs m) e)),
)

-- the message to all of a kind, if there is a value
pub once_to_all : (s : Slot) (kind : Kind) (o : Option (List ℕ)) → IsOnce (to_all s kind o)
once_to_all s kind None = tt
once_to_all s kind (Some v) = (refl, tt)

-- messages to all of two kinds
pub kinds_apart : (s : Slot) (kind other : Kind) (o u : Option (List ℕ)) (m : Msg) → kind_eq kind other ≡ false
    → has (to_all s kind o) m ≡ true → has (to_all s other u) m ≡ false
kinds_apart s kind other o u m differ e =
    let same = (to_all_has s kind o m e).0 in
    to_all_other_kind s other u m (ap (λ (x : Msg). kind_eq x.kind other) same ∙ differ)
