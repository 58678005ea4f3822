-- What is answered to a frame, and the messages that it makes, to others and to oneself, go by the history, by what is held for its
-- sender and by whether the replica is stopped. What else waits, and what is held for other peers, changes nothing of it.
use Rattle.std.specs.Prelude.{◌≡◌, ◌≢◌, ℕ, Bool, List, [], ◌++◌, Option, Some, None, Result, Ok, Err, ⊤}
use Rattle.ritas_base.specs.declared.item.Item.{Item}
use Rattle.ritas_base.specs.declared.item.Msg.{Msg}
use Rattle.frame_codec.specs.declared.fault.BodyFault.TheVariants as body
use Rattle.keyed_channel.specs.KeyRow.{KeyRow}
use Rattle.keyed_channel.specs.Frames.{Opening, opening}
use Rattle.keyed_channel.specs.declared.frame.OpenFault.{OpenFault}
use Rattle.ooc_buffers.specs.Lists.{held_of_peer, released}
use Rattle.ritas_core.specs.declared.answer.Answer.{Answer}
use Rattle.ritas_core.specs.declared.answer.Answer.TheVariants as answers
use Rattle.ritas_core.specs.declared.fault.CoreFault.TheVariants as faults
use Rattle.ritas_core.specs.Rules.{Rules}
use Rattle.ritas_core.specs.Order.{own_items}
use Rattle.ritas_core.specs.Machine.{CoreState, What, moved}
use Rattle.replica.specs.Out.{OutFrame}
use Rattle.replica.specs.declared.refusal.Refusal.{Refusal}
use Rattle.replica.specs.declared.refusal.Refusal.TheVariants as refusals
use Rattle.replica.specs.Handling.{Frame, Handled, handled, refusal_handled}
use Rattle.replica.specs.Stands.{frame_given}

-- ---- what a frame does

-- two states that a peer can't tell apart: of one history, with the same items held for this peer, and both live or both stopped
pub record AreAlike (peer : ℕ) (a b : CoreState) : Type 0 where
  pub live : a.live ≡ b.live
  pub history : a.history ≡ b.history
  pub held : held_of_peer a.held peer ≡ held_of_peer b.held peer

-- to the sender of a frame that opens; one that doesn't open has no sender
abbrev pub AreAlikeTo : KeyRow → List ℕ → CoreState → CoreState → Type 0
AreAlikeTo k bytes a b = (o : Opening) → opening k bytes ≡ Ok o → AreAlike o.from a b

pub record SameOutcome (a b : Handled) : Type 0 where
  pub answer : a.answer ≡ b.answer
  pub out : a.out ≡ b.out

-- the messages of a call on the core, if there is one
abbrev pub messages_of : Rules → CoreState → Option What → List Msg
messages_of r st None = []
messages_of r st (Some what) = (moved r st what).out

-- the items that a frame makes a replica send itself
abbrev pub own_made : Rules → KeyRow → CoreState → List ℕ → List Item
own_made r k st bytes = own_items r.casts.me (messages_of r st (frame_given r (opening k bytes)))

-- the answer to a frame, the frames that it makes and the items to oneself are one in states that are alike to its sender
abbrev pub Isolates : Type 0
Isolates = (r : Rules) (k : KeyRow) (a b : CoreState) (bytes : List ℕ) → AreAlikeTo k bytes a b
    → SameOutcome (handled r k a (Frame bytes)) (handled r k b (Frame bytes)) × (own_made r k a bytes ≡ own_made r k b bytes)

-- these items to oneself came behind what waited, and behind them items that were held, of whatever peers
pub record JoinsInbox (own : List Item) (old new : CoreState) : Type 0 where
  pub opened : Item → Bool
  pub inbox : new.inbox ≡ (old.inbox ++ own) ++ released opened old.held

-- so what a frame adds to the inbox begins with the items to oneself
abbrev pub OwnJoin : Type 0
OwnJoin = (r : Rules) (k : KeyRow) (st : CoreState) (bytes : List ℕ) → JoinsInbox (own_made r k st bytes) st (handled r k st (Frame bytes)).state

-- a frame that doesn't open changes nothing, and makes nothing
abbrev pub UnopenedIsNothing : Type 0
UnopenedIsNothing = (r : Rules) (k : KeyRow) (st : CoreState) (bytes : List ℕ) (fault : OpenFault) → opening k bytes ≡ Err fault
    → handled r k st (Frame bytes) ≡ refusal_handled st (refusals.Open fault)

-- what a peer's frame that isn't taken leaves: the history, what waits, and what is held for any other peer
pub record IsConfined (peer : ℕ) (old new : CoreState) : Type 0 where
  pub history : new.history ≡ old.history
  pub inbox : new.inbox ≡ old.inbox
  pub held : (j : ℕ) → j ≢ peer → held_of_peer new.held j ≡ held_of_peer old.held j

abbrev pub Confines : Type 0
Confines = (r : Rules) (k : KeyRow) (st : CoreState) (bytes : List ℕ) (o : Opening) → opening k bytes ≡ Ok o
    → (handled r k st (Frame bytes)).answer ≢ Ok answers.Took → IsConfined o.from st (handled r k st (Frame bytes)).state

-- ---- what a call on a replica did

-- want of memory aside, the call answered and put out what this handling does, and did this besides
abbrev pub IsAs : Handled → Type 0 → List OutFrame → List OutFrame → Result Answer Refusal → Type 0
IsAs h Besides before after (Err (refusals.Core faults.Mem)) = ⊤
IsAs h Besides before after (Err (refusals.Body body.Mem)) = ⊤
IsAs h Besides before after result = (result ≡ h.answer) × (after ≡ before ++ h.out) × Besides

-- in what follows, Stands is what a replica's value stands for
-- the value stands for a state to whose inbox these items to oneself came
pub record StandsWithOwn {R : Type 0} (Stands : R → Rules → KeyRow → CoreState → Type 0) (new : R) (r : Rules) (k : KeyRow) (own : List Item) (st : CoreState) : Type 0 where
  pub now : CoreState
  pub stands : Stands new r k now
  pub joins : JoinsInbox own st now

-- the frame did what it does in every state that is alike to its sender
abbrev pub IsIsolated : {R : Type 0} → (R → Rules → KeyRow → CoreState → Type 0) → R → R → List ℕ → List OutFrame → List OutFrame → Result Answer Refusal → Type 0
IsIsolated Stands old new bytes before after result = (r : Rules) (k : KeyRow) (st other : CoreState) → Stands old r k st
    → AreAlikeTo k bytes st other
    → IsAs (handled r k other (Frame bytes)) (StandsWithOwn Stands new r k (own_made r k other bytes) st) before after result

-- the same of each frame that opens as from this sender with this body, whatever its number
abbrev pub IsOpenedIsolated : {R : Type 0} → (R → Rules → KeyRow → CoreState → Type 0) → R → R → ℕ → List ℕ → List OutFrame → List OutFrame → Result Answer Refusal → Type 0
IsOpenedIsolated Stands old new from body before after result = (r : Rules) (k : KeyRow) (st other : CoreState) → Stands old r k st
    → AreAlike from st other → (bytes : List ℕ) (seq : ℕ) → opening k bytes ≡ Ok (record { from = from; seq = seq; body = body })
    → IsAs (handled r k other (Frame bytes)) (StandsWithOwn Stands new r k (own_made r k other bytes) st) before after result
