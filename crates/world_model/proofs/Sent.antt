-- The messages that are due at a replica, and the frames that it made of them.
use Rattle.std.proofs.Common.{◌≡◌, ℕ, ◌<◌, ◌%◌, ◌^◌, true, not, List, [], ◌∷◌, length, refl, sym, ◌∙◌, ap, subst, inl, inr, ◌⊎◌, arith}
use Rattle.std.proofs.lemmas.Bool.{and_parts}
use Rattle.ritas_base.specs.declared.slot.Slot.{Slot}
use Rattle.ritas_base.specs.declared.item.Item.{Item}
use Rattle.ritas_base.specs.declared.item.Msg.{Msg}
use Rattle.ritas_base.specs.Messages.{reaches, item_of}
use Rattle.layer_api.specs.OneValue.{IsDueTo}
use Rattle.layer_api.specs.Runs.{Has}
use Rattle.layer_api.specs.HasLaws.{has_listed, listed_has}
use Rattle.frame_codec.specs.Body.{IsInGrammar}
use Rattle.keyed_channel.specs.KeyRow.{KeyRow}
use Rattle.keyed_channel.specs.Frames.{sealed}
use Rattle.ritas_core.specs.Rules.{Rules, due_at_slot}
use Rattle.ritas_core.specs.Parts.{Entry, parts}
use Rattle.ritas_core.specs.Order.{new_messages, sent_to}
use Rattle.ritas_core.specs.Checks.{IsHistory}
use Rattle.ritas_core.specs.Laws.{is_due}
use Rattle.replica.specs.Frames.{body_of, sealed_onto, made_for}
use Rattle.world_model.proofs.Members.{has_passing}
use Rattle.world_model.proofs.Below.{IsFounded}

-- an item of a replica with this history is a message that is due there, for replica j
pub record IsSent (r : Rules) (h : List Entry) (j : ℕ) (x : Item) : Type 0 where
  pub message : Msg
  pub due : is_due r (parts r h) message ≡ true
  pub reached : reaches message.to j ≡ true
  pub same : item_of r.casts.me message ≡ x

pub sent_later : (r : Rules) → IsFounded r → (h : List Entry) (e : Entry) (j : ℕ) (x : Item) → IsSent r h j x → IsSent r (e ∷ h) j x
sent_later r laws h e j x sent = record {
  message = sent.message;
  due = laws.core.due_stays r laws.layers h e sent.message sent.due;
  reached = sent.reached;
  same = sent.same;
}

-- it is due at its slot
pub sent_is_due : (r : Rules) (h : List Entry) (j : ℕ) (x : Item) → r.casts.me ≡ x.from → IsSent r h j x →
    IsDueTo (due_at_slot r.casts x.slot ((parts r h).calls x.slot)) j x
sent_is_due r h j x own sent = record {
  message = sent.message;
  listed = subst (λ (s : Slot). Has (due_at_slot r.casts s ((parts r h).calls s)) sent.message) (ap (λ (y : Item). y.slot) sent.same)
      (has_listed (due_at_slot r.casts sent.message.slot ((parts r h).calls sent.message.slot)) sent.message sent.due);
  reached = sent.reached;
  same = subst (λ (k : ℕ). item_of k sent.message ≡ x) own sent.same;
}

-- what goes out by an entry is due after it
pub new_due : (r : Rules) → IsFounded r → (h : List Entry) (e : Entry) (m : Msg) → Has (new_messages r h e) m → is_due r (parts r (e ∷ h)) m ≡ true
new_due r laws h e m here =
    (and_parts (is_due r (parts r (e ∷ h)) m) (not (is_due r (parts r h) m)) (sym (laws.core.due r laws.layers h e m) ∙ listed_has (new_messages r h e) m here)).0

-- ---- frames
-- the frame seals one of these messages
pub record IsSealOf (k : KeyRow) (j : ℕ) (ms : List Msg) (bytes : List ℕ) : Type 0 where
  pub message : Msg
  pub listed : Has ms message
  pub seq : ℕ
  pub fits : seq < 2 ^ 64
  pub is_seal : bytes ≡ sealed k j seq (body_of k.me message)

seq_fits : (n : ℕ) → n % 2 ^ 64 < 2 ^ 64
seq_fits n = omega arith

pub sealed_from : (k : KeyRow) (j : ℕ) (ms : List Msg) (frames : List (List ℕ)) (bytes : List ℕ) → Has (sealed_onto k j ms frames) bytes →
    Has frames bytes ⊎ IsSealOf k j ms bytes
sealed_from k j [] frames bytes here = inl here
sealed_from k j (m ∷ ms) frames bytes here =
    elim (sealed_from k j ms (sealed k j (length frames % 2 ^ 64) (body_of k.me m) ∷ frames) bytes here) [
      | inl a ↦ elim a [
        | inl e ↦ inr (record { message = m; listed = inl refl; seq = length frames % 2 ^ 64; fits = seq_fits (length frames); is_seal = sym e })
        | inr b ↦ inl b
      ]
      | inr s ↦ inr (record { message = s.message; listed = inr s.listed; seq = s.seq; fits = s.fits; is_seal = s.is_seal })
    ]

-- the frame seals, for j, a message that is due after a history
pub record IsFrameOf (r : Rules) (k : KeyRow) (h : List Entry) (j : ℕ) (bytes : List ℕ) : Type 0 where
  pub message : Msg
  pub seq : ℕ
  pub fits : seq < 2 ^ 64
  pub due : is_due r (parts r h) message ≡ true
  pub good : IsInGrammar r.casts.numbers r.mode (item_of r.casts.me message)
  pub reached : reaches message.to j ≡ true
  pub is_seal : bytes ≡ sealed k j seq (body_of k.me message)

-- each frame that was made for j does
pub made_sent : (r : Rules) → IsFounded r → (k : KeyRow) (h : List Entry) → IsHistory r h → (j : ℕ) (bytes : List ℕ) → Has (made_for r k h j) bytes →
    IsFrameOf r k h j bytes
made_sent r laws k [] met j bytes here = elim here [ ]
made_sent r laws k (e ∷ h) met j bytes here = elim (sealed_from k j (sent_to j (new_messages r h e)) (made_for r k h j) bytes here) [
  | inl a ↦
      let f = made_sent r laws k h met.1 j bytes a in
      record {
        message = f.message;
        seq = f.seq;
        fits = f.fits;
        due = laws.core.due_stays r laws.layers h e f.message f.due;
        good = f.good;
        reached = f.reached;
        is_seal = f.is_seal;
      }
  | inr s ↦
      let there = has_passing (λ (m : Msg). reaches m.to j) (new_messages r h e) s.message s.listed in
      record {
        message = s.message;
        seq = s.seq;
        fits = s.fits;
        due = new_due r laws h e s.message there.0;
        good = laws.core.sent r laws.layers h e met s.message there.0;
        reached = there.1;
        is_seal = s.is_seal;
      }
]
