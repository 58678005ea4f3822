-- A frame that a replica made for another is sealed with its keys, and doesn't forge.
use Rattle.std.proofs.Common.{◌≡◌, ℕ, ◌<◌, ◌==◌, Bool, true, false, not, ◌&&◌, if◌then◌else◌, List, [], ◌∷◌, reverse, Result, Ok, Err, refl, sym, ◌∙◌, ap, subst, inl, inr}
use Rattle.std.specs.Str.{bytes_eq}
use Rattle.std.proofs.lemmas.Slice.Eq.{bytes_eq-Decides}
use Rattle.layer_api.specs.Runs.{Has}
use Rattle.keyed_channel.specs.KeyRow.{KeyRow}
use Rattle.keyed_channel.specs.Frames.{Opening, opening, sealed, sender_of}
use Rattle.keyed_channel.specs.FramesLaws.{opened_is}
use Rattle.keyed_channel.specs.declared.frame.OpenFault.{OpenFault}
use Rattle.ritas_core.specs.Rules.{Rules}
use Rattle.ritas_core.specs.Parts.{Entry}
use Rattle.ritas_core.specs.Order.{new_messages, sent_to}
use Rattle.ritas_core.specs.Machine.{CoreState}
use Rattle.replica.specs.Frames.{body_of, made_for}
use Rattle.replica.specs.Handling.{Frame}
use Rattle.world_model.specs.declared.seats.Seats.{Seats}
use Rattle.world_model.specs.World.{Setting, rules_at}
use Rattle.world_model.specs.Audit.{has_made, is_forged_opening, is_forged_call}
use Rattle.world_model.specs.Stands.{SeatsStand, frames_from}
use Rattle.world_model.proofs.Anywhere.{any_of}
use Rattle.world_model.proofs.Members.{reverse_listed}
use Rattle.world_model.proofs.Sent.{sealed_from}

-- the frame seals some body for j
pub record IsSealed (k : KeyRow) (j : ℕ) (bytes : List ℕ) : Type 0 where
  pub seq : ℕ
  pub said : List ℕ
  pub is : bytes ≡ sealed k j seq said

made_sealed : (r : Rules) (k : KeyRow) (h : List Entry) (j : ℕ) (bytes : List ℕ) → Has (made_for r k h j) bytes → IsSealed k j bytes
made_sealed r k [] j bytes here = absurd here
made_sealed r k (e ∷ h) j bytes here = elim (sealed_from k j (sent_to j (new_messages r h e)) (made_for r k h j) bytes here) [
  | inl a ↦ made_sealed r k h j bytes a
  | inr s ↦ record { seq = s.seq; said = body_of k.me s.message; is = s.is_seal }
]

from_listed : (b : Bool) (made : List (List ℕ)) (bytes : List ℕ) → Has (if b then reverse made else []) bytes → Has made bytes
from_listed true made bytes there = reverse_listed made bytes there
from_listed false made bytes there = absurd there

was_made : (w : Setting) (states : ℕ → CoreState) (from to : ℕ) (bytes : List ℕ) → Has (frames_from w states from to) bytes
    → Has (made_for (rules_at w from) (w.keys from) (states from).history to) bytes
was_made w states from to bytes there =
    from_listed (w.is_correct from && not (from == to)) (made_for (rules_at w from) (w.keys from) (states from).history to) bytes there

pub frame_sealed : (w : Setting) (states : ℕ → CoreState) (from to : ℕ) (bytes : List ℕ) → Has (frames_from w states from to) bytes → IsSealed (w.keys from) to bytes
frame_sealed w states from to bytes there =
    made_sealed (rules_at w from) (w.keys from) (states from).history to bytes (was_made w states from to bytes there)

and_not : (a b : Bool) → b ≡ true → (a && not b) ≡ false
and_not true b e = ap not e
and_not false b e = refl

-- where it opens it opens as from its sender, which made it
fair_opening : (w : Setting) (seats : Seats) (states : ℕ → CoreState) (from to : ℕ) (bytes : List ℕ) (opened : Result Opening OpenFault) → SeatsStand w seats → from < w.numbers.n
    → Has (frames_from w states from to) bytes → opening (w.keys to) bytes ≡ opened → is_forged_opening w states to bytes opened ≡ false
fair_opening w seats states from to bytes (Err fault) stand below there opens = refl
fair_opening w seats states from to bytes (Ok o) stand below there opens =
    let parts = (opened_is (w.keys to) bytes o opens).parts in
    let sender : o.from ≡ from =
    ap (λ (p : Opening). p.from) (sym parts) ∙ ap sender_of (frame_sealed w states from to bytes there).is ∙ (stand.own from below).0 in
    let made = made_for (rules_at w from) (w.keys from) (states from).history to in
    let listed = any_of (bytes_eq bytes) made bytes (was_made w states from to bytes there) ((bytes_eq-Decides bytes bytes).1 refl) in
    let P : ℕ → Type 0 = λ i. has_made w states i to bytes ≡ true in
    and_not (w.is_correct o.from) (has_made w states o.from to bytes) (subst P (sym sender) listed)

pub fair_to_pass : (w : Setting) (seats : Seats) (states : ℕ → CoreState) (from to : ℕ) (bytes : List ℕ) → SeatsStand w seats → from < w.numbers.n
    → Has (frames_from w states from to) bytes → is_forged_call w states to (Frame bytes) ≡ false
fair_to_pass w seats states from to bytes stand below there = fair_opening w seats states from to bytes (opening (w.keys to) bytes) stand below there refl
