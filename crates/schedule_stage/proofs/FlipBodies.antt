-- The body of a message that a face shows with the other bit, and the body of a frame.
use Rattle.std.proofs.Common.{◌≡◌, ℕ, ◌-◌, ◌==◌, ◌&&◌, Bool, true, false, List, ◌∷◌, ◌++◌, length, take, drop, refl, sym, ◌∙◌, ap, if◌then◌else◌, arith}
use Rattle.std.specs.Prelude.{slice_index}
use Rattle.std.proofs.Math.Seq.{take-append_seam}
use Rattle.ritas_base.specs.declared.item.Kind.{Kind}
use Rattle.ritas_base.specs.declared.item.Kind.TheVariants as kinds
use Rattle.ritas_base.specs.declared.item.Kind.TheVariants.{Init}
use Rattle.ritas_base.specs.declared.item.Msg.{Msg}
use Rattle.ritas_base.specs.declared.slot.Slot.{Slot}
use Rattle.ritas_base.specs.Messages.{kind_eq, item_of}
use Rattle.ritas_base.specs.Slots.{slot_bytes}
use Rattle.frame_codec.specs.Body.{kind_byte, spelling}
use Rattle.keyed_channel.specs.Hmac.{hmac_of}
use Rattle.keyed_channel.specs.KeyRow.{KeyRow, key_with}
use Rattle.keyed_channel.specs.Lengths.{head_length, tag_length}
use Rattle.keyed_channel.specs.Frames.{frame_front, sealed, frame_body}
use Rattle.keyed_channel.specs.Laws.{SealedLength}
use Rattle.schedule_plan.specs.Flips.{other_bit, flipped, flip_body}
use Rattle.schedule_plan.proofs.Showing.{same_if, with_other}

-- ---- the flipped body is that of the flipped message

abbrev text_of : Kind → Slot → List ℕ → List ℕ
text_of k s v = kind_byte k ∷ slot_bytes s ++ v

flips_as : (s : Slot) (v : List ℕ) (b : Bool)
    → (if b then take 10 (text_of kinds.Init s v) ++ other_bit (drop 10 (text_of kinds.Init s v)) else text_of kinds.Init s v) ≡ text_of kinds.Init s (if b then other_bit v else v)
flips_as s v true = refl
flips_as s v false = refl

flip_text : (k : Kind) (s : Slot) (v : List ℕ) → flip_body (text_of k s v) ≡ text_of k s (if kind_eq k Init && s.class == 5 then other_bit v else v)
flip_text kinds.Init s v = flips_as s v (s.class == 5)
flip_text kinds.Echo s v = refl
flip_text kinds.Ready s v = refl
flip_text kinds.Send s v = refl
flip_text kinds.Hashes s v = refl
flip_text kinds.Column s v = refl
flip_text kinds.Want s v = refl
flip_text kinds.Value s v = refl

value_if : (b : Bool) (m : Msg) → (if b then with_other m else m).value ≡ (if b then other_bit m.value else m.value)
value_if true m = refl
value_if false m = refl

pub flipped_spelling : (i : ℕ) (m : Msg) → flip_body (spelling (item_of i m)) ≡ spelling (item_of i (flipped m))
flipped_spelling i m =
    let b : Bool = kind_eq m.kind Init && m.slot.class == 5 in
    flip_text m.kind m.slot m.value
    ∙ ap (text_of m.kind m.slot) (sym (value_if b m))
    ∙ sym (ap (λ (k : Kind). text_of k (flipped m).slot (flipped m).value) (same_if b (λ x. x.kind) m refl) ∙ ap (λ (s : Slot). text_of m.kind s (flipped m).value) (same_if b (λ x. x.slot) m refl))

-- ---- the body of a frame

pub sealed_body : SealedLength → (k : KeyRow) (to seq : ℕ) (body : List ℕ) → frame_body (sealed k to seq body) ≡ body
sealed_body long k to seq body =
    let tag = hmac_of (key_with k to) (frame_front k.version k.me to seq body) in
    let at : length (sealed k to seq body) - tag_length - head_length ≡ length body = omega (arith, long k to seq body) in
    ap (λ n. take n (body ++ tag)) at ∙ take-append_seam body tag

-- a body that has no bit is left
pub left_body : (body : List ℕ) → (slice_index body 0 == 1 && slice_index body 1 == 5) ≡ false → flip_body body ≡ body
left_body body plain = ap (λ (b : Bool). if b then take 10 body ++ other_bit (drop 10 body) else body) plain
