-- Whether a frame that came to a replica forges.
use Rattle.std.proofs.Common.{◌≡◌, ℕ, ◌^◌, ◌<◌, ◌≤◌, ◌==◌, Bool, true, false, not, ◌&&◌, List, [], length, reverse, Some, None, Result, Ok, Err, refl, sym, ◌∙◌, ap, ap₂, subst, if◌then◌else◌, arith}
use Rattle.std.specs.List.{list_any}
use Rattle.std.specs.Str.{bytes_eq}
use Rattle.std.proofs.lemmas.Bool.{ne_eqb}
use Rattle.std.proofs.lemmas.List.{length-reverse}
use Rattle.ritas_base.specs.declared.item.Item.{Item}
use Rattle.frame_codec.specs.declared.fault.BodyFault.{BodyFault}
use Rattle.frame_codec.specs.Body.{body_answer}
use Rattle.keyed_channel.specs.KeyRow.{KeyRow}
use Rattle.keyed_channel.specs.declared.frame.OpenFault.{OpenFault}
use Rattle.keyed_channel.specs.Lengths.{head_length}
use Rattle.keyed_channel.specs.Frames.{Opening, opening, sender_of, seq_of}
use Rattle.keyed_channel.specs.FramesLaws.{IsOpened, opened_is}
use Rattle.ritas_core.specs.declared.answer.Answer.{Answer}
use Rattle.ritas_core.specs.declared.fault.CoreFault.{CoreFault}
use Rattle.ritas_core.specs.Rules.{Rules}
use Rattle.ritas_core.specs.Machine as core
use Rattle.ritas_core.specs.Machine.{CoreState, moved}
use Rattle.replica.specs.Frames.{made_for}
use Rattle.replica.specs.Handling.{Frame, given_frame, given_body, core_answer}
use Rattle.world_model.specs.declared.seats.Seats.{Seats}
use Rattle.world_model.specs.declared.seen.Seen.{Seen}
use Rattle.world_model.specs.World.{Setting, rules_at, call_at, seen_answer, seen_call}
use Rattle.world_model.specs.Audit.{is_forged_opening}
use Rattle.world_model.specs.Watch.{is_forged_frame}
use Rattle.world_model.specs.FramesMade.{MadeTable, made_in}
use Rattle.world_model.specs.Stands.{SeatsStand, FramesStand, frames_from}
use Rattle.world_model.specs.Steps.{is_numbered, is_unmade, is_seen_opened}
use Rattle.world_model.proofs.Numbered.{made_by_number}

-- ---- whether the sender had made it

unmade_either : (w : Setting) (states : ℕ → CoreState) (t : MadeTable) (s j : ℕ) (bytes : List ℕ) (b : Bool) → w.is_correct s ≡ b
    → made_in t s j ≡ frames_from w states s j → length (made_in t s j) < 2 ^ 64 → (s == j) ≡ false
    → (b && not (is_numbered (made_in t s j) (seq_of bytes) bytes)) ≡ (b && not (list_any (bytes_eq bytes) (made_for (rules_at w s) (w.keys s) (states s).history j)))
unmade_either w states t s j bytes false e same few other = refl
unmade_either w states t s j bytes true e same few other =
    let made = made_for (rules_at w s) (w.keys s) (states s).history j in
    let is : made_in t s j ≡ reverse made = same ∙ ap₂ (λ x y. if x && not y then reverse made else []) e other in
    let short : length made < 2 ^ 64 = omega (arith, length-reverse made, ap length is) in
    ap not (ap (λ xs. is_numbered xs (seq_of bytes) bytes) is ∙ made_by_number (rules_at w s) (w.keys s) (states s).history j bytes (omega arith))

pub unmade_is_forged : (w : Setting) (seats : Seats) (states : ℕ → CoreState) (t : MadeTable) (j : ℕ) (bytes : List ℕ) (o : Opening) → SeatsStand w seats → FramesStand w states t
    → j < w.numbers.n → IsOpened (w.keys j) bytes o → length (made_in t (sender_of bytes) j) < 2 ^ 64
    → is_unmade seats.correct t j bytes ≡ is_forged_opening w states j bytes (Ok o)
unmade_is_forged w seats states t j bytes o seats_stand stand below opened few =
    let own = seats_stand.own j below in
    let s = sender_of bytes in
    let s_below : s < w.numbers.n = subst (λ n. s < n) own.1 opened.plain.sender in
    let other : (s == j) ≡ false = ne_eqb s j (λ e. opened.plain.other (e ∙ sym own.0)) in
    let P : Opening → Type 0 = λ x. is_unmade seats.correct t j bytes ≡ is_forged_opening w states j bytes (Ok x) in
    subst P opened.parts
    (ap (λ b. b && not (is_numbered (made_in t s j) (seq_of bytes) bytes)) (sym (seats_stand.correct s))
    ∙ unmade_either w states t s j bytes (w.is_correct s) refl (stand.each s j s_below below) few other)

-- ---- as the code tests it

core_opened : (answer : Result Answer CoreFault) → is_seen_opened (seen_answer (core_answer answer)) ≡ true
core_opened (Ok answer) = refl
core_opened (Err fault) = refl

body_opened : (r : Rules) (k : KeyRow) (st : CoreState) (read : Result Item BodyFault) → is_seen_opened (seen_answer (given_body r k st read).answer) ≡ true
body_opened r k st (Ok item) = core_opened (moved r st (core.Frame item)).answer
body_opened r k st (Err fault) = refl

-- what the code has found: whether the frame isn't made, where it is long enough
pub record IsFound (correct : ℕ) (t : MadeTable) (j : ℕ) (bytes : List ℕ) (unmade : Bool) : Type 0 where
  pub value : head_length ≤ length bytes → unmade ≡ is_unmade correct t j bytes
  pub few : head_length ≤ length bytes → length (made_in t (sender_of bytes) j) < 2 ^ 64

forged_either : (w : Setting) (seats : Seats) (states : ℕ → CoreState) (t : MadeTable) (j : ℕ) (bytes : List ℕ) (unmade : Bool) (opened : Result Opening OpenFault) →
    SeatsStand w seats → FramesStand w states t → j < w.numbers.n → IsFound seats.correct t j bytes unmade → opening (w.keys j) bytes ≡ opened
    → (is_seen_opened (seen_answer (given_frame (rules_at w j) (w.keys j) (states j) opened).answer) && unmade) ≡ is_forged_opening w states j bytes opened
forged_either w seats states t j bytes unmade (Err fault) seats_stand stand below found e = refl
forged_either w seats states t j bytes unmade (Ok o) seats_stand stand below found e =
    let was = opened_is (w.keys j) bytes o e in
    let named : head_length ≤ length bytes = omega (arith, was.plain.long) in
    ap (λ b. b && unmade) (body_opened (rules_at w j) (w.keys j) (states j) (body_answer w.numbers w.mode o.from o.body))
    ∙ found.value named ∙ unmade_is_forged w seats states t j bytes o seats_stand stand below was (found.few named)

at_correct : (w : Setting) (seats : Seats) (states : ℕ → CoreState) (t : MadeTable) (j : ℕ) (bytes : List ℕ) (unmade b : Bool) →
    SeatsStand w seats → FramesStand w states t → (w.is_correct j ≡ true → j < w.numbers.n) → IsFound seats.correct t j bytes unmade → w.is_correct j ≡ b
    → (is_seen_opened (seen_call w states (if b then Some (record { at = j; call = Frame bytes }) else None)) && unmade)
    ≡ is_forged_frame w states (if b then Some (record { at = j; call = Frame bytes }) else None)
at_correct w seats states t j bytes unmade true seats_stand stand within found e =
    forged_either w seats states t j bytes unmade (opening (w.keys j) bytes) seats_stand stand (within e) found refl
at_correct w seats states t j bytes unmade false seats_stand stand within found e = refl

-- a frame that came forges where it opened, and the table hasn't it
pub forged_is : (w : Setting) (seats : Seats) (states : ℕ → CoreState) (t : MadeTable) (j : ℕ) (bytes : List ℕ) (unmade : Bool) (seen : Seen) →
    SeatsStand w seats → FramesStand w states t → (w.is_correct j ≡ true → j < w.numbers.n) → IsFound seats.correct t j bytes unmade
    → seen ≡ seen_call w states (call_at w j (Frame bytes)) → (is_seen_opened seen && unmade) ≡ is_forged_frame w states (call_at w j (Frame bytes))
forged_is w seats states t j bytes unmade seen seats_stand stand within found saw =
    ap (λ x. is_seen_opened x && unmade) saw ∙ at_correct w seats states t j bytes unmade (w.is_correct j) seats_stand stand within found refl
