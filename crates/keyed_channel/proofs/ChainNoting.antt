-- What a note of a chain says, and who noted it.
use Rattle.std.specs.Prelude.{◌≡◌, ◌≢◌, ℕ, ◌^◌, ◌<◌, Bool, true, false, ◌==◌, ◌&&◌, List, Some, None, refl, ◌⊎◌, if◌then◌else◌}
use Rattle.std.proofs.Common.{◌∙◌, ap, ap₂, subst, inl, inr}
use Rattle.std.proofs.lemmas.Nat.{from_be_bytes-to_be_bytes_8}
use Rattle.std.proofs.lemmas.Bool.{and_parts, eqb-true}
use Rattle.ritas_base.specs.Bytes.{IsBytes}
use Rattle.ritas_base.specs.declared.mode.FrameVersion.{FrameVersion}
use Rattle.keyed_channel.specs.KeyRow.{KeyRow, shares_key}
use Rattle.keyed_channel.specs.Frames.{sender_of, is_tagged}
use Rattle.keyed_channel.specs.Notes.{sealed_note, may_ask_from, note_form, note_number, note_of, is_plain_note}
use Rattle.keyed_channel.specs.ChainNotes.{closed_note, ask_note, chain_note_of, chain_noted}
use Rattle.keyed_channel.specs.EpochLaws.{ChainNotedFromPeer, ChainNotesAreOthers, ChainNotesOpen, ChainNotesSealed}
use Rattle.keyed_channel.specs.declared.note.Note.{Note}
use Rattle.keyed_channel.specs.declared.note.Note.TheVariants.{Ack, Again}
use Rattle.keyed_channel.specs.declared.chain_note.ChainNote.{ChainNote}
use Rattle.keyed_channel.specs.declared.chain_note.ChainNote.TheVariants.{Closed, Ask}
use Rattle.keyed_channel.proofs.Noting.{none_either, note_silent, note_there}
use Rattle.keyed_channel.proofs.NotedBySender.{by_sender, noted_by, plain_peer}
use Rattle.keyed_channel.proofs.Shared.{right_by}

pub chain_note_wrong : (k : KeyRow) (bytes : List ℕ) → (is_plain_note k bytes && is_tagged k bytes) ≡ false → chain_noted k bytes ≡ None
unfolding chain_noted
chain_note_wrong k bytes w = ap (λ (x : Bool). if x then chain_note_of (sender_of bytes) (note_form bytes) (note_number bytes) else None) w

pub chain_note_right : (k : KeyRow) (bytes : List ℕ) → (is_plain_note k bytes && is_tagged k bytes) ≡ true
    → chain_noted k bytes ≡ chain_note_of (sender_of bytes) (note_form bytes) (note_number bytes)
unfolding chain_noted
chain_note_right k bytes r = ap (λ (x : Bool). if x then chain_note_of (sender_of bytes) (note_form bytes) (note_number bytes) else None) r

-- where its parts say nothing
chain_note_silent : (k : KeyRow) (bytes : List ℕ) → chain_note_of (sender_of bytes) (note_form bytes) (note_number bytes) ≡ None → chain_noted k bytes ≡ None
unfolding chain_noted
chain_note_silent k bytes silent =
    none_either (is_plain_note k bytes && is_tagged k bytes) (chain_note_of (sender_of bytes) (note_form bytes) (note_number bytes)) silent

chain_noted_by : (k : KeyRow) (bytes : List ℕ) (x : ChainNote) → chain_noted k bytes ≡ Some x
    → (is_plain_note k bytes ≡ true) × (is_tagged k bytes ≡ true) × (chain_note_of (sender_of bytes) (note_form bytes) (note_number bytes) ≡ Some x)
unfolding chain_noted
chain_noted_by k bytes x h = right_by _ _ _ x h

-- ---- what is noted opens

said : (a b : KeyRow) (form number : ℕ) → shares_key a b ≡ true → a.me < b.n → a.me ≢ b.me → number < 2 ^ 64
    → chain_noted b (sealed_note a b.me form number) ≡ chain_note_of a.me form number
said a b form number shared within ne small =
    chain_note_right b (sealed_note a b.me form number) (note_there a b form number shared within ne)
    ∙ ap (λ (q : ℕ). chain_note_of a.me form q) (from_be_bytes-to_be_bytes_8 number small)

pub chain_notes_open_hold : ChainNotesOpen
chain_notes_open_hold a b number shared within ne small = (said a b 3 number shared within ne small, said a b 4 number shared within ne small)

-- ---- what opens was noted

closed_by : (a b : Bool) (from number i epochs : ℕ) → (if a then Some (Closed from number) else if b then Some (Ask from number) else None) ≡ Some (Closed i epochs)
    → (a ≡ true) × (from ≡ i) × (number ≡ epochs)
closed_by true b from number i epochs h = (refl, cc, cc)
closed_by false true from number i epochs h = cc
closed_by false false from number i epochs h = cc

ask_by : (a b : Bool) (from number i position : ℕ) → (if a then Some (Closed from number) else if b then Some (Ask from number) else None) ≡ Some (Ask i position)
    → (b ≡ true) × (from ≡ i) × (number ≡ position)
ask_by true b from number i position h = cc
ask_by false true from number i position h = (refl, cc, cc)
ask_by false false from number i position h = cc

closed_sealed : (a b : KeyRow) (bytes : List ℕ) (number : ℕ) → shares_key a b ≡ true → IsBytes bytes → chain_noted b bytes ≡ Some (Closed a.me number) → bytes ≡ closed_note a b.me number
closed_sealed a b bytes number shared small h =
    let parts = chain_noted_by b bytes (Closed a.me number) h in
    let is = closed_by (note_form bytes == 3) (note_form bytes == 4) (sender_of bytes) (note_number bytes) a.me number parts.2 in
    let form : note_form bytes ≡ 3 = eqb-true _ _ is.0 in
    by_sender a b bytes shared small parts.0 parts.1 is.1 ∙ ap₂ (λ (f q : ℕ). sealed_note a b.me f q) form is.2

ask_sealed : (a b : KeyRow) (bytes : List ℕ) (number : ℕ) → shares_key a b ≡ true → IsBytes bytes → chain_noted b bytes ≡ Some (Ask a.me number) → bytes ≡ ask_note a b.me number
ask_sealed a b bytes number shared small h =
    let parts = chain_noted_by b bytes (Ask a.me number) h in
    let is = ask_by (note_form bytes == 3) (note_form bytes == 4) (sender_of bytes) (note_number bytes) a.me number parts.2 in
    let form : note_form bytes ≡ 4 = eqb-true _ _ is.0 in
    by_sender a b bytes shared small parts.0 parts.1 is.1 ∙ ap₂ (λ (f q : ℕ). sealed_note a b.me f q) form is.2

pub chain_notes_sealed_hold : ChainNotesSealed
chain_notes_sealed_hold a b bytes number shared small = (closed_sealed a b bytes number shared small, ask_sealed a b bytes number shared small)

-- ---- who noted it

closed_from_peer : (k : KeyRow) (bytes : List ℕ) (from epochs : ℕ) → chain_noted k bytes ≡ Some (Closed from epochs) → (from < k.n) × (from ≢ k.me)
closed_from_peer k bytes from epochs h =
    let parts = chain_noted_by k bytes (Closed from epochs) h in
    let is = closed_by (note_form bytes == 3) (note_form bytes == 4) (sender_of bytes) (note_number bytes) from epochs parts.2 in
    subst (λ (x : ℕ). (x < k.n) × (x ≢ k.me)) is.1 (plain_peer k bytes parts.0)

ask_from_peer : (k : KeyRow) (bytes : List ℕ) (from position : ℕ) → chain_noted k bytes ≡ Some (Ask from position) → (from < k.n) × (from ≢ k.me)
ask_from_peer k bytes from position h =
    let parts = chain_noted_by k bytes (Ask from position) h in
    let is = ask_by (note_form bytes == 3) (note_form bytes == 4) (sender_of bytes) (note_number bytes) from position parts.2 in
    subst (λ (x : ℕ). (x < k.n) × (x ≢ k.me)) is.1 (plain_peer k bytes parts.0)

pub chain_noted_from_peer_holds : ChainNotedFromPeer
chain_noted_from_peer_holds k bytes = (closed_from_peer k bytes, ask_from_peer k bytes)

-- ---- neither kind of note is the other

one_of : {X : Type 0} (a b : Bool) (p q x : X) → (if a then Some p else if b then Some q else None) ≡ Some x → (a ≡ true) ⊎ (b ≡ true)
one_of true b p q x h = inl refl
one_of false true p q x h = inr refl
one_of false false p q x h = cc

no_chain_form : (version : FrameVersion) (from form number : ℕ) (x : Note) → note_of version from form number ≡ Some x → chain_note_of from form number ≡ None
no_chain_form version from form number x h =
    let none : (f : ℕ) → form ≡ f → chain_note_of from f number ≡ None → chain_note_of from form number ≡ None =
    λ f is silent. ap (λ (y : ℕ). chain_note_of from y number) is ∙ silent in
    elim (one_of (form == 1) (form == 2 && may_ask_from version number) (Ack from number) (Again from number) x h) [
      | inl ack ↦ none 1 (eqb-true form 1 ack) refl
      | inr again ↦ none 2 (eqb-true form 2 (and_parts (form == 2) (may_ask_from version number) again).0) refl
    ]

no_note_form : (version : FrameVersion) (from form number : ℕ) (x : ChainNote) → chain_note_of from form number ≡ Some x → note_of version from form number ≡ None
no_note_form version from form number x h =
    let none : (f : ℕ) → form ≡ f → note_of version from f number ≡ None → note_of version from form number ≡ None =
    λ f is silent. ap (λ (y : ℕ). note_of version from y number) is ∙ silent in
    elim (one_of (form == 3) (form == 4) (Closed from number) (Ask from number) x h) [
      | inl closed ↦ none 3 (eqb-true form 3 closed) refl
      | inr ask ↦ none 4 (eqb-true form 4 ask) refl
    ]

pub chain_notes_are_others_hold : ChainNotesAreOthers
chain_notes_are_others_hold k l bytes = (
  λ x h. chain_note_silent l bytes (no_chain_form k.version (sender_of bytes) (note_form bytes) (note_number bytes) x (noted_by k bytes x h).2),
  λ x h. note_silent k bytes (no_note_form k.version (sender_of bytes) (note_form bytes) (note_number bytes) x (chain_noted_by l bytes x h).2),
)
