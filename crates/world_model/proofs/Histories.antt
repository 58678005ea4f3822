-- A call leaves a replica's history, or puts one entry on it.
use Rattle.std.proofs.Common.{◌≡◌, suc, ◌==◌, cond, Some, None, Result, Ok, Err, List, [], ◌∷◌, length, refl, sym, ◌∙◌, ap, inl, inr, ◌⊎◌, if◌then◌else◌, arith}
use Rattle.std.proofs.lemmas.Bool.{eq-eqb, ne_eqb}
use Rattle.ritas_base.specs.declared.item.Item.{Item}
use Rattle.frame_codec.specs.declared.fault.BodyFault.{BodyFault}
use Rattle.frame_codec.specs.Body.{body_answer}
use Rattle.keyed_channel.specs.KeyRow.{KeyRow}
use Rattle.keyed_channel.specs.declared.frame.OpenFault.{OpenFault}
use Rattle.keyed_channel.specs.Frames.{Opening, opening}
use Rattle.ritas_core.specs.Rules.{Rules}
use Rattle.ritas_core.specs.Parts.{Entry, Took, Given}
use Rattle.ritas_core.specs.Machine as core
use Rattle.ritas_core.specs.Machine.{CoreState, What, stays, gives_item, given_input, turned, moved_live, moved}
use Rattle.replica.specs.MovesLaws.{moved_view}
use Rattle.replica.specs.Handling.{ReplicaCall, Frame, Input, Turn, given_body, given_frame, handled}
use Rattle.world_model.specs.Audit.{newest_item}

-- the history is the same, or has one entry more
abbrev pub Grew : List Entry → List Entry → Type 0
Grew before after = (after ≡ before) ⊎ ((e : Entry) × (after ≡ e ∷ before))

grew_moved : (r : Rules) (st : CoreState) (what : What) → Grew st.history (moved r st what).state.history
grew_moved r st what = elim (moved_view r st what) [ inl enters ↦ inr (enters.entry, enters.history) | inr quiet ↦ inl quiet.history ]

grew_body : (r : Rules) (k : KeyRow) (st : CoreState) (read : Result Item BodyFault) → Grew st.history (given_body r k st read).state.history
grew_body r k st (Ok item) = grew_moved r st (core.Frame item)
grew_body r k st (Err fault) = inl refl

grew_frame : (r : Rules) (k : KeyRow) (st : CoreState) (opened : Result Opening OpenFault) → Grew st.history (given_frame r k st opened).state.history
grew_frame r k st (Ok o) = grew_body r k st (body_answer r.casts.numbers r.mode o.from o.body)
grew_frame r k st (Err fault) = inl refl

pub grew : (r : Rules) (k : KeyRow) (st : CoreState) (call : ReplicaCall) → Grew st.history (handled r k st call).state.history
grew r k st (Frame bytes) = grew_frame r k st (opening k bytes)
grew r k st (Input v) = grew_moved r st (core.Input v)
grew r k st Turn = grew_moved r st core.Turn

-- ---- the newest item
-- the newest entry is the one more
pub newest_taken : (h : List Entry) (item : Item) → newest_item h (Took item ∷ h) ≡ Some item
newest_taken h item = ap (λ b. cond b (Some item) None) (eq-eqb (length h) (length h) refl)

-- where there is none, none is
shorter : (h : List Entry) (item : Item) → (if length h == length (Took item ∷ h) then Some item else None) ≡ None
shorter h item = ap (λ b. cond b (Some item) None) (ne_eqb (length h) (suc (length h)) (λ e. absurd (omega (arith, e))))

pub newest_none : (h : List Entry) → newest_item h h ≡ None
newest_none [] = refl
newest_none (Given v ∷ h) = refl
newest_none (Took item ∷ h) = shorter h item

history_entry : (before : List Entry) (e : Entry) (item : Item) → newest_item before (e ∷ before) ≡ Some item → e ≡ Took item
history_entry before (Given v) item is = absurd (cc)
history_entry before (Took x) item is =
    let same : Some x ≡ Some item = sym (newest_taken before x) ∙ is in
    let one : x ≡ item = cc in
    ap (λ (y : Item). Took y) one

-- the item that was taken is the entry that came on the history
pub history_taken : (before after : List Entry) (item : Item) → Grew before after → newest_item before after ≡ Some item → after ≡ Took item ∷ before
history_taken before after item (inl same) is =
    let none : None ≡ Some item = sym (newest_none before) ∙ (ap (newest_item before) (sym same) ∙ is) in
    absurd (cc)
history_taken before after item (inr more) is =
    more.1 ∙ ap (λ (e : Entry). e ∷ before) (history_entry before more.0 item (ap (newest_item before) (sym more.1) ∙ is))
