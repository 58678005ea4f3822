-- A call whose frames are appended as bytes, from the call that made them without tags.
use Rattle.std.proofs.Common.{◌≡◌, ◌≢◌, ℕ, true, false, List, [], ◌∷◌, ◌++◌, Option, Result, Ok, Err, ◌⊎◌, inl, inr, refl, sym, ◌∙◌, ap, subst, append-nil}
use Rattle.std.specs.Prelude.{OnOk, OnErr}
use Rattle.std.specs.Result.{is_err}
use Rattle.ritas_base.specs.declared.item.Item.{Item}
use Rattle.frame_codec.specs.declared.fault.BodyFault.{BodyFault}
use Rattle.frame_codec.specs.declared.fault.BodyFault.TheVariants as body
use Rattle.frame_codec.specs.Body.{body_answer}
use Rattle.keyed_channel.specs.KeyRow.{KeyRow}
use Rattle.keyed_channel.specs.Frames.{Opening, opening}
use Rattle.keyed_channel.specs.declared.frame.OpenFault.{OpenFault}
use Rattle.layer_api.specs.OneValue.{ValueLaws}
use Rattle.layer_api.specs.Service.{WordLaws}
use Rattle.command_log.specs.Rows.{Row, Start}
use Rattle.ritas_core.specs.declared.answer.Answer.{Answer}
use Rattle.ritas_core.specs.declared.fault.CoreFault.TheVariants as faults
use Rattle.ritas_core.specs.Rules.{Rules}
use Rattle.ritas_core.specs.Parts.{Entry}
use Rattle.ritas_core.specs.Checks.{IsHistory}
use Rattle.ritas_core.specs.Machine as core
use Rattle.ritas_core.specs.Machine.{CoreState, What, with_entry, moved}
use Rattle.ritas_core.specs.Calls.{IsCoreStep, entry_of_call, stopped}
use Rattle.ritas_core.specs.Laws.{WordsAreProper}
use Rattle.ritas_core.specs.Stands.{Meaning, CoreStands}
use Rattle.ritas_core.specs.StandsLaws.{layer_laws}
use Rattle.replica.specs.Out.{OutFrame}
use Rattle.replica.specs.declared.refusal.Refusal.{Refusal}
use Rattle.replica.specs.declared.refusal.Refusal.TheVariants as refusals
use Rattle.replica.specs.declared.replica.Replica.{Replica}
use Rattle.replica.specs.CommandRows.{history_rows, LiesBetween}
use Rattle.replica.specs.Frames.{frames_of, count_for}
use Rattle.replica.specs.Handling.{ReplicaCall, Frame, Input, Turn, Handled, handled, given_frame, given_body}
use Rattle.replica.specs.MovesLaws.{moved_view}
use Rattle.replica.specs.Replica.{ReplicaStands, StandsGoing}
use Rattle.replica.specs.Stands.{Handles, ReplicaRunsOut, ReplicaDoes, ReplicaDoesAll, frame_given, body_given}
use Rattle.replica.proofs.Feeding.{rows_are}
use Rattle.replica.proofs.Growing.{rows_grow, part_itself}
use Rattle.replica.proofs.Passing.{IsCall, revived_is}

-- ---- a call is given to the core, or puts no frame out

body_or_none : (r : Rules) (k : KeyRow) (st : CoreState) (bytes : List ℕ) (o : Opening) (found : Result Item BodyFault) → opening k bytes ≡ Ok o
    → body_answer r.casts.numbers r.mode o.from o.body ≡ found
    → ((what : What) × IsCall r k st (Frame bytes) what) ⊎ ((handled r k st (Frame bytes)).out ≡ [])
body_or_none r k st bytes o (Ok item) e f = inl (
  core.Frame item,
  record { given = ap (frame_given r) e ∙ ap body_given f; does = ap (given_frame r k st) e ∙ ap (given_body r k st) f },
)
body_or_none r k st bytes o (Err fault) e f =
    inr (ap (λ (h : Handled). h.out) (ap (given_frame r k st) e ∙ ap (given_body r k st) f))

frame_or_none : (r : Rules) (k : KeyRow) (st : CoreState) (bytes : List ℕ) (found : Result Opening OpenFault) → opening k bytes ≡ found
    → ((what : What) × IsCall r k st (Frame bytes) what) ⊎ ((handled r k st (Frame bytes)).out ≡ [])
frame_or_none r k st bytes (Ok o) e = body_or_none r k st bytes o (body_answer r.casts.numbers r.mode o.from o.body) e refl
frame_or_none r k st bytes (Err fault) e = inr (ap (λ (h : Handled). h.out) (ap (given_frame r k st) e))

call_or_none : (r : Rules) (k : KeyRow) (st : CoreState) (call : ReplicaCall)
    → ((what : What) × IsCall r k st call what) ⊎ ((handled r k st call).out ≡ [])
call_or_none r k st (Frame bytes) = frame_or_none r k st bytes (opening k bytes) refl
call_or_none r k st (Input bytes) = inl (core.Input bytes, record { given = refl; does = refl })
call_or_none r k st Turn = inl (core.Turn, record { given = refl; does = refl })

-- ---- the replica is stopped for want of memory

-- a replica in a state that is live goes on
pub going_live : {S E C : Type 0} (s : Start) (m : Meaning S E C KeyRow) (rep : Replica S E C) (r : Rules) (k : KeyRow) (st : CoreState) → ReplicaStands s m rep r k st
    → st.live ≡ true → StandsGoing s m rep r k st
going_live s m rep r k st stands live = elim stands.state [
  | inl on ↦ on
  | inr off ↦ let same : true ≡ false = sym live ∙ off.dead in absurd (cc same)
]

-- the replica stopped, with this number of frames made
abbrev pub halted_with : {S E C : Type 0} → ℕ → Replica S E C → Replica S E C
halted_with sent old = record { core = old.core; log = old.log; fed = old.fed; counts = old.counts; sent = sent; stopped = true }

module _ {S E C : Type 0} (s : Start) (m : Meaning S E C KeyRow) (values : ValueLaws m.cast) (words : WordLaws m.service) (proper : WordsAreProper) where
  -- the rows after an entry lie between those before it and those with it
  rows_between : (c : Replica S E C) (r : Rules) (k : KeyRow) (st : CoreState) (e : Entry) (h : List Entry) → StandsGoing s m c r k st → st.history ≡ e ∷ h
      → LiesBetween s r h (e ∷ h) c.log.rows
  rows_between c r k st e h on is =
      let laws = layer_laws m values words c.core r st on.core in
      let met : IsHistory r (e ∷ h) = subst (λ (x : List Entry). IsHistory r x) is on.core.history in
      let rows : c.log.rows ≡ history_rows s r (e ∷ h) = rows_are on.log ∙ ap (history_rows s r) is in
      subst (λ (rs : List Row). LiesBetween s r h (e ∷ h) rs) (sym rows)
      (rows_grow r laws e h (proper r laws h met.1) (proper r laws (e ∷ h) met) s, part_itself (history_rows s r (e ∷ h)))

  stops_sealing : (first old : Replica S E C) (call : ReplicaCall) (made before : List OutFrame) (answer : Result Answer Refusal) (r : Rules) (k : KeyRow) (st : CoreState)
      → ReplicaStands s m first r k st → made ≢ [] → Handles (ReplicaStands s m) old call [] made answer r k st
      → ReplicaRunsOut (ReplicaStands s m) (halted_with first.sent old) call before before r k st
  stops_sealing first old call made before answer r k st stands some did = elim (call_or_none r k st call) [
    | inr none ↦ absurd (some (did.out ∙ none))
    | inl given ↦
        let what = given.0 in
        let call_is = given.1 in
        elim (moved_view r st what) [
          | inr quiet ↦ absurd (some (did.out ∙ ap (λ (h : Handled). h.out) call_is.does ∙ ap (frames_of k (count_for r st.history)) quiet.out))
          | inl enters ↦
              let now : ReplicaStands s m old r k (moved r st what).state =
              subst (λ (x : CoreState). ReplicaStands s m old r k x) (ap (λ (h : Handled). h.state) call_is.does) did.state in
              let was = going_live s m first r k st stands enters.live in
              let on = going_live s m old r k (moved r st what).state now enters.going in
              let same = sym (revived_is st what enters.live (was.core.lost enters.live)) in
              record {
                out = refl;
                live = enters.live;
                what = what;
                given = call_is.given;
                state = inr (
                  enters.step,
                  record {
                    keys = now.keys;
                    own = now.own;
                    many = now.many;
                    state = inr (record {
                      halted = refl;
                      dead = refl;
                      ahead = record {
                        what = what;
                        step = subst (λ (x : CoreState). IsCoreStep r x what) same enters.step;
                        lost = ap (λ (x : CoreState). entry_of_call x what) same;
                        stands = subst (λ (x : CoreState). CoreStands m old.core r (moved r x what).state) same on.core;
                      };
                      sent = was.counted.all;
                      start = on.log.start;
                      log =
                          let L : Option Entry → Type 0 = λ o. LiesBetween s r st.history (with_entry o st.history) old.log.rows in
                          subst L (sym enters.entered) (rows_between old r k (moved r st what).state enters.entry st.history on enters.history);
                    });
                  },
                );
              }
        ]
  ]

  -- what was made can't be put out for want of memory
  pub seals_none : (first old : Replica S E C) (call : ReplicaCall) (made before : List OutFrame) (answer : Result Answer Refusal) (r : Rules) (k : KeyRow) (st : CoreState)
      → ReplicaStands s m first r k st → made ≢ [] → ReplicaDoes (ReplicaStands s m) old call [] made answer r k st
      → ReplicaRunsOut (ReplicaStands s m) (halted_with first.sent old) call before before r k st
  seals_none first old call made before (Err (refusals.Core faults.Mem)) r k st stands some did = absurd (some did.out)
  seals_none first old call made before (Err (refusals.Body body.Mem)) r k st stands some did = absurd (some did.out)
  seals_none first old call made before (Ok answer) r k st stands some did =
      stops_sealing first old call made before (Ok answer) r k st stands some did
  seals_none first old call made before (Err fault) r k st stands some did =
      stops_sealing first old call made before (Err fault) r k st stands some did

-- ---- the frames are appended

-- what was made goes behind other frames
pub seals_all : {R : Type 0} (Stands : R → Rules → KeyRow → CoreState → Type 0) (new : R) (call : ReplicaCall) (made before after : List OutFrame) (answer : Result Answer Refusal)
    (r : Rules) (k : KeyRow) (st : CoreState) → after ≡ before ++ made → ReplicaDoes Stands new call [] made answer r k st
    → ReplicaDoes Stands new call before after answer r k st
seals_all Stands new call made before after (Err (refusals.Core faults.Mem)) r k st e did = record {
  out = e ∙ ap (λ (xs : List OutFrame). before ++ xs) did.out ∙ append-nil before;
  live = did.live;
  what = did.what;
  given = did.given;
  state = did.state;
}
seals_all Stands new call made before after (Err (refusals.Body body.Mem)) r k st e did = record {
  out = e ∙ ap (λ (xs : List OutFrame). before ++ xs) did.out ∙ append-nil before;
  state = did.state;
  bytes = did.bytes;
  opened = did.opened;
  frame = did.frame;
  opens = did.opens;
  item = did.item;
  spells = did.spells;
}
seals_all Stands new call made before after (Ok answer) r k st e did =
    record { answer = did.answer; out = e ∙ ap (λ (xs : List OutFrame). before ++ xs) did.out; state = did.state }
seals_all Stands new call made before after (Err fault) r k st e did =
    record { answer = did.answer; out = e ∙ ap (λ (xs : List OutFrame). before ++ xs) did.out; state = did.state }

-- a call that put frames behind none made them
pub from_none : {R : Type 0} (Stands : R → Rules → KeyRow → CoreState → Type 0) (old new : R) (call : ReplicaCall) (first made : List OutFrame) (answer : Result Answer Refusal)
    → first ≡ [] → ReplicaDoesAll Stands old new call first made answer → ReplicaDoesAll Stands old new call [] made answer
from_none Stands old new call first made answer e does = subst (λ (xs : List OutFrame). ReplicaDoesAll Stands old new call xs made answer) e does

-- ---- what holds of a result

pub of_err : {A F P : Type 0} (x : Result A F) → is_err x ≡ true → OnErr x P → P
of_err (Ok a) e p = absurd cc
of_err (Err f) e p = p

pub of_ok : {A F P : Type 0} (x : Result A F) → is_err x ≡ false → OnOk x P → P
of_ok (Ok a) e p = p
of_ok (Err f) e p = absurd cc
