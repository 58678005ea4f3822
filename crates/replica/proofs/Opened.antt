-- What a frame that opens, and an item that it brings, are.
use Rattle.std.proofs.Common.{◌≡◌, ℕ, ◌<◌, List, ◌++◌, Ok, Err, inl, inr, refl, sym, ◌∙◌, ap, ap₂, subst, append-nil}
use Rattle.ritas_base.specs.declared.item.Item.{Item}
use Rattle.ritas_base.specs.Numbers.{Numbers}
use Rattle.ritas_base.specs.declared.mode.Mode.{Mode}
use Rattle.frame_codec.specs.declared.fault.BodyFault.{BodyFault}
use Rattle.frame_codec.specs.declared.fault.BodyFault.TheVariants as body
use Rattle.frame_codec.specs.Body.{body_answer, Answers, Spells, IsInGrammar}
use Rattle.keyed_channel.specs.KeyRow.{KeyRow}
use Rattle.command_log.specs.Rows.{Start}
use Rattle.keyed_channel.specs.Frames.{Opening, opening}
use Rattle.keyed_channel.specs.FramesLaws.{opened_is}
use Rattle.ritas_core.specs.Rules.{Rules}
use Rattle.ritas_core.specs.Machine as core
use Rattle.ritas_core.specs.Machine.{CoreState, moved}
use Rattle.ritas_core.specs.Stands.{Meaning, CoreStands}
use Rattle.replica.specs.Out.{OutFrame}
use Rattle.replica.specs.declared.refusal.Refusal.{Refusal}
use Rattle.replica.specs.declared.refusal.Refusal.TheVariants as refusals
use Rattle.replica.specs.declared.replica.Replica.{Replica}
use Rattle.replica.specs.Handling.{Frame, handled, given_frame, given_body, refusal_handled}
use Rattle.replica.specs.Stands.{Handles, ReplicaDoes, frame_given, body_given}
use Rattle.replica.specs.Replica.{ReplicaStands, revived}
use Rattle.replica.specs.Steps.{ReadsFrame, FindsItem}
use Rattle.replica.proofs.Passing.{IsCall}

-- ---- opening

-- what opens is from a replica
pub opens_from : (k : KeyRow) (bytes : List ℕ) (o : Opening) → opening k bytes ≡ Ok o → o.from < k.n
opens_from k bytes o h =
    let opened = opened_is k bytes o h in
    subst (λ (x : Opening). x.from < k.n) opened.parts opened.plain.sender

-- ---- a frame that is read

-- an item that was found is given to the core
pub found_call : (r : Rules) (k : KeyRow) (st : CoreState) (bytes : List ℕ) (item : Item) → FindsItem r k bytes item → IsCall r k st (Frame bytes) (core.Frame item)
found_call r k st bytes item found = record {
  given = ap (frame_given r) found.read.opens ∙ ap body_given found.read.body;
  does = ap (given_frame r k st) found.read.opens ∙ ap (given_body r k st) found.read.body;
}

refused_handles : {S E C : Type 0} (s : Start) (m : Meaning S E C KeyRow) (rep : Replica S E C) (bytes : List ℕ) (before : List OutFrame) (r : Rules) (k : KeyRow) (st : CoreState) (refusal : Refusal) →
    ReplicaStands s m rep r k st → handled r k st (Frame bytes) ≡ refusal_handled st refusal → Handles (ReplicaStands s m) rep (Frame bytes) before before (Err refusal) r k st
refused_handles s m rep bytes before r k st refusal stands same =
    let P : CoreState → Type 0 = λ x. ReplicaStands s m rep r k x in
    record {
      answer = ap (λ h. h.answer) (sym same);
      out = sym (append-nil before) ∙ ap (λ h. before ++ h.out) (sym same);
      state = subst P (ap (λ h. h.state) (sym same)) stands;
    }

-- a frame that brings no item
pub refuses : {S E C : Type 0} (s : Start) (m : Meaning S E C KeyRow) (rep : Replica S E C) (bytes : List ℕ) (before : List OutFrame) (r : Rules) (k : KeyRow) (st : CoreState) (refusal : Refusal) →
    ReplicaStands s m rep r k st → ReadsFrame r k bytes (Err refusal) → ReplicaDoes (ReplicaStands s m) rep (Frame bytes) before before (Err refusal) r k st
refuses s m rep bytes before r k st (refusals.Core fault) stands read = absurd read
refuses s m rep bytes before r k st (refusals.Open fault) stands read =
    refused_handles s m rep bytes before r k st (refusals.Open fault) stands (ap (given_frame r k st) read)
refuses s m rep bytes before r k st (refusals.Body body.Mem) stands read =
    record {
      out = refl;
      state = stands;
      bytes = bytes;
      opened = read.1.opened;
      frame = refl;
      opens = read.1.opens;
      item = read.0;
      spells = read.1.body;
    }
refuses s m rep bytes before r k st (refusals.Body fault) stands read =
    refused_handles s m rep bytes before r k st (refusals.Body fault) stands (ap (given_frame r k st) read.opens ∙ ap (given_body r k st) read.body)

-- ---- reading

-- the core stands for some state by these rules, whether the replica is stopped or not
pub core_of : {S E C : Type 0} (s : Start) (m : Meaning S E C KeyRow) (rep : Replica S E C) (r : Rules) (k : KeyRow) (st : CoreState) →
    ReplicaStands s m rep r k st → (inner : CoreState) × CoreStands m rep.core r inner
core_of s m rep r k st stands = elim stands.state [ inl on ↦ (st, on.core) | inr off ↦ ((moved r (revived st) off.ahead.what).state, off.ahead.stands) ]

-- a frame opened, and its body is read with the numbers and the mode of the rules
pub record IsOpened (r : Rules) (k : KeyRow) (p : Numbers) (mode : Mode) (bytes : List ℕ) (o : Opening) : Type 0 where
  pub many : k.n ≡ r.casts.numbers.n
  pub numbers : p ≡ r.casts.numbers
  pub mode_is : mode ≡ r.mode
  pub opens : opening k bytes ≡ Ok o

pub found_item : (r : Rules) (k : KeyRow) (p : Numbers) (mode : Mode) (bytes : List ℕ) (o : Opening) (item : Item) →
    IsOpened r k p mode bytes o → Spells p mode o.from o.body item → body_answer p mode o.from o.body ≡ Ok item → FindsItem r k bytes item
found_item r k p mode bytes o item is_open spells read =
    let G : Numbers → Mode → Type 0 = λ q u. IsInGrammar q u item in
    let below : item.from < k.n = let P : ℕ → Type 0 = λ x. x < k.n in subst P (sym spells.sender) (opens_from k bytes o is_open.opens) in
    record {
      read = record {
        opened = o;
        opens = is_open.opens;
        body = ap₂ (λ q u. body_answer q u o.from o.body) (sym is_open.numbers) (sym is_open.mode_is) ∙ read;
      };
      good = record {
        in_grammar = subst (λ u. G r.casts.numbers u) is_open.mode_is (subst (λ q. G q mode) is_open.numbers spells.in_grammar);
        sender = let P : ℕ → Type 0 = λ x. item.from < x in subst P is_open.many below;
      };
    }

pub unread : (r : Rules) (k : KeyRow) (p : Numbers) (mode : Mode) (bytes : List ℕ) (o : Opening) (fault : BodyFault) →
    IsOpened r k p mode bytes o → Answers (Err fault) (body_answer p mode o.from o.body) → ReadsFrame r k bytes (Err (refusals.Body fault))
unread r k p mode bytes o body.Mem is_open read = (
  read.0,
  record {
    opened = o;
    opens = is_open.opens;
    body = ap₂ (λ q u. body_answer q u o.from o.body) (sym is_open.numbers) (sym is_open.mode_is) ∙ read.1;
  },
)
unread r k p mode bytes o fault is_open read = record {
  opened = o;
  opens = is_open.opens;
  body = ap₂ (λ q u. body_answer q u o.from o.body) (sym is_open.numbers) (sym is_open.mode_is) ∙ read;
}
