-- The abstract replica: what it answers to a frame, an input and a turn, what it makes, and what it is afterwards.
use Rattle.std.specs.Prelude.{ℕ, List, [], Result, Ok, Err}
use Rattle.ritas_base.specs.declared.item.Item.{Item}
use Rattle.frame_codec.specs.declared.fault.BodyFault.{BodyFault}
use Rattle.frame_codec.specs.Body.{body_answer}
use Rattle.keyed_channel.specs.KeyRow.{KeyRow}
use Rattle.keyed_channel.specs.Frames.{Opening, opening}
use Rattle.keyed_channel.specs.declared.frame.OpenFault.{OpenFault}
use Rattle.ritas_core.specs.declared.answer.Answer.{Answer}
use Rattle.ritas_core.specs.declared.fault.CoreFault.{CoreFault}
use Rattle.ritas_core.specs.Rules.{Rules}
use Rattle.ritas_core.specs.Machine as core
use Rattle.ritas_core.specs.Machine.{CoreState, What, Moved, moved}
use Rattle.replica.specs.Out.{OutFrame}
use Rattle.replica.specs.declared.refusal.Refusal.{Refusal}
use Rattle.replica.specs.declared.refusal.Refusal.TheVariants as refusals
use Rattle.replica.specs.Frames.{frames_of, count_for}

-- what a replica is called with
pub data ReplicaCall : Type 0 where
  -- bytes that came as a frame
  Frame : List ℕ → ReplicaCall
  -- an input
  Input : List ℕ → ReplicaCall
  -- a turn takes the item at the front of the inbox
  Turn : ReplicaCall

-- what a call does
pub record Handled : Type 0 where
  pub state : CoreState
  pub answer : Result Answer Refusal
  pub out : List OutFrame

abbrev pub core_answer : Result Answer CoreFault → Result Answer Refusal
core_answer (Ok answer) = Ok answer
core_answer (Err fault) = Err (refusals.Core fault)

-- what the core does, with the frames of the messages that it puts out
abbrev pub framed : Rules → KeyRow → CoreState → Moved → Handled
framed r k st did = record {
  state = did.state;
  answer = core_answer did.answer;
  out = frames_of k (count_for r st.history) did.out;
}

-- a refusal changes nothing
abbrev pub refusal_handled : CoreState → Refusal → Handled
refusal_handled st refusal = record { state = st; answer = Err refusal; out = [] }

abbrev pub given_body : Rules → KeyRow → CoreState → Result Item BodyFault → Handled
given_body r k st (Ok item) = framed r k st (moved r st (core.Frame item))
given_body r k st (Err fault) = refusal_handled st (refusals.Body fault)

abbrev pub given_frame : Rules → KeyRow → CoreState → Result Opening OpenFault → Handled
given_frame r k st (Ok o) = given_body r k st (body_answer r.casts.numbers r.mode o.from o.body)
given_frame r k st (Err fault) = refusal_handled st (refusals.Open fault)

-- a frame is opened, its body read, and its item given to the core
abbrev pub handled : Rules → KeyRow → CoreState → ReplicaCall → Handled
handled r k st (Frame bytes) = given_frame r k st (opening k bytes)
handled r k st (Input bytes) = framed r k st (moved r st (core.Input bytes))
handled r k st Turn = framed r k st (moved r st core.Turn)
