-- What isn't kept changes nothing and makes no frame, and what is kept is short.
use Rattle.std.proofs.Common.{◌≡◌, ◌≢◌, ℕ, ◌≤◌, ◌-◌, nat_le, nat_lt, Bool, true, false, not, ◌&&◌, ◌==◌, List, [], ◌∷◌, ◌++◌, length, map, take, drop, Option, Some, None, Result, Ok, Err, if◌then◌else◌, refl, sym, ap, ap₂, ◌∙◌, inl, inr, eq-eqb, arith, lit≤}
use Rattle.std.proofs.lemmas.Bool.{cases_eq, ne_eqb, leb-true, ltb-false, eqb-true}
use Rattle.std.proofs.lemmas.List.{length-drop, map-append, append-nil}
use Rattle.std.specs.List.{AllByRecursion}
use Rattle.std.specs.Int.{from_be_bytes, w8}
use Rattle.ritas_base.specs.declared.event.Event.{Event}
use Rattle.ritas_base.specs.declared.event.Event.TheVariants as events
use Rattle.ritas_base.specs.declared.item.Item.{Item}
use Rattle.ritas_base.specs.Limits.{least_request, longest_input, longest_frame}
use Rattle.ritas_base.specs.Numbers.{Numbers}
use Rattle.ritas_base.specs.Slots.{is_atomic}
use Rattle.frame_codec.specs.declared.fault.BodyFault.{BodyFault}
use Rattle.frame_codec.specs.Body.{body_answer}
use Rattle.frame_codec.specs.Format.{Done, Plain, read, plain_at, ◌>>=◌}
use Rattle.frame_codec.specs.Grammar.{any_ids, bit, class1, class2, class3, ids, vector}
use Rattle.frame_codec.specs.Limits.{longest_entry}
use Rattle.frame_codec.specs.Inputs.{input_format, input_fault, fault_offset}
use Rattle.keyed_channel.specs.KeyRow.{KeyRow}
use Rattle.keyed_channel.specs.Lengths.{least_frame}
use Rattle.ritas_base.specs.Places.{first_failed}
use Rattle.keyed_channel.specs.Frames.{Opening, opening, opening_but, opening_parts, plain_tests, is_tagged, open_fault}
use Rattle.keyed_channel.specs.declared.frame.OpenFault.{OpenFault}
use Rattle.keyed_channel.specs.declared.frame.OpenFault.TheVariants as open_faults
use Rattle.ritas_core.specs.declared.answer.Answer.{Answer}
use Rattle.ritas_core.specs.declared.fault.CoreFault.{CoreFault}
use Rattle.ritas_core.specs.declared.fault.CoreFault.TheVariants as faults
use Rattle.ritas_core.specs.declared.verdict.Verdict.{Verdict}
use Rattle.ritas_core.specs.declared.verdict.Verdict.TheVariants as verdicts
use Rattle.ritas_core.specs.Rules.{Rules}
use Rattle.ritas_core.specs.Machine as core
use Rattle.ritas_core.specs.Machine.{CoreState, What, Moved, stays, gives_item, given_input, moved_live}
use Rattle.ritas_core.specs.Checks.{verdict_on, input_check, input_fault_or, window_fault}
use Rattle.ritas_core.specs.Parts.{Parts, parts}
use Rattle.replica.specs.Handling.{ReplicaCall, Frame, Input, Turn, Handled, handled, given_body, given_frame, core_answer, framed}
use Rattle.replica.specs.Frames.{frames_of as frames_for, count_for}
use Rattle.replica.specs.Out.{OutFrame}
use Rattle.world_model.specs.World.{Setting, CallAt, rules_at, handled_at, after_call, call_at, call_of, halted_at, seen_answer, seen_call, states_of, states_before}
use Rattle.world_model.specs.MadeOrder.{MadeFrame, frames_of_call, all_made}
use Rattle.world_model.specs.Stands.{NoneStops}
use Rattle.outside.specs.declared.link.Sent.{Sent}
use Rattle.node_loop.specs.Keeping.{is_kept_answer, is_kept, kept_onto, kept_of, IsCallEvent, KeptStands, KeptIsShort}
use Rattle.node_loop.specs.Serving.{frames_made_by}
use Rattle.node_loop.specs.Laws.{sent_as, all_frames_of, KeptMakes}

-- ---- what isn't kept changes nothing

-- whether the core's answer is one that is kept
abbrev keeps : Result Answer CoreFault → Bool
keeps answer = is_kept_answer (seen_answer (core_answer answer))

-- a call left the core as it was, and put nothing out
abbrev IsIdle : CoreState → Moved → Type 0
IsIdle st did = (did.state ≡ st) × (did.out ≡ [])

gives_same : (r : Rules) (st : CoreState) (item : Item) (v : Verdict) → keeps (gives_item r st item st.inbox v).answer ≡ false → IsIdle st (gives_item r st item st.inbox v)
gives_same r st item (verdicts.Refuse fault) e = (refl, refl)
gives_same r st item verdicts.Again e = (refl, refl)
gives_same r st item verdicts.Hold e = absurd (cc e)
gives_same r st item verdicts.Take e = absurd (cc e)

input_same : (r : Rules) (st : CoreState) (value : List ℕ) (o : Option CoreFault) → keeps (given_input r st value o).answer ≡ false → IsIdle st (given_input r st value o)
input_same r st value (Some fault) e = (refl, refl)
input_same r st value None e = absurd (cc e)

abbrev if_live : Rules → CoreState → What → Bool → Moved
if_live r st what true = moved_live r st what
if_live r st what false = stays st st.inbox (Err faults.Stopped)

live_is : (r : Rules) (st : CoreState) (what : What) (b : Bool) → (if b then moved_live r st what else stays st st.inbox (Err faults.Stopped)) ≡ if_live r st what b
live_is r st what true = refl
live_is r st what false = refl

item_same : (r : Rules) (st : CoreState) (item : Item) (b : Bool) → keeps (if_live r st (core.Frame item) b).answer ≡ false → IsIdle st (if_live r st (core.Frame item) b)
item_same r st item true e = gives_same r st item (verdict_on r (parts r st.history) st.held item) e
item_same r st item false e = (refl, refl)

value_same : (r : Rules) (st : CoreState) (value : List ℕ) (b : Bool) → keeps (if_live r st (core.Input value) b).answer ≡ false → IsIdle st (if_live r st (core.Input value) b)
value_same r st value true e = input_same r st value (input_check r (parts r st.history) value) e
value_same r st value false e = (refl, refl)

frame_moved : (r : Rules) (st : CoreState) (item : Item) → keeps (core.moved r st (core.Frame item)).answer ≡ false → IsIdle st (core.moved r st (core.Frame item))
frame_moved r st item e =
    let is = live_is r st (core.Frame item) st.live in
    let idle = item_same r st item st.live (sym (ap (λ (x : Moved). keeps x.answer) is) ∙ e) in
    (ap (λ (x : Moved). x.state) is ∙ idle.0, ap (λ (x : Moved). x.out) is ∙ idle.1)

input_moved : (r : Rules) (st : CoreState) (value : List ℕ) → keeps (core.moved r st (core.Input value)).answer ≡ false → IsIdle st (core.moved r st (core.Input value))
input_moved r st value e =
    let is = live_is r st (core.Input value) st.live in
    let idle = value_same r st value st.live (sym (ap (λ (x : Moved). keeps x.answer) is) ∙ e) in
    (ap (λ (x : Moved). x.state) is ∙ idle.0, ap (λ (x : Moved). x.out) is ∙ idle.1)

-- a call left the replica as it was, and made no frame
abbrev IsUnmoved : CoreState → Handled → Type 0
IsUnmoved st did = (did.state ≡ st) × (did.out ≡ [])

idle_framed : (r : Rules) (k : KeyRow) (st : CoreState) (did : Moved) → IsIdle st did → IsUnmoved st (framed r k st did)
idle_framed r k st did idle = (idle.0, ap (frames_for k (count_for r st.history)) idle.1)

body_same : (r : Rules) (k : KeyRow) (st : CoreState) (o : Result Item BodyFault) → is_kept_answer (seen_answer (given_body r k st o).answer) ≡ false → IsUnmoved st (given_body r k st o)
body_same r k st (Ok item) e = idle_framed r k st (core.moved r st (core.Frame item)) (frame_moved r st item e)
body_same r k st (Err fault) e = (refl, refl)

frame_same : (r : Rules) (k : KeyRow) (st : CoreState) (o : Result Opening OpenFault) → is_kept_answer (seen_answer (given_frame r k st o).answer) ≡ false → IsUnmoved st (given_frame r k st o)
frame_same r k st (Ok o) e = body_same r k st (body_answer r.casts.numbers r.mode o.from o.body) e
frame_same r k st (Err fault) e = (refl, refl)

-- a call that isn't a turn and isn't kept leaves the replica as it was
handled_same : (r : Rules) (k : KeyRow) (st : CoreState) (call : ReplicaCall) → call ≢ Turn → is_kept_answer (seen_answer (handled r k st call).answer) ≡ false → IsUnmoved st (handled r k st call)
handled_same r k st (Frame bytes) not e = frame_same r k st (opening k bytes) e
handled_same r k st (Input bytes) not e = idle_framed r k st (core.moved r st (core.Input bytes)) (input_moved r st bytes e)
handled_same r k st Turn not e = absurd (not refl)

-- ---- a replica that was given the kept events stands where it stood

abbrev IsOther : Option CallAt → Type 0
IsOther None = Unit {0}
IsOther (Some c) = c.call ≢ Turn

is_other : (w : Setting) (at : ℕ) (call : ReplicaCall) → call ≢ Turn → IsOther (call_at w at call)
is_other w at call not = here (w.is_correct at)
  where
    here : (b : Bool) → IsOther (if b then Some (record { at = at; call = call }) else None)
    here true = not
    here false = tt

called_same : (w : Setting) (states : ℕ → CoreState) (o : Option CallAt) → IsOther o → is_kept_answer (seen_call w states o) ≡ false → (i : ℕ) → after_call w states o i ≡ states i
called_same w states None other e i = refl
called_same w states (Some c) other e i = elim (cases_eq c.at i) [
  | inl same ↦
      ap (λ (b : Bool). if b then (handled_at w states c).state else states i) (eq-eqb c.at i same)
      ∙ (handled_same (rules_at w c.at) (w.keys c.at) (states c.at) c.call other e).0 ∙ ap states same
  | inr apart ↦ ap (λ (b : Bool). if b then (handled_at w states c).state else states i) (ne_eqb c.at i apart)
]

called_none : (k : ℕ) (w : Setting) (states : ℕ → CoreState) (o : Option CallAt) → IsOther o → is_kept_answer (seen_call w states o) ≡ false → frames_of_call k w states o ≡ []
called_none k w states None other e = refl
called_none k w states (Some c) other e =
    ap (λ (out : List OutFrame). map (λ o. record { event = k; from = c.at; to = o.to; bytes = o.bytes }) out)
    (handled_same (rules_at w c.at) (w.keys c.at) (states c.at) c.call other e).1

-- the numbers of events aside
sent_numbered : (j k at : ℕ) (out : List OutFrame)
    → map sent_as (map (λ o. record { event = j; from = at; to = o.to; bytes = o.bytes }) out) ≡ map sent_as (map (λ o. record { event = k; from = at; to = o.to; bytes = o.bytes }) out)
sent_numbered j k at [] = refl
sent_numbered j k at (f ∷ out) = ap (λ (l : List Sent). record { at = at; to = f.to; bytes = f.bytes } ∷ l) (sent_numbered j k at out)

sent_called : (j k : ℕ) (w : Setting) (states : ℕ → CoreState) (o : Option CallAt) → map sent_as (frames_of_call j w states o) ≡ map sent_as (frames_of_call k w states o)
sent_called j k w states None = refl
sent_called j k w states (Some c) = sent_numbered j k c.at (handled_at w states c).out

frames_next : (w : Setting) (e : Event) (es : List Event) → all_frames_of w (e ∷ es) ≡ all_frames_of w es ++ map sent_as (frames_made_by w es (Some e))
unfolding all_made
frames_next w e es = map-append sent_as (all_made w es) (frames_made_by w es (Some e))

and_true : (b : Bool) → (b && true) ≡ b
and_true true = refl
and_true false = refl

same_states : (f g : ℕ → CoreState) → ((i : ℕ) → f i ≡ g i) → f ≡ g
same_states f g h = λ t i. h i t

module _ (w : Setting) (none : NoneStops w) where
  halted_same : (k : ℕ) (states : ℕ → CoreState) (i : ℕ) → halted_at w k states i ≡ states i
  halted_same k states i =
      ap (λ (b : Bool). record (states i) { live = (states i).live && not b }) (none k i)
      ∙ ap (λ (b : Bool). record (states i) { live = b }) (and_true (states i).live)

  before_same : (es : List Event) → states_before w es ≡ states_of w es
  before_same es = same_states (states_before w es) (states_of w es) (halted_same (length es) (states_of w es))

  -- the states after a call of an event
  abbrev stepped : (ℕ → CoreState) → Event → ℕ → CoreState
  stepped states e i = after_call w states (call_of w states e) i

  next_is : (e : Event) (es : List Event) → states_of w (e ∷ es) ≡ stepped (states_of w es) e
  unfolding states_of
  next_is e es = ap (λ (s : ℕ → CoreState). stepped s e) (before_same es)

  unkept_call : (es : List Event) (at : ℕ) (call : ReplicaCall) → call ≢ Turn → is_kept_answer (seen_call w (states_before w es) (call_at w at call)) ≡ false
      → (i : ℕ) → after_call w (states_before w es) (call_at w at call) i ≡ states_of w es i
  unkept_call es at call not e i = called_same w (states_before w es) (call_at w at call) (is_other w at call not) e i ∙ halted_same (length es) (states_of w es) i

  -- what isn't kept leaves all replicas as they were
  unkept_same : (e : Event) (es : List Event) → IsCallEvent e → is_kept w es e ≡ false → states_of w (e ∷ es) ≡ states_of w es
  unfolding states_of
  unkept_same (events.Frame to bytes) es is no_keep = same_states _ _ (unkept_call es to (Frame bytes) (λ t. cc t) no_keep)
  unkept_same (events.Input at bytes) es is no_keep = same_states _ _ (unkept_call es at (Input bytes) (λ t. cc t) no_keep)
  unkept_same (events.Turn at) es is no_keep = absurd (cc no_keep)
  unkept_same (events.Pass from to m) es is no_keep = absurd is
  unkept_same (events.Sealed from to body) es is no_keep = absurd is

  all_stand : (past es : List Event) → AllByRecursion IsCallEvent es → states_of w (kept_of w past es ++ past) ≡ states_of w (es ++ past)
  all_stand past [] all = refl
  all_stand past (e ∷ es) all = here (is_kept w (es ++ past) e) refl (all_stand past es all.1)
    where
      here : (b : Bool) → is_kept w (es ++ past) e ≡ b → states_of w (kept_of w past es ++ past) ≡ states_of w (es ++ past) → states_of w (kept_onto b e (kept_of w past es) ++ past) ≡ states_of w (e ∷ (es ++ past))
      here true is older =
          next_is e (kept_of w past es ++ past) ∙ ap (λ (s : ℕ → CoreState). stepped s e) older ∙ sym (next_is e (es ++ past))
      here false is older = older ∙ sym (unkept_same e (es ++ past) all.0 is)

  -- and makes no frame
  unkept_none : (e : Event) (es : List Event) → IsCallEvent e → is_kept w es e ≡ false → frames_made_by w es (Some e) ≡ []
  unkept_none (events.Frame to bytes) es is no_keep =
      called_none (length es) w (states_before w es) (call_at w to (Frame bytes)) (is_other w to (Frame bytes) (λ t. cc t)) no_keep
  unkept_none (events.Input at bytes) es is no_keep =
      called_none (length es) w (states_before w es) (call_at w at (Input bytes)) (is_other w at (Input bytes) (λ t. cc t)) no_keep
  unkept_none (events.Turn at) es is no_keep = absurd (cc no_keep)
  unkept_none (events.Pass from to m) es is no_keep = absurd is
  unkept_none (events.Sealed from to body) es is no_keep = absurd is

  -- an event makes the same frames wherever the replicas stand alike
  sent_alike : (e : Event) (xs ys : List Event) → states_of w xs ≡ states_of w ys → map sent_as (frames_made_by w xs (Some e)) ≡ map sent_as (frames_made_by w ys (Some e))
  sent_alike e xs ys alike =
      sent_called (length xs) (length ys) w (states_before w xs) (call_of w (states_before w xs) e)
      ∙ ap (λ (s : ℕ → CoreState). map sent_as (frames_of_call (length ys) w s (call_of w s e))) (before_same xs ∙ alike ∙ sym (before_same ys))

  all_make : (past es : List Event) → AllByRecursion IsCallEvent es → all_frames_of w (kept_of w past es ++ past) ≡ all_frames_of w (es ++ past)
  all_make past [] all = refl
  all_make past (e ∷ es) all = here (is_kept w (es ++ past) e) refl (all_make past es all.1)
    where
      here : (b : Bool) → is_kept w (es ++ past) e ≡ b → all_frames_of w (kept_of w past es ++ past) ≡ all_frames_of w (es ++ past) → all_frames_of w (kept_onto b e (kept_of w past es) ++ past) ≡ all_frames_of w (e ∷ (es ++ past))
      here true is older =
          frames_next w e (kept_of w past es ++ past)
          ∙ ap₂ (λ (a b : List Sent). a ++ b) older (sent_alike e (kept_of w past es ++ past) (es ++ past) (all_stand past es all.1))
          ∙ sym (frames_next w e (es ++ past))
      here false is older =
          let same : all_frames_of w (e ∷ (es ++ past)) ≡ all_frames_of w (es ++ past) ++ [] =
          frames_next w e (es ++ past) ∙ ap (λ (l : List MadeFrame). all_frames_of w (es ++ past) ++ map sent_as l) (unkept_none e (es ++ past) all.0 is) in
          older ∙ sym (same ∙ append-nil (all_frames_of w (es ++ past)))

pub stands_kept : KeptStands
stands_kept w past es none all = all_stand w none past es all

pub makes_kept : KeptMakes
makes_kept w past es none all = all_make w none past es all

-- ---- what is kept is short

second_holds : (a b : Bool) (x y : OpenFault) (rest : List (Bool × OpenFault)) → first_failed ((a, x) ∷ (b, y) ∷ rest) ≡ None → b ≡ true
second_holds true true x y rest e = refl
second_holds true false x y rest e = absurd (cc e)
second_holds false b x y rest e = absurd (cc e)

abbrev tests_of : KeyRow → List ℕ → List (Bool × OpenFault)
tests_of k bytes = plain_tests k bytes ++ (is_tagged k bytes, open_faults.BadTag) ∷ []

opened_short : (k : KeyRow) (bytes : List ℕ) → open_fault k bytes ≡ None → length bytes ≤ longest_frame
opened_short k bytes e =
    leb-true (length bytes) longest_frame (second_holds (nat_le least_frame (length bytes)) (nat_le (length bytes) longest_frame) open_faults.Short open_faults.Long (drop 2 (tests_of k bytes)) e)

answered_short : (r : Rules) (k : KeyRow) (st : CoreState) (bytes : List ℕ) (o : Option OpenFault) → (o ≡ None → length bytes ≤ longest_frame)
    → is_kept_answer (seen_answer (given_frame r k st (opening_but o (opening_parts bytes))).answer) ≡ true → length bytes ≤ longest_frame
answered_short r k st bytes None short e = short refl
answered_short r k st bytes (Some fault) short e = absurd (cc e)

frame_short : (r : Rules) (k : KeyRow) (st : CoreState) (bytes : List ℕ) → is_kept_answer (seen_answer (handled r k st (Frame bytes)).answer) ≡ true → length bytes ≤ longest_frame
unfolding opening
frame_short r k st bytes e = answered_short r k st bytes (open_fault k bytes) (opened_short k bytes) e

-- nothing is wrong with bytes of at most so many
plain_short : (low high len : ℕ) (bytes : List ℕ) → len ≡ length bytes → fault_offset len (plain_at low high bytes) ≡ None → length bytes ≤ high
plain_short low high len bytes is e = here (nat_lt (length bytes) low) (nat_lt high (length bytes)) refl e
  where
    here : (a b : Bool) → nat_lt high (length bytes) ≡ b → fault_offset len (if a then Err 0 else if b then Err (length bytes - high) else Ok []) ≡ None → length bytes ≤ high
    here true b fits e = absurd (cc e)
    here false true fits e = absurd (cc e)
    here false false fits e = ltb-false high (length bytes) fits

-- all were read, and they are one
one_left : (len : ℕ) (bytes : List ℕ) (b : Bool) → b ≡ (length (drop 1 bytes) == 0) → (if b then None else Some (len - length (drop 1 bytes))) ≡ None → length bytes ≤ 1
one_left len bytes true is e =
    let none : length (drop 1 bytes) ≡ 0 = eqb-true (length (drop 1 bytes)) 0 (sym is) in
    let less = length-drop 1 bytes in
    omega (arith, none, less)
one_left len bytes false is e = absurd (cc e)

bit_short : (len : ℕ) (bytes : List ℕ) → fault_offset len (read (bit 1) bytes) ≡ None → length bytes ≤ 1
unfolding bit
bit_short len bytes e = here (nat_lt (length bytes) 1) (nat_lt (from_be_bytes w8 (take 1 bytes)) 2) e
  where
    after : ℕ × List ℕ → Result (List ℕ) ℕ
    after x = read Done x.1

    here : (a b : Bool)
        → fault_offset len (◌>>=◌ {A = ℕ × List ℕ} (if a then Err 0 else if b then Ok (from_be_bytes w8 (take 1 bytes), drop 1 bytes) else Err (length bytes)) after) ≡ None
        → length bytes ≤ 1
    here true b e = absurd (cc e)
    here false false e = absurd (cc e)
    here false true e = one_left len bytes (length (drop 1 bytes) == 0) refl e

-- what is of the format of the inputs of a root service is no longer than the longest input
format_short : (p : Numbers) (root : ℕ) (bytes : List ℕ) → fault_offset (length bytes) (read (input_format p root) bytes) ≡ None → length bytes ≤ longest_frame
unfolding input_format class1 class2 class3
format_short p root bytes e = here (root == 3) (root == 4) (root == 5) refl refl e
  where
    plain : (low high : ℕ) → high ≤ longest_frame → fault_offset (length bytes) (plain_at low high bytes) ≡ None → length bytes ≤ longest_frame
    plain low high most e = let short = plain_short low high (length bytes) bytes refl e in omega (arith, most, short)

    fourth : (b : Bool) → b ≡ true
        → fault_offset (length bytes) (read (if b then Plain 1 longest_input else if root == 7 then any_ids p.n else vector p root) bytes) ≡ None → length bytes ≤ longest_frame
    fourth true is e = plain 1 longest_input (lit≤ tt) e
    fourth false is e = absurd (cc is)

    fifth : (b : Bool) → b ≡ false → fault_offset (length bytes) (read (if b then ids p.n else Plain 1 longest_entry) bytes) ≡ None → length bytes ≤ longest_frame
    fifth true is e = absurd (cc is)
    fifth false is e = plain 1 longest_entry (lit≤ tt) e

    five_is : (root == 5) ≡ true → is_atomic root ≡ false
    five_is is = ap is_atomic (eqb-true root 5 is)

    here : (a b c : Bool) → (root == 4) ≡ b → (root == 5) ≡ c
        → fault_offset (length bytes) (read (if a then bit 1 else if b then (if root == 4 then Plain 1 longest_input else if root == 7 then any_ids p.n else vector p root)
        else if c then (if is_atomic root then ids p.n else Plain 1 longest_entry) else Plain (if is_atomic root then least_request else 1) longest_input) bytes) ≡ None → length bytes ≤ longest_frame
    here true b c four five e = let short = bit_short (length bytes) bytes e in omega (arith, short)
    here false true c four five e = fourth (root == 4) four e
    here false false true four five e = fifth (is_atomic root) (five_is five) e
    here false false false four five e = plain (if is_atomic root then least_request else 1) longest_input (lit≤ tt) e

checked_short : (r : Rules) (p : Parts) (bytes : List ℕ) → input_check r p bytes ≡ None → length bytes ≤ longest_frame
unfolding input_check
checked_short r p bytes e = format_short r.casts.numbers r.mode.root bytes (here (input_fault r.casts.numbers r.mode bytes) e)
  where
    here : (o : Option ℕ) → input_fault_or o (window_fault r p) ≡ None → o ≡ None
    here None e = refl
    here (Some place) e = absurd (cc e)

input_short : (r : Rules) (k : KeyRow) (st : CoreState) (bytes : List ℕ) → is_kept_answer (seen_answer (handled r k st (Input bytes)).answer) ≡ true → length bytes ≤ longest_frame
input_short r k st bytes e = here st.live (sym (ap (λ (x : Moved). keeps x.answer) (live_is r st (core.Input bytes) st.live)) ∙ e)
  where
    given : (o : Option CoreFault) → o ≡ input_check r (parts r st.history) bytes → keeps (given_input r st bytes o).answer ≡ true → length bytes ≤ longest_frame
    given None is e = checked_short r (parts r st.history) bytes (sym is)
    given (Some fault) is e = absurd (cc e)

    here : (b : Bool) → keeps (if_live r st (core.Input bytes) b).answer ≡ true → length bytes ≤ longest_frame
    here true e = given (input_check r (parts r st.history) bytes) refl e
    here false e = absurd (cc e)

called_short : (w : Setting) (states : ℕ → CoreState) (at : ℕ) (call : ReplicaCall) (bytes : List ℕ)
    → (is_kept_answer (seen_answer (handled_at w states (record { at = at; call = call })).answer) ≡ true → length bytes ≤ longest_frame)
    → is_kept_answer (seen_call w states (call_at w at call)) ≡ true → length bytes ≤ longest_frame
called_short w states at call bytes short e = here (w.is_correct at) e
  where
    here : (b : Bool) → is_kept_answer (seen_call w states (if b then Some (record { at = at; call = call }) else None)) ≡ true → length bytes ≤ longest_frame
    here true e = short e
    here false e = absurd (cc e)

pub short_kept : KeptIsShort
short_kept w es (events.Frame to bytes) e =
    called_short w (states_before w es) to (Frame bytes) bytes (frame_short (rules_at w to) (w.keys to) (states_before w es to) bytes) e
short_kept w es (events.Input at bytes) e =
    called_short w (states_before w es) at (Input bytes) bytes (input_short (rules_at w at) (w.keys at) (states_before w es at) bytes) e
short_kept w es (events.Turn at) e = lit≤ tt
short_kept w es (events.Pass from to m) e = lit≤ tt
short_kept w es (events.Sealed from to body) e = lit≤ tt
