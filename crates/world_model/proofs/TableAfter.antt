-- The frames that a call makes, in the table.
use Rattle.std.proofs.Common.{◌≡◌, ◌≢◌, ℕ, ◌+◌, ◌<◌, ◌==◌, Bool, true, false, not, ◌&&◌, List, [], ◌∷◌, ◌++◌, length, map, filter, reverse, Some, Result, Ok, Err, refl, sym, ◌∙◌, ap, ap₂, subst, append-nil, if◌then◌else◌, inl, inr}
use Rattle.std.specs.List.{All, range_with_len}
use Rattle.std.proofs.lemmas.Bool.{eq-eqb, ne_eqb, eqb-true, not-true, false≢true}
use Rattle.std.proofs.lemmas.Bool.Decides.{eqb_tells}
use Rattle.std.proofs.lemmas.List.{reverse-append, reverse-reverse}
use Rattle.std.proofs.lemmas.List.Elements.{All-nil, All-head, All-tail, All-append, All-map, filter_passes, All-weaker}
use Rattle.ritas_base.specs.declared.item.Item.{Item}
use Rattle.ritas_base.specs.declared.item.Msg.{Msg}
use Rattle.ritas_base.specs.Messages.{reaches}
use Rattle.frame_codec.specs.declared.fault.BodyFault.{BodyFault}
use Rattle.frame_codec.specs.Body.{body_answer}
use Rattle.keyed_channel.specs.KeyRow.{KeyRow}
use Rattle.keyed_channel.specs.Frames.{Opening, opening}
use Rattle.keyed_channel.specs.declared.frame.OpenFault.{OpenFault}
use Rattle.ritas_core.specs.Rules.{Rules}
use Rattle.ritas_core.specs.Order.{sent_to}
use Rattle.ritas_core.specs.Machine as core
use Rattle.ritas_core.specs.Machine.{CoreState, What, moved}
use Rattle.replica.specs.Out.{OutFrame}
use Rattle.replica.specs.Frames.{frames_of, frame_for, receivers, count_for, made_for}
use Rattle.replica.specs.Handling.{ReplicaCall, Frame, Input, Turn, handled, given_frame, given_body}
use Rattle.replica.specs.MovesLaws.{moved_view}
use Rattle.replica.specs.Laws.{MadeByEntry}
use Rattle.world_model.specs.declared.seats.Seats.{Seats}
use Rattle.world_model.specs.World.{Setting, rules_at, CallAt, handled_at, after_call}
use Rattle.world_model.specs.FramesMade.{MadeTable, made_in, frames_to, with_frames}
use Rattle.world_model.specs.Stands.{SeatsStand, FramesStand, frames_from}
use Rattle.world_model.proofs.Tables.{AreBelow, made_by, made_in_more, square_all, frames_below}

-- ---- a call makes the frames of messages, and the frames made are those behind the ones before

pub record Makes (r : Rules) (k : KeyRow) (st : CoreState) (after : CoreState) (out : List OutFrame) : Type 0 where
  pub messages : List Msg
  pub frames : out ≡ frames_of k (count_for r st.history) messages
  pub made : (j : ℕ) → j < k.n → j ≢ k.me → made_for r k after.history j ≡ reverse (frames_to j out) ++ made_for r k st.history j

none_made : (r : Rules) (k : KeyRow) (st after : CoreState) (out : List OutFrame) → out ≡ [] → after.history ≡ st.history → Makes r k st after out
none_made r k st after out none same = record {
  messages = [];
  frames = none;
  made = λ j below other. ap (λ h. made_for r k h j) same ∙ ap (λ fs. reverse (frames_to j fs) ++ made_for r k st.history j) (sym none);
}

moved_makes : MadeByEntry → (r : Rules) (k : KeyRow) (st : CoreState) (what : What) →
    Makes r k st (moved r st what).state (frames_of k (count_for r st.history) (moved r st what).out)
moved_makes made r k st what = elim (moved_view r st what) [
  | inl enters ↦ record {
    messages = (moved r st what).out;
    frames = refl;
    made = λ j below other.
        ap (λ h. made_for r k h j) enters.history ∙ made r k st.history enters.entry j below other
        ∙ ap (λ ms. reverse (frames_to j (frames_of k (count_for r st.history) ms)) ++ made_for r k st.history j) (sym enters.out);
  }
  | inr quiet ↦ none_made r k st (moved r st what).state (frames_of k (count_for r st.history) (moved r st what).out)
      (ap (frames_of k (count_for r st.history)) quiet.out) quiet.history
]

body_makes : MadeByEntry → (r : Rules) (k : KeyRow) (st : CoreState) (read : Result Item BodyFault) → Makes r k st (given_body r k st read).state (given_body r k st read).out
body_makes made r k st (Ok item) = moved_makes made r k st (core.Frame item)
body_makes made r k st (Err fault) = none_made r k st st [] refl refl

frame_makes : MadeByEntry → (r : Rules) (k : KeyRow) (st : CoreState) (opened : Result Opening OpenFault) → Makes r k st (given_frame r k st opened).state (given_frame r k st opened).out
frame_makes made r k st (Ok o) = body_makes made r k st (body_answer r.casts.numbers r.mode o.from o.body)
frame_makes made r k st (Err fault) = none_made r k st st [] refl refl

pub handled_makes : MadeByEntry → (r : Rules) (k : KeyRow) (st : CoreState) (call : ReplicaCall) → Makes r k st (handled r k st call).state (handled r k st call).out
handled_makes made r k st (Frame bytes) = frame_makes made r k st (opening k bytes)
handled_makes made r k st (Input bytes) = moved_makes made r k st (core.Input bytes)
handled_makes made r k st Turn = moved_makes made r k st core.Turn

-- ---- no frame is for its maker

second_true : (a b : Bool) → (a && b) ≡ true → b ≡ true
second_true true b e = e
second_true false b e = absurd (cc)

others_only : (k : KeyRow) (counts : ℕ → ℕ) (ms : List Msg) → All (λ f. (f.to == k.me) ≡ false) (frames_of k counts ms)
others_only k counts [] = All-nil (λ f. (f.to == k.me) ≡ false)
others_only k counts (m ∷ ms) =
    All-append (λ f. (f.to == k.me) ≡ false) (map (λ j. frame_for k j (counts j) m) (receivers k m)) (frames_of k (λ j. counts j + length (sent_to j (m ∷ []))) ms)
    (All-map (λ f. (f.to == k.me) ≡ false) (λ j. frame_for k j (counts j) m) (receivers k m)
    (All-weaker (λ j. (reaches m.to j && not (j == k.me)) ≡ true) (λ j. (j == k.me) ≡ false)
    (λ j passes. not-true (j == k.me) (second_true (reaches m.to j) (not (j == k.me)) passes))
    (receivers k m) (filter_passes (λ j. reaches m.to j && not (j == k.me)) (range_with_len 0 k.n))))
    (others_only k (λ j. counts j + length (sent_to j (m ∷ []))) ms)

none_to : (j : ℕ) (frames : List OutFrame) → All (λ f. (f.to == j) ≡ false) frames → frames_to j frames ≡ []
none_to j [] others = refl
none_to j (f ∷ frames) others =
    ap (λ b. map (λ g. g.bytes) (if b then f ∷ filter (λ g. g.to == j) frames else filter (λ g. g.to == j) frames)) (All-head (λ g. (g.to == j) ≡ false) f frames others)
    ∙ none_to j frames (All-tail (λ g. (g.to == j) ≡ false) f frames others)

none_to_me : (r : Rules) (k : KeyRow) (st after : CoreState) (out : List OutFrame) → Makes r k st after out → frames_to k.me out ≡ []
none_to_me r k st after out makes = ap (frames_to k.me) makes.frames ∙ none_to k.me (frames_of k (count_for r st.history) makes.messages) (others_only k (count_for r st.history) makes.messages)

-- ---- the table after a call

abbrev made_there : Bool → Bool → List (List ℕ) → List (List ℕ)
made_there right me frames = if right && not me then reverse frames else []

more_there : (right : Bool) (me : Bool) (new old for : List (List ℕ)) → (me ≡ false → new ≡ reverse for ++ old) → (me ≡ true → for ≡ []) → right ≡ true
    → made_there right me old ++ for ≡ made_there right me new
more_there false me new old for others own e = absurd (cc)
more_there true true new old for others own e = own refl
more_there true false new old for others own e =
    sym (ap reverse (others refl) ∙ reverse-append (reverse for) old ∙ ap (λ x. reverse old ++ x) (reverse-reverse for))

-- the list of the maker
pub at_maker : MadeByEntry → (w : Setting) (states : ℕ → CoreState) (c : CallAt) (j : ℕ) → (w.keys c.at).me ≡ c.at → j < (w.keys c.at).n → w.is_correct c.at ≡ true
    → frames_from w states c.at j ++ frames_to j (handled_at w states c).out ≡ frames_from w (after_call w states (Some c)) c.at j
at_maker made w states c j own below right =
    let r = rules_at w c.at in
    let k = w.keys c.at in
    let did = handled_at w states c in
    let makes = handled_makes made r k (states c.at) c.call in
    let same : after_call w states (Some c) c.at ≡ did.state = ap (λ b. if b then did.state else states c.at) (eq-eqb c.at c.at refl) in
    more_there (w.is_correct c.at) (c.at == j) (made_for r k did.state.history j) (made_for r k (states c.at).history j) (frames_to j did.out)
    (λ differ. makes.made j below (λ e. false≢true (sym differ ∙ eq-eqb c.at j (sym (e ∙ own)))))
    (λ me. ap (λ x. frames_to x did.out) (sym (own ∙ eqb-true c.at j me)) ∙ none_to_me r k (states c.at) did.state did.out makes)
    right
    ∙ ap (λ st. made_there (w.is_correct c.at) (c.at == j) (made_for r k st.history j)) (sym same)

-- they are for replicas
pub out_below : MadeByEntry → (w : Setting) (seats : Seats) (states : ℕ → CoreState) (c : CallAt) → SeatsStand w seats → c.at < w.numbers.n
    → AreBelow w.numbers.n (handled_at w states c).out
out_below made w seats states c seats_stand at_below =
    let out = (handled_at w states c).out in
    let makes = handled_makes made (rules_at w c.at) (w.keys c.at) (states c.at) c.call in
    let P : ℕ → Type 0 = λ n. AreBelow n out in
    let Q : List OutFrame → Type 0 = λ fs. AreBelow (w.keys c.at).n fs in
    subst P (seats_stand.own c.at at_below).1 (subst Q (sym makes.frames) (frames_below (w.keys c.at) (count_for (rules_at w c.at) (states c.at).history) makes.messages))

-- the table stands for the states after a call, with the frames that it makes
pub table_after : MadeByEntry → (w : Setting) (seats : Seats) (states : ℕ → CoreState) (c : CallAt) (t : MadeTable) (event : ℕ) → SeatsStand w seats → FramesStand w states t
    → c.at < w.numbers.n → w.is_correct c.at ≡ true → FramesStand w (after_call w states (Some c)) (with_frames t event c.at (handled_at w states c).out)
table_after made w seats states c t event seats_stand stand at_below right =
    let did = handled_at w states c in
    let own = seats_stand.own c.at at_below in
    let below : AreBelow w.numbers.n did.out = out_below made w seats states c seats_stand at_below in
    record {
      square = square_all t w.numbers.n event c.at did.out stand.square;
      each = λ i j i_below j_below.
          made_in_more t w.numbers.n event c.at i j did.out stand.square at_below below i_below j_below
          ∙ elim (eqb_tells i c.at) [
            | inl same ↦
                let P : ℕ → Type 0 = λ x. made_in t x j ++ made_by c.at x j did.out ≡ frames_from w (after_call w states (Some c)) x j in
                subst P (sym same.1)
                (ap₂ (λ x y. x ++ y) (stand.each c.at j at_below j_below) (ap (λ b. if b then frames_to j did.out else []) (eq-eqb c.at c.at refl))
                ∙ at_maker made w states c j own.0 (subst (λ n. j < n) (sym own.1) j_below) right)
            | inr other ↦
                let kept : after_call w states (Some c) i ≡ states i = ap (λ b. if b then did.state else states i) (ne_eqb c.at i (λ e. other.1 (sym e))) in
                ap₂ (λ x y. x ++ y) (stand.each i j i_below j_below) (ap (λ b. if b then frames_to j did.out else []) other.0)
                ∙ append-nil (frames_from w states i j)
                ∙ ap (λ st. made_there (w.is_correct i) (i == j) (made_for (rules_at w i) (w.keys i) st.history j)) (sym kept)
          ];
    }
