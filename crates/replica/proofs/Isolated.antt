-- The answer to a frame and what it makes go by the history and by what is held for its sender.
use Rattle.std.specs.Prelude.{◌≡◌, ◌≢◌, ℕ, Bool, true, false, List, [], ◌∷◌, ◌++◌, drop, length, map, Option, Some, None, Result, Ok, Err, refl, if◌then◌else◌}
use Rattle.std.proofs.Common.{sym, ◌∙◌, ap, subst, append-nil}
use Rattle.std.proofs.lemmas.List.{get_or-set_other}
use Rattle.ritas_base.specs.declared.item.Item.{Item}
use Rattle.ritas_base.specs.declared.item.Kind.{Kind}
use Rattle.ritas_base.specs.declared.slot.Slot.{Slot}
use Rattle.ritas_base.specs.declared.mode.Mode.{Mode}
use Rattle.ritas_base.specs.Numbers.{Numbers}
use Rattle.frame_codec.specs.declared.fault.BodyFault.{BodyFault}
use Rattle.frame_codec.specs.declared.fault.BodyFault.TheVariants as body
use Rattle.frame_codec.specs.Format.{read}
use Rattle.frame_codec.specs.Grammar.{payload}
use Rattle.frame_codec.specs.Body.{body_answer, head_answer, payload_fault, unless}
use Rattle.frame_codec.proofs.Formats.{bind_ok}
use Rattle.keyed_channel.specs.KeyRow.{KeyRow}
use Rattle.keyed_channel.specs.Frames.{Opening, opening}
use Rattle.keyed_channel.specs.declared.frame.OpenFault.{OpenFault}
use Rattle.ooc_buffers.specs.Lists.{HeldItem, held_of_peer, passing, released}
use Rattle.ritas_core.specs.declared.answer.Answer.{Answer}
use Rattle.ritas_core.specs.declared.answer.Answer.TheVariants as answers
use Rattle.ritas_core.specs.declared.fault.CoreFault.TheVariants as faults
use Rattle.ritas_core.specs.declared.verdict.Verdict.{Verdict}
use Rattle.ritas_core.specs.declared.verdict.Verdict.TheVariants as verdicts
use Rattle.ritas_core.specs.Rules.{Rules}
use Rattle.ritas_core.specs.Parts.{Parts, Entry, Took, parts}
use Rattle.ritas_core.specs.Checks.{verdict_on, body_length, is_open}
use Rattle.ritas_core.specs.Order.{new_messages, own_items}
use Rattle.ritas_core.specs.Machine as core
use Rattle.ritas_core.specs.Machine.{CoreState, gives_item, stays, given_item, moved}
use Rattle.replica.specs.Out.{OutFrame}
use Rattle.replica.specs.declared.refusal.Refusal.{Refusal}
use Rattle.replica.specs.declared.refusal.Refusal.TheVariants as refusals
use Rattle.replica.specs.Frames.{frames_of, count_for}
use Rattle.replica.specs.Handling.{Frame, Handled, framed, given_body, given_frame, handled}
use Rattle.replica.specs.Stands.{body_given, frame_given, ReplicaDoes, ReplicaDoesAll, DoesOpened}
use Rattle.replica.specs.Isolation.{AreAlike, AreAlikeTo, SameOutcome, messages_of, own_made, Isolates, JoinsInbox, OwnJoin, UnopenedIsNothing, IsConfined, Confines, IsAs, StandsWithOwn, IsIsolated, IsOpenedIsolated}

-- ---- what is read is from the frame's sender

item_from : (p : Numbers) (mode : Mode) (from : ℕ) (bytes : List ℕ) (item : Item) → body_answer p mode from bytes ≡ Ok item → item.from ≡ from
unfolding body_answer
item_from p mode from bytes item e =
    let b = bind_ok (head_answer p mode bytes) rest item e in
    un (payload_fault (length bytes) (read (payload p mode b.0.0 b.0.1) (drop 10 bytes))) _ refl b.2
  where
    rest : Kind × Slot → Result Item BodyFault
    rest head =
        unless (payload_fault (length bytes) (read (payload p mode head.0 head.1) (drop 10 bytes)))
        (Ok (record { from = from; kind = head.0; slot = head.1; value = drop 10 bytes }))

    un : (f : Option BodyFault) (made : Item) → made.from ≡ from → unless f (Ok made) ≡ Ok item → item.from ≡ from
    un None made is e = let same : made ≡ item = cc in sym (ap (λ (x : Item). x.from) same) ∙ is
    un (Some x) made is e = absurd cc

-- ---- what is answered and put out

-- of what is held the verdict looks at the sender's alone
same_verdict : (r : Rules) (p : Parts) (a b : List (List HeldItem)) (item : Item) → held_of_peer a item.from ≡ held_of_peer b item.from
    → verdict_on r p a item ≡ verdict_on r p b item
unfolding verdict_on
same_verdict r p a b item e = rw e refl

same_given : (r : Rules) (k : KeyRow) (a b : CoreState) (item : Item) (v : Verdict) → a.history ≡ b.history
    → SameOutcome (framed r k a (gives_item r a item a.inbox v)) (framed r k b (gives_item r b item b.inbox v))
same_given r k a b item (verdicts.Refuse fault) e = record { answer = refl; out = refl }
same_given r k a b item verdicts.Again e = record { answer = refl; out = refl }
same_given r k a b item verdicts.Hold e = record { answer = refl; out = refl }
same_given r k a b item verdicts.Take e =
    record { answer = refl; out = ap (λ (h : List Entry). frames_of k (count_for r h) (new_messages r h (Took item))) e }

same_moved : (r : Rules) (k : KeyRow) (a b : CoreState) (item : Item) → AreAlike item.from a b
    → SameOutcome (framed r k a (moved r a (core.Frame item))) (framed r k b (moved r b (core.Frame item)))
same_moved r k a b item same = go a.live b.live same.live
  where
    v : verdict_on r (parts r a.history) a.held item ≡ verdict_on r (parts r b.history) b.held item
    v =
        ap (λ (h : List Entry). verdict_on r (parts r h) a.held item) same.history
        ∙ same_verdict r (parts r b.history) a.held b.held item same.held

    go : (x y : Bool) → x ≡ y → SameOutcome
        (framed r k a (if x then given_item r a item a.inbox else stays a a.inbox (Err faults.Stopped)))
        (framed r k b (if y then given_item r b item b.inbox else stays b b.inbox (Err faults.Stopped)))
    go true true e =
        let P : Verdict → Type 0 = λ z. SameOutcome (framed r k a (given_item r a item a.inbox)) (framed r k b (gives_item r b item b.inbox z)) in
        subst P v (same_given r k a b item (verdict_on r (parts r a.history) a.held item) same.history)
    go false false e = record { answer = refl; out = refl }
    go true false e = absurd cc
    go false true e = absurd cc

same_body : (r : Rules) (k : KeyRow) (a b : CoreState) (from : ℕ) (found : Result Item BodyFault)
    → ((item : Item) → found ≡ Ok item → item.from ≡ from) → AreAlike from a b → SameOutcome (given_body r k a found) (given_body r k b found)
same_body r k a b from (Err fault) is same = record { answer = refl; out = refl }
same_body r k a b from (Ok item) is same = same_moved r k a b item (subst (λ (j : ℕ). AreAlike j a b) (sym (is item refl)) same)

same_frame : (r : Rules) (k : KeyRow) (a b : CoreState) (found : Result Opening OpenFault) → ((o : Opening) → found ≡ Ok o → AreAlike o.from a b)
    → SameOutcome (given_frame r k a found) (given_frame r k b found)
same_frame r k a b (Err fault) same = record { answer = refl; out = refl }
same_frame r k a b (Ok o) same =
    same_body r k a b o.from (body_answer r.casts.numbers r.mode o.from o.body)
    (λ item e. item_from r.casts.numbers r.mode o.from o.body item e) (same o refl)

-- ---- the messages that it makes

same_given_out : (r : Rules) (a b : CoreState) (item : Item) (v : Verdict) → a.history ≡ b.history
    → (gives_item r a item a.inbox v).out ≡ (gives_item r b item b.inbox v).out
same_given_out r a b item (verdicts.Refuse fault) e = refl
same_given_out r a b item verdicts.Again e = refl
same_given_out r a b item verdicts.Hold e = refl
same_given_out r a b item verdicts.Take e = ap (λ (h : List Entry). new_messages r h (Took item)) e

same_moved_out : (r : Rules) (a b : CoreState) (item : Item) → AreAlike item.from a b → (moved r a (core.Frame item)).out ≡ (moved r b (core.Frame item)).out
same_moved_out r a b item same = go a.live b.live same.live
  where
    v : verdict_on r (parts r a.history) a.held item ≡ verdict_on r (parts r b.history) b.held item
    v =
        ap (λ (h : List Entry). verdict_on r (parts r h) a.held item) same.history
        ∙ same_verdict r (parts r b.history) a.held b.held item same.held

    go : (x y : Bool) → x ≡ y → (if x then given_item r a item a.inbox else stays a a.inbox (Err faults.Stopped)).out
        ≡ (if y then given_item r b item b.inbox else stays b b.inbox (Err faults.Stopped)).out
    go true true e =
        let P : Verdict → Type 0 = λ z. (given_item r a item a.inbox).out ≡ (gives_item r b item b.inbox z).out in
        subst P v (same_given_out r a b item (verdict_on r (parts r a.history) a.held item) same.history)
    go false false e = refl
    go true false e = absurd cc
    go false true e = absurd cc

same_body_out : (r : Rules) (a b : CoreState) (from : ℕ) (found : Result Item BodyFault)
    → ((item : Item) → found ≡ Ok item → item.from ≡ from) → AreAlike from a b → messages_of r a (body_given found) ≡ messages_of r b (body_given found)
same_body_out r a b from (Err fault) is same = refl
same_body_out r a b from (Ok item) is same = same_moved_out r a b item (subst (λ (j : ℕ). AreAlike j a b) (sym (is item refl)) same)

same_frame_out : (r : Rules) (a b : CoreState) (found : Result Opening OpenFault) → ((o : Opening) → found ≡ Ok o → AreAlike o.from a b)
    → messages_of r a (frame_given r found) ≡ messages_of r b (frame_given r found)
same_frame_out r a b (Err fault) same = refl
same_frame_out r a b (Ok o) same =
    same_body_out r a b o.from (body_answer r.casts.numbers r.mode o.from o.body)
    (λ item e. item_from r.casts.numbers r.mode o.from o.body item e) (same o refl)

pub isolates : Isolates
isolates r k a b bytes same = (same_frame r k a b (opening k bytes) same, ap (own_items r.casts.me) (same_frame_out r a b (opening k bytes) same))

-- ---- what comes into the inbox

passing_none : (kept : List HeldItem) → passing (λ x. false) kept ≡ []
passing_none [] = refl
passing_none (x ∷ kept) = passing_none kept

released_none : (held : List (List HeldItem)) → released (λ x. false) held ≡ []
released_none [] = refl
released_none (kept ∷ held) = ap (λ (xs : List HeldItem). map (λ x. x.item) xs ++ released (λ x. false) held) (passing_none kept) ∙ released_none held

none_join : (old new : CoreState) → new.inbox ≡ old.inbox → JoinsInbox [] old new
none_join old new e = record {
  opened = λ x. false;
  inbox =
      e ∙ sym (append-nil old.inbox) ∙ sym (append-nil (old.inbox ++ []))
      ∙ ap (λ (xs : List Item). (old.inbox ++ []) ++ xs) (sym (released_none old.held));
}

given_joins : (r : Rules) (st : CoreState) (item : Item) (v : Verdict)
    → JoinsInbox (own_items r.casts.me (gives_item r st item st.inbox v).out) st (gives_item r st item st.inbox v).state
given_joins r st item (verdicts.Refuse fault) = none_join st (record st { inbox = st.inbox }) refl
given_joins r st item verdicts.Again = none_join st (record st { inbox = st.inbox }) refl
given_joins r st item verdicts.Hold = none_join st (gives_item r st item st.inbox verdicts.Hold).state refl
given_joins r st item verdicts.Take = record { opened = λ x. is_open r (parts r (Took item ∷ st.history)) x; inbox = refl }

live_joins : (r : Rules) (st : CoreState) (item : Item) (live : Bool) →
    let did = if live then given_item r st item st.inbox else stays st st.inbox (Err faults.Stopped) in
    JoinsInbox (own_items r.casts.me did.out) st did.state
live_joins r st item true = given_joins r st item (verdict_on r (parts r st.history) st.held item)
live_joins r st item false = none_join st (record st { inbox = st.inbox }) refl

body_joins : (r : Rules) (k : KeyRow) (st : CoreState) (found : Result Item BodyFault)
    → JoinsInbox (own_items r.casts.me (messages_of r st (body_given found))) st (given_body r k st found).state
body_joins r k st (Err fault) = none_join st st refl
body_joins r k st (Ok item) = live_joins r st item st.live

frame_joins : (r : Rules) (k : KeyRow) (st : CoreState) (found : Result Opening OpenFault)
    → JoinsInbox (own_items r.casts.me (messages_of r st (frame_given r found))) st (given_frame r k st found).state
frame_joins r k st (Err fault) = none_join st st refl
frame_joins r k st (Ok o) = body_joins r k st (body_answer r.casts.numbers r.mode o.from o.body)

pub own_join : OwnJoin
own_join r k st bytes = frame_joins r k st (opening k bytes)

pub unopened : UnopenedIsNothing
unopened r k st bytes fault e = ap (given_frame r k st) e

-- ---- what stays

confined_given : (r : Rules) (k : KeyRow) (st : CoreState) (item : Item) (v : Verdict)
    → (framed r k st (gives_item r st item st.inbox v)).answer ≢ Ok answers.Took → IsConfined item.from st (framed r k st (gives_item r st item st.inbox v)).state
confined_given r k st item (verdicts.Refuse fault) but = record { history = refl; inbox = refl; held = λ j apart. refl }
confined_given r k st item verdicts.Again but = record { history = refl; inbox = refl; held = λ j apart. refl }
confined_given r k st item verdicts.Hold but = record {
  history = refl;
  inbox = refl;
  held = λ j apart. get_or-set_other st.held item.from j (held_of_peer st.held item.from ++ record { item = item; len = body_length item } ∷ []) [] apart;
}
confined_given r k st item verdicts.Take but = absurd (but refl)

confined_live : (r : Rules) (k : KeyRow) (st : CoreState) (item : Item) (live : Bool) →
    let h = framed r k st (if live then given_item r st item st.inbox else stays st st.inbox (Err faults.Stopped)) in
    h.answer ≢ Ok answers.Took → IsConfined item.from st h.state
confined_live r k st item true but = confined_given r k st item (verdict_on r (parts r st.history) st.held item) but
confined_live r k st item false but = record { history = refl; inbox = refl; held = λ j apart. refl }

confined_body : (r : Rules) (k : KeyRow) (st : CoreState) (from : ℕ) (found : Result Item BodyFault)
    → ((item : Item) → found ≡ Ok item → item.from ≡ from) → (given_body r k st found).answer ≢ Ok answers.Took
    → IsConfined from st (given_body r k st found).state
confined_body r k st from (Err fault) is but = record { history = refl; inbox = refl; held = λ j apart. refl }
confined_body r k st from (Ok item) is but =
    subst (λ (j : ℕ). IsConfined j st (given_body r k st (Ok item)).state) (is item refl) (confined_live r k st item st.live but)

pub confines : Confines
confines r k st bytes o e but =
    let found = body_answer r.casts.numbers r.mode o.from o.body in
    let is : handled r k st (Frame bytes) ≡ given_body r k st found = ap (given_frame r k st) e in
    subst (λ (h : Handled). IsConfined o.from st h.state) (sym is)
    (confined_body r k st o.from found (λ item q. item_from r.casts.numbers r.mode o.from o.body item q) (λ q. but (ap (λ (h : Handled). h.answer) is ∙ q)))

-- ---- at a replica

-- what it sends itself in each state that is alike comes into its inbox
leaves_own : {R : Type 0} (Stands : R → Rules → KeyRow → CoreState → Type 0) (new : R) (bytes : List ℕ) (r : Rules) (k : KeyRow) (st other : CoreState)
    → Stands new r k (handled r k st (Frame bytes)).state → own_made r k st bytes ≡ own_made r k other bytes → StandsWithOwn Stands new r k (own_made r k other bytes) st
leaves_own Stands new bytes r k st other stands same = record {
  now = (handled r k st (Frame bytes)).state;
  stands = stands;
  joins = subst (λ (own : List Item). JoinsInbox own st (handled r k st (Frame bytes)).state) same (own_join r k st bytes);
}

-- a call that did what the abstract replica does in its state did what that does in each that is alike
as_alike : {R : Type 0} (Stands : R → Rules → KeyRow → CoreState → Type 0) (new : R) (bytes : List ℕ) (before after : List OutFrame) (result : Result Answer Refusal)
    (r : Rules) (k : KeyRow) (st other : CoreState) → ReplicaDoes Stands new (Frame bytes) before after result r k st → AreAlikeTo k bytes st other
    → IsAs (handled r k other (Frame bytes)) (StandsWithOwn Stands new r k (own_made r k other bytes) st) before after result
as_alike Stands new bytes before after (Err (refusals.Core faults.Mem)) r k st other did same = tt
as_alike Stands new bytes before after (Err (refusals.Body body.Mem)) r k st other did same = tt
as_alike Stands new bytes before after (Ok answer) r k st other did same =
    let s = isolates r k st other bytes same in (
      did.answer ∙ s.0.answer,
      did.out ∙ ap (λ (xs : List OutFrame). before ++ xs) s.0.out,
      leaves_own Stands new bytes r k st other did.state s.1,
    )
as_alike Stands new bytes before after (Err fault) r k st other did same =
    let s = isolates r k st other bytes same in (
      did.answer ∙ s.0.answer,
      did.out ∙ ap (λ (xs : List OutFrame). before ++ xs) s.0.out,
      leaves_own Stands new bytes r k st other did.state s.1,
    )

same_opening : (x : Result Opening OpenFault) (a b : Opening) → x ≡ Ok a → x ≡ Ok b → a ≡ b
same_opening x a b e f = cc

pub isolated : {R : Type 0} (Stands : R → Rules → KeyRow → CoreState → Type 0) (old new : R) (bytes : List ℕ) (before after : List OutFrame) (result : Result Answer Refusal)
    → ReplicaDoesAll Stands old new (Frame bytes) before after result → IsIsolated Stands old new bytes before after result
isolated Stands old new bytes before after result does r k st other stands same =
    as_alike Stands new bytes before after result r k st other (does r k st stands) same

pub opened_isolated : {R : Type 0} (Stands : R → Rules → KeyRow → CoreState → Type 0) (old new : R) (from : ℕ) (text : List ℕ) (before after : List OutFrame) (result : Result Answer Refusal)
    → DoesOpened Stands old new from text before after result → IsOpenedIsolated Stands old new from text before after result
opened_isolated Stands old new from text before after result does r k st other stands same bytes seq opens =
    as_alike Stands new bytes before after result r k st other (does r k st stands bytes seq opens)
    (λ o e. let is = same_opening (opening k bytes) (record { from = from; seq = seq; body = text }) o opens e in subst (λ (x : Opening). AreAlike x.from st other) is same)
