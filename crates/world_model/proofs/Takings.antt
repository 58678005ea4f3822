-- The item that a call made a replica take, as the code finds it.
use Rattle.std.proofs.Common.{◌≡◌, ℕ, Bool, true, false, Option, Some, None, Result, Ok, Err, List, [], ◌∷◌, refl, sym, ◌∙◌, ap, ap₂, subst, if◌then◌else◌}
use Rattle.ritas_base.specs.declared.item.Item.{Item}
use Rattle.ritas_base.specs.declared.mode.Mode.{Mode}
use Rattle.ritas_base.specs.Numbers.{Numbers, IsSession}
use Rattle.frame_codec.specs.declared.fault.BodyFault.{BodyFault}
use Rattle.frame_codec.specs.Body.{IsInGrammar, body_answer}
use Rattle.frame_codec.specs.Laws.{AnswersGood}
use Rattle.keyed_channel.specs.KeyRow.{KeyRow}
use Rattle.keyed_channel.specs.declared.frame.OpenFault.{OpenFault}
use Rattle.keyed_channel.specs.Frames.{Opening, opening}
use Rattle.keyed_channel.specs.FramesLaws.{IsOpened, opened_is}
use Rattle.ritas_core.specs.declared.fault.CoreFault.{CoreFault}
use Rattle.ritas_core.specs.declared.fault.CoreFault.TheVariants as faults
use Rattle.ritas_core.specs.declared.verdict.Verdict.{Verdict}
use Rattle.ritas_core.specs.declared.verdict.Verdict.TheVariants as verdicts
use Rattle.ritas_core.specs.Rules.{Rules}
use Rattle.ritas_core.specs.Parts.{parts}
use Rattle.ritas_core.specs.Checks.{verdict_on, input_check}
use Rattle.ritas_core.specs.Shown.{first_waiting}
use Rattle.ritas_core.specs.Machine as core
use Rattle.ritas_core.specs.Machine.{CoreState, What, Moved, stays, gives_item, given_input, turned, moved_live, moved}
use Rattle.replica.specs.Handling.{Frame, Input, Turn, Handled, core_answer, given_body, given_frame, handled}
use Rattle.world_model.specs.declared.seats.Seats.{Seats}
use Rattle.world_model.specs.declared.seen.Seen.{Seen}
use Rattle.world_model.specs.World.{Setting, rules_at, CallAt, call_at, seen_answer, seen_call}
use Rattle.world_model.specs.Audit.{newest_item}
use Rattle.world_model.specs.Stands.{SeatsStand}
use Rattle.world_model.specs.Watch.{item_taken, watched, IsGoodIf}
use Rattle.world_model.specs.Steps.{is_took, IsInboxFront, IsFrameItem}
use Rattle.world_model.proofs.Histories.{newest_taken, newest_none}

-- ---- what a call offers, and takes where it was taken

-- the item that a call on a core offers
abbrev pub offered : CoreState → What → Option Item
offered st (core.Frame item) = Some item
offered st (core.Input v) = None
offered st core.Turn = first_waiting st.inbox

-- a move takes what was offered, where it was taken
abbrev pub Takes : CoreState → Option Item → Moved → Type 0
Takes st item did = newest_item st.history did.state.history ≡ (if is_took (seen_answer (core_answer did.answer)) then item else None)

gives_takes : (r : Rules) (st : CoreState) (item : Item) (waiting : List Item) (v : Verdict) → Takes st (Some item) (gives_item r st item waiting v)
gives_takes r st item waiting (verdicts.Refuse fault) = newest_none st.history
gives_takes r st item waiting verdicts.Again = newest_none st.history
gives_takes r st item waiting verdicts.Hold = newest_none st.history
gives_takes r st item waiting verdicts.Take = newest_taken st.history item

input_takes : (r : Rules) (st : CoreState) (v : List ℕ) (check : Option CoreFault) → Takes st None (given_input r st v check)
input_takes r st v (Some fault) = newest_none st.history
input_takes r st v None = refl

turn_takes : (r : Rules) (st : CoreState) (waiting : List Item) → Takes st (first_waiting waiting) (turned r st waiting)
turn_takes r st [] = newest_none st.history
turn_takes r st (item ∷ waiting) = gives_takes r st item waiting (verdict_on r (parts r st.history) st.held item)

live_takes : (r : Rules) (st : CoreState) (what : What) → Takes st (offered st what) (moved_live r st what)
live_takes r st (core.Frame item) = gives_takes r st item st.inbox (verdict_on r (parts r st.history) st.held item)
live_takes r st (core.Input v) = input_takes r st v (input_check r (parts r st.history) v)
live_takes r st core.Turn = turn_takes r st st.inbox

if_takes : (r : Rules) (st : CoreState) (what : What) (live : Bool) → Takes st (offered st what) (if live then moved_live r st what else stays st st.inbox (Err faults.Stopped))
if_takes r st what true = live_takes r st what
if_takes r st what false = newest_none st.history

moved_takes : (r : Rules) (st : CoreState) (what : What) → Takes st (offered st what) (moved r st what)
moved_takes r st what = if_takes r st what st.live

-- the item of a frame
abbrev pub body_offers : Result Item BodyFault → Option Item
body_offers (Ok item) = Some item
body_offers (Err fault) = None

abbrev pub frame_offers : Rules → Result Opening OpenFault → Option Item
frame_offers r (Ok o) = body_offers (body_answer r.casts.numbers r.mode o.from o.body)
frame_offers r (Err fault) = None

-- the same of a replica
abbrev pub TakesIn : CoreState → Option Item → Handled → Type 0
TakesIn st item did = newest_item st.history did.state.history ≡ (if is_took (seen_answer did.answer) then item else None)

body_takes : (r : Rules) (k : KeyRow) (st : CoreState) (read : Result Item BodyFault) → TakesIn st (body_offers read) (given_body r k st read)
body_takes r k st (Ok item) = moved_takes r st (core.Frame item)
body_takes r k st (Err fault) = newest_none st.history

frame_takes : (r : Rules) (k : KeyRow) (st : CoreState) (opened : Result Opening OpenFault) → TakesIn st (frame_offers r opened) (given_frame r k st opened)
frame_takes r k st (Ok o) = body_takes r k st (body_answer r.casts.numbers r.mode o.from o.body)
frame_takes r k st (Err fault) = newest_none st.history

-- ---- what the watch is told of

pub record IsItemOf (w : Setting) (states : ℕ → CoreState) (c : Option CallAt) (taken : Option Item) : Type 0 where
  pub is : taken ≡ watched w.mode (item_taken w states c)
  pub good : IsGoodIf w (item_taken w states c)

pub good_none : (w : Setting) (taken : Option Item) → taken ≡ None → IsGoodIf w taken
good_none w taken none = subst (λ (o : Option Item). IsGoodIf w o) (sym none) tt

no_item : (w : Setting) (states : ℕ → CoreState) (c : Option CallAt) (taken : Option Item) → taken ≡ None → item_taken w states c ≡ None → IsItemOf w states c taken
no_item w states c taken none is = record { is = none ∙ ap (watched w.mode) (sym is); good = good_none w (item_taken w states c) is }

none_either : (b : Bool) (o : Option Item) → b ≡ false → (if b then o else None) ≡ None
none_either b o missed = ap (λ x. if x then o else None) missed

-- ---- a frame

-- what the code found of a frame that opened and was read
read_item : (w : Setting) (states : ℕ → CoreState) (c : Option CallAt) (seen : Seen) (item : Item) (found : Option Item) (b : Bool) → is_took seen ≡ b → IsInGrammar w.numbers w.mode item →
    item_taken w states c ≡ (if is_took seen then Some item else None) → (is_took seen ≡ false → found ≡ None) → (is_took seen ≡ true → found ≡ watched w.mode (Some item)) → IsItemOf w states c found
read_item w states c seen item found true took good takes missed is =
    let there = takes ∙ ap (λ x. if x then Some item else None) took in
    record {
      is = is took ∙ sym (ap (watched w.mode) there);
      good = subst (λ (o : Option Item). IsGoodIf w o) (sym there) good;
    }
read_item w states c seen item found false took good takes missed is = no_item w states c found (missed took) (takes ∙ none_either (is_took seen) (Some item) took)

record IsReadAt (w : Setting) (seats : Seats) (bytes : List ℕ) (seen : Seen) (found : Option Item) (o : Opening) : Type 0 where
  missed : is_took seen ≡ false → found ≡ None
  took : (item : Item) → is_took seen ≡ true → body_answer w.numbers w.mode o.from o.body ≡ Ok item → found ≡ watched w.mode (Some item)

read_at : (w : Setting) (seats : Seats) (at : ℕ) (bytes : List ℕ) (seen : Seen) (found : Option Item) (o : Opening) → SeatsStand w seats → IsFrameItem seats.params seats.mode seen bytes found →
    IsOpened (w.keys at) bytes o → IsReadAt w seats bytes seen found o
read_at w seats at bytes seen found o stand item opened = record {
  missed = item.missed;
  took = λ x took reads.
      item.took x took (subst (λ (p : Numbers). IsSession p) (sym stand.numbers) stand.session) opened.plain.long
      (ap (λ (p : Opening). body_answer seats.params seats.mode p.from p.body) opened.parts
      ∙ ap₂ (λ (p : Numbers) (mode : Mode). body_answer p mode o.from o.body) stand.numbers stand.mode ∙ reads)
      ∙ ap (λ (mode : Mode). watched mode (Some x)) stand.mode;
}

body_item_is : AnswersGood → (w : Setting) (seats : Seats) (states : ℕ → CoreState) (at : ℕ) (c : Option CallAt) (bytes : List ℕ) (seen : Seen) (found : Option Item) (o : Opening) (read : Result Item BodyFault) → IsSession w.numbers →
    IsReadAt w seats bytes seen found o → body_answer w.numbers w.mode o.from o.body ≡ read → seen ≡ seen_answer (given_body (rules_at w at) (w.keys at) (states at) read).answer →
    item_taken w states c ≡ newest_item (states at).history (given_body (rules_at w at) (w.keys at) (states at) read).state.history → IsItemOf w states c found
body_item_is good w seats states at c bytes seen found o (Ok item) session at_read reads saw is =
    read_item w states c seen item found (is_took seen) refl (good w.numbers w.mode o.from o.body item session reads).0
    (is ∙ body_takes (rules_at w at) (w.keys at) (states at) (Ok item) ∙ ap (λ s. if is_took s then Some item else None) (sym saw)) at_read.missed (λ took. at_read.took item took reads)
body_item_is good w seats states at c bytes seen found o (Err fault) session at_read reads saw is =
    no_item w states c found (at_read.missed (ap is_took saw)) (is ∙ newest_none (states at).history)

opened_item_is : AnswersGood → (w : Setting) (seats : Seats) (states : ℕ → CoreState) (at : ℕ) (c : Option CallAt) (bytes : List ℕ) (seen : Seen) (found : Option Item) (opened : Result Opening OpenFault) → SeatsStand w seats →
    IsFrameItem seats.params seats.mode seen bytes found → opening (w.keys at) bytes ≡ opened → seen ≡ seen_answer (given_frame (rules_at w at) (w.keys at) (states at) opened).answer →
    item_taken w states c ≡ newest_item (states at).history (given_frame (rules_at w at) (w.keys at) (states at) opened).state.history → IsItemOf w states c found
opened_item_is good w seats states at c bytes seen found (Ok o) stand item opens saw is =
    body_item_is good w seats states at c bytes seen found o (body_answer w.numbers w.mode o.from o.body) stand.session
    (read_at w seats at bytes seen found o stand item (opened_is (w.keys at) bytes o opens)) refl saw is
opened_item_is good w seats states at c bytes seen found (Err fault) stand item opens saw is =
    no_item w states c found (item.missed (ap is_took saw)) (is ∙ newest_none (states at).history)

frame_either : AnswersGood → (w : Setting) (seats : Seats) (states : ℕ → CoreState) (at : ℕ) (bytes : List ℕ) (found : Option Item) (seen : Seen) (b : Bool) → SeatsStand w seats →
    IsFrameItem seats.params seats.mode seen bytes found → seen ≡ seen_call w states (if b then Some (record { at = at; call = Frame bytes }) else None) →
    IsItemOf w states (if b then Some (record { at = at; call = Frame bytes }) else None) found
frame_either good w seats states at bytes found seen true stand item saw =
    opened_item_is good w seats states at (Some (record { at = at; call = Frame bytes })) bytes seen found (opening (w.keys at) bytes) stand item refl saw refl
frame_either good w seats states at bytes found seen false stand item saw = no_item w states None found (item.missed (ap is_took saw)) refl

pub frame_item_is : AnswersGood → (w : Setting) (seats : Seats) (states : ℕ → CoreState) (at : ℕ) (bytes : List ℕ) (found : Option Item) (seen : Seen) → SeatsStand w seats →
    IsFrameItem seats.params seats.mode seen bytes found → seen ≡ seen_call w states (call_at w at (Frame bytes)) → IsItemOf w states (call_at w at (Frame bytes)) found
frame_item_is good w seats states at bytes found seen stand item saw = frame_either good w seats states at bytes found seen (w.is_correct at) stand item saw

-- ---- an input

either_none : (b : Bool) (o : Option Item) → o ≡ (if b then None else None) → o ≡ None
either_none true o e = e
either_none false o e = e

input_either : (w : Setting) (states : ℕ → CoreState) (at : ℕ) (bytes : List ℕ) (taken : Option Item) (b : Bool) → taken ≡ None →
    IsItemOf w states (if b then Some (record { at = at; call = Input bytes }) else None) taken
input_either w states at bytes taken true none =
    let did = handled (rules_at w at) (w.keys at) (states at) (Input bytes) in
    no_item w states (Some (record { at = at; call = Input bytes })) taken none
    (either_none (is_took (seen_answer did.answer)) (newest_item (states at).history did.state.history) (moved_takes (rules_at w at) (states at) (core.Input bytes)))
input_either w states at bytes taken false none = no_item w states None taken none refl

pub input_item_is : (w : Setting) (states : ℕ → CoreState) (at : ℕ) (bytes : List ℕ) (taken : Option Item) → taken ≡ None → IsItemOf w states (call_at w at (Input bytes)) taken
input_item_is w states at bytes taken none = input_either w states at bytes taken (w.is_correct at) none

-- ---- a turn

front_either : (w : Setting) (states : ℕ → CoreState) (c : Option CallAt) (at : ℕ) (taken front : Option Item) (seen : Seen) (b : Bool) → is_took seen ≡ b → IsInboxFront w states at front →
    taken ≡ (if is_took seen then front else None) → item_taken w states c ≡ (if is_took seen then first_waiting (states at).inbox else None) → IsItemOf w states c taken
front_either w states c at taken front seen true took first is takes =
    let here : taken ≡ front = is ∙ ap (λ x. if x then front else None) took in
    let there = takes ∙ ap (λ x. if x then first_waiting (states at).inbox else None) took in
    record {
      is = here ∙ first.is ∙ sym (ap (watched w.mode) there);
      good = subst (λ (o : Option Item). IsGoodIf w o) (sym there) first.good;
    }
front_either w states c at taken front seen false took first is takes =
    no_item w states c taken (is ∙ none_either (is_took seen) front took) (takes ∙ none_either (is_took seen) (first_waiting (states at).inbox) took)

turn_either : (w : Setting) (states : ℕ → CoreState) (at : ℕ) (taken front : Option Item) (seen : Seen) (b : Bool) → (b ≡ true → IsInboxFront w states at front) →
    taken ≡ (if is_took seen then front else None) → seen ≡ seen_call w states (if b then Some (record { at = at; call = Turn }) else None) →
    IsItemOf w states (if b then Some (record { at = at; call = Turn }) else None) taken
turn_either w states at taken front seen true first is saw =
    front_either w states (Some (record { at = at; call = Turn })) at taken front seen (is_took seen) refl (first refl) is
    (moved_takes (rules_at w at) (states at) core.Turn ∙ ap (λ s. if is_took s then first_waiting (states at).inbox else None) (sym saw))
turn_either w states at taken front seen false first is saw =
    no_item w states None taken (is ∙ none_either (is_took seen) front (ap is_took saw)) refl

pub turn_item_is : (w : Setting) (states : ℕ → CoreState) (at : ℕ) (taken front : Option Item) (seen : Seen) → (w.is_correct at ≡ true → IsInboxFront w states at front) →
    taken ≡ (if is_took seen then front else None) → seen ≡ seen_call w states (call_at w at Turn) → IsItemOf w states (call_at w at Turn) taken
turn_item_is w states at taken front seen first is saw = turn_either w states at taken front seen (w.is_correct at) first is saw
