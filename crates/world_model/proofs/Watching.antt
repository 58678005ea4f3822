-- A call, as the watch of a world is told of it.
use Rattle.std.proofs.Common.{◌≡◌, ◌≢◌, ℕ, ◌<◌, Bool, true, false, not, ◌==◌, ◌&&◌, ◌||◌, cond, Option, Some, None, List, [], ◌∷◌, ◌++◌, map, refl, sym, ◌∙◌, ap, ap₂, subst, inl, inr, arith, if◌then◌else◌}
use Rattle.std.specs.List.{list_any, range_with_len, slice_get}
use Rattle.std.specs.Option.{option_or, is_none, is_some}
use Rattle.std.proofs.lemmas.Option.{same_Some}
use Rattle.std.proofs.lemmas.Bool.{or_parts, or_cases, eq-eqb, eqb-true, false≢true}
use Rattle.ritas_base.specs.declared.slot.Slot.{Slot}
use Rattle.ritas_base.specs.declared.item.Item.{Item}
use Rattle.ritas_base.specs.declared.item.Kind.{Kind}
use Rattle.ritas_base.specs.declared.item.Kind.TheVariants.{Send, Column}
use Rattle.ritas_base.specs.declared.item.Kind.TheVariants as kinds
use Rattle.ritas_base.specs.SlotOrder.{slot_cmp, is_slot, same_slot}
use Rattle.ritas_base.specs.Shortest.{option_or_none}
use Rattle.ritas_base.specs.HistoryLaws.{kind_eq_is}
use Rattle.ritas_base.specs.declared.mode.Mode.{Mode}
use Rattle.ritas_base.specs.Slots.{form_of}
use Rattle.ritas_base.specs.Messages.{Place, kind_eq}
use Rattle.ritas_base.specs.History.{Call, Take, told, is_value, replicas}
use Rattle.ritas_base.specs.Tags.{Tags}
use Rattle.frame_codec.specs.Body.{IsInGrammar, is_of_form}
use Rattle.layer_api.specs.Runs.{Has}
use Rattle.layer_api.specs.HasLaws.{has_either, has_left, has_right}
use Rattle.layer_api.specs.Entries.{sent, is_claim, is_valid_for, Print, OfMessage, prints_of, is_hashed, prints_at_kind}
use Rattle.frame_codec.specs.Values.{column_row}
use Rattle.keyed_channel.specs.KeyRow.{KeyRow}
use Rattle.keyed_channel.specs.Keyed.{tags_of}
use Rattle.ritas_core.specs.Rules.{Rules, place_at}
use Rattle.ritas_core.specs.Parts.{Entry, Took, Given, parts}
use Rattle.ritas_core.specs.Machine.{CoreState}
use Rattle.world_model.specs.declared.audit.Audit.{Audit}
use Rattle.world_model.specs.declared.audit.Audit.TheVariants as audits
use Rattle.world_model.specs.declared.seats.Seats.{Seats}
use Rattle.world_model.specs.declared.watch.Watch.{Watch}
use Rattle.world_model.specs.declared.hashed.Hashed.{Hashed}
use Rattle.world_model.specs.World.{Setting, rules_at, CallAt, handled_at, after_call}
use Rattle.world_model.specs.Audit.{newest_item, taken_by, calls_at, place_in, given_by, is_among, is_made_up, is_forged_item, is_forged_at, prints_in, prints_by, prints_at, collide, broken_by}
use Rattle.std.specs.BTreeMap.{BTreeMap, get}
use Rattle.world_model.specs.declared.met.MetAtSlot.{MetAtSlot}
use Rattle.world_model.specs.Met.{MetEntries, pair_of, met_with, met_for, entries_given, is_expected, is_unknown}
use Rattle.world_model.specs.Hashed.{met_in, entries_met_at, is_same_at, HashedStand, IsDigestOf, prints_with, prints_by_kind, print_of, AreMet, Meets}
use Rattle.world_model.specs.Stands.{SeatsStand}
use Rattle.world_model.specs.Watch.{IsAt, item_taken, is_watched, watched, IsGoodIf, is_forged_frame, IsTold, TablesStand, SlotStands, WatchStands, verdict_after, met_said, MeetsItem}
use Rattle.world_model.proofs.Anywhere.{all_fail, any_of, has_among, among_from, has_number}
use Rattle.world_model.proofs.Prints.{sent_taken, sent_given}
use Rattle.world_model.proofs.HashedSteps.{none_collide, clash_collides}
use Rattle.world_model.proofs.Meeting.{Within, collide_within, stand_within, message_clashes}
use Rattle.world_model.proofs.Pairs.{pair_at, given_same, met_as_made}
use Rattle.world_model.proofs.Histories.{Grew, grew, newest_taken, history_taken}

-- ---- a replica of which nothing is hashed

-- an item is no SEND, and of no kind that its slot's broadcast hashes
abbrev pub IsUnhashed : Setting → Item → Type 0
IsUnhashed w x = (kind_eq x.kind Send ≡ false) × (is_hashed (form_of w.mode x.slot) x.kind ≡ false)

-- nothing more was sent to the replica, nor hashed by it
pub record IsQuiet (w : Setting) (before after : ℕ → CoreState) (i : ℕ) : Type 0 where
  pub sends : (s : Slot) → sent (place_in w i s) (calls_at w after i s) ≡ sent (place_in w i s) (calls_at w before i s)
  pub prints : prints_in (rules_at w i) (after i).history ≡ prints_in (rules_at w i) (before i).history

abbrev sends_in : Setting → ℕ → Slot → List Entry → Option (List ℕ)
sends_in w i s h = sent (place_in w i s) ((parts (rules_at w i) h).calls s)

-- an item that isn't a SEND brings nothing
unsent : (item : Item) (origin : ℕ) (same : Bool) → kind_eq item.kind Send ≡ false → (if same && kind_eq item.kind Send then Some item.value else None) ≡ None
unsent item origin true other = ap (λ b. if b then Some item.value else None) other
unsent item origin false other = refl

brings_none : (at : Place) (item : Item) (cs : List Call) (b : Bool) → kind_eq item.kind Send ≡ false → sent at (cond b (Take item ∷ cs) cs) ≡ sent at cs
brings_none at item cs true other =
    ap (option_or (sent at cs)) (unsent item at.slot.origin (item.from == at.slot.origin) other) ∙ option_or_none (sent at cs)
brings_none at item cs false other = refl

quiet_taken : (w : Setting) (i : ℕ) (h : List Entry) (item : Item) (s : Slot) → kind_eq item.kind Send ≡ false → sends_in w i s (Took item ∷ h) ≡ sends_in w i s h
quiet_taken w i h item s other =
    sent_taken (rules_at w i) (place_in w i s) h item s ∙ brings_none (place_in w i s) item ((parts (rules_at w i) h).calls s) (is_slot item.slot s) other

-- what is hashed of an item, where it is
abbrev prints_if : Rules → Item → Bool → List Print
prints_if r x b = if b then prints_at_kind (place_at r.casts x.slot) r.casts.tags x.kind x.value else []

print_none : (r : Rules) (h : List Entry) (item : Item) → is_hashed (form_of r.mode item.slot) item.kind ≡ false → prints_in r (Took item ∷ h) ≡ prints_in r h
print_none r h item other = ap (λ b. prints_if r item b ++ prints_in r h) other

-- the histories of a replica
quiet_from : (w : Setting) (before after : ℕ → CoreState) (i : ℕ) (h : List Entry) → (after i).history ≡ h →
    ((s : Slot) → sends_in w i s h ≡ sends_in w i s (before i).history) → prints_in (rules_at w i) h ≡ prints_in (rules_at w i) (before i).history → IsQuiet w before after i
quiet_from w before after i h is sends prints = record {
  sends = λ s. ap (sends_in w i s) is ∙ sends s;
  prints = ap (prints_in (rules_at w i)) is ∙ prints;
}

quiet_entry : (w : Setting) (before after : ℕ → CoreState) (i : ℕ) (e : Entry) → (after i).history ≡ e ∷ (before i).history →
    ((item : Item) → e ≡ Took item → IsUnhashed w item) → IsQuiet w before after i
quiet_entry w before after i (Given v) is other =
    quiet_from w before after i (Given v ∷ (before i).history) is (λ s. sent_given (rules_at w i) (place_in w i s) (before i).history v s) refl
quiet_entry w before after i (Took item) is other =
    quiet_from w before after i (Took item ∷ (before i).history) is
    (λ s. quiet_taken w i (before i).history item s (other item refl).0) (print_none (rules_at w i) (before i).history item (other item refl).1)

-- ---- the states after a call

called_state : (w : Setting) (states : ℕ → CoreState) (c : CallAt) → after_call w states (Some c) c.at ≡ (handled_at w states c).state
called_state w states c = ap (λ b. if b then (handled_at w states c).state else states c.at) (eq-eqb c.at c.at refl)

other_state : (w : Setting) (states : ℕ → CoreState) (c : CallAt) (i : ℕ) → (c.at == i) ≡ false → after_call w states (Some c) i ≡ states i
other_state w states c i other = ap (λ b. if b then (handled_at w states c).state else states i) other

quiet_other : (w : Setting) (states : ℕ → CoreState) (c : CallAt) (i : ℕ) → (c.at == i) ≡ false → IsQuiet w states (after_call w states (Some c)) i
quiet_other w states c i other =
    quiet_from w states (after_call w states (Some c)) i (states i).history (ap (λ st. st.history) (other_state w states c i other)) (λ s. refl) refl

-- the entry that a call puts on the history is the item that it makes taken
entry_taken : (w : Setting) (states : ℕ → CoreState) (c : CallAt) (e : Entry) → (handled_at w states c).state.history ≡ e ∷ (states c.at).history → (item : Item) → e ≡ Took item →
    taken_by w states c ≡ Some item
entry_taken w states c e is item same =
    ap (newest_item (states c.at).history) (is ∙ ap (λ (x : Entry). x ∷ (states c.at).history) same) ∙ newest_taken (states c.at).history item

quiet_called : (w : Setting) (states : ℕ → CoreState) (c : CallAt) → ((item : Item) → taken_by w states c ≡ Some item → IsUnhashed w item) →
    Grew (states c.at).history (handled_at w states c).state.history → IsQuiet w states (after_call w states (Some c)) c.at
quiet_called w states c other (inl same) =
    quiet_from w states (after_call w states (Some c)) c.at (states c.at).history (ap (λ st. st.history) (called_state w states c) ∙ same) (λ s. refl) refl
quiet_called w states c other (inr more) =
    quiet_entry w states (after_call w states (Some c)) c.at more.0 (ap (λ st. st.history) (called_state w states c) ∙ more.1)
    (λ item same. other item (entry_taken w states c more.0 more.1 item same))

quiet_at : (w : Setting) (states : ℕ → CoreState) (c : CallAt) → ((item : Item) → taken_by w states c ≡ Some item → IsUnhashed w item) → (i : ℕ) (b : Bool) →
    (c.at == i) ≡ b → IsQuiet w states (after_call w states (Some c)) i
quiet_at w states c other i true here =
    subst (λ (k : ℕ). IsQuiet w states (after_call w states (Some c)) k) (eqb-true c.at i here)
    (quiet_called w states c other (grew (rules_at w c.at) (w.keys c.at) (states c.at) c.call))
quiet_at w states c other i false apart = quiet_other w states c i apart

quiet_all : (w : Setting) (states : ℕ → CoreState) (c : Option CallAt) → ((item : Item) → item_taken w states c ≡ Some item → IsUnhashed w item) → (i : ℕ) →
    IsQuiet w states (after_call w states c) i
quiet_all w states None other i = record { sends = λ s. refl; prints = refl }
quiet_all w states (Some c) other i = quiet_at w states c other i (c.at == i) refl

-- ---- the tables stay

prints_same : (w : Setting) (one other : ℕ → CoreState) → ((i : ℕ) → prints_in (rules_at w i) (one i).history ≡ prints_in (rules_at w i) (other i).history) →
    Within (prints_at w one) (prints_at w other)
prints_same w one other same p here =
    let from = among_from (prints_by w one) (replicas w.numbers.n) p here in
    has_among (prints_by w other) (replicas w.numbers.n) from.element p from.listed
    (subst (λ ps. Has (if w.is_correct from.element then ps else []) p) (same from.element) from.inside)

pub tables_stay : (w : Setting) (states : ℕ → CoreState) (c : Option CallAt) (watch : Watch) → ((item : Item) → item_taken w states c ≡ Some item → IsUnhashed w item) →
    TablesStand w states watch → TablesStand w (after_call w states c) watch
tables_stay w states c watch other stand = record {
  sent = λ i s right. stand.sent i s right ∙ ap (met_for (w.keys i) s) (sym ((quiet_all w states c other i).sends s));
  hashed = stand_within watch.hashed (prints_at w states) (prints_at w (after_call w states c))
      (prints_same w states (after_call w states c) (λ i. sym (quiet_all w states c other i).prints))
      (prints_same w (after_call w states c) states (λ i. (quiet_all w states c other i).prints)) stand.hashed;
}

-- what the table has of correct replicas is what their keys give
pub are_met : (w : Setting) (states : ℕ → CoreState) (watch : Watch) → TablesStand w states watch → AreMet w watch.sent.table
are_met w states watch stand i s met right there =
    met_as_made (w.keys i) s (sent (place_in w i s) (calls_at w states i s)) (entries_met_at watch.sent.table s i) met (stand.sent i s right) there

-- what the table has of a slot is what the replicas met there
pub slot_stands : (w : Setting) (states : ℕ → CoreState) (watch : Watch) (s : Slot) (here : Option MetAtSlot) → TablesStand w states watch → here ≡ get slot_cmp watch.sent.table s → SlotStands w states s here
slot_stands w states watch s here stand is i right = ap (λ o. met_in o i) is ∙ stand.sent i s right

-- ---- columns

-- the row that is expected of an echoer
expected_at : (w : Setting) (at echoer : ℕ) (s : Slot) (m : List ℕ) (met : MetEntries) → (w.keys at).n ≡ w.numbers.n → echoer < w.numbers.n → met ≡ met_with (w.keys at) s ((tags_of (w.keys at)).digest m) →
    slice_get met.pairs echoer ≡ Some (pair_of (w.keys at) s ((tags_of (w.keys at)).digest m) echoer)
expected_at w at echoer s m met many below is =
    ap (λ (x : MetEntries). slice_get x.pairs echoer) is ∙ pair_at (w.keys at) s ((tags_of (w.keys at)).digest m) echoer (omega (arith, below, many))

-- the entries that the table has of an echoer are those that it gave
listed_at : (w : Setting) (states : ℕ → CoreState) (echoer : ℕ) (s : Slot) (here : Option MetAtSlot) (echoers : Option MetEntries) → ((w.keys echoer).me ≡ echoer) × ((w.keys echoer).n ≡ w.numbers.n) →
    SlotStands w states s here → w.is_correct echoer ≡ true → echoers ≡ met_in here echoer → entries_given echoers ≡ given_by w states echoer s
listed_at w states echoer s here echoers own stand right is =
    ap entries_given (is ∙ stand echoer right)
    ∙ given_same (w.keys echoer) (place_in w echoer s) (sym own.0) (sym own.1) (sent (place_in w echoer s) (calls_at w states echoer s))

valid_same : (w : Setting) (states : ℕ → CoreState) (at echoer : ℕ) (m : List ℕ) (x : Item) → (w.keys at).me ≡ at → sent (place_in w at x.slot) (calls_at w states at x.slot) ≡ Some m →
    is_value ((tags_of (w.keys at)).entry x.slot echoer (w.keys at).me ((tags_of (w.keys at)).digest m)) (column_row x.value echoer)
    ≡ is_valid_for (place_in w at x.slot) (tags_of (w.keys at)) (sent (place_in w at x.slot) (calls_at w states at x.slot)) x.value echoer
valid_same w states at echoer m x me said =
    ap (λ (j : ℕ). is_value ((tags_of (w.keys at)).entry x.slot echoer j ((tags_of (w.keys at)).digest m)) (column_row x.value echoer)) me
    ∙ ap (λ o. is_valid_for (place_in w at x.slot) (tags_of (w.keys at)) o x.value echoer) (sym said)

-- what the tables say of an echoer is what the events say
pub unknown_is : (w : Setting) (states : ℕ → CoreState) (at echoer : ℕ) (m : List ℕ) (x : Item) (here : Option MetAtSlot) (met : MetEntries) (echoers : Option MetEntries) →
    ((w.keys at).me ≡ at) × ((w.keys at).n ≡ w.numbers.n) → ((w.keys echoer).me ≡ echoer) × ((w.keys echoer).n ≡ w.numbers.n) → echoer < w.numbers.n →
    SlotStands w states x.slot here → w.is_correct echoer ≡ true → echoers ≡ met_in here echoer →
    sent (place_in w at x.slot) (calls_at w states at x.slot) ≡ Some m → met ≡ met_with (w.keys at) x.slot ((tags_of (w.keys at)).digest m) → kind_eq x.kind Column ≡ true →
    is_unknown met echoers echoer x.value ≡ is_made_up w states at x echoer
unknown_is w states at echoer m x here met echoers own other below stand right found said is column =
    let row = column_row x.value echoer in
    ap₂ (λ pair entries. is_expected pair row && not (is_among entries row)) (expected_at w at echoer x.slot m met own.1 below is) (listed_at w states echoer x.slot here echoers other stand right found)
    ∙ ap (λ v. v && not (is_among (given_by w states echoer x.slot) row)) (valid_same w states at echoer m x own.0 said)
    ∙ ap₂ (λ a b. a && ((b && is_valid_for (place_in w at x.slot) (tags_of (w.keys at)) (sent (place_in w at x.slot) (calls_at w states at x.slot)) x.value echoer)
    && not (is_among (given_by w states echoer x.slot) row))) (sym right) (sym column)

-- no column forges as of an echoer that isn't correct
pub faulty_fair : (w : Setting) (states : ℕ → CoreState) (at : ℕ) (x : Item) (echoer : ℕ) → w.is_correct echoer ≡ false → false ≡ is_made_up w states at x echoer
faulty_fair w states at x echoer faulty =
    ap (λ b. b && (is_claim (place_in w at x.slot) (tags_of (w.keys at)) (calls_at w states at x.slot) x echoer && not (is_among (given_by w states echoer x.slot) (column_row x.value echoer)))) (sym faulty)

-- of no message that was sent no entry is valid
claims_none : (at : Place) (tags : Tags) (o : Option (List ℕ)) (column : List ℕ) (echoer : ℕ) (b : Bool) → o ≡ None → (b && is_valid_for at tags o column echoer) ≡ false
claims_none at tags None column echoer true none = refl
claims_none at tags None column echoer false none = refl
claims_none at tags (Some m) column echoer b none = absurd (cc)

both_false : (a b c : Bool) → b ≡ false → (a && (b && c)) ≡ false
both_false true false c e = refl
both_false false false c e = refl
both_false a true c e = absurd (cc)

pub unsent_fair : (w : Setting) (states : ℕ → CoreState) (at : ℕ) (x : Item) → sent (place_in w at x.slot) (calls_at w states at x.slot) ≡ None → is_forged_item w states at (Some x) ≡ false
unsent_fair w states at x none =
    all_fail (is_made_up w states at x) (replicas w.numbers.n)
    (λ echoer here. both_false (w.is_correct echoer) (is_claim (place_in w at x.slot) (tags_of (w.keys at)) (calls_at w states at x.slot) x echoer)
    (not (is_among (given_by w states echoer x.slot) (column_row x.value echoer)))
    (claims_none (place_in w at x.slot) (tags_of (w.keys at)) (sent (place_in w at x.slot) (calls_at w states at x.slot)) x.value echoer (kind_eq x.kind Column) none))

-- no other item than a column forges
pub other_fair : (w : Setting) (states : ℕ → CoreState) (at : ℕ) (x : Item) → kind_eq x.kind Column ≡ false → is_forged_item w states at (Some x) ≡ false
other_fair w states at x other =
    all_fail (is_made_up w states at x) (replicas w.numbers.n)
    (λ echoer here. both_false (w.is_correct echoer) (is_claim (place_in w at x.slot) (tags_of (w.keys at)) (calls_at w states at x.slot) x echoer)
    (not (is_among (given_by w states echoer x.slot) (column_row x.value echoer)))
    (ap (λ b. b && is_valid_for (place_in w at x.slot) (tags_of (w.keys at)) (sent (place_in w at x.slot) (calls_at w states at x.slot)) x.value echoer) other))

-- ---- what the audit looks at

-- the audit looks at this item
abbrev pub is_looked : Mode → Item → Bool
is_looked mode x = is_watched (form_of mode x.slot) x.kind

watched_some : (mode : Mode) (x : Item) (y : Item) (b : Bool) → is_looked mode x ≡ b → (if b then Some x else None) ≡ Some y → (is_looked mode y ≡ true) × (x ≡ y)
watched_some mode x y true is e = let same : x ≡ y = cc in (subst (λ (z : Item). is_looked mode z ≡ true) same is, same)
watched_some mode x y false is e = absurd (cc)

pub watched_is : (mode : Mode) (o : Option Item) (y : Item) → watched mode o ≡ Some y → (is_looked mode y ≡ true) × (o ≡ Some y)
watched_is mode None y e = absurd (cc)
watched_is mode (Some x) y e = let is = watched_some mode x y (is_looked mode x) refl e in (is.0, ap (λ (z : Item). Some z) is.1)

unwatched_some : (mode : Mode) (x : Item) (b : Bool) → is_looked mode x ≡ b → (if b then Some x else None) ≡ None → is_looked mode x ≡ false
unwatched_some mode x true is e = absurd (cc)
unwatched_some mode x false is e = is

pub unwatched : (mode : Mode) (o : Option Item) (x : Item) → watched mode o ≡ None → o ≡ Some x → is_looked mode x ≡ false
unwatched mode None x e is = absurd (cc)
unwatched mode (Some y) x e is = let same : y ≡ x = cc in subst (λ (z : Item). is_looked mode z ≡ false) same (unwatched_some mode y (is_looked mode y) refl e)

neither : (form : ℕ) (kind : Kind) → is_watched form kind ≡ false → (is_hashed form kind ≡ false) × (kind_eq kind Column ≡ false)
neither form kind e = or_parts (is_hashed form kind) (kind_eq kind Column) e

-- a SEND of the grammar is hashed
no_send : (form : ℕ) (kind : Kind) → is_of_form form kind ≡ true → is_hashed form kind ≡ false → kind_eq kind Send ≡ false
no_send form kinds.Init of_form other = refl
no_send form kinds.Echo of_form other = refl
no_send form kinds.Ready of_form other = refl
no_send form kinds.Send of_form other = absurd (false≢true (sym other ∙ of_form))
no_send form kinds.Hashes of_form other = refl
no_send form kinds.Column of_form other = refl
no_send form kinds.Want of_form other = refl
no_send form kinds.Value of_form other = refl

-- what the audit doesn't look at isn't hashed
pub unlooked : (w : Setting) (o : Option Item) (x : Item) → IsGoodIf w o → watched w.mode o ≡ None → o ≡ Some x → IsUnhashed w x
unlooked w o x good none is =
    let in_grammar : IsInGrammar w.numbers w.mode x = subst (λ (p : Option Item). IsGoodIf w p) is good in
    let parts = neither (form_of w.mode x.slot) x.kind (unwatched w.mode o x none is) in
    (no_send (form_of w.mode x.slot) x.kind in_grammar.kind parts.0, parts.0)

-- ---- whether a call forges

fair_item : (w : Setting) (states : ℕ → CoreState) (at : ℕ) (o : Option Item) → watched w.mode o ≡ None → is_forged_item w states at o ≡ false
fair_item w states at None none = refl
fair_item w states at (Some x) none = other_fair w states at x (neither (form_of w.mode x.slot) x.kind (unwatched w.mode (Some x) x none refl)).1

pub fair_call : (w : Setting) (states : ℕ → CoreState) (c : Option CallAt) → is_forged_frame w states c ≡ false → watched w.mode (item_taken w states c) ≡ None → is_forged_at w states c ≡ false
fair_call w states None fair none = refl
fair_call w states (Some c) fair none = ap₂ (λ a b. a || b) fair (fair_item w states c.at (taken_by w states c) none)

pub forged_call : (w : Setting) (states : ℕ → CoreState) (c : Option CallAt) → is_forged_frame w states c ≡ true → is_forged_at w states c ≡ true
forged_call w states None forged = forged
forged_call w states (Some c) forged = ap (λ a. a || is_forged_item w states c.at (taken_by w states c)) forged

-- the call is at a correct replica, which takes the item
pub record IsTaking (w : Setting) (states : ℕ → CoreState) (c : Option CallAt) (at : ℕ) (x : Item) : Type 0 where
  pub call : CallAt
  pub called : c ≡ Some call
  pub place : call.at ≡ at
  pub right : w.is_correct at ≡ true
  pub taken : taken_by w states call ≡ Some x

pub is_taking : (w : Setting) (states : ℕ → CoreState) (c : Option CallAt) (at : ℕ) (x : Item) → IsAt w c at → item_taken w states c ≡ Some x → IsTaking w states c at x
is_taking w states None at x is e = absurd (cc)
is_taking w states (Some call) at x is e = record { call = call; called = refl; place = is.0; right = is.1; taken = e }

pub taking_forges : (w : Setting) (states : ℕ → CoreState) (c : Option CallAt) (at : ℕ) (x : Item) → IsTaking w states c at x → is_forged_frame w states c ≡ false →
    is_forged_at w states c ≡ is_forged_item w states at (Some x)
taking_forges w states c at x is fair =
    let P : Option CallAt → Type 0 = λ d. is_forged_frame w states d ≡ false → is_forged_at w states d ≡ is_forged_item w states at (Some x) in
    subst P (sym is.called) (λ now. ap₂ (λ a b. a || b) now (ap₂ (λ j o. is_forged_item w states j o) is.place is.taken)) fair

-- ---- the verdict

pub stays_broken : (w : Setting) (states : ℕ → CoreState) (c : Option CallAt) (verdict : Audit) (watch : Watch) (number : ℕ) → verdict ≢ audits.Holds → WatchStands w states verdict watch →
    WatchStands w (after_call w states c) (verdict_after w states c verdict number) watch
stays_broken w states c audits.Holds watch number broken stand = absurd (broken refl)
stays_broken w states c audits.TooManyFaulty watch number broken stand = record { found = stand.found; tables = λ e. absurd (broken e) }
stays_broken w states c (audits.Forged k) watch number broken stand = record { found = stand.found; tables = λ e. absurd (broken e) }
stays_broken w states c (audits.Collision k) watch number broken stand = record { found = stand.found; tables = λ e. absurd (broken e) }

broken_at_once : (w : Setting) (after : ℕ → CoreState) (verdict now : Audit) (watch : Watch) → verdict ≡ now → now ≢ audits.Holds → watch.verdict ≡ now → WatchStands w after verdict watch
broken_at_once w after verdict now watch is broken found = record { found = found ∙ sym is; tables = λ e. absurd (broken (sym is ∙ e)) }

forged_apart : (k : ℕ) → audits.Forged k ≢ audits.Holds
forged_apart k e = cc

collision_apart : (k : ℕ) → audits.Collision k ≢ audits.Holds
collision_apart k e = cc

pub now_forged : (w : Setting) (states : ℕ → CoreState) (c : Option CallAt) (watch : Watch) (number : ℕ) → is_forged_at w states c ≡ true → watch.verdict ≡ audits.Forged number →
    WatchStands w (after_call w states c) (verdict_after w states c audits.Holds number) watch
now_forged w states c watch number forged found =
    broken_at_once w (after_call w states c) (verdict_after w states c audits.Holds number) (audits.Forged number) watch
    (ap (λ b. broken_by b (collide (prints_at w (after_call w states c))) number) forged) (forged_apart number) found

pub now_collides : (w : Setting) (states : ℕ → CoreState) (c : Option CallAt) (watch : Watch) (number : ℕ) → is_forged_at w states c ≡ false → collide (prints_at w (after_call w states c)) ≡ true →
    watch.verdict ≡ audits.Collision number → WatchStands w (after_call w states c) (verdict_after w states c audits.Holds number) watch
now_collides w states c watch number fair clash found =
    broken_at_once w (after_call w states c) (verdict_after w states c audits.Holds number) (audits.Collision number) watch
    (ap₂ (λ a b. broken_by a b number) fair clash) (collision_apart number) found

pub still_holds : (w : Setting) (states : ℕ → CoreState) (c : Option CallAt) (watch : Watch) (number : ℕ) → is_forged_at w states c ≡ false → TablesStand w (after_call w states c) watch →
    watch.verdict ≡ audits.Holds → WatchStands w (after_call w states c) (verdict_after w states c audits.Holds number) watch
still_holds w states c watch number fair stand found =
    let none = none_collide watch.hashed (prints_at w (after_call w states c)) stand.hashed in
    let holds : verdict_after w states c audits.Holds number ≡ audits.Holds = ap₂ (λ a b. broken_by a b number) fair none in
    record { found = found ∙ sym holds; tables = λ e. stand }

-- nothing that the audit looks at was taken
pub nothing_watched : (w : Setting) (states : ℕ → CoreState) (c : Option CallAt) (watch : Watch) (number : ℕ) → is_forged_frame w states c ≡ false → watched w.mode (item_taken w states c) ≡ None →
    IsGoodIf w (item_taken w states c) → WatchStands w states audits.Holds watch → WatchStands w (after_call w states c) (verdict_after w states c audits.Holds number) watch
nothing_watched w states c watch number fair none good stand =
    still_holds w states c watch number (fair_call w states c fair none)
    (tables_stay w states c watch (λ item is. unlooked w (item_taken w states c) item good none is) (stand.tables refl)) stand.found

-- ---- columns, as the code has it

met_none : (k : KeyRow) (s : Slot) (o : Option (List ℕ)) → met_for k s o ≡ None → o ≡ None
met_none k s None e = refl
met_none k s (Some m) e = absurd (cc)

-- the message at which this was met
pub record IsSaid (k : KeyRow) (s : Slot) (o : Option (List ℕ)) (met : MetEntries) : Type 0 where
  pub message : List ℕ
  pub said : o ≡ Some message
  pub same : met ≡ met_with k s ((tags_of k).digest message)

said_some : (k : KeyRow) (s : Slot) (o : Option (List ℕ)) (met : MetEntries) → met_for k s o ≡ Some met → IsSaid k s o met
said_some k s None met e = absurd (cc)
said_some k s (Some m) met e = record { message = m; said = refl; same = sym (same_Some (met_with k s ((tags_of k).digest m)) met e) }

pub unmet_fair : (w : Setting) (states : ℕ → CoreState) (at : ℕ) (x : Item) (here : Option MetAtSlot) → SlotStands w states x.slot here → w.is_correct at ≡ true → met_in here at ≡ None →
    false ≡ is_forged_item w states at (Some x)
unmet_fair w states at x here stand right none =
    sym (unsent_fair w states at x
    (met_none (w.keys at) x.slot (sent (place_in w at x.slot) (calls_at w states at x.slot)) (sym (stand at right) ∙ none)))

pub said_is : (w : Setting) (states : ℕ → CoreState) (at : ℕ) (x : Item) (here : Option MetAtSlot) (met : MetEntries) → SlotStands w states x.slot here → w.is_correct at ≡ true → met_in here at ≡ Some met →
    IsSaid (w.keys at) x.slot (sent (place_in w at x.slot) (calls_at w states at x.slot)) met
said_is w states at x here met stand right some =
    said_some (w.keys at) x.slot (sent (place_in w at x.slot) (calls_at w states at x.slot)) met (sym (stand at right) ∙ some)

pub some_made_up : (w : Setting) (states : ℕ → CoreState) (at : ℕ) (x : Item) (echoer : ℕ) → echoer < w.numbers.n → is_made_up w states at x echoer ≡ true → true ≡ is_forged_item w states at (Some x)
some_made_up w states at x echoer below made =
    sym (any_of (is_made_up w states at x) (replicas w.numbers.n) echoer (has_number 0 w.numbers.n echoer (omega arith) (omega arith)) made)

pub none_made_up : (w : Setting) (states : ℕ → CoreState) (at : ℕ) (x : Item) (n : ℕ) → n ≡ w.numbers.n → list_any (is_made_up w states at x) (range_with_len 0 n) ≡ false →
    false ≡ is_forged_item w states at (Some x)
none_made_up w states at x n all none = sym (subst (λ (k : ℕ). list_any (is_made_up w states at x) (range_with_len 0 k) ≡ false) all none)

-- ---- an item that is hashed

-- what the replica with its keys hashes
met_here : (w : Setting) (at : ℕ) (s : Slot) (m : List ℕ) → (w.keys at).me ≡ at → (w.keys at).n ≡ w.numbers.n →
    prints_with (w.keys at) s m ≡ prints_of (place_in w at s) (tags_of (w.keys at)) m
met_here w at s m me n =
    let k = w.keys at in
    let d = (tags_of k).digest m in
    ap₂ (λ (i : ℕ) (count : ℕ). OfMessage m d ∷ map (λ v. print_of k s d i v) (replicas count) ++ map (λ e. print_of k s d e i) (replicas count)) me n

hashed_here : (w : Setting) (at : ℕ) (s : Slot) (kind : Kind) (m : List ℕ) → (w.keys at).me ≡ at → (w.keys at).n ≡ w.numbers.n →
    prints_by_kind (w.keys at) s kind m ≡ prints_at_kind (place_in w at s) (tags_of (w.keys at)) kind m
hashed_here w at s kinds.Init m me n = refl
hashed_here w at s kinds.Echo m me n = refl
hashed_here w at s kinds.Ready m me n = refl
hashed_here w at s kinds.Send m me n = met_here w at s m me n
hashed_here w at s kinds.Hashes m me n = refl
hashed_here w at s kinds.Column m me n = refl
hashed_here w at s kinds.Want m me n = refl
hashed_here w at s kinds.Value m me n = refl

-- the replica took an item of a kind that its slot's broadcast hashes
pub record TakesItem (w : Setting) (states : ℕ → CoreState) (c : CallAt) (x : Item) : Type 0 where
  pub right : w.is_correct c.at ≡ true
  pub below : c.at < w.numbers.n
  pub history : (handled_at w states c).state.history ≡ Took x ∷ (states c.at).history
  pub kind : is_hashed (form_of w.mode x.slot) x.kind ≡ true

history_after : (w : Setting) (states : ℕ → CoreState) (c : CallAt) (x : Item) → TakesItem w states c x → (after_call w states (Some c) c.at).history ≡ Took x ∷ (states c.at).history
history_after w states c x takes = ap (λ st. st.history) (called_state w states c) ∙ takes.history

-- what it hashed
prints_after : (w : Setting) (states : ℕ → CoreState) (c : CallAt) (x : Item) → TakesItem w states c x →
    prints_by w (after_call w states (Some c)) c.at ≡ prints_at_kind (place_in w c.at x.slot) (tags_of (w.keys c.at)) x.kind x.value ++ prints_in (rules_at w c.at) (states c.at).history
prints_after w states c x takes =
    let r = rules_at w c.at in
    ap₂ (λ b h. if b then prints_in r h else []) takes.right (history_after w states c x takes)
    ∙ ap (λ b. prints_if r x b ++ prints_in r (states c.at).history) takes.kind

prints_before : (w : Setting) (states : ℕ → CoreState) (i : ℕ) → w.is_correct i ≡ true → prints_by w states i ≡ prints_in (rules_at w i) (states i).history
prints_before w states i right = ap (λ b. if b then prints_in (rules_at w i) (states i).history else []) right

prints_other : (w : Setting) (states : ℕ → CoreState) (c : CallAt) (i : ℕ) → (c.at == i) ≡ false → prints_by w (after_call w states (Some c)) i ≡ prints_by w states i
prints_other w states c i other = ap (λ ps. if w.is_correct i then ps else []) (quiet_other w states c i other).prints

after_from : (w : Setting) (states : ℕ → CoreState) (c : CallAt) (x : Item) → TakesItem w states c x → (i : ℕ) (p : Print) → Has (replicas w.numbers.n) i → (b : Bool) → (c.at == i) ≡ b →
    Has (prints_by w (after_call w states (Some c)) i) p → Has (prints_at_kind (place_in w c.at x.slot) (tags_of (w.keys c.at)) x.kind x.value ++ prints_at w states) p
after_from w states c x takes i p listed true here inside =
    let new = prints_at_kind (place_in w c.at x.slot) (tags_of (w.keys c.at)) x.kind x.value in
    let same = eqb-true c.at i here in
    let now : Has (prints_by w (after_call w states (Some c)) c.at) p = subst (λ (k : ℕ). Has (prints_by w (after_call w states (Some c)) k) p) (sym same) inside in
    elim (has_either new (prints_in (rules_at w c.at) (states c.at).history) p (subst (λ ps. Has ps p) (prints_after w states c x takes) now)) [
      | inl first ↦ has_left new (prints_at w states) p first
      | inr older ↦ has_right new (prints_at w states) p
          (has_among (prints_by w states) (replicas w.numbers.n) c.at p (has_number 0 w.numbers.n c.at (omega arith) (let below = takes.below in omega arith))
          (subst (λ ps. Has ps p) (sym (prints_before w states c.at takes.right)) older))
    ]
after_from w states c x takes i p listed false other inside =
    has_right (prints_at_kind (place_in w c.at x.slot) (tags_of (w.keys c.at)) x.kind x.value) (prints_at w states) p
    (has_among (prints_by w states) (replicas w.numbers.n) i p listed (subst (λ ps. Has ps p) (prints_other w states c i other) inside))

after_within : (w : Setting) (states : ℕ → CoreState) (c : CallAt) (x : Item) → TakesItem w states c x →
    Within (prints_at w (after_call w states (Some c))) (prints_at_kind (place_in w c.at x.slot) (tags_of (w.keys c.at)) x.kind x.value ++ prints_at w states)
after_within w states c x takes p here =
    let from = among_from (prints_by w (after_call w states (Some c))) (replicas w.numbers.n) p here in
    after_from w states c x takes from.element p from.listed (c.at == from.element) refl from.inside

at_taker : (w : Setting) (states : ℕ → CoreState) (c : CallAt) (x : Item) → TakesItem w states c x → (p : Print) →
    Has (prints_at_kind (place_in w c.at x.slot) (tags_of (w.keys c.at)) x.kind x.value ++ prints_in (rules_at w c.at) (states c.at).history) p → Has (prints_at w (after_call w states (Some c))) p
at_taker w states c x takes p inside =
    has_among (prints_by w (after_call w states (Some c))) (replicas w.numbers.n) c.at p (has_number 0 w.numbers.n c.at (omega arith) (let below = takes.below in omega arith))
    (subst (λ ps. Has ps p) (sym (prints_after w states c x takes)) inside)

older_there : (w : Setting) (states : ℕ → CoreState) (c : CallAt) (x : Item) → TakesItem w states c x → (i : ℕ) (p : Print) → Has (replicas w.numbers.n) i → (b : Bool) → (c.at == i) ≡ b →
    Has (prints_by w states i) p → Has (prints_at w (after_call w states (Some c))) p
older_there w states c x takes i p listed true here inside =
    let same = eqb-true c.at i here in
    let there : Has (prints_by w states c.at) p = subst (λ (k : ℕ). Has (prints_by w states k) p) (sym same) inside in
    at_taker w states c x takes p
    (has_right (prints_at_kind (place_in w c.at x.slot) (tags_of (w.keys c.at)) x.kind x.value) (prints_in (rules_at w c.at) (states c.at).history) p
    (subst (λ ps. Has ps p) (prints_before w states c.at takes.right) there))
older_there w states c x takes i p listed false other inside =
    has_among (prints_by w (after_call w states (Some c))) (replicas w.numbers.n) i p listed (subst (λ ps. Has ps p) (sym (prints_other w states c i other)) inside)

within_after : (w : Setting) (states : ℕ → CoreState) (c : CallAt) (x : Item) → TakesItem w states c x →
    Within (prints_at_kind (place_in w c.at x.slot) (tags_of (w.keys c.at)) x.kind x.value ++ prints_at w states) (prints_at w (after_call w states (Some c)))
within_after w states c x takes p here =
    let new = prints_at_kind (place_in w c.at x.slot) (tags_of (w.keys c.at)) x.kind x.value in
    elim (has_either new (prints_at w states) p here) [
      | inl first ↦ at_taker w states c x takes p (has_left new (prints_in (rules_at w c.at) (states c.at).history) p first)
      | inr older ↦
          let from = among_from (prints_by w states) (replicas w.numbers.n) p older in
          older_there w states c x takes from.element p from.listed (c.at == from.element) refl from.inside
    ]

-- what was sent to it
met_either : (k : KeyRow) (s : Slot) (o : Option (List ℕ)) (m : List ℕ) (b : Bool) →
    met_for k s (option_or o (if b then Some m else None)) ≡ option_or (met_for k s o) (if b then Some (met_with k s ((tags_of k).digest m)) else None)
met_either k s None m true = refl
met_either k s None m false = refl
met_either k s (Some v) m true = refl
met_either k s (Some v) m false = refl

said_here : (w : Setting) (states : ℕ → CoreState) (c : CallAt) (x : Item) (s : Slot) (b : Bool) → is_slot x.slot s ≡ b →
    met_for (w.keys c.at) s (sends_in w c.at s (Took x ∷ (states c.at).history))
    ≡ (if b then option_or (met_for (w.keys c.at) s (sends_in w c.at s (states c.at).history)) (met_said (w.keys c.at) x)
    else met_for (w.keys c.at) s (sends_in w c.at s (states c.at).history))
said_here w states c x s true here =
    let k = w.keys c.at in
    let h = (states c.at).history in
    let same = same_slot x.slot s here in
    ap (met_for k s) (sent_taken (rules_at w c.at) (place_in w c.at s) h x s ∙ ap (λ b. sent (place_in w c.at s) (cond b (Take x ∷ (parts (rules_at w c.at) h).calls s) ((parts (rules_at w c.at) h).calls s))) here)
    ∙ met_either k s (sends_in w c.at s h) x.value (x.from == s.origin && kind_eq x.kind Send)
    ∙ ap (λ (q : Slot). option_or (met_for k s (sends_in w c.at s h)) (if x.from == q.origin && kind_eq x.kind Send then Some (met_with k q ((tags_of k).digest x.value)) else None)) (sym same)
said_here w states c x s false other =
    ap (met_for (w.keys c.at) s) (sent_taken (rules_at w c.at) (place_in w c.at s) (states c.at).history x s
    ∙ ap (λ b. sent (place_in w c.at s) (cond b (Take x ∷ (parts (rules_at w c.at) (states c.at).history).calls s) ((parts (rules_at w c.at) (states c.at).history).calls s))) other)

said_there : (w : Setting) (states : ℕ → CoreState) (c : CallAt) (x : Item) → TakesItem w states c x → (i : ℕ) (s : Slot) (b : Bool) → (c.at == i) ≡ b →
    met_for (w.keys i) s (sent (place_in w i s) (calls_at w (after_call w states (Some c)) i s))
    ≡ (if b && is_slot x.slot s then option_or (met_for (w.keys i) s (sent (place_in w i s) (calls_at w states i s))) (met_said (w.keys c.at) x)
    else met_for (w.keys i) s (sent (place_in w i s) (calls_at w states i s)))
said_there w states c x takes i s true here =
    subst (λ (k : ℕ). met_for (w.keys k) s (sent (place_in w k s) (calls_at w (after_call w states (Some c)) k s))
    ≡ (if is_slot x.slot s then option_or (met_for (w.keys k) s (sent (place_in w k s) (calls_at w states k s))) (met_said (w.keys c.at) x)
    else met_for (w.keys k) s (sent (place_in w k s) (calls_at w states k s)))) (eqb-true c.at i here)
    (ap (λ h. met_for (w.keys c.at) s (sends_in w c.at s h)) (history_after w states c x takes) ∙ said_here w states c x s (is_slot x.slot s) refl)
said_there w states c x takes i s false other = ap (met_for (w.keys i) s) ((quiet_other w states c i other).sends s)

pub sent_after : (w : Setting) (states : ℕ → CoreState) (c : CallAt) (x : Item) (old new : Watch) (k : KeyRow) → TakesItem w states c x → TablesStand w states old → k ≡ w.keys c.at →
    ((s : Slot) (i : ℕ) → entries_met_at new.sent.table s i ≡ (if is_same_at x.slot c.at s i then option_or (entries_met_at old.sent.table s i) (met_said k x) else entries_met_at old.sent.table s i)) →
    (i : ℕ) (s : Slot) → w.is_correct i ≡ true → entries_met_at new.sent.table s i ≡ met_for (w.keys i) s (sent (place_in w i s) (calls_at w (after_call w states (Some c)) i s))
sent_after w states c x old new k takes stand keys put i s right =
    put s i
    ∙ ap (λ d. if is_same_at x.slot c.at s i then option_or d (met_said k x) else d) (stand.sent i s right)
    ∙ ap (λ (y : KeyRow). if c.at == i && is_slot x.slot s then option_or (met_for (w.keys i) s (sent (place_in w i s) (calls_at w states i s))) (met_said y x)
    else met_for (w.keys i) s (sent (place_in w i s) (calls_at w states i s))) keys
    ∙ sym (said_there w states c x takes i s (c.at == i) refl)

-- ---- a SEND, as the code has it

met_said_is : (k : KeyRow) (x : Item) (met : MetEntries) → x.from ≡ x.slot.origin → x.kind ≡ Send → met ≡ met_with k x.slot ((tags_of k).digest x.value) → Some met ≡ met_said k x
met_said_is k x met origin kind is =
    ap (λ (y : MetEntries). Some y) is
    ∙ sym (ap₂ (λ a b. if a && kind_eq b Send then Some (met_with k x.slot ((tags_of k).digest x.value)) else None) (eq-eqb x.from x.slot.origin origin) kind)

-- what is added is what the item brings
pub said_added : (old new : BTreeMap Slot MetAtSlot) (k : KeyRow) (at : ℕ) (x : Item) (met : MetEntries) → x.from ≡ x.slot.origin → x.kind ≡ Send → met ≡ met_with k x.slot ((tags_of k).digest x.value) →
    ((s : Slot) (i : ℕ) → entries_met_at new s i ≡ (if is_same_at x.slot at s i then option_or (entries_met_at old s i) (Some met) else entries_met_at old s i)) →
    (s : Slot) (i : ℕ) → entries_met_at new s i ≡ (if is_same_at x.slot at s i then option_or (entries_met_at old s i) (met_said k x) else entries_met_at old s i)
said_added old new k at x met origin kind is put s i =
    put s i ∙ ap (λ o. if is_same_at x.slot at s i then option_or (entries_met_at old s i) o else entries_met_at old s i) (met_said_is k x met origin kind is)

-- nothing is added where it brings nothing
pub nothing_said : (table : BTreeMap Slot MetAtSlot) (k : KeyRow) (at : ℕ) (x : Item) → (x.from == x.slot.origin && kind_eq x.kind Send) ≡ false → (s : Slot) (i : ℕ) →
    entries_met_at table s i ≡ (if is_same_at x.slot at s i then option_or (entries_met_at table s i) (met_said k x) else entries_met_at table s i)
nothing_said table k at x none s i =
    stays (is_same_at x.slot at s i) (entries_met_at table s i)
    ∙ ap (λ b. if is_same_at x.slot at s i then option_or (entries_met_at table s i) (if b then Some (met_with k x.slot ((tags_of k).digest x.value)) else None) else entries_met_at table s i) (sym none)
  where
    stays : (b : Bool) (o : Option MetEntries) → o ≡ (if b then option_or o None else o)
    stays true o = sym (option_or_none o)
    stays false o = refl

-- it isn't from the origin
pub from_another : (x : Item) → (x.from ≡ x.slot.origin → ⊥) → (x.from == x.slot.origin && kind_eq x.kind Send) ≡ false
from_another x apart = by (x.from == x.slot.origin) refl
  where
    by : (b : Bool) → (x.from == x.slot.origin) ≡ b → (b && kind_eq x.kind Send) ≡ false
    by true same = absurd (apart (eqb-true x.from x.slot.origin same))
    by false other = refl

-- or it is no SEND
pub of_another_kind : (x : Item) → kind_eq x.kind Send ≡ false → (x.from == x.slot.origin && kind_eq x.kind Send) ≡ false
of_another_kind x other = ap (λ b. x.from == x.slot.origin && b) other ∙ and_false (x.from == x.slot.origin)
  where
    and_false : (b : Bool) → (b && false) ≡ false
    and_false true = refl
    and_false false = refl

-- the digest of its message, as it was answered
pub digest_is : (w : Setting) (states : ℕ → CoreState) (old : Watch) (new : Hashed) (k : KeyRow) (x : Item) (v d : List ℕ) → TablesStand w states old → v ≡ x.value →
    ((prints : List Print) → HashedStand old.hashed prints → IsDigestOf new k v prints (Some d)) → d ≡ (tags_of k).digest x.value
digest_is w states old new k x v d stand value found = (found (prints_at w states) stand.hashed).0 ∙ ap (tags_of k).digest value

-- a SEND has what is hashed of one
as_send : (new : Hashed) (k : KeyRow) (x : Item) (v : List ℕ) (prints : List Print) (clash : Bool) → v ≡ x.value → x.kind ≡ Send →
    Meets new (prints_with k x.slot v) prints clash → Meets new (prints_by_kind k x.slot x.kind x.value) prints clash
as_send new k x v prints clash value kind meets =
    subst (λ (y : Kind). Meets new (prints_by_kind k x.slot y x.value) prints clash) (sym kind)
    (subst (λ (u : List ℕ). Meets new (prints_with k x.slot u) prints clash) value meets)

pub send_clashes : (new : Hashed) (k : KeyRow) (x : Item) (v : List ℕ) (prints : List Print) → v ≡ x.value → x.kind ≡ Send → IsDigestOf new k v prints None →
    Meets new (prints_by_kind k x.slot x.kind x.value) prints true
send_clashes new k x v prints value kind clash = as_send new k x v prints true value kind (message_clashes k x.slot v prints clash)

pub send_meets : (mid new : Hashed) (k same : KeyRow) (x : Item) (v d : List ℕ) (met : MetEntries) (clash : Bool) (prints : List Print) → same ≡ k → v ≡ x.value → x.kind ≡ Send → met ≡ met_with k x.slot d →
    IsDigestOf mid k v prints (Some d) →
    ((m : List ℕ) → met ≡ met_with same x.slot ((tags_of same).digest m) → (ps : List Print) → HashedStand mid (OfMessage m ((tags_of same).digest m) ∷ ps) → Meets new (prints_with same x.slot m) ps clash) →
    Meets new (prints_by_kind k x.slot x.kind x.value) prints clash
send_meets mid new k same x v d met clash prints keys value kind is found adds =
    let there : HashedStand mid (OfMessage v ((tags_of k).digest v) ∷ prints) = subst (λ (y : List ℕ). HashedStand mid (OfMessage v y ∷ prints)) found.0 found.1 in
    let own : met ≡ met_with same x.slot ((tags_of same).digest v) =
    is ∙ ap (met_with k x.slot) found.0 ∙ ap (λ (y : KeyRow). met_with y x.slot ((tags_of y).digest v)) (sym keys) in
    as_send new k x v prints clash value kind (subst (λ (y : KeyRow). Meets new (prints_with y x.slot v) prints clash) keys (adds v own prints there))

-- ---- another item that is hashed, as the code has it

message_alone : (k : KeyRow) (s : Slot) (kind : Kind) (m : List ℕ) → kind_eq kind Send ≡ false → OfMessage m ((tags_of k).digest m) ∷ [] ≡ prints_by_kind k s kind m
message_alone k s kinds.Init m other = refl
message_alone k s kinds.Echo m other = refl
message_alone k s kinds.Ready m other = refl
message_alone k s kinds.Send m other = absurd (cc)
message_alone k s kinds.Hashes m other = refl
message_alone k s kinds.Column m other = refl
message_alone k s kinds.Want m other = refl
message_alone k s kinds.Value m other = refl

message_meets : (new : Hashed) (k : KeyRow) (m : List ℕ) (prints : List Print) (found : Option (List ℕ)) → IsDigestOf new k m prints found → Meets new (OfMessage m ((tags_of k).digest m) ∷ []) prints (is_none found)
message_meets new k m prints None clash =
    let p = OfMessage m ((tags_of k).digest m) in
    clash_collides p prints (p ∷ prints) (inl refl) (λ x there. inr there) clash
message_meets new k m prints (Some d) found = subst (λ (y : List ℕ). HashedStand new (OfMessage m y ∷ prints)) found.0 found.1

none_so : (found : Option (List ℕ)) (clash : Bool) → is_some found ≡ not clash → is_none found ≡ clash
none_so None true e = refl
none_so None false e = absurd (cc)
none_so (Some d) true e = absurd (cc)
none_so (Some d) false e = refl

pub hash_meets : (new : Hashed) (k : KeyRow) (x : Item) (v : List ℕ) (prints : List Print) (found : Option (List ℕ)) (clash : Bool) → v ≡ x.value → kind_eq x.kind Send ≡ false → is_some found ≡ not clash →
    IsDigestOf new k v prints found → Meets new (prints_by_kind k x.slot x.kind x.value) prints clash
hash_meets new k x v prints found clash value other none is =
    subst (λ (ps : List Print). Meets new ps prints clash) (message_alone k x.slot x.kind x.value other)
    (subst (λ (u : List ℕ). Meets new (OfMessage u ((tags_of k).digest u) ∷ []) prints clash) value
    (subst (λ b. Meets new (OfMessage v ((tags_of k).digest v) ∷ []) prints b) (none_so found clash none) (message_meets new k v prints found is)))

-- ---- an item that the audit looks at

-- what holds of a call that made a replica take an item, where nothing broke before
pub record IsItem (w : Setting) (states : ℕ → CoreState) (c : Option CallAt) (at : ℕ) (x : Item) (watch : Watch) : Type 0 where
  pub taking : IsTaking w states c at x
  pub below : at < w.numbers.n
  pub fair : is_forged_frame w states c ≡ false
  pub good : IsInGrammar w.numbers w.mode x
  pub watched : is_looked w.mode x ≡ true
  pub holds : watch.verdict ≡ audits.Holds
  pub tables : TablesStand w states watch

pub item_is : (w : Setting) (states : ℕ → CoreState) (c : Option CallAt) (at : ℕ) (x : Item) (watch : Watch) → ((i : ℕ) → w.is_correct i ≡ true → i < w.numbers.n) → IsTold w states c at false (Some x) →
    WatchStands w states audits.Holds watch → IsItem w states c at x watch
item_is w states c at x watch within told stand =
    let is = watched_is w.mode (item_taken w states c) x (sym told.item) in
    let taking = is_taking w states c at x told.place is.1 in
    record {
      taking = taking;
      below = within at taking.right;
      fair = sym told.frame;
      good = subst (λ (o : Option Item). IsGoodIf w o) is.1 told.good;
      watched = is.0;
      holds = stand.found;
      tables = stand.tables refl;
    }

-- what it forges
item_forges : (w : Setting) (states : ℕ → CoreState) (c : Option CallAt) (at : ℕ) (x : Item) (watch : Watch) → IsItem w states c at x watch → is_forged_at w states c ≡ is_forged_item w states at (Some x)
item_forges w states c at x watch is = taking_forges w states c at x is.taking is.fair

-- an item that isn't a column is hashed
hashed_kind : (form : ℕ) (kind : Kind) → is_watched form kind ≡ true → kind_eq kind Column ≡ false → is_hashed form kind ≡ true
hashed_kind form kind looked other = elim (or_cases (is_hashed form kind) (kind_eq kind Column) looked) [
  | inl hashed ↦ hashed
  | inr column ↦ absurd (false≢true (sym other ∙ column))
]

takes_item : (w : Setting) (states : ℕ → CoreState) (c : Option CallAt) (at : ℕ) (x : Item) (watch : Watch) → (is : IsItem w states c at x watch) → kind_eq x.kind Column ≡ false → TakesItem w states is.taking.call x
takes_item w states c at x watch is other =
    let call = is.taking.call in
    record {
      right = ap w.is_correct is.taking.place ∙ is.taking.right;
      below = subst (λ (k : ℕ). k < w.numbers.n) (sym is.taking.place) is.below;
      history = history_taken (states call.at).history (handled_at w states call).state.history x (grew (rules_at w call.at) (w.keys call.at) (states call.at) call.call) is.taking.taken;
      kind = hashed_kind (form_of w.mode x.slot) x.kind is.watched other;
    }

-- a column isn't hashed
column_unhashed : (form : ℕ) (kind : Kind) → kind_eq kind Column ≡ true → (kind_eq kind Send ≡ false) × (is_hashed form kind ≡ false)
column_unhashed form kinds.Init e = absurd (cc)
column_unhashed form kinds.Echo e = absurd (cc)
column_unhashed form kinds.Ready e = absurd (cc)
column_unhashed form kinds.Send e = absurd (cc)
column_unhashed form kinds.Hashes e = absurd (cc)
column_unhashed form kinds.Column e = (refl, refl)
column_unhashed form kinds.Want e = absurd (cc)
column_unhashed form kinds.Value e = absurd (cc)

item_fair : (w : Setting) (states : ℕ → CoreState) (c : Option CallAt) (at : ℕ) (x : Item) (watch : Watch) → IsItem w states c at x watch → kind_eq x.kind Column ≡ false → is_forged_at w states c ≡ false
item_fair w states c at x watch is other = item_forges w states c at x watch is ∙ other_fair w states at x other

-- what the maps met, by the place
meets_here : (w : Setting) (states : ℕ → CoreState) (seats : Seats) (at : ℕ) (x : Item) (old new : Watch) (clash : Bool) → SeatsStand w seats → at < w.numbers.n → TablesStand w states old →
    MeetsItem old new (w.keys at) at x clash → Meets new.hashed (prints_at_kind (place_in w at x.slot) (tags_of (w.keys at)) x.kind x.value) (prints_at w states) clash
meets_here w states seats at x old new clash seats_stand below stand meets =
    let own = seats_stand.own at below in
    subst (λ (ps : List Print). Meets new.hashed ps (prints_at w states) clash) (hashed_here w at x.slot x.kind x.value own.0 own.1)
    (meets.hashed (prints_at w states) stand.hashed)

pub no_column : (kind : Kind) → (kind ≡ Column → ⊥) → kind_eq kind Column ≡ false
no_column kind other = by (kind_eq kind Column) refl
  where
    by : (b : Bool) → kind_eq kind Column ≡ b → kind_eq kind Column ≡ false
    by true same = absurd (other (kind_eq_is kind Column same))
    by false e = e

pub no_send_there : (kind : Kind) → (kind ≡ Send → ⊥) → kind_eq kind Send ≡ false
no_send_there kind other = by (kind_eq kind Send) refl
  where
    by : (b : Bool) → kind_eq kind Send ≡ b → kind_eq kind Send ≡ false
    by true same = absurd (other (kind_eq_is kind Send same))
    by false e = e

pub item_collides : (w : Setting) (states : ℕ → CoreState) (c : Option CallAt) (at : ℕ) (x : Item) (old mid new : Watch) (seats : Seats) (clash : Bool) (number : ℕ) →
    SeatsStand w seats → IsItem w states c at x old → kind_eq x.kind Column ≡ false → MeetsItem old mid (w.keys at) at x clash → clash ≡ true → new.verdict ≡ audits.Collision number →
    WatchStands w (after_call w states c) (verdict_after w states c audits.Holds number) new
item_collides w states c at x old mid new seats clash number seats_stand is other meets clashed found =
    let P : Bool → Type 0 = λ b. Meets mid.hashed (prints_at_kind (place_in w at x.slot) (tags_of (w.keys at)) x.kind x.value) (prints_at w states) b in
    let colliding : collide (prints_at_kind (place_in w at x.slot) (tags_of (w.keys at)) x.kind x.value ++ prints_at w states) ≡ true =
    subst P clashed (meets_here w states seats at x old mid clash seats_stand is.below is.tables meets) in
    let call = is.taking.call in
    let there : collide (prints_at_kind (place_in w call.at x.slot) (tags_of (w.keys call.at)) x.kind x.value ++ prints_at w states) ≡ true =
    subst (λ (i : ℕ). collide (prints_at_kind (place_in w i x.slot) (tags_of (w.keys i)) x.kind x.value ++ prints_at w states) ≡ true) (sym is.taking.place) colliding in
    let after : collide (prints_at w (after_call w states (Some call))) ≡ true =
    collide_within (prints_at_kind (place_in w call.at x.slot) (tags_of (w.keys call.at)) x.kind x.value ++ prints_at w states) (prints_at w (after_call w states (Some call)))
    (within_after w states call x (takes_item w states c at x old is other)) there in
    now_collides w states c new number (item_fair w states c at x old is other)
    (ap (λ (d : Option CallAt). collide (prints_at w (after_call w states d))) is.taking.called ∙ after) found

item_tables : (w : Setting) (states : ℕ → CoreState) (c : Option CallAt) (at : ℕ) (x : Item) (old new : Watch) (seats : Seats) (clash : Bool) →
    SeatsStand w seats → (is : IsItem w states c at x old) → kind_eq x.kind Column ≡ false → MeetsItem old new (w.keys at) at x clash → clash ≡ false →
    TablesStand w (after_call w states (Some is.taking.call)) new
item_tables w states c at x old new seats clash seats_stand is other meets apart =
    let call = is.taking.call in
    let takes = takes_item w states c at x old is other in
    let P : Bool → Type 0 = λ b. Meets new.hashed (prints_at_kind (place_in w at x.slot) (tags_of (w.keys at)) x.kind x.value) (prints_at w states) b in
    let here : HashedStand new.hashed (prints_at_kind (place_in w at x.slot) (tags_of (w.keys at)) x.kind x.value ++ prints_at w states) =
    subst P apart (meets_here w states seats at x old new clash seats_stand is.below is.tables meets) in
    let there : HashedStand new.hashed (prints_at_kind (place_in w call.at x.slot) (tags_of (w.keys call.at)) x.kind x.value ++ prints_at w states) =
    subst (λ (i : ℕ). HashedStand new.hashed (prints_at_kind (place_in w i x.slot) (tags_of (w.keys i)) x.kind x.value ++ prints_at w states)) (sym is.taking.place) here in
    record {
      sent = sent_after w states call x old new (w.keys at) takes is.tables (ap w.keys (sym is.taking.place))
          (subst (λ (j : ℕ). (s : Slot) (i : ℕ) → entries_met_at new.sent.table s i ≡ (if is_same_at x.slot j s i then option_or (entries_met_at old.sent.table s i) (met_said (w.keys at) x) else entries_met_at old.sent.table s i))
          (sym is.taking.place) (meets.sent apart));
      hashed = stand_within new.hashed (prints_at_kind (place_in w call.at x.slot) (tags_of (w.keys call.at)) x.kind x.value ++ prints_at w states) (prints_at w (after_call w states (Some call)))
          (within_after w states call x takes) (after_within w states call x takes) there;
    }

pub item_holds : (w : Setting) (states : ℕ → CoreState) (c : Option CallAt) (at : ℕ) (x : Item) (old new : Watch) (seats : Seats) (clash : Bool) (number : ℕ) →
    SeatsStand w seats → IsItem w states c at x old → kind_eq x.kind Column ≡ false → MeetsItem old new (w.keys at) at x clash → clash ≡ false →
    WatchStands w (after_call w states c) (verdict_after w states c audits.Holds number) new
item_holds w states c at x old new seats clash number seats_stand is other meets apart =
    still_holds w states c new number (item_fair w states c at x old is other)
    (subst (λ (d : Option CallAt). TablesStand w (after_call w states d) new) (sym is.taking.called) (item_tables w states c at x old new seats clash seats_stand is other meets apart))
    (meets.verdict ∙ is.holds)

-- a column
pub column_forges : (w : Setting) (states : ℕ → CoreState) (c : Option CallAt) (at : ℕ) (x : Item) (old new : Watch) (forges : Bool) (number : ℕ) →
    IsItem w states c at x old → forges ≡ is_forged_item w states at (Some x) → forges ≡ true → new.verdict ≡ audits.Forged number →
    WatchStands w (after_call w states c) (verdict_after w states c audits.Holds number) new
column_forges w states c at x old new forges number is says forged found =
    now_forged w states c new number (item_forges w states c at x old is ∙ sym says ∙ forged) found

pub column_holds : (w : Setting) (states : ℕ → CoreState) (c : Option CallAt) (at : ℕ) (x : Item) (watch : Watch) (forges : Bool) (number : ℕ) →
    IsItem w states c at x watch → kind_eq x.kind Column ≡ true → forges ≡ is_forged_item w states at (Some x) → forges ≡ false →
    WatchStands w (after_call w states c) (verdict_after w states c audits.Holds number) watch
column_holds w states c at x watch forges number is kind says fair =
    still_holds w states c watch number (item_forges w states c at x watch is ∙ sym says ∙ fair)
    (tables_stay w states c watch
    (λ item taken. subst (λ (y : Item). IsUnhashed w y) (item_taken_is item taken) (column_unhashed (form_of w.mode x.slot) x.kind kind)) is.tables) is.holds
  where
    item_taken_is : (item : Item) → item_taken w states c ≡ Some item → x ≡ item
    item_taken_is item taken =
        let same : Some x ≡ Some item = sym (ap (item_taken w states) is.taking.called ∙ is.taking.taken) ∙ taken in
        cc
