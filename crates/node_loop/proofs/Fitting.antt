-- The events of serving may stand in a file.
use Rattle.std.proofs.Common.{◌≡◌, ℕ, ◌<◌, ◌^◌, Bool, true, false, List, [], ◌∷◌, length, Option, Some, None, refl, subst, arith, if◌then◌else◌}
use Rattle.std.specs.List.{AllByRecursion}
use Rattle.std.proofs.lemmas.List.Elements.{recursion_from_All}
use Rattle.ritas_base.specs.declared.event.Event.{Event}
use Rattle.ritas_base.specs.declared.event.Event.TheVariants as events
use Rattle.outside.specs.declared.link.LinkItem.{LinkItem}
use Rattle.outside.specs.declared.link.LinkItem.TheVariants as items
use Rattle.outside.specs.Links.{bytes_of}
use Rattle.client_port.specs.Messages.{Request, request_in, query_in}
use Rattle.command_log.specs.Rows.{position_of}
use Rattle.world_model.specs.World.{Setting, seen_of}
use Rattle.world_model.specs.Agree.{rows_at}
use Rattle.node_loop.specs.Waiting.{Waiting, with_waiter}
use Rattle.node_loop.specs.Calls.{Outcome, event_called, asked_in, refusal_in, submitted, submitted_so, silent, is_waited_for, asked_so, asks_so, asks_but, asks, if_here, item_does, first_does, epoch_closed, turned_away, offered_unless}
use Rattle.node_loop.specs.Chains.{closing_command, is_reserved, is_crowded}
use Rattle.node_loop.specs.Serving.{so_far, onto, Want, Begins, Finishes, Overflows, Turns, Halts, Reminds, Asks, wants_of, first_or, Serving, Round, Began, Turned, Closed, Reminded, Took, behind_first, after_from, IsWanted, AreWantedFrom, Ends, Closes}
use Rattle.node_loop.specs.declared.limits.Limits.{Limits}
use Rattle.node_loop.specs.Told.{after_groups}
use Rattle.node_loop.specs.Served.{MayBegin}
use Rattle.node_loop.specs.Laws.{IsServed, EventsFit}
use Rattle.node_loop.proofs.Turning.{MayBeWanted, may_be_wanted, turns_correct, closes_correct}
use Rattle.node_loop.proofs.Chaining.{closing_size}
use Rattle.keyed_channel.specs.Notes.{is_note}
use Rattle.node_loop.specs.Peers.{Peers}

-- ---- the first items that are left

behind_fits : (left : List LinkItem) → AllByRecursion MayBegin left → AllByRecursion MayBegin (behind_first left)
behind_fits [] all = tt
behind_fits (item ∷ left) all = all.1

left_fits : (w : Setting) (past : List Event) (start : Serving) (rounds : List Round) → AllByRecursion MayBegin start.left
    → AllByRecursion MayBegin (after_from w past start rounds).left
left_fits w past start [] all = all
left_fits w past start (Began item ∷ rounds) all = behind_fits (after_from w past start rounds).left (left_fits w past start rounds all)
left_fits w past start (Turned i ∷ rounds) all = left_fits w past start rounds all
left_fits w past start (Closed i epoch ∷ rounds) all = left_fits w past start rounds all
left_fits w past start (Reminded i j ∷ rounds) all = left_fits w past start rounds all
left_fits w past start (Took item ∷ rounds) all = left_fits w past start rounds all

-- one that is taken up is a first one
begun_fits : (left : List LinkItem) (other : Want) (item : LinkItem) → AllByRecursion MayBegin left → ((x : LinkItem) → other ≡ Begins x → ⊥)
    → IsWanted (first_or left other) (Began item) → MayBegin item
begun_fits [] (Begins x) item all none want = absurd (none x refl)
begun_fits [] Ends item all none want = absurd want
begun_fits [] Finishes item all none want = absurd want
begun_fits [] (Overflows k) item all none want = absurd want
begun_fits [] (Turns i) item all none want = absurd want
begun_fits [] (Closes i epoch) item all none want = absurd want
begun_fits [] Halts item all none want = absurd want
begun_fits [] (Reminds i j) item all none want = absurd want
begun_fits [] Asks item all none want = absurd want
begun_fits (x ∷ left) other item all none want = subst MayBegin want all.0

-- ---- outcomes

-- the event of an outcome, if there is one
abbrev FitsOutcome : Setting → Option Event → Type 0
FitsOutcome w None = Unit {0}
FitsOutcome w (Some e) = IsServed w e

submitted_fits : (w : Setting) (es : List Event) (at : ℕ) (conn : Option ℕ) (bytes : List ℕ) (ws : Waiting) (code : Option ℕ)
    → IsServed w (events.Input at bytes) → FitsOutcome w (submitted_so w es at conn bytes ws code).event
submitted_fits w es at conn bytes ws None fits = fits
submitted_fits w es at conn bytes ws (Some code) fits = fits

asked_fits : (w : Setting) (es : List Event) (at : ℕ) (conn : Option ℕ) (bytes : List ℕ) (ws : Waiting) (place : Option ℕ)
    → IsServed w (events.Input at bytes) → FitsOutcome w (asked_so w es at conn bytes ws place).event
asked_fits w es at conn bytes ws (Some position) fits = tt
asked_fits w es at conn bytes ws None fits = reserved (is_reserved w (asked_in at bytes).client)
  where
    crowded : (b : Bool) → FitsOutcome w (if b then turned_away at conn bytes 7 ws else submitted w es at conn bytes ws).event
    crowded true = tt
    crowded false = submitted_fits w es at conn bytes ws (refusal_in (seen_of w es (events.Input at bytes))) fits

    waited : (b : Bool) → FitsOutcome w (offered_unless w es at conn bytes ws b).event
    waited true = tt
    waited false = crowded (is_crowded w es at)

    reserved : (b : Bool) → FitsOutcome w (if b then turned_away at conn bytes 8 ws else offered_unless w es at conn bytes ws (is_waited_for (ws (asked_in at bytes)))).event
    reserved true = tt
    reserved false = waited (is_waited_for (ws (asked_in at bytes)))

asks_fits : (w : Setting) (es : List Event) (at : ℕ) (conn : Option ℕ) (bytes : List ℕ) (ws : Waiting) (r : Option Request)
    → IsServed w (events.Input at bytes) → FitsOutcome w (asks_so w es at conn bytes ws r).event
asks_fits w es at conn bytes ws None fits = submitted_fits w es at conn bytes ws (refusal_in (seen_of w es (events.Input at bytes))) fits
asks_fits w es at conn bytes ws (Some r) fits = asked_fits w es at conn bytes ws (position_of (rows_at w es at) r.client r.request) fits

message_fits : (w : Setting) (es : List Event) (at : ℕ) (conn : Option ℕ) (bytes : List ℕ) (ws : Waiting) (q : Option ℕ)
    → IsServed w (events.Input at bytes) → FitsOutcome w (asks_but w es at conn bytes ws q).event
message_fits w es at conn bytes ws (Some position) fits = tt
message_fits w es at conn bytes ws None fits = asks_fits w es at conn bytes ws (request_in bytes) fits

-- the command that closes an epoch has eight bytes
closing_fits : (w : Setting) (es : List Event) (i epoch : ℕ) (ws : Waiting) → w.is_correct i ≡ true → FitsOutcome w (epoch_closed w es i epoch ws).event
closing_fits w es i epoch ws right =
    let short : length (closing_command epoch) < 2 ^ 16 = omega (arith, closing_size epoch) in
    submitted_fits w es i None (closing_command epoch) ws (refusal_in (seen_of w es (events.Input i (closing_command epoch)))) (right, short)

here_fits : (w : Setting) (at : ℕ) (did : Outcome) (ws : Waiting) → (w.is_correct at ≡ true → FitsOutcome w did.event) → FitsOutcome w (if_here w at did ws).event
here_fits w at did ws fits = here (w.is_correct at) refl
  where
    here : (b : Bool) → w.is_correct at ≡ b → FitsOutcome w (if b then did else silent [] ws).event
    here true right = fits right
    here false wrong = tt

note_fits : (w : Setting) (es : List Event) (to : ℕ) (bytes : List ℕ) (ws : Waiting) (b : Bool) → IsServed w (events.Frame to bytes)
    → FitsOutcome w (if b then silent [] ws else event_called w es to (events.Frame to bytes) ws).event
note_fits w es to bytes ws true fits = tt
note_fits w es to bytes ws false fits = fits

item_fits : (w : Setting) (es : List Event) (item : LinkItem) (ws : Waiting) → length (bytes_of item) < 2 ^ 16 → FitsOutcome w (item_does w es item ws).event
item_fits w es (items.Frame to bytes) ws short =
    here_fits w to (if is_note bytes then silent [] ws else event_called w es to (events.Frame to bytes) ws) ws (λ right. note_fits w es to bytes ws (is_note bytes) (right, short))
item_fits w es (items.Client at conn bytes) ws short =
    here_fits w at (asks w es at (Some conn) bytes ws) ws (λ right. message_fits w es at (Some conn) bytes ws (query_in bytes) (right, short))
item_fits w es (items.Reply from bytes) ws short = tt
item_fits w es (items.Up at peer) ws short = tt
item_fits w es (items.Down at peer) ws short = tt
item_fits w es (items.Left at conn) ws short = tt
item_fits w es items.End ws short = tt

first_fits : (w : Setting) (es : List Event) (item : LinkItem) (ws : Waiting) → MayBegin item → FitsOutcome w (first_does w es item ws).event
first_fits w es (items.Client at conn bytes) ws short =
    here_fits w at (asks w es at None bytes ws) ws (λ right. message_fits w es at None bytes ws (query_in bytes) (right, short))
first_fits w es (items.Frame to bytes) ws none = absurd none
first_fits w es (items.Reply from bytes) ws none = absurd none
first_fits w es (items.Up at peer) ws none = absurd none
first_fits w es (items.Down at peer) ws none = absurd none
first_fits w es (items.Left at conn) ws none = absurd none
first_fits w es items.End ws none = absurd none

-- ---- serving

onto_fits : (w : Setting) (es : List Event) (o : Option Event) → FitsOutcome w o → AllByRecursion (IsServed w) es → AllByRecursion (IsServed w) (onto o es)
onto_fits w es None fits all = all
onto_fits w es (Some e) fits all = (fits, all)

-- what is wanted of rules is no first item
no_first : (w : Setting) (limits : Limits) (es : List Event) (taken : ℕ) (ws : Waiting) (p : Peers) (x : LinkItem) → wants_of w limits es taken ws p ≡ Begins x → ⊥
no_first w limits es taken ws p x is = subst (MayBeWanted w) is (may_be_wanted w limits es taken ws p)

-- a turn that is wanted is one at a correct replica
turned_fits : (w : Setting) (limits : Limits) (es : List Event) (taken i : ℕ) (ws : Waiting) (p : Peers) (left : List LinkItem)
    → IsWanted (first_or left (wants_of w limits es taken ws p)) (Turned i) → w.is_correct i ≡ true
turned_fits w limits es taken i ws p [] want = by_rule (wants_of w limits es taken ws p) refl want
  where
    by_rule : (rule : Want) → wants_of w limits es taken ws p ≡ rule → IsWanted rule (Turned i) → w.is_correct i ≡ true
    by_rule (Turns j) is same = subst (λ (k : ℕ). w.is_correct k ≡ true) same (turns_correct w limits es taken ws p j is)
    by_rule Ends is none = absurd none
    by_rule (Closes k l) is none = absurd none
    by_rule (Begins x) is none = absurd none
    by_rule Finishes is none = absurd none
    by_rule (Overflows k) is none = absurd none
    by_rule Halts is none = absurd none
    by_rule (Reminds k l) is none = absurd none
    by_rule Asks is none = absurd none
turned_fits w limits es taken i ws p (x ∷ left) none = absurd none

-- so is the closing of an epoch
closed_fits : (w : Setting) (limits : Limits) (es : List Event) (taken i epoch : ℕ) (ws : Waiting) (p : Peers) (left : List LinkItem)
    → IsWanted (first_or left (wants_of w limits es taken ws p)) (Closed i epoch) → w.is_correct i ≡ true
closed_fits w limits es taken i epoch ws p [] want = by_rule (wants_of w limits es taken ws p) refl want
  where
    by_rule : (rule : Want) → wants_of w limits es taken ws p ≡ rule → IsWanted rule (Closed i epoch) → w.is_correct i ≡ true
    by_rule (Closes j a) is same = subst (λ (k : ℕ). w.is_correct k ≡ true) same.0 (closes_correct w limits es taken ws p j a is)
    by_rule (Begins x) is none = absurd none
    by_rule Ends is none = absurd none
    by_rule Finishes is none = absurd none
    by_rule (Overflows k) is none = absurd none
    by_rule (Turns k) is none = absurd none
    by_rule Halts is none = absurd none
    by_rule (Reminds k l) is none = absurd none
    by_rule Asks is none = absurd none
closed_fits w limits es taken i epoch ws p (x ∷ left) none = absurd none

-- an item that was asked for is short
took_fits : (w : Setting) (limits : Limits) (es : List Event) (taken : ℕ) (item : LinkItem) (ws : Waiting) (p : Peers) (left : List LinkItem)
    → IsWanted (first_or left (wants_of w limits es taken ws p)) (Took item) → length (bytes_of item) < 2 ^ 16
took_fits w limits es taken item ws p [] want = by_rule (wants_of w limits es taken ws p) want
  where
    by_rule : (rule : Want) → IsWanted rule (Took item) → length (bytes_of item) < 2 ^ 16
    by_rule Asks given = given.short
    by_rule Ends none = absurd none
    by_rule (Closes k l) none = absurd none
    by_rule (Turns j) none = absurd none
    by_rule (Begins x) none = absurd none
    by_rule Finishes none = absurd none
    by_rule (Overflows k) none = absurd none
    by_rule Halts none = absurd none
    by_rule (Reminds k l) none = absurd none
took_fits w limits es taken item ws p (x ∷ left) none = absurd none

rounds_fit : (w : Setting) (past : List Event) (limits : Limits) (start : Serving) (rounds : List Round) → AllByRecursion MayBegin start.left
    → AllByRecursion (IsServed w) start.events → AreWantedFrom w past limits start rounds → AllByRecursion (IsServed w) (after_from w past start rounds).events
rounds_fit w past limits start [] firsts all wanted = all
rounds_fit w past limits start (Began item ∷ rounds) firsts all wanted =
    let s = after_from w past start rounds in
    let is_first = begun_fits s.left (wants_of w limits (so_far past s) s.taken s.waiting s.peers) item (left_fits w past start rounds firsts)
    (no_first w limits (so_far past s) s.taken s.waiting s.peers) wanted.0 in
    onto_fits w s.events (first_does w (so_far past s) item s.waiting).event (first_fits w (so_far past s) item s.waiting is_first)
    (rounds_fit w past limits start rounds firsts all wanted.1)
rounds_fit w past limits start (Turned i ∷ rounds) firsts all wanted =
    let s = after_from w past start rounds in
    (turned_fits w limits (so_far past s) s.taken i s.waiting s.peers s.left wanted.0, rounds_fit w past limits start rounds firsts all wanted.1)
rounds_fit w past limits start (Closed i epoch ∷ rounds) firsts all wanted =
    let s = after_from w past start rounds in
    let right = closed_fits w limits (so_far past s) s.taken i epoch s.waiting s.peers s.left wanted.0 in
    onto_fits w s.events (epoch_closed w (so_far past s) i epoch s.waiting).event (closing_fits w (so_far past s) i epoch s.waiting right)
    (rounds_fit w past limits start rounds firsts all wanted.1)
rounds_fit w past limits start (Reminded i j ∷ rounds) firsts all wanted = rounds_fit w past limits start rounds firsts all wanted.1
rounds_fit w past limits start (Took item ∷ rounds) firsts all wanted =
    let s = after_from w past start rounds in
    onto_fits w s.events (item_does w (so_far past s) item s.waiting).event
    (item_fits w (so_far past s) item s.waiting (took_fits w limits (so_far past s) s.taken item s.waiting s.peers s.left wanted.0))
    (rounds_fit w past limits start rounds firsts all wanted.1)

-- ---- groups

left_fits_behind : (w : Setting) (past : List Event) (start : Serving) (groups : List (List Round)) → AllByRecursion MayBegin start.left
    → AllByRecursion MayBegin (after_groups w past start groups).left
left_fits_behind w past start [] all = all
left_fits_behind w past start (group ∷ older) all = left_fits w past (after_groups w past start older) group (left_fits_behind w past start older all)

pub all_fit : EventsFit
all_fit w past limits start [] firsts all are = all
all_fit w past limits start (group ∷ older) firsts all are =
    rounds_fit w past limits (after_groups w past start older) group (left_fits_behind w past start older (recursion_from_All MayBegin start.left firsts))
    (all_fit w past limits start older firsts all are.2) are.0.wanted
