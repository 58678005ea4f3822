-- What comes of an item or a turn.
use Rattle.std.proofs.Common.{inl, inr, ◌≡◌, ℕ, Bool, true, false, ◌&&◌, nat_le, List, [], ◌∷◌, ◌++◌, length, map, Option, Some, None, refl, sym, ◌∙◌, ap, ap₂, subst, append-nil, if◌then◌else◌}
use Rattle.std.specs.List.{slice_get}
use Rattle.std.proofs.lemmas.Bool.{both_ways}
use Rattle.std.proofs.lemmas.Option.{slice_get_cases}
use Rattle.ritas_base.specs.declared.event.Event.{Event}
use Rattle.ritas_base.specs.Limits.{least_request, longest_input}
use Rattle.keyed_channel.specs.KeyRow.{KeyRow}
use Rattle.ritas_core.specs.Stands.{Meaning}
use Rattle.outside.specs.declared.link.Sent.{Sent}
use Rattle.client_port.specs.Messages.{Request, request_parts, request_in, query_in}
use Rattle.command_log.specs.Rows.{position_of}
use Rattle.replica.specs.Out.{OutFrame}
use Rattle.replica.specs.declared.replica.Replica.{Replica}
use Rattle.world_model.specs.World.{Setting}
use Rattle.world_model.specs.Agree.{rows_at}
use Rattle.node_loop.specs.declared.house.House.{House}
use Rattle.node_loop.specs.declared.output.More.{More}
use Rattle.node_loop.specs.declared.output.More.TheVariants as mores
use Rattle.node_loop.specs.declared.output.Output.{Output}
use Rattle.node_loop.specs.declared.output.Reply.{Reply}
use Rattle.node_loop.specs.declared.waiting.Asked.{Asked}
use Rattle.node_loop.specs.declared.waiting.Waiters.{Waiters}
use Rattle.node_loop.specs.Waiting.{Waiting, with_waiter}
use Rattle.node_loop.specs.Chains.{is_reserved, is_crowded}
use Rattle.node_loop.specs.Calls.{Outcome, event_called, waiting_left_by, replies_by, asked_in, submitted, asked_so, asks, asks_but, asks_so, queried, silent, is_waited_for, if_here, turned_away, offered_unless}
use Rattle.node_loop.specs.Peers.{Peers, keep_all}
use Rattle.node_loop.specs.Resending.{Brought, nothing_more}
use Rattle.node_loop.specs.Serving.{frames_made_by, sent_by}
use Rattle.node_loop.specs.Served.{AreHere}
use Rattle.node_loop.specs.Keeping.{is_kept}
use Rattle.node_loop.specs.Standing.{HouseStands, IsEmptyOutput, ComesOut, IsMore, frame_by, reply_by}
use Rattle.node_loop.specs.WaitersStanding.{IsWaiting}
use Rattle.node_loop.proofs.Heres.{nowhere}

-- a correct replica stands at a place that has a number
pub right_at : {S E C : Type 0} (m : Meaning S E C KeyRow) (w : Setting) (es : List Event) (numbers : List ℕ) (here : List (Replica S E C)) (place at : ℕ)
    → AreHere m w es numbers here → slice_get numbers place ≡ Some at → w.is_correct at ≡ true
right_at m w es numbers here place at stand number = elim (slice_get_cases here place).1 [
  | inl there ↦ (stand.each place at there.0 number there.2).correct
  | inr past ↦ absurd (nowhere m w es numbers here place at stand number past.0)
]

-- the replicas were given an event, nobody began or ceased to wait, and what is kept for peers stays
pub given_stands : {S E C : Type 0} (m : Meaning S E C KeyRow) (w : Setting) (before es : List Event) (numbers : List ℕ) (old given : House S E C) (ws : Waiting) (p : Peers)
    → HouseStands m w before numbers old ws p → AreHere m w es numbers given.replicas.items → given.waiting ≡ old.waiting → given.keepers ≡ old.keepers
    → HouseStands m w es numbers given ws p
given_stands m w before es numbers old given ws p stands stand waits keeps = record {
  here = stand;
  waiting = let P : Waiters → Type 0 = λ x. IsWaiting x ws in subst P (sym waits) stands.waiting;
  many = ap (λ v. length v.items) keeps ∙ stands.many;
  keepers = λ k i keeper number there. stands.keepers k i keeper number (ap (λ v. slice_get v.items k) (sym keeps) ∙ there);
}

-- others wait than did
pub wait_else : {S E C : Type 0} (m : Meaning S E C KeyRow) (w : Setting) (es : List Event) (numbers : List ℕ) (old now : House S E C) (ws us : Waiting) (p : Peers)
    → HouseStands m w es numbers old ws p → now.replicas ≡ old.replicas → now.keepers ≡ old.keepers → IsWaiting now.waiting us → HouseStands m w es numbers now us p
wait_else {S = S} {E = E} {C = C} m w es numbers old now ws us p stands reps keeps waits = record {
  here = let P : List (Replica S E C) → Type 0 = λ x. AreHere m w es numbers x in subst P (sym (ap (λ v. v.items) reps)) stands.here;
  waiting = waits;
  many = ap (λ v. length v.items) keeps ∙ stands.many;
  keepers = λ k i keeper number there. stands.keepers k i keeper number (ap (λ v. slice_get v.items k) (sym keeps) ∙ there);
}

-- nothing goes to peers but the frames of a call
abbrev pub quietly : Setting → List Event → Peers → Outcome → Brought
quietly w es p did = nothing_more (keep_all w.mode.version (frames_made_by w es did.event) p)

pub is_none : (w : Setting) (at : ℕ) (is : More) (more : Brought) → is ≡ mores.Nothing → more.deeds ≡ [] → IsMore w at is more
is_none w at is more none no_deeds = let P : More → Type 0 = λ x. IsMore w at x more in subst P (sym none) no_deeds

pub same_more : (w : Setting) (at k : ℕ) (is was : More) (more : Brought) → k ≡ at → is ≡ was → IsMore w at was more → IsMore w k is more
same_more w at k is was more at_is same it =
    let P : More → Type 0 = λ x. IsMore w at x more in
    let Q : ℕ → Type 0 = λ x. IsMore w x is more in
    subst Q (sym at_is) (subst P (sym same) it)

-- the event of a call comes, with its frames, the replies to those who waited, and what goes to peers besides
pub came : {S E C : Type 0} (m : Meaning S E C KeyRow) (w : Setting) (es : List Event) (numbers : List ℕ) (now : House S E C) (output : Output) (at count : ℕ) (e : Event)
    (clear frames : List OutFrame) (quiet : List Reply) (ws : Waiting) (before : Peers) (more : Brought)
    → count ≡ length (rows_at w es at) → clear ≡ [] → map (frame_by at) frames ≡ map (frame_by at) clear ++ sent_by w es (Some e) → quiet ≡ []
    → w.is_correct at ≡ true → IsMore w at output.more more → keep_all w.mode.version (frames_made_by w es (Some e)) before ≡ more.peers
    → HouseStands m w (e ∷ es) numbers now (waiting_left_by at count (rows_at w (e ∷ es) at) ws) before
    → map (reply_by at) output.replies.items ≡ map (reply_by at) quiet ++ replies_by at count (rows_at w (e ∷ es) at) ws
    → output.at ≡ at → output.event ≡ Some e → output.kept ≡ is_kept w es e → output.frames.items ≡ frames → ComesOut m w es numbers now output (event_called w es at e ws) more
came m w es numbers now output at count e clear frames quiet ws before more many none made silence right besides keeps stands replied at_is event_is kept_is frames_is =
    let rows = rows_at w (e ∷ es) at in
    record {
      event = event_is;
      keeps = kept_is;
      frames = ap (λ k. map (frame_by k) output.frames.items) at_is ∙ ap (map (frame_by at)) frames_is ∙ made ∙ ap (λ xs. map (frame_by at) xs ++ sent_by w es (Some e)) none;
      besides = same_more w at output.at output.more output.more more at_is refl besides;
      nowhere = λ faulty. absurd (both_ways (w.is_correct at) (ap w.is_correct (sym at_is) ∙ faulty) right);
      replies = ap (λ k. map (reply_by k) output.replies.items) at_is ∙ replied ∙ ap (λ xs. map (reply_by at) xs ++ replies_by at count rows ws) silence ∙ ap (λ n. replies_by at n rows ws) many;
      before = before;
      kept = keeps;
      stands = let P : ℕ → Type 0 = λ n. HouseStands m w (e ∷ es) numbers now (waiting_left_by at n rows ws) before in subst P many stands;
    }

-- nothing goes to peers besides
pub came_quietly : {S E C : Type 0} (m : Meaning S E C KeyRow) (w : Setting) (es : List Event) (numbers : List ℕ) (now : House S E C) (output : Output) (at count : ℕ) (e : Event)
    (clear frames : List OutFrame) (quiet : List Reply) (ws : Waiting) (p : Peers)
    → count ≡ length (rows_at w es at) → clear ≡ [] → map (frame_by at) frames ≡ map (frame_by at) clear ++ sent_by w es (Some e) → quiet ≡ []
    → w.is_correct at ≡ true → output.more ≡ mores.Nothing
    → HouseStands m w (e ∷ es) numbers now (waiting_left_by at count (rows_at w (e ∷ es) at) ws) p
    → map (reply_by at) output.replies.items ≡ map (reply_by at) quiet ++ replies_by at count (rows_at w (e ∷ es) at) ws
    → output.at ≡ at → output.event ≡ Some e → output.kept ≡ is_kept w es e → output.frames.items ≡ frames → ComesOut m w es numbers now output (event_called w es at e ws) (quietly w es p (event_called w es at e ws))
came_quietly m w es numbers now output at count e clear frames quiet ws p many none made silence right no_more stands replied at_is event_is kept_is frames_is =
    let more = quietly w es p (event_called w es at e ws) in
    came m w es numbers now output at count e clear frames quiet ws p more many none made silence right (is_none w at output.more more no_more refl) refl
    stands replied at_is event_is kept_is frames_is

-- and these replies more
pub replied_too : {S E C : Type 0} (m : Meaning S E C KeyRow) (w : Setting) (es : List Event) (numbers : List ℕ) (now : House S E C) (before output : Output) (at : ℕ) (did : Outcome) (replies : List Sent) (more : Brought)
    → ComesOut m w es numbers now before did more → before.at ≡ at → output.at ≡ before.at → output.event ≡ before.event → output.kept ≡ before.kept → output.frames ≡ before.frames → output.more ≡ before.more
    → map (reply_by at) output.replies.items ≡ map (reply_by at) before.replies.items ++ replies
    → ComesOut m w es numbers now output (record did { replies = did.replies ++ replies }) more
replied_too m w es numbers now before output at did replies more comes before_is at_is event_is kept_is frames_is more_is replied = record {
  event = event_is ∙ comes.event;
  keeps = kept_is ∙ comes.keeps;
  frames = ap₂ (λ k fs. map (frame_by k) fs.items) at_is frames_is ∙ comes.frames;
  besides = same_more w before.at output.at output.more before.more more at_is more_is comes.besides;
  nowhere = λ faulty. comes.nowhere (ap w.is_correct (sym at_is) ∙ faulty);
  replies = ap (λ k. map (reply_by k) output.replies.items) (at_is ∙ before_is) ∙ replied ∙ ap (λ k. map (reply_by k) before.replies.items ++ replies) (sym before_is) ∙ ap (λ xs. xs ++ replies) comes.replies;
  before = comes.before;
  kept = comes.kept;
  stands = comes.stands;
}

-- nothing but what goes to peers besides, and replies
pub no_call : {S E C : Type 0} (m : Meaning S E C KeyRow) (w : Setting) (es : List Event) (numbers : List ℕ) (now : House S E C) (before output : Output) (replies : List Sent) (ws : Waiting) (more : Brought)
    → HouseStands m w es numbers now ws more.peers → IsEmptyOutput before → IsMore w before.at output.more more → (w.is_correct before.at ≡ false → more.deeds ≡ [])
    → output.at ≡ before.at → output.event ≡ before.event → output.kept ≡ before.kept → output.frames ≡ before.frames
    → map (reply_by before.at) output.replies.items ≡ map (reply_by before.at) before.replies.items ++ replies
    → ComesOut m w es numbers now output (silent replies ws) more
no_call m w es numbers now before output replies ws more stands clear besides none at_is event_is kept_is frames_is replied = record {
  event = event_is ∙ clear.event;
  keeps = kept_is ∙ clear.kept;
  frames = ap₂ (λ k fs. map (frame_by k) fs.items) at_is frames_is ∙ ap (map (frame_by before.at)) clear.frames;
  besides = same_more w before.at output.at output.more output.more more at_is refl besides;
  nowhere = λ faulty. (refl, none (ap w.is_correct (sym at_is) ∙ faulty));
  replies = ap (λ k. map (reply_by k) output.replies.items) at_is ∙ replied ∙ ap (λ xs. map (reply_by before.at) xs ++ replies) clear.replies;
  before = more.peers;
  kept = refl;
  stands = stands;
}

-- nothing but replies
pub only_replies : {S E C : Type 0} (m : Meaning S E C KeyRow) (w : Setting) (es : List Event) (numbers : List ℕ) (now : House S E C) (before output : Output) (replies : List Sent) (ws : Waiting) (p : Peers)
    → HouseStands m w es numbers now ws p → IsEmptyOutput before → output.at ≡ before.at → output.event ≡ before.event → output.kept ≡ before.kept → output.frames ≡ before.frames → output.more ≡ before.more
    → map (reply_by before.at) output.replies.items ≡ map (reply_by before.at) before.replies.items ++ replies
    → ComesOut m w es numbers now output (silent replies ws) (nothing_more p)
only_replies m w es numbers now before output replies ws p stands clear at_is event_is kept_is frames_is more_is replied =
    no_call m w es numbers now before output replies ws (nothing_more p) stands clear (is_none w before.at output.more (nothing_more p) (more_is ∙ clear.more) refl) (λ faulty. refl)
    at_is event_is kept_is frames_is replied

-- nothing but what goes to peers besides
pub only_more : {S E C : Type 0} (m : Meaning S E C KeyRow) (w : Setting) (es : List Event) (numbers : List ℕ) (now : House S E C) (before output : Output) (ws : Waiting) (more : Brought)
    → HouseStands m w es numbers now ws more.peers → IsEmptyOutput before → IsMore w before.at output.more more → (w.is_correct before.at ≡ false → more.deeds ≡ [])
    → output.at ≡ before.at → output.event ≡ before.event → output.kept ≡ before.kept → output.frames ≡ before.frames → output.replies ≡ before.replies
    → ComesOut m w es numbers now output (silent [] ws) more
only_more m w es numbers now before output ws more stands clear besides none at_is event_is kept_is frames_is replies_is =
    no_call m w es numbers now before output [] ws more stands clear besides none at_is event_is kept_is frames_is
    (ap (λ v. map (reply_by before.at) v.items) replies_is ∙ sym (append-nil (map (reply_by before.at) before.replies.items)))

-- nothing at all
pub nothing_comes : {S E C : Type 0} (m : Meaning S E C KeyRow) (w : Setting) (es : List Event) (numbers : List ℕ) (now : House S E C) (output : Output) (ws : Waiting) (p : Peers)
    → HouseStands m w es numbers now ws p → IsEmptyOutput output → ComesOut m w es numbers now output (silent [] ws) (nothing_more p)
nothing_comes m w es numbers now output ws p stands clear =
    only_replies m w es numbers now output output [] ws p stands clear refl refl refl refl refl (sym (append-nil (map (reply_by output.at) output.replies.items)))

pub does_here : {S E C : Type 0} (m : Meaning S E C KeyRow) (w : Setting) (es : List Event) (numbers : List ℕ) (now : House S E C) (output : Output) (at : ℕ) (did : Outcome) (ws : Waiting) (more : Outcome → Brought)
    → w.is_correct at ≡ true → ComesOut m w es numbers now output did (more did) → ComesOut m w es numbers now output (if_here w at did ws) (more (if_here w at did ws))
does_here m w es numbers now output at did ws more right comes =
    let P : Bool → Type 0 = λ b. ComesOut m w es numbers now output (if b then did else silent [] ws) (more (if b then did else silent [] ws)) in subst P (sym right) comes

pub not_here : {S E C : Type 0} (m : Meaning S E C KeyRow) (w : Setting) (es : List Event) (numbers : List ℕ) (now : House S E C) (output : Output) (at : ℕ) (did : Outcome) (ws : Waiting) (p : Peers) (more : Outcome → Brought)
    → w.is_correct at ≡ false → more (silent [] ws) ≡ nothing_more p → HouseStands m w es numbers now ws p → IsEmptyOutput output
    → ComesOut m w es numbers now output (if_here w at did ws) (more (if_here w at did ws))
not_here m w es numbers now output at did ws p more faulty none stands clear =
    let P : Bool → Type 0 = λ b. ComesOut m w es numbers now output (if b then did else silent [] ws) (more (if b then did else silent [] ws)) in
    let Q : Brought → Type 0 = λ x. ComesOut m w es numbers now output (silent [] ws) x in
    subst P (sym faulty) (subst Q (sym none) (nothing_comes m w es numbers now output ws p stands clear))

-- ---- a message that is a request

-- what a request asks for
abbrev pub asks_for : ℕ → Request → Asked
asks_for at r = record { at = at; client = r.client; request = r.request }

pub request_asked : (at : ℕ) (bytes : List ℕ) (r : Request) → request_in bytes ≡ Some r → asked_in at bytes ≡ asks_for at r
unfolding request_in
request_asked at bytes r is = go (nat_le least_request (length bytes)) (nat_le (length bytes) longest_input) is
  where
    same_parts : (x y : Request) → Some x ≡ Some y → x ≡ y
    same_parts x y e = cc

    go : (a b : Bool) → (if a && b then Some (request_parts bytes) else None) ≡ Some r → (if a then asks_for at (request_parts bytes) else record { at = at; client = 0; request = 0 }) ≡ asks_for at r
    go true true is = ap (asks_for at) (same_parts (request_parts bytes) r is)
    go true false is = absurd (cc)
    go false b is = absurd (cc)

asks_at : (w : Setting) (es : List Event) (at : ℕ) (conn : Option ℕ) (bytes : List ℕ) (ws : Waiting) (long short : Bool) (none : Asked)
    → ((if long && short then Some (request_parts bytes) else None) ≡ None → ⊥)
    → (let asked = if long then record { at = at; client = (request_parts bytes).client; request = (request_parts bytes).request } else none in
    asks_so w es at conn bytes ws (if long && short then Some (request_parts bytes) else None) ≡ asked_so w es at conn bytes ws (position_of (rows_at w es at) asked.client asked.request))
asks_at w es at conn bytes ws true true none some = refl
asks_at w es at conn bytes ws true false none some = absurd (some refl)
asks_at w es at conn bytes ws false short none some = absurd (some refl)

pub asks_is : (w : Setting) (es : List Event) (at : ℕ) (conn : Option ℕ) (bytes : List ℕ) (ws : Waiting) → (request_in bytes ≡ None → ⊥)
    → asks_so w es at conn bytes ws (request_in bytes)
    ≡ asked_so w es at conn bytes ws (position_of (rows_at w es at) (asked_in at bytes).client (asked_in at bytes).request)
unfolding request_in
asks_is w es at conn bytes ws some =
    asks_at w es at conn bytes ws (nat_le least_request (length bytes)) (nat_le (length bytes) longest_input) (record { at = at; client = 0; request = 0 }) some

pub asks_none : (w : Setting) (es : List Event) (at : ℕ) (conn : Option ℕ) (bytes : List ℕ) (ws : Waiting) → request_in bytes ≡ None
    → asks_so w es at conn bytes ws (request_in bytes) ≡ submitted w es at conn bytes ws
asks_none w es at conn bytes ws none = ap (asks_so w es at conn bytes ws) none

-- a message that is a query, and one that is none
pub asks_query : (w : Setting) (es : List Event) (at : ℕ) (conn : Option ℕ) (bytes : List ℕ) (ws : Waiting) (position : ℕ) → query_in bytes ≡ Some position
    → asks w es at conn bytes ws ≡ queried w es at conn position ws
asks_query w es at conn bytes ws position is = ap (asks_but w es at conn bytes ws) is

pub asks_other : (w : Setting) (es : List Event) (at : ℕ) (conn : Option ℕ) (bytes : List ℕ) (ws : Waiting) → query_in bytes ≡ None
    → asks w es at conn bytes ws ≡ asks_so w es at conn bytes ws (request_in bytes)
asks_other w es at conn bytes ws none = ap (asks_but w es at conn bytes ws) none

pub cleared : (o : Output) → (o.event ≡ None) × (o.frames.items ≡ []) × (o.more ≡ mores.Nothing) × (o.replies.items ≡ []) × (o.kept ≡ false) → IsEmptyOutput o
cleared o none = record { event = none.0; frames = none.1; more = none.2; replies = none.3; kept = none.4 }

-- the same number
pub comes_at : {S E C : Type 0} (m : Meaning S E C KeyRow) (w : Setting) (es : List Event) (numbers : List ℕ) (now : House S E C) (output : Output) (did : ℕ → Outcome) (more : ℕ → Brought) (k j : ℕ) → k ≡ j
    → ComesOut m w es numbers now output (did k) (more k) → ComesOut m w es numbers now output (did j) (more j)
comes_at m w es numbers now output did more k j same comes = let P : ℕ → Type 0 = λ x. ComesOut m w es numbers now output (did x) (more x) in subst P same comes

-- what comes, where it is known by another name
pub comes_as : {S E C : Type 0} (m : Meaning S E C KeyRow) (w : Setting) (es : List Event) (numbers : List ℕ) (now : House S E C) (output : Output) (did other : Outcome) (more : Outcome → Brought) → did ≡ other
    → ComesOut m w es numbers now output did (more did) → ComesOut m w es numbers now output other (more other)
comes_as m w es numbers now output did other more same comes = let P : Outcome → Type 0 = λ x. ComesOut m w es numbers now output x (more x) in subst P same comes

-- ---- a request without a row

module _ (w : Setting) (es : List Event) (at : ℕ) (conn : Option ℕ) (bytes : List ℕ) (ws : Waiting) (asked : Asked) (same : asked ≡ asked_in at bytes)
    (none : position_of (rows_at w es at) asked.client asked.request ≡ None) where
  abbrev asked_here : Outcome
  asked_here = asked_so w es at conn bytes ws (position_of (rows_at w es at) (asked_in at bytes).client (asked_in at bytes).request)

  asked_none : (b : Bool) → is_reserved w asked.client ≡ b
      → asked_here ≡ (if b then turned_away at conn bytes 8 ws else offered_unless w es at conn bytes ws (is_waited_for (ws (asked_in at bytes))))
  asked_none b reserved =
      ap (asked_so w es at conn bytes ws) (ap (λ (a : Asked). position_of (rows_at w es at) a.client a.request) (sym same) ∙ none)
      ∙ ap (λ (t : Bool). if t then turned_away at conn bytes 8 ws else offered_unless w es at conn bytes ws (is_waited_for (ws (asked_in at bytes))))
      (ap (λ (a : Asked). is_reserved w a.client) (sym same) ∙ reserved)

  -- one of the closing client is refused
  pub asked_reserved : is_reserved w asked.client ≡ true → turned_away at conn bytes 8 ws ≡ asked_here
  asked_reserved reserved = sym (asked_none true reserved)

  asked_open : (b : Bool) → is_reserved w asked.client ≡ false → is_waited_for (ws asked) ≡ b → asked_here ≡ offered_unless w es at conn bytes ws b
  asked_open b free waits = asked_none false free ∙ ap (offered_unless w es at conn bytes ws) (ap (λ (a : Asked). is_waited_for (ws a)) (sym same) ∙ waits)

  pub asked_waits : is_reserved w asked.client ≡ false → is_waited_for (ws asked) ≡ true → silent [] (with_waiter asked conn ws) ≡ asked_here
  asked_waits free waits = ap (λ (a : Asked). silent [] (with_waiter a conn ws)) same ∙ sym (asked_open true free waits)

  asked_new : (b : Bool) → is_reserved w asked.client ≡ false → is_waited_for (ws asked) ≡ false → is_crowded w es at ≡ b
      → asked_here ≡ (if b then turned_away at conn bytes 7 ws else submitted w es at conn bytes ws)
  asked_new b free waits crowded =
      asked_open false free waits ∙ ap (λ (t : Bool). if t then turned_away at conn bytes 7 ws else submitted w es at conn bytes ws) crowded

  -- one that has no place is
  pub asked_crowded : is_reserved w asked.client ≡ false → is_waited_for (ws asked) ≡ false → is_crowded w es at ≡ true → turned_away at conn bytes 7 ws ≡ asked_here
  asked_crowded free waits crowded = sym (asked_new true free waits crowded)

  pub asked_first : is_reserved w asked.client ≡ false → is_waited_for (ws asked) ≡ false → is_crowded w es at ≡ false → submitted w es at conn bytes ws ≡ asked_here
  asked_first free waits roomy = sym (asked_new false free waits roomy)
