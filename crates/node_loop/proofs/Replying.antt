-- What holds of each reply that goes out, by what it is.
use Rattle.std.proofs.Common.{◌≡◌, ℕ, ◌&&◌, Bool, true, false, List, [], ◌∷◌, ◌++◌, length, map, reverse, Option, Some, None, nat_lt, refl, sym, ◌∙◌, ap, ap₂, subst, append_assoc, if◌then◌else◌}
use Rattle.std.specs.List.{AllByRecursion}
use Rattle.std.specs.Option.{IfSome}
use Rattle.std.proofs.lemmas.List.{append-nil, reverse-append}
use Rattle.std.proofs.lemmas.Bool.{eq-eqb}
use Rattle.ritas_base.specs.declared.event.Event.{Event}
use Rattle.ritas_base.specs.declared.event.Event.TheVariants as events
use Rattle.outside.specs.declared.link.LinkItem.{LinkItem}
use Rattle.outside.specs.declared.link.LinkItem.TheVariants as items
use Rattle.outside.specs.declared.link.Sent.{Sent}
use Rattle.outside.specs.Links.{LinkAct, Starts, Gives, GivesNow, Sends, Replies, replies_in}
use Rattle.client_port.specs.Messages.{Request, request_in, query_in, position_reply, refusal_reply}
use Rattle.command_log.specs.Rows.{Row, AreOnce, position_of}
use Rattle.command_log.specs.Pieces.{piece_bytes, piece_of_log}
use Rattle.layer_api.specs.Service.{IsPart}
use Rattle.world_model.specs.World.{Setting, seen_of}
use Rattle.world_model.specs.Agree.{rows_at}
use Rattle.world_model.specs.MadeOrder.{MadeFrame}
use Rattle.node_loop.specs.declared.waiting.Asked.{Asked}
use Rattle.keyed_channel.specs.KeyRow.{KeyRow}
use Rattle.keyed_channel.specs.Notes.{is_note}
use Rattle.node_loop.specs.Peers.{keep_all}
use Rattle.node_loop.specs.Deeds.{Deed, Came, Made, Resent, Acked, Wished, Replied, act_of}
use Rattle.node_loop.specs.Resending.{Brought}
use Rattle.node_loop.proofs.FramesSent.{IsBesides, item_besides}
use Rattle.node_loop.specs.Waiting.{Waiting, with_waiter}
use Rattle.node_loop.specs.Calls.{Outcome, reply, reply_each, asked_by, waiting_left_by, replies_by, event_called, asked_in, refusal_in, submitted, submitted_so, silent, is_waited_for, asked_so, asks_so, asks_but, asks, if_here, item_does, first_does, epoch_closed, turned_away, offered_unless}
use Rattle.node_loop.specs.Chains.{closing_command, is_reserved, is_crowded}
use Rattle.node_loop.specs.Serving.{Serving, so_far, as_sent, frames_made_by, sent_by, sent_of, onto, with_outcome, Round, Began, Turned, Closed, Reminded, Took, began, took, at_call, outcome, brought, round_does, after_from}
use Rattle.node_loop.specs.Told.{after_groups, given_for, given_in, news_from, told_from}
use Rattle.node_loop.proofs.Comings.{request_asked}
use Rattle.node_loop.proofs.Logs.{rows_are_once, position_in_part}

-- ---- all of a list

all_append : {X : Type 0} (P : X → Type 0) (xs ys : List X) → AllByRecursion P xs → AllByRecursion P ys → AllByRecursion P (xs ++ ys)
all_append P [] ys left right = right
all_append P (x ∷ xs) ys left right = (left.0, all_append P xs ys left.1 right)

all_map : {X : Type 0} (P Q : X → Type 0) → ((x : X) → P x → Q x) → (xs : List X) → AllByRecursion P xs → AllByRecursion Q xs
all_map P Q f [] all = tt
all_map P Q f (x ∷ xs) all = (f x all.0, all_map P Q f xs all.1)

reverse_cons : {A : Type 0} (x : A) (xs : List A) → reverse (x ∷ xs) ≡ reverse xs ++ x ∷ []
reverse_cons x xs = reverse-append (x ∷ []) xs

all_reverse : {X : Type 0} (P : X → Type 0) (xs : List X) → AllByRecursion P xs → AllByRecursion P (reverse xs)
all_reverse P [] all = tt
all_reverse P (x ∷ xs) all =
    subst (λ (l : List _). AllByRecursion P l) (sym (reverse_cons x xs)) (all_append P (reverse xs) (x ∷ []) (all_reverse P xs all.1) (all.0, tt))

-- ---- replies among the acts

replies_more : (acts more : List LinkAct) → replies_in (acts ++ more) ≡ replies_in acts ++ replies_in more
replies_more [] more = refl
replies_more (Starts plan ∷ acts) more = replies_more acts more
replies_more (Gives item ∷ acts) more = replies_more acts more
replies_more (GivesNow item ∷ acts) more = replies_more acts more
replies_more (Sends sent ∷ acts) more = replies_more acts more
replies_more (Replies sent ∷ acts) more = ap (λ (l : List Sent). sent ∷ l) (replies_more acts more)

all_replies : (xs : List Sent) → replies_in (reverse (map Replies xs)) ≡ reverse xs
all_replies [] = refl
all_replies (x ∷ xs) =
    rw (reverse_cons (Replies x) (map Replies xs), replies_more (reverse (map Replies xs)) (Replies x ∷ []), reverse_cons x xs, all_replies xs) refl

no_replies : (fs : List MadeFrame) → replies_in (reverse (map as_sent fs)) ≡ []
no_replies [] = refl
no_replies (f ∷ fs) = rw (reverse_cons (as_sent f) (map as_sent fs), replies_more (reverse (map as_sent fs)) (as_sent f ∷ []), no_replies fs) refl

none_sent : (w : Setting) (es : List Event) (o : Option Event) → replies_in (reverse (sent_by w es o)) ≡ []
none_sent w es o = no_replies (frames_made_by w es o)

besides_none : (keys : ℕ → KeyRow) (more : List Deed) → AllByRecursion IsBesides more → replies_in (reverse (map (act_of keys) more)) ≡ []
besides_none keys [] all = refl
besides_none keys (Came now item ∷ more) all = absurd all.0
besides_none keys (Made f ∷ more) all = absurd all.0
besides_none keys (Resent i j frame ∷ more) all =
    rw (reverse_cons (act_of keys (Resent i j frame)) (map (act_of keys) more), replies_more (reverse (map (act_of keys) more)) (act_of keys (Resent i j frame) ∷ []), besides_none keys more all.1) refl
besides_none keys (Acked i j seq ∷ more) all =
    rw (reverse_cons (act_of keys (Acked i j seq)) (map (act_of keys) more), replies_more (reverse (map (act_of keys) more)) (act_of keys (Acked i j seq) ∷ []), besides_none keys more all.1) refl
besides_none keys (Wished i j seq ∷ more) all =
    rw (reverse_cons (act_of keys (Wished i j seq)) (map (act_of keys) more), replies_more (reverse (map (act_of keys) more)) (act_of keys (Wished i j seq) ∷ []), besides_none keys more all.1) refl
besides_none keys (Replied sent ∷ more) all = absurd all.0

news_replies : (w : Setting) (es : List Event) (did : Outcome) (more : Brought) → AllByRecursion IsBesides more.deeds
    → replies_in (sent_of w es did more) ≡ reverse did.replies
news_replies w es did more besides =
    let peers = reverse (map (act_of w.keys) more.deeds) in
    let sent = reverse (sent_by w es did.event) in
    let none : replies_in (peers ++ sent) ≡ [] =
    replies_more peers sent ∙ ap₂ (λ (a b : List Sent). a ++ b) (besides_none w.keys more.deeds besides) (none_sent w es did.event) in
    replies_more (reverse (map Replies did.replies)) (peers ++ sent)
    ∙ (ap₂ (λ (a b : List Sent). a ++ b) (all_replies did.replies) none ∙ append-nil (reverse did.replies))

-- an item is no reply
given_none : (group : List Round) → replies_in (given_in group) ≡ []
given_none [] = refl
given_none (x ∷ group) = replies_more (given_for x group) (given_in group) ∙ ap₂ (λ (a b : List Sent). a ++ b) (none x group) (given_none group)
  where
    none : (x : Round) (group : List Round) → replies_in (given_for x group) ≡ []
    none (Began item) [] = refl
    none (Began item) (y ∷ group) = refl
    none (Turned i) [] = refl
    none (Closed i epoch) [] = refl
    none (Turned i) (y ∷ group) = refl
    none (Closed i epoch) (y ∷ group) = refl
    none (Reminded i j) [] = refl
    none (Reminded i j) (y ∷ group) = refl
    none (Took item) [] = refl
    none (Took item) (y ∷ group) = refl

-- ---- rows

-- the row in front of others stands at the position of their number
row_stands : (row : Row) (rows : List Row) → position_of (row ∷ rows) row.client row.request ≡ Some (length rows)
row_stands row rows =
    ap₂ (λ (a b : Bool). if a && b then Some (length rows) else position_of rows row.client row.request)
    (eq-eqb row.client row.client refl) (eq-eqb row.request row.request refl)

tail_part : {X : Type 0} (x : X) (xs ys : List X) → IsPart (x ∷ xs) ys → IsPart xs ys
tail_part x xs ys part = (part.0 ++ x ∷ [], append_assoc part.0 (x ∷ []) xs ∙ part.1)

-- ---- what is replied

-- what holds of replies holds of each position, of each refusal, and of each piece where the round of its query is one of
-- these; and it stays
pub record HoldsOfReplies (w : Setting) (F : List Event → Round → Type 0) (P : List Event → Sent → Type 0) : Type 0 where
  pub position : (es : List Event) (at to client request position : ℕ) → position_of (rows_at w es at) client request ≡ Some position
      → P es (record { at = at; to = to; bytes = position_reply client request position })
  pub refusal : (es : List Event) (at to client request code : ℕ) → P es (record { at = at; to = to; bytes = refusal_reply client request code })
  pub piece : (es : List Event) (at to : ℕ) (bytes : List ℕ) (position : ℕ) → F es (Took (items.Client at to bytes)) → w.is_correct at ≡ true
      → query_in bytes ≡ Some position → P es (record { at = at; to = to; bytes = piece_bytes (piece_of_log (rows_at w es at) position) })
  pub stays : (e : Event) (es : List Event) (x : Sent) → P es x → P (e ∷ es) x

-- these rounds are such, each where it was, and the rounds of these groups
abbrev pub AreSuch : Setting → (List Event → Round → Type 0) → List Event → Serving → List Round → Type 0
AreSuch w F past start [] = Unit {0}
AreSuch w F past start (x ∷ rounds) = F (so_far past (after_from w past start rounds)) x × AreSuch w F past start rounds

abbrev pub AreAllSuch : Setting → (List Event → Round → Type 0) → List Event → Serving → List (List Round) → Type 0
AreAllSuch w F past start [] = Unit {0}
AreAllSuch w F past start (group ∷ older) = AreSuch w F past (after_groups w past start older) group × AreAllSuch w F past start older

module _ (w : Setting) (once : AreOnce w.start.base) (F : List Event → Round → Type 0) (P : List Event → Sent → Type 0) (holds : HoldsOfReplies w F P) where
  abbrev AllHold : List Event → List Sent → Type 0
  AllHold es xs = AllByRecursion (P es) xs

  reply_holds : (es : List Event) (at client request position : ℕ) → position_of (rows_at w es at) client request ≡ Some position
      → (conn : Option ℕ) → AllHold es (reply at (position_reply client request position) conn)
  reply_holds es at client request position is None = tt
  reply_holds es at client request position is (Some conn) = (holds.position es at conn client request position is, tt)

  each_holds : (es : List Event) (at client request position : ℕ) → position_of (rows_at w es at) client request ≡ Some position
      → (conns : List (Option ℕ)) → AllHold es (reply_each at (position_reply client request position) conns)
  each_holds es at client request position is [] = tt
  each_holds es at client request position is (conn ∷ conns) =
      all_append (P es) (reply at (position_reply client request position) conn) (reply_each at (position_reply client request position) conns)
      (reply_holds es at client request position is conn) (each_holds es at client request position is conns)

  refusal_holds : (es : List Event) (at client request code : ℕ) (conn : Option ℕ) → AllHold es (reply at (refusal_reply client request code) conn)
  refusal_holds es at client request code None = tt
  refusal_holds es at client request code (Some conn) = (holds.refusal es at conn client request code, tt)

  -- of the rows that came in
  rows_hold : (es : List Event) (at count : ℕ) (ws : Waiting) (rows : List Row) → IsPart rows (rows_at w es at) → AllHold es (replies_by at count rows ws)
  rows_hold es at count ws [] part = tt
  rows_hold es at count ws (row ∷ rows) part = here (nat_lt (length rows) count) (rows_hold es at count ws rows (tail_part row rows (rows_at w es at) part))
    where
      here : (b : Bool) → AllHold es (replies_by at count rows ws) → AllHold es (if b then [] else replies_by at count rows ws
          ++ reply_each at (position_reply row.client row.request (length rows)) (waiting_left_by at count rows ws (asked_by at row)))
      here true below = tt
      here false below =
          all_append (P es) (replies_by at count rows ws) (reply_each at (position_reply row.client row.request (length rows)) (waiting_left_by at count rows ws (asked_by at row)))
          below
          (each_holds es at row.client row.request (length rows)
          (position_in_part (row ∷ rows) (rows_at w es at) part (rows_are_once w once es at) row.client row.request (length rows) (row_stands row rows))
          (waiting_left_by at count rows ws (asked_by at row)))

  -- ---- outcomes

  -- it holds of the replies of an outcome when they go out
  abbrev HoldsOf : List Event → Outcome → Type 0
  HoldsOf es did = AllHold (onto did.event es) did.replies

  called_holds : (es : List Event) (at : ℕ) (e : Event) (ws : Waiting) → HoldsOf es (event_called w es at e ws)
  called_holds es at e ws = rows_hold (e ∷ es) at (length (rows_at w es at)) ws (rows_at w (e ∷ es) at) ([], refl)

  submitted_holds : (es : List Event) (at : ℕ) (conn : Option ℕ) (bytes : List ℕ) (ws : Waiting) (code : Option ℕ)
      → HoldsOf es (submitted_so w es at conn bytes ws code)
  submitted_holds es at conn bytes ws None = called_holds es at (events.Input at bytes) (with_waiter (asked_in at bytes) conn ws)
  submitted_holds es at conn bytes ws (Some code) =
      let now = events.Input at bytes ∷ es in
      let a = asked_in at bytes in
      all_append (P now) (event_called w es at (events.Input at bytes) ws).replies (reply at (refusal_reply a.client a.request code) conn)
      (called_holds es at (events.Input at bytes) ws) (refusal_holds now at a.client a.request code conn)

  asked_holds : (es : List Event) (at : ℕ) (conn : Option ℕ) (bytes : List ℕ) (ws : Waiting) (place : Option ℕ)
      → position_of (rows_at w es at) (asked_in at bytes).client (asked_in at bytes).request ≡ place → HoldsOf es (asked_so w es at conn bytes ws place)
  asked_holds es at conn bytes ws (Some position) is = reply_holds es at (asked_in at bytes).client (asked_in at bytes).request position is conn
  asked_holds es at conn bytes ws None is = reserved (is_reserved w (asked_in at bytes).client)
    where
      away : (code : ℕ) → HoldsOf es (turned_away at conn bytes code ws)
      away code = refusal_holds es at (asked_in at bytes).client (asked_in at bytes).request code conn

      crowded : (b : Bool) → HoldsOf es (if b then turned_away at conn bytes 7 ws else submitted w es at conn bytes ws)
      crowded true = away 7
      crowded false = submitted_holds es at conn bytes ws (refusal_in (seen_of w es (events.Input at bytes)))

      waited : (b : Bool) → HoldsOf es (offered_unless w es at conn bytes ws b)
      waited true = tt
      waited false = crowded (is_crowded w es at)

      reserved : (b : Bool) → HoldsOf es (if b then turned_away at conn bytes 8 ws else offered_unless w es at conn bytes ws (is_waited_for (ws (asked_in at bytes))))
      reserved true = away 8
      reserved false = waited (is_waited_for (ws (asked_in at bytes)))

  asks_hold : (es : List Event) (at : ℕ) (conn : Option ℕ) (bytes : List ℕ) (ws : Waiting) (r : Option Request) → request_in bytes ≡ r
      → HoldsOf es (asks_so w es at conn bytes ws r)
  asks_hold es at conn bytes ws None is = submitted_holds es at conn bytes ws (refusal_in (seen_of w es (events.Input at bytes)))
  asks_hold es at conn bytes ws (Some r) is =
      asked_holds es at conn bytes ws (position_of (rows_at w es at) r.client r.request)
      (ap (λ (a : Asked). position_of (rows_at w es at) a.client a.request) (request_asked at bytes r is))

  -- a piece of the log as it is goes to a connection, if there is one
  piece_holds : (es : List Event) (at : ℕ) (conn : Option ℕ) (bytes : List ℕ) (position : ℕ)
      → IfSome conn (λ to. F es (Took (items.Client at to bytes))) → w.is_correct at ≡ true → query_in bytes ≡ Some position
      → AllHold es (reply at (piece_bytes (piece_of_log (rows_at w es at) position)) conn)
  piece_holds es at None bytes position fits correct is = tt
  piece_holds es at (Some to) bytes position fits correct is = (holds.piece es at to bytes position fits correct is, tt)

  message_holds : (es : List Event) (at : ℕ) (conn : Option ℕ) (bytes : List ℕ) (ws : Waiting) (q : Option ℕ)
      → IfSome conn (λ to. F es (Took (items.Client at to bytes))) → w.is_correct at ≡ true → query_in bytes ≡ q
      → HoldsOf es (asks_but w es at conn bytes ws q)
  message_holds es at conn bytes ws (Some position) fits correct is = piece_holds es at conn bytes position fits correct is
  message_holds es at conn bytes ws None fits correct is = asks_hold es at conn bytes ws (request_in bytes) refl

  here_holds : (es : List Event) (at : ℕ) (did : Outcome) (ws : Waiting) → (w.is_correct at ≡ true → HoldsOf es did) → HoldsOf es (if_here w at did ws)
  here_holds es at did ws of = here (w.is_correct at) refl
    where
      here : (b : Bool) → w.is_correct at ≡ b → HoldsOf es (if b then did else silent [] ws)
      here true is = of is
      here false is = tt

  note_holds : (es : List Event) (to : ℕ) (bytes : List ℕ) (ws : Waiting) (b : Bool)
      → HoldsOf es (if b then silent [] ws else event_called w es to (events.Frame to bytes) ws)
  note_holds es to bytes ws true = tt
  note_holds es to bytes ws false = called_holds es to (events.Frame to bytes) ws

  item_holds : (es : List Event) (item : LinkItem) (ws : Waiting) → F es (Took item) → HoldsOf es (item_does w es item ws)
  item_holds es (items.Frame to bytes) ws fits =
      here_holds es to (if is_note bytes then silent [] ws else event_called w es to (events.Frame to bytes) ws) ws (λ correct. note_holds es to bytes ws (is_note bytes))
  item_holds es (items.Client at conn bytes) ws fits =
      here_holds es at (asks w es at (Some conn) bytes ws) ws (λ correct. message_holds es at (Some conn) bytes ws (query_in bytes) fits correct refl)
  item_holds es (items.Reply from bytes) ws fits = tt
  item_holds es (items.Up at peer) ws fits = tt
  item_holds es (items.Down at peer) ws fits = tt
  item_holds es (items.Left at conn) ws fits = tt
  item_holds es items.End ws fits = tt

  first_holds : (es : List Event) (item : LinkItem) (ws : Waiting) → HoldsOf es (first_does w es item ws)
  first_holds es (items.Client at conn bytes) ws =
      here_holds es at (asks w es at None bytes ws) ws (λ correct. message_holds es at None bytes ws (query_in bytes) tt correct refl)
  first_holds es (items.Frame to bytes) ws = tt
  first_holds es (items.Reply from bytes) ws = tt
  first_holds es (items.Up at peer) ws = tt
  first_holds es (items.Down at peer) ws = tt
  first_holds es (items.Left at conn) ws = tt
  first_holds es items.End ws = tt

  -- ---- serving

  all_stay : (o : Option Event) (past : List Event) (s : Serving) (xs : List Sent) → AllHold (so_far past s) xs → AllHold (onto o s.events ++ past) xs
  all_stay None past s xs all = all
  all_stay (Some e) past s xs all = all_map (P (so_far past s)) (P (e ∷ so_far past s)) (holds.stays e (so_far past s)) xs all

  now_holds : (o : Option Event) (past : List Event) (s : Serving) (xs : List Sent) → AllHold (onto o (so_far past s)) xs → AllHold (onto o s.events ++ past) xs
  now_holds None past s xs all = all
  now_holds (Some e) past s xs all = all

  -- with what goes out of an outcome, in front of these replies
  outcome_holds : (past : List Event) (did : Outcome) (more : Brought) (s : Serving) (xs : List Sent) → AllByRecursion IsBesides more.deeds → AllHold (so_far past s) xs
      → HoldsOf (so_far past s) did → AllHold (so_far past (with_outcome did more s)) (replies_in (sent_of w (so_far past s) did more) ++ xs)
  outcome_holds past did more s xs besides all of =
      let es = onto did.event s.events ++ past in
      subst (λ (l : List Sent). AllHold es (l ++ xs)) (sym (news_replies w (so_far past s) did more besides))
      (all_append (P es) (reverse did.replies) xs
      (all_reverse (P es) did.replies (now_holds did.event past s did.replies of)) (all_stay did.event past s xs all))

  round_holds : (past : List Event) (x : Round) (s : Serving) (xs : List Sent) → F (so_far past s) x → AllHold (so_far past s) xs
      → AllHold (so_far past (round_does w past x s)) (replies_in (sent_of w (so_far past (at_call x s)) (outcome w past x s) (brought w past x s)) ++ xs)
  round_holds past (Began item) s xs fits all =
      outcome_holds past (first_does w (so_far past s) item s.waiting) (brought w past (Began item) s) (began s) xs tt all (first_holds (so_far past s) item s.waiting)
  round_holds past (Turned i) s xs fits all =
      outcome_holds past (event_called w (so_far past s) i (events.Turn i) s.waiting) (brought w past (Turned i) s) s xs tt all (called_holds (so_far past s) i (events.Turn i) s.waiting)
  round_holds past (Closed i epoch) s xs fits all =
      outcome_holds past (epoch_closed w (so_far past s) i epoch s.waiting) (brought w past (Closed i epoch) s) s xs tt all
      (submitted_holds (so_far past s) i None (closing_command epoch) s.waiting (refusal_in (seen_of w (so_far past s) (events.Input i (closing_command epoch)))))
  round_holds past (Reminded i j) s xs fits all = outcome_holds past (silent [] s.waiting) (brought w past (Reminded i j) s) s xs (tt, tt) all tt
  round_holds past (Took item) s xs fits all =
      outcome_holds past (item_does w (so_far past s) item s.waiting) (brought w past (Took item) s) (took s) xs
      (item_besides w (so_far past s) item (keep_all w.mode.version (frames_made_by w (so_far past s) (item_does w (so_far past s) item s.waiting).event) s.peers)) all
      (item_holds (so_far past s) item s.waiting fits)

  rounds_hold : (past : List Event) (start : Serving) (rounds : List Round) (xs : List Sent) → AreSuch w F past start rounds → AllHold (so_far past start) xs
      → AllHold (so_far past (after_from w past start rounds)) (replies_in (news_from w past start rounds) ++ xs)
  rounds_hold past start [] xs such all = all
  rounds_hold past start (x ∷ rounds) xs such all =
      let s = after_from w past start rounds in
      let sent = sent_of w (so_far past (at_call x s)) (outcome w past x s) (brought w past x s) in
      let below = news_from w past start rounds in
      let parts : (replies_in sent ++ (replies_in below ++ xs)) ≡ (replies_in (sent ++ below) ++ xs) =
      sym (ap (λ (l : List Sent). l ++ xs) (replies_more sent below) ∙ append_assoc (replies_in sent) (replies_in below) xs) in
      subst (λ (l : List Sent). AllHold (so_far past (round_does w past x s)) l) parts
      (round_holds past x s (replies_in below ++ xs) such.0 (rounds_hold past start rounds xs such.1 all))

  pub replies_hold : (past : List Event) (start : Serving) (groups : List (List Round)) → AreAllSuch w F past start groups
      → AllByRecursion (P (so_far past (after_groups w past start groups))) (replies_in (told_from w past start groups))
  replies_hold past start [] such = tt
  replies_hold past start (group ∷ older) such =
      let s = after_groups w past start older in
      let new = news_from w past s group in
      let below = told_from w past start older in
      let parts : (replies_in new ++ replies_in below) ≡ replies_in (new ++ (given_in group ++ below)) =
      sym (replies_more new (given_in group ++ below)
      ∙ ap (λ (l : List Sent). replies_in new ++ l) (replies_more (given_in group) below ∙ ap (λ (l : List Sent). l ++ replies_in below) (given_none group))) in
      subst (λ (l : List Sent). AllHold (so_far past (after_from w past s group)) l) parts (rounds_hold past s group (replies_in below) such.0 (replies_hold past start older such.1))
