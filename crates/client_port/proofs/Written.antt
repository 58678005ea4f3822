-- What is written is read.
use Rattle.std.specs.Prelude.{◌≡◌, ℕ, suc, ◌+◌, ◌<◌, ◌≤◌, ◌^◌, ◌==◌, Bool, true, ◌&&◌, nat_le, nat_lt, List, [], ◌∷◌, ◌++◌, length, take, drop, slice_index, if◌then◌else◌, Some, None, Ok, refl}
use Rattle.std.specs.Int.{w32, to_be_bytes, from_be_bytes}
use Rattle.std.proofs.Common.{sym, ◌∙◌, ap, ap₂, inl, inr, arith, get_or, length-drop}
use Rattle.std.proofs.lemmas.List.{get_or-take, get_or-drop, get_or_past, length-take, length-take-le, take-append-drop, take_all, drop-drop}
use Rattle.std.proofs.lemmas.Bool.{cases_Bool, ltb-true, ltb-false, and_from, and_parts, le-leb, leb-true, lt-ltb, lt-leb, eq-eqb, eqb-true, cond-true}
use Rattle.std.proofs.lemmas.Option.{cond_some}
use Rattle.std.proofs.lemmas.Nat.{be_bytes_4, from_be_bytes-to_be_bytes_4}
use Rattle.ritas_base.specs.Limits.{request_front, least_request, longest_input}
use Rattle.client_port.specs.Messages.{Request, four_bytes_at, request_bytes, request_in, request_parts, query_bytes, query_in, form_in, client_in, request_number_in, reply_number_in, reply_bytes}
use Rattle.client_port.specs.Votes.{Wanted, ReplyCall, is_reply_wanted, replied, settled, reply_fault_of, answer_but, answer_of}
use Rattle.client_port.specs.Laws.{RequestIsRead, RequestWasWritten, position_from, refusal_from, PositionIsRead, RefusalIsRead, QueryIsRead, QueryWasWritten, QueryIsNoRequest}
use Rattle.client_port.specs.declared.votes.ReplyFault.TheVariants.{Refused}
use Rattle.client_port.proofs.Tallies.{no_fault, replied_now, replied_same}

pub request_is_read : RequestIsRead
unfolding request_in four_bytes_at
request_is_read r room =
    let bytes = request_bytes r in
    let long : length bytes ≡ length r.payload + request_front = omega arith in
    let least = room.least in
    let short = room.payload in
    let fits : (nat_le least_request (length bytes) && nat_le (length bytes) longest_input) ≡ true =
    and_from (nat_le least_request (length bytes)) (nat_le (length bytes) longest_input) (le-leb least_request (length bytes) (omega arith)) (le-leb (length bytes) longest_input (omega arith)) in
    let client : four_bytes_at 0 bytes ≡ r.client = from_be_bytes-to_be_bytes_4 r.client room.client in
    let request : four_bytes_at 4 bytes ≡ r.request = from_be_bytes-to_be_bytes_4 r.request room.request in
    let made : ℕ → ℕ → Request = λ x y. record { client = x; request = y; payload = r.payload } in
    cond-true (nat_le least_request (length bytes) && nat_le (length bytes) longest_input) (Some (request_parts bytes)) None fits
    ∙ ap Some (ap₂ made client request)

bytes_small : (bytes : List ℕ) → ((k : ℕ) → slice_index bytes k < 256) → (k : ℕ) → get_or (take 4 bytes) k 0 < 256
bytes_small bytes small k =
    elim (cases_Bool (nat_lt k 4)) [
      | inl t ↦ let same = get_or-take 4 bytes k 0 (ltb-true k 4 t) in let fits = small k in omega (arith, same, fits)
      | inr f ↦
          let past = ltb-false k 4 f in
          let none = get_or_past (take 4 bytes) k 0 (omega (arith, length-take 4 bytes, past)) in
          omega (arith, none)
    ]

slice_small : (bytes : List ℕ) → ((k : ℕ) → slice_index bytes k < 256) → (k : ℕ) → slice_index (drop 4 bytes) k < 256
slice_small bytes small k = let fits = small (4 + k) in rw (get_or-drop 4 bytes k 0) fits

-- four bytes are those of their number
four : (bytes : List ℕ) → ((k : ℕ) → slice_index bytes k < 256) → 4 ≤ length bytes → to_be_bytes w32 (from_be_bytes w32 (take 4 bytes)) ≡ take 4 bytes
four bytes small long = be_bytes_4 (take 4 bytes) (from_be_bytes w32 (take 4 bytes)) (length-take-le 4 bytes long) (bytes_small bytes small) refl

rewritten : (bytes : List ℕ) → ((k : ℕ) → slice_index bytes k < 256) → request_front ≤ length bytes → request_bytes (request_parts bytes) ≡ bytes
unfolding four_bytes_at
rewritten bytes small long =
    let rest = drop 4 bytes in
    let client = four bytes small (omega (arith, long)) in
    let request = four rest (slice_small bytes small) (omega (arith, long, length-drop 4 bytes)) in
    let join : List ℕ → List ℕ → List ℕ = λ a b. a ++ (b ++ drop request_front bytes) in
    ap₂ join client request
    ∙ (ap (λ l. take 4 bytes ++ (take 4 rest ++ l)) (sym (drop-drop 4 4 bytes))
    ∙ (ap (λ l. take 4 bytes ++ l) (take-append-drop 4 rest) ∙ take-append-drop 4 bytes))

pub request_was_written : RequestWasWritten
unfolding request_in
request_was_written bytes r small e =
    let fits = nat_le least_request (length bytes) && nat_le (length bytes) longest_input in
    let is = cond_some fits (request_parts bytes) r e in
    let long = leb-true least_request (length bytes) (and_parts (nat_le least_request (length bytes)) (nat_le (length bytes) longest_input) is.0).0 in
    sym (rewritten bytes small (omega (arith, long))) ∙ ap request_bytes is.1

-- ---- replies

-- the parts of a reply that is written
record IsWritten (w : Wanted) (form number : ℕ) (bytes : List ℕ) : Type 0 where
  long : (length bytes == 13) ≡ true
  form_is : form_in bytes ≡ form
  wanted : is_reply_wanted w bytes ≡ true
  number_is : reply_number_in bytes ≡ number

is_written : (w : Wanted) (form number : ℕ) → w.client < 2 ^ 32 → w.request < 2 ^ 32 → number < 2 ^ 32
    → IsWritten w form number (reply_bytes form w.client w.request number)
unfolding four_bytes_at
is_written w form number client request small =
    let bytes = reply_bytes form w.client w.request number in
    record {
      long = refl;
      form_is = refl;
      wanted = and_from (client_in bytes == w.client) (request_number_in bytes == w.request)
          (eq-eqb (client_in bytes) w.client (from_be_bytes-to_be_bytes_4 w.client client))
          (eq-eqb (request_number_in bytes) w.request (from_be_bytes-to_be_bytes_4 w.request request));
      number_is = from_be_bytes-to_be_bytes_4 number small;
    }

gives_position : (w : Wanted) (c : ReplyCall) (number : ℕ) → c.from < w.numbers.n → IsWritten w 1 number c.bytes → reply_fault_of w None c ≡ None
unfolding reply_fault_of
gives_position w c number within is = rw (lt-ltb c.from w.numbers.n within, is.long, is.form_is, is.wanted) refl

gives_refusal : (w : Wanted) (c : ReplyCall) (number : ℕ) → c.from < w.numbers.n → IsWritten w 2 number c.bytes → reply_fault_of w None c ≡ Some (Refused number)
unfolding reply_fault_of
gives_refusal w c number within is = rw (lt-ltb c.from w.numbers.n within, is.long, is.form_is, is.wanted, is.number_is) refl

pub position_is_read : PositionIsRead
unfolding answer_of
position_is_read w h from position awaited small =
    let c : ReplyCall = position_from w from position in
    let is = is_written w 1 position awaited.client awaited.request small in
    let right : reply_fault_of w (replied w h from) c ≡ None = ap (λ o. reply_fault_of w o c) awaited.first ∙ gives_position w c position awaited.within is in (
      replied_now w h c (no_fault w (replied w h from) c right) ∙ ap Some is.number_is,
      ap (λ o. answer_but o (settled w (c ∷ h) (reply_number_in c.bytes))) right ∙ ap (λ p. Ok (settled w (c ∷ h) p)) is.number_is,
    )

pub refusal_is_read : RefusalIsRead
unfolding answer_of
refusal_is_read w h from code awaited small =
    let c : ReplyCall = refusal_from w from code in
    let is = is_written w 2 code awaited.client awaited.request small in
    let wrong : reply_fault_of w (replied w h from) c ≡ Some (Refused code) = ap (λ o. reply_fault_of w o c) awaited.first ∙ gives_refusal w c code awaited.within is in (
      ap (λ o. answer_but o (settled w (c ∷ h) (reply_number_in c.bytes))) wrong,
      replied_same w h c (Refused code) wrong,
    )

-- ---- queries

pub query_is_read : QueryIsRead
unfolding query_in four_bytes_at
query_is_read position small = ap Some (from_be_bytes-to_be_bytes_4 position small)

-- what a query is
record IsQuery (bytes : List ℕ) (position : ℕ) : Type 0 where
  long : length bytes ≡ 5
  first : slice_index bytes 0 ≡ 76
  asks : four_bytes_at 1 bytes ≡ position

is_query : (bytes : List ℕ) (position : ℕ) → query_in bytes ≡ Some position → IsQuery bytes position
unfolding query_in
is_query bytes position e =
    let parts = cond_some ((length bytes == 5) && (slice_index bytes 0 == 76)) (four_bytes_at 1 bytes) position e in
    let both = and_parts (length bytes == 5) (slice_index bytes 0 == 76) parts.0 in
    record { long = eqb-true (length bytes) 5 both.0; first = eqb-true (slice_index bytes 0) 76 both.1; asks = parts.1 }

written : (bytes : List ℕ) (position : ℕ) → IsQuery bytes position → ((k : ℕ) → slice_index bytes k < 256) → bytes ≡ query_bytes position
unfolding four_bytes_at
written [] position is small = absurd (let long = is.long in omega (arith, long))
written (x ∷ bytes) position is small =
    let long = is.long in
    let all = take_all 4 bytes (omega (arith, long)) in
    let number = four bytes (λ k. small (suc k)) (omega (arith, long)) in
    ap₂ (λ y l. y ∷ l) is.first (sym (number ∙ all) ∙ ap (to_be_bytes w32) is.asks)

pub query_was_written : QueryWasWritten
query_was_written bytes position small e = written bytes position (is_query bytes position e) small

pub query_is_no_request : QueryIsNoRequest
unfolding request_in
query_is_no_request bytes position e =
    let long = (is_query bytes position e).long in
    ap (λ (b : Bool). if b && nat_le (length bytes) longest_input then Some (request_parts bytes) else None) (lt-leb least_request (length bytes) (omega (arith, long)))
