-- The votes over the replies to one request: which position f + 1 replicas have replied. A list of calls has the newest first.
use Rattle.std.specs.Prelude.{◌≡◌, ℕ, ◌+◌, ◌==◌, Bool, ◌&&◌, ◌||◌, nat_le, nat_lt, List, [], ◌∷◌, map, length, count_by, Option, Some, None, is_none, Result, Ok, Err, if◌then◌else◌, false}
use Rattle.std.specs.Option.{option_or}
use Rattle.ritas_base.specs.Numbers.{Numbers}
use Rattle.ritas_base.specs.History.{replicas}
use Rattle.client_port.specs.Messages.{form_in, client_in, request_number_in, reply_number_in}
use Rattle.client_port.specs.declared.votes.ReplyFault.{ReplyFault}
use Rattle.client_port.specs.declared.votes.ReplyFault.TheVariants as faults
use Rattle.ritas_base.specs.Places.{first_failed}

-- what is waited for: replies of n replicas, of which f may be faulty, to this request of this client
pub record Wanted : Type 0 where
  pub numbers : Numbers
  pub client : ℕ
  pub request : ℕ

-- a call: which replica a message is from, and its bytes
pub record ReplyCall : Type 0 where
  pub from : ℕ
  pub bytes : List ℕ

-- ---- what the calls say

-- a reply is to this request
abbrev pub is_reply_wanted : Wanted → List ℕ → Bool
is_reply_wanted w bytes = (client_in bytes == w.client) && (request_number_in bytes == w.request)

-- a replica gives the position of this request
abbrev pub is_position_reply : Wanted → ReplyCall → Bool
is_position_reply w c = nat_lt c.from w.numbers.n && (length c.bytes == 13) && (form_in c.bytes == 1) && is_reply_wanted w c.bytes

-- the position that a call gives, if it gives one; a refusal gives none
abbrev pub position_said : Wanted → ReplyCall → Option ℕ
position_said w c = if is_position_reply w c then Some (reply_number_in c.bytes) else None

-- the position that replica k replied: the first one counts
abbrev pub replied : Wanted → List ReplyCall → ℕ → Option ℕ
replied w [] k = None
replied w (c ∷ h) k = option_or (replied w h k) (if c.from == k then position_said w c else None)

-- the position that each replica replied
abbrev pub tally : Wanted → List ReplyCall → List (Option ℕ)
tally w h = map (replied w h) (replicas w.numbers.n)

abbrev pub is_at : ℕ → Option ℕ → Bool
is_at position None = false
is_at position (Some other) = other == position

-- how many replicas replied this position
abbrev pub repliers : Wanted → List ReplyCall → ℕ → ℕ
repliers w h position = count_by (is_at position) (tally w h)

-- ---- what is answered

-- the tests of a call, each with the fault where it fails; `before` is what its replica replied before
abbrev pub reply_tests : Wanted → Option ℕ → ReplyCall → List (Bool × ReplyFault)
reply_tests w before c =
    (nat_lt c.from w.numbers.n, faults.NoSuchReplica)
    ∷ (length c.bytes == 13, faults.Length)
    ∷ ((form_in c.bytes == 1) || (form_in c.bytes == 2), faults.Form)
    ∷ (is_reply_wanted w c.bytes, faults.NotMine)
    ∷ (is_none before, faults.Again)
    ∷ (form_in c.bytes == 1, faults.Refused (reply_number_in c.bytes))
    ∷ []

unfoldable pub reply_fault_of : Wanted → Option ℕ → ReplyCall → Option ReplyFault
reply_fault_of w before c = first_failed (reply_tests w before c)

-- the position, where f + 1 replicas replied it: not all of them are faulty
abbrev pub settled : Wanted → List ReplyCall → ℕ → Option ℕ
settled w h position = if nat_le (w.numbers.f + 1) (repliers w h position) then Some position else None

abbrev pub answer_but : Option ReplyFault → Option ℕ → Result (Option ℕ) ReplyFault
answer_but None position = Ok position
answer_but (Some fault) position = Err fault

-- the answer to a call after these: its first fault, or its position where that is settled with it
unfoldable pub answer_of : Wanted → List ReplyCall → ReplyCall → Result (Option ℕ) ReplyFault
answer_of w h c = answer_but (reply_fault_of w (replied w h c.from) c) (settled w (c ∷ h) (reply_number_in c.bytes))

-- ---- what is kept

-- what is waited for, and the position that each replica replied
pub record Ballots : Type 0 where
  pub wanted : Wanted
  pub positions : List (Option ℕ)

-- the position, where f + 1 of what is kept are this position
abbrev pub settled_in : Ballots → ℕ → Option ℕ
settled_in v position = if nat_le (v.wanted.numbers.f + 1) (count_by (is_at position) v.positions) then Some position else None

-- the votes stand for these calls
pub record VotesStand (w : Wanted) (h : List ReplyCall) (v : Ballots) : Type 0 where
  pub waits : v.wanted ≡ w
  pub kept : v.positions ≡ tally w h
