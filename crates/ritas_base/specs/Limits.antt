-- The limits that several crates speak of. `src/limits.rt` has each as a constant, and `limits_are` ties the two.
use Rattle.std.specs.Prelude.{ℕ, ◌-◌}

-- commands and rounds are numbered below this
abbrev pub number_limit : ℕ
number_limit = 1000000

-- a request begins with so many bytes: the client's number and the request's
abbrev pub request_front : ℕ
request_front = 8

-- it has at least so many
abbrev pub least_request : ℕ
least_request = request_front

-- an input has at most so many: a command, a request or a value that is proposed
abbrev pub longest_input : ℕ
longest_input = 4096

-- and so what a request asks has at most so many
abbrev pub longest_payload : ℕ
longest_payload = longest_input - request_front

-- a frame has at most so many
abbrev pub longest_frame : ℕ
longest_frame = 16384
