-- The numbers of a session, and the quorums that they give.
use Rattle.std.specs.Prelude.{ℕ, ◌+◌, ◌-◌, ◌*◌, ◌/◌, ◌≤◌}

-- how many replicas there are, and how many of them may be faulty
pub record Numbers : Type 0 where
  pub n : ℕ
  pub f : ℕ

pub record IsSession (p : Numbers) : Type 0 where
  pub some : 1 ≤ p.n
  pub most : p.n ≤ 31
  pub enough : 3 * p.f + 1 ≤ p.n

-- echoes that make a value ready, and valid entries that deliver one
abbrev pub quorum_of : Numbers → ℕ
quorum_of p = (p.n + p.f) / 2 + 1

-- readies that make a value ready
abbrev pub ready_of : Numbers → ℕ
ready_of p = p.f + 1

-- readies that deliver a value, and votes that decide a bit
abbrev pub deliver_of : Numbers → ℕ
deliver_of p = 2 * p.f + 1

-- messages that a step of a consensus waits for
abbrev pub wait_of : Numbers → ℕ
wait_of p = p.n - p.f

-- places that support a value of a multi-valued consensus
abbrev pub support_of : Numbers → ℕ
support_of p = p.n - 2 * p.f
