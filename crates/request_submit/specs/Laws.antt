-- What a client may rely on.
use Rattle.std.specs.Prelude.{ℕ, ◌-◌, ◌≤◌, Bool, List, ◌∷◌, count_by, Option}
use Rattle.ritas_base.specs.History.{replicas}
use Rattle.outside.specs.Links.{LinkAct}
use Rattle.outside.specs.declared.link.FaultCounts.{FaultCounts}
use Rattle.client_port.specs.Votes.{Wanted}
use Rattle.client_port.specs.Laws.{AreFromLogs, IsLogged}
use Rattle.request_submit.specs.declared.end.SubmitEnd.TheVariants.{Position}
use Rattle.request_submit.specs.Submitting.{reply_calls, Submits}

-- Of n nodes at least n - f are correct, and reply no other position than that of the request in their own log. Then a position with which
-- handing in ends stands in the log of one of them.
abbrev pub OneOfLogs : Type 0
OneOfLogs = (w : Wanted) (nodes : List (List ℕ)) (payload : List ℕ) (tells : Bool) (old new : List LinkAct) (before after : FaultCounts) (position : ℕ)
    → (is_correct : ℕ → Bool) (log : ℕ → Option ℕ) → w.numbers.n - w.numbers.f ≤ count_by is_correct (replicas w.numbers.n)
    → (ended : Submits w nodes payload tells old new before after (Position position))
    → AreFromLogs w is_correct log (reply_calls (ended.so.item ∷ ended.items)) → IsLogged w is_correct log position
