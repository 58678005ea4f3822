-- What came of a call at a socket, and of an event.
use Rattle.std.specs.Prelude.{◌≡◌, ◌↔◌, IsTrue, IsSomeAnd, ℕ, zero, suc, ◌≤◌, Bool, true, false, ◌||◌, ◌==◌, Option, Some, None, Result, Ok, Err}
use Rattle.std.specs.IoError.{error_kind}
use Rattle.std.specs.declared.io.Error.{Error}
use Rattle.std.specs.declared.io.ErrorKind.{ErrorKind}
use Rattle.std.specs.declared.io.ErrorKind.TheVariants.{WouldBlock, Interrupted, ConnectionAborted}
use Rattle.std.specs.declared.net.SocketAddr.{SocketAddr}
use Rattle.mio.specs.Event.{is_readable, is_writable, is_error, is_read_closed, is_write_closed}
use Rattle.mio.specs.declared.event.event.Event.{Event}
use Rattle.tcp_link.specs.declared.outcome.Moved.{Moved}
use Rattle.tcp_link.specs.declared.outcome.Moved.TheVariants.{Bytes, Later, Again, Closed, Failed}
use Rattle.tcp_link.specs.declared.outcome.Seen.{Seen}
use Rattle.tcp_link.specs.declared.outcome.Nobody.{Nobody}
use Rattle.tcp_link.specs.declared.outcome.Nobody.TheVariants as nobody
use Rattle.tcp_link.specs.declared.stage.Change.{Change}
use Rattle.tcp_link.specs.declared.stage.Change.TheVariants.{Stands, Ends}
use Rattle.tcp_link.specs.declared.trouble.Trouble.{Trouble}
use Rattle.tcp_link.specs.declared.trouble.Trouble.TheVariants as troubles
use Rattle.outside.specs.declared.link.LinkFault.{LinkFault}
use Rattle.outside.specs.declared.link.LinkFault.TheVariants as faults

-- ---- reads and writes

-- a socket that isn't ready is tried later, and one whose call was interrupted at once; at any other error the connection failed
abbrev pub moved_at : ErrorKind → Moved
moved_at WouldBlock = Later
moved_at Interrupted = Again
moved_at _ = Failed

-- no byte is the end of what the other side sends
abbrev pub moved_of : Result ℕ Error → Moved
moved_of (Ok zero) = Closed
moved_of (Ok (suc n)) = Bytes (suc n)
moved_of (Err e) = moved_at (error_kind e)

-- at most so many bytes
abbrev pub IsWithin : ℕ → Moved → Type 0
IsWithin most (Bytes n) = n ≤ most
IsWithin most Later = Unit {0}
IsWithin most Again = Unit {0}
IsWithin most Closed = Unit {0}
IsWithin most Failed = Unit {0}

-- whether a read is followed by another: one that doesn't fill its buffer took all that there was, but an end may follow
abbrev pub reads_on : ℕ → Bool → Moved → Bool
reads_on room is_hung_up (Bytes n) = (n == room) || is_hung_up
reads_on room is_hung_up Later = false
reads_on room is_hung_up Again = true
reads_on room is_hung_up Closed = false
reads_on room is_hung_up Failed = false

-- whether a write is followed by another
abbrev pub writes_on : Moved → Bool
writes_on (Bytes n) = true
writes_on Later = false
writes_on Again = true
writes_on Closed = false
writes_on Failed = false

-- ---- connections that are begun or come in

-- no error is pending
abbrev pub is_well_by : Result (Option Error) Error → Bool
is_well_by (Ok None) = true
is_well_by (Ok (Some e)) = false
is_well_by (Err e) = false

-- whether the addresses of both sides are one, if both are known
abbrev pub IsOwnAddress : Result SocketAddr Error → Result SocketAddr Error → Option Bool → Type 0
IsOwnAddress (Ok peer) (Ok own) same = IsSomeAnd same (λ b. IsTrue b ↔ (peer ≡ own))
IsOwnAddress (Ok peer) (Err e) same = same ≡ None
IsOwnAddress (Err e) own same = same ≡ None

-- a connection that was begun is looked at: an error ends it, and so does having reached its own address; with the addresses of
-- both sides known it stands
abbrev pub change_seen : Bool → Option Bool → Option Change
change_seen false is_own = Some Ends
change_seen true (Some true) = Some Ends
change_seen true (Some false) = Some Stands
change_seen true None = None

-- why none came in: one that was gone, or none waits, or none can be accepted now
abbrev pub nobody_at : ErrorKind → Nobody
nobody_at WouldBlock = nobody.Waits
nobody_at Interrupted = nobody.Gone
nobody_at ConnectionAborted = nobody.Gone
nobody_at _ = nobody.Closed

-- ---- events

-- an event tells that the other side sends or takes no more, or failed: it is broken where nothing can go out any more
abbrev pub event_seen : Event → Seen
event_seen e = record {
  is_readable = is_readable e;
  is_writable = is_writable e;
  is_closed = is_read_closed e || is_error e || is_write_closed e;
  is_broken = is_error e || is_write_closed e;
}

-- what a closed side does is learnt by a read, and by a write
abbrev pub may_read : Seen → Bool
may_read s = s.is_readable || s.is_closed

abbrev pub may_write : Seen → Bool
may_write s = s.is_writable || s.is_closed

-- ---- calls of a link

-- what a call answers where something went wrong in it
abbrev pub link_fault_of : Trouble → LinkFault
link_fault_of troubles.System = faults.Failed
link_fault_of troubles.Mem = faults.Mem
