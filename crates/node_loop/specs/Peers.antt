-- What is kept for peers until they acknowledge it, and who is to be asked to send again. All lists here have the oldest first.
use Rattle.std.specs.Prelude.{ℕ, ◌+◌, ◌==◌, ◌&&◌, ◌||◌, Bool, false, nat_lt, List, [], ◌∷◌, ◌++◌, length, Option, Some, None, if◌then◌else◌}
use Rattle.link_resume.specs.declared.kept.Kept.{Kept}
use Rattle.ritas_base.specs.declared.mode.FrameVersion.{FrameVersion}
use Rattle.ritas_base.specs.declared.mode.FrameVersion.TheVariants.{One, Two, Three}
use Rattle.link_resume.specs.Lists.{bytes_in, most_kept, may_have, all_but}
use Rattle.keyed_channel.specs.Frames.{seq_of}
use Rattle.world_model.specs.MadeOrder.{MadeFrame}
use Rattle.node_loop.specs.declared.peers.Mark.{Mark}
use Rattle.node_loop.specs.declared.peers.Early.{Early}
use Rattle.node_loop.specs.declared.peers.Pending.{Pending}

-- the frames of a replica that wait for a peer to acknowledge them
abbrev pub Keeping : Type 0
Keeping = ℕ → ℕ → List Kept

-- the peers of a replica that are to be asked to send again: of those whose frames came too early how far it had come, and how many bytes it held
-- for the peer, when the newest such frame came, and the least number of such a frame
abbrev pub Marks : Type 0
Marks = ℕ → ℕ → Option Early

-- the peers of a replica that are sent what was kept for them a batch at a time: which frames the newest batch has, the number of the last
-- frame that is to go out so, and the most bytes of the next batch
abbrev pub Pendings : Type 0
Pendings = ℕ → ℕ → Option Pending

pub record Peers : Type 0 where
  pub keeping : Keeping
  pub marks : Marks
  pub pending : Pendings

abbrev pub no_peers : Peers
no_peers = record { keeping = λ i j. []; marks = λ i j. None; pending = λ i j. None }

abbrev pub is_pair : ℕ → ℕ → ℕ → ℕ → Bool
is_pair i j a b = a == i && b == j

-- what replica i keeps for j is this
abbrev pub with_list : ℕ → ℕ → List Kept → Peers → Peers
with_list i j kept p = record p { keeping = λ a b. if is_pair i j a b then kept else p.keeping a b }

-- the mark that j has at i is this
abbrev pub with_mark : ℕ → ℕ → Option Early → Peers → Peers
with_mark i j mark p = record p { marks = λ a b. if is_pair i j a b then mark else p.marks a b }

-- so far what was kept at i went out again to j
abbrev pub with_pending : ℕ → ℕ → Option Pending → Peers → Peers
with_pending i j pending p = record p { pending = λ a b. if is_pair i j a b then pending else p.pending a b }

-- ---- what is kept

-- a frame is kept under the number that it carries, unless the bytes would be too many; in version 3 they never are
abbrev pub keeps : FrameVersion → List ℕ → List Kept → List Kept
keeps version frame kept =
    if may_have (most_kept version) (bytes_in kept + length frame) then kept ++ record { seq = seq_of frame; frame = frame } ∷ [] else kept

abbrev pub keep_one : FrameVersion → MadeFrame → Peers → Peers
keep_one version f p = with_list f.from f.to (keeps version f.bytes (p.keeping f.from f.to)) p

abbrev pub keep_all : FrameVersion → List MadeFrame → Peers → Peers
keep_all version [] p = p
keep_all version (f ∷ fs) p = keep_all version fs (keep_one version f p)

-- replica i is told that j took the frame of a number
abbrev pub acknowledged : ℕ → ℕ → ℕ → Peers → Peers
acknowledged i j seq p = with_list i j (all_but seq (p.keeping i j)) p

-- ---- who is asked

-- the held bytes are fewer now, or the replica has come further
abbrev pub has_come_further : Mark → Mark → Bool
has_come_further was now = nat_lt now.held was.held || nat_lt was.progress now.progress

abbrev pub is_due_of : Option Early → Mark → Bool
is_due_of None now = false
is_due_of (Some early) now = has_come_further early.mark now

-- a frame of this number came too early, when the replica stood so
abbrev pub early_with : Option Early → Mark → ℕ → Early
early_with None mark seq = record { mark = mark; least = seq }
early_with (Some early) mark seq = record { mark = mark; least = if nat_lt seq early.least then seq else early.least }

-- so it is of a frame of j
abbrev pub marked_early : ℕ → ℕ → ℕ → Mark → Peers → Peers
marked_early i j seq mark p = with_mark i j (Some (early_with (p.marks i j) mark seq)) p

-- from which number on the peer is asked: in versions 1 and 2 from the first
abbrev pub asked_from : FrameVersion → Option Early → ℕ
asked_from One early = 0
asked_from Two early = 0
asked_from Three None = 0
asked_from Three (Some early) = early.least
