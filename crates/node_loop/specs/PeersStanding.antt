-- What the values that keep frames stand for.
use Rattle.std.specs.Prelude.{◌≡◌, ℕ, ◌<◌, List, length, slice_index_or, Option, None}
use Rattle.outside.specs.Links.{LinkAct}
use Rattle.link_resume.specs.declared.kept.Kept.{Kept}
use Rattle.ritas_base.specs.declared.mode.FrameVersion.{FrameVersion}
use Rattle.link_resume.specs.Lists.{Keepings, kept_for, most_kept}
use Rattle.replica.specs.Out.{OutFrame}
use Rattle.world_model.specs.MadeOrder.{MadeFrame}
use Rattle.node_loop.specs.declared.peers.Keeper.{Keeper}
use Rattle.node_loop.specs.declared.peers.Early.{Early}
use Rattle.node_loop.specs.declared.peers.Pending.{Pending}
use Rattle.node_loop.specs.Peers.{Keeping, Marks, Pendings, Peers}
use Rattle.node_loop.specs.Deeds.{sends}

-- this is what replica i, one of n, keeps for its peers in a session of a version
pub record AreKept (version : FrameVersion) (n i : ℕ) (kept : Keepings) (keeping : Keeping) : Type 0 where
  pub limit : kept.limit ≡ most_kept version
  pub many : length kept.lists ≡ n
  pub each : (j : ℕ) → j < n → kept_for kept.lists j ≡ keeping i j

-- these are the marks of its peers
pub record AreMarked (n i : ℕ) (list : List (Option Early)) (marks : Marks) : Type 0 where
  pub many : length list ≡ n
  pub each : (j : ℕ) → j < n → slice_index_or list j None ≡ marks i j

-- so far what is kept for them went out again
pub record ArePending (n i : ℕ) (list : List (Option Pending)) (pending : Pendings) : Type 0 where
  pub many : length list ≡ n
  pub each : (j : ℕ) → j < n → slice_index_or list j None ≡ pending i j

-- a keeper is that of replica i, one of n, in a session of a version
pub record IsKeeper (version : FrameVersion) (n i : ℕ) (keeper : Keeper) (p : Peers) : Type 0 where
  pub version_is : keeper.version ≡ version
  pub kept : AreKept version n i keeper.resume p.keeping
  pub marked : AreMarked n i keeper.marks.items p.marks
  pub pending : ArePending n i keeper.pending.items p.pending

-- a kept frame as it goes out again
abbrev pub kept_by : ℕ → ℕ → Kept → LinkAct
kept_by at peer k = sends at peer k.frame

-- a frame that a replica made, in the event of a number
abbrev pub made_as : ℕ → ℕ → OutFrame → MadeFrame
made_as event at f = record { event = event; from = at; to = f.to; bytes = f.bytes }
