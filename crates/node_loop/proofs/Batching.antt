-- What goes out again of what is kept for a peer.
use Rattle.std.specs.Prelude.{◌≡◌, ℕ, nat_lt, Bool, true, false, List, [], ◌∷◌, map, filter, length, Option, Some, None, refl, if◌then◌else◌}
use Rattle.std.specs.List.{AllByRecursion}
use Rattle.ritas_base.specs.declared.mode.FrameVersion.{FrameVersion}
use Rattle.ritas_base.specs.declared.mode.FrameVersion.TheVariants.{One, Two, Three}
use Rattle.link_resume.specs.declared.kept.Kept.{Kept}
use Rattle.link_resume.specs.Lists.{is_between, between, joins_batch, bytes_with, batch_behind}
use Rattle.node_loop.specs.declared.output.Part.{Part}
use Rattle.node_loop.specs.declared.output.Part.TheVariants as parts_are
use Rattle.node_loop.specs.declared.peers.Pending.{Pending}
use Rattle.node_loop.specs.Deeds.{Resent}
use Rattle.node_loop.specs.Peers.{Peers, with_pending, acknowledged}
use Rattle.node_loop.specs.Resending.{Brought, nothing_more, part_of, resends, newest_in, batch_step, has_none, before, sends_batch, goes_on, begins_at, begins_unless, acked_so, asked_so, connected}

-- ---- a part of a list

pub filter_all : (P : Kept → Type 0) (q : Kept → Bool) (ks : List Kept) → AllByRecursion P ks → AllByRecursion P (filter q ks)
filter_all P q [] all = tt
filter_all P q (k ∷ ks) all = by_test (q k) (filter_all P q ks all.1)
  where
    by_test : (b : Bool) → AllByRecursion P (filter q ks) → AllByRecursion P (if b then k ∷ filter q ks else filter q ks)
    by_test true rest = (all.0, rest)
    by_test false rest = rest

batch_all : (P : Kept → Type 0) (most : ℕ) (given : Option ℕ) (ks : List Kept) → AllByRecursion P ks → AllByRecursion P (batch_behind most given ks)
batch_all P most given [] all = tt
batch_all P most given (k ∷ ks) all =
    by_test (joins_batch most given (length k.frame)) (batch_all P most (Some (bytes_with given (length k.frame))) ks all.1)
  where
    by_test : (b : Bool) → AllByRecursion P (batch_behind most (Some (bytes_with given (length k.frame))) ks)
        → AllByRecursion P (if b then k ∷ batch_behind most (Some (bytes_with given (length k.frame))) ks else [])
    by_test true rest = (all.0, rest)
    by_test false rest = tt

-- what holds of all holds of a part
pub part_all : (P : Kept → Type 0) (part : Part) (ks : List Kept) → AllByRecursion P ks → AllByRecursion P (part_of part ks)
part_all P parts_are.All ks all = all
part_all P (parts_are.Batch after last most) ks all = batch_all P most None (between after last ks) (filter_all P (is_between after last) ks all)

-- ---- frames that go out again, and nothing else

pub record OnlyResends (i j : ℕ) (brings : Brought) : Type 0 where
  pub frames : List Kept
  pub are : brings.deeds ≡ map (λ k. Resent i j k.frame) frames

part_resends : (i j : ℕ) (part : Part) (p : Peers) → OnlyResends i j (resends i j part p)
part_resends i j part p = record { frames = part_of part (p.keeping i j); are = refl }

none_resends : (i j : ℕ) (p : Peers) → OnlyResends i j (nothing_more p)
none_resends i j p = record { frames = []; are = refl }

batch_resends : (i j : ℕ) (after : Option ℕ) (end most : ℕ) (p : Peers) → OnlyResends i j (sends_batch i j after end most p)
batch_resends i j after end most p = record { frames = part_of (parts_are.Batch after end most) (p.keeping i j); are = refl }

either_resends : (i j : ℕ) (x y : Brought) (b : Bool) → OnlyResends i j x → OnlyResends i j y → OnlyResends i j (if b then x else y)
either_resends i j x y true first second = first
either_resends i j x y false first second = second

goes_on_resends : (i j : ℕ) (pending : Option Pending) (p : Peers) → OnlyResends i j (goes_on i j pending p)
goes_on_resends i j None p = none_resends i j p
goes_on_resends i j (Some pending) p =
    either_resends i j (sends_batch i j (Some pending.last) pending.end pending.most p) (nothing_more p)
    (has_none (between pending.after pending.last (p.keeping i j)))
    (batch_resends i j (Some pending.last) pending.end pending.most p) (none_resends i j p)

pub acked_resends : (version : FrameVersion) (i j seq : ℕ) (p : Peers) → OnlyResends i j (acked_so version i j seq p)
acked_resends One i j seq p = none_resends i j (acknowledged i j seq p)
acked_resends Two i j seq p = none_resends i j (acknowledged i j seq p)
acked_resends Three i j seq p = goes_on_resends i j (p.pending i j) (acknowledged i j seq p)

begins_unless_resends : (i j seq : ℕ) (pending : Option Pending) (p : Peers) → OnlyResends i j (begins_unless i j seq pending p)
begins_unless_resends i j seq None p = batch_resends i j (before seq) _ 0 p
begins_unless_resends i j seq (Some pending) p =
    either_resends i j (nothing_more (with_pending i j (Some (record pending { end = newest_in (p.keeping i j) })) p)) (begins_at i j seq p)
    (nat_lt pending.last seq) (none_resends i j _) (batch_resends i j (before seq) _ 0 p)

pub asked_resends : (version : FrameVersion) (i j seq : ℕ) (p : Peers) → OnlyResends i j (asked_so version i j seq p)
asked_resends One i j seq p = part_resends i j parts_are.All p
asked_resends Two i j seq p = part_resends i j parts_are.All p
asked_resends Three i j seq p = begins_unless_resends i j seq (p.pending i j) p

pub connected_resends : (version : FrameVersion) (i j : ℕ) (p : Peers) → OnlyResends i j (connected version i j p)
connected_resends One i j p = part_resends i j parts_are.All p
connected_resends Two i j p = part_resends i j parts_are.All p
connected_resends Three i j p = batch_resends i j None _ batch_step p
