-- What a keeper answers that is to go out again to a peer.
use Rattle.std.proofs.Common.{◌≡◌, ◌⊎◌, inl, inr, ℕ, ◌<◌, List, slice_set, Option, None, refl, sym, ◌∙◌, ap, subst}
use Rattle.ritas_base.specs.declared.mode.FrameVersion.{FrameVersion}
use Rattle.ritas_base.specs.declared.mode.FrameVersion.TheVariants.{One, Two, Three}
use Rattle.link_resume.specs.declared.kept.Kept.{Kept}
use Rattle.link_resume.specs.Lists.{Keepings, kept_for, between, batch, all_but, without_number}
use Rattle.world_model.specs.World.{Setting}
use Rattle.node_loop.specs.declared.output.More.{More}
use Rattle.node_loop.specs.declared.output.More.TheVariants as mores
use Rattle.node_loop.specs.declared.output.Part.{Part}
use Rattle.node_loop.specs.declared.output.Part.TheVariants as parts_are
use Rattle.node_loop.specs.declared.peers.Keeper.{Keeper}
use Rattle.node_loop.specs.declared.peers.Pending.{Pending}
use Rattle.node_loop.specs.Peers.{Peers, acknowledged}
use Rattle.node_loop.specs.PeersStanding.{AreKept, IsKeeper}
use Rattle.node_loop.specs.Resending.{Brought, nothing_more, resends, newest_in, batch_step, grown, reached, sends_batch, goes_on, begins_unless, acked_so, asked_so, connected}
use Rattle.node_loop.specs.Standing.{IsMore}
use Rattle.node_loop.proofs.Hearing.{pending_there}
use Rattle.node_loop.proofs.Keeping.{one_list}

-- a keeper stands so, and this is to go out
pub record Answers (w : Setting) (i : ℕ) (keeper : Keeper) (goes : More) (brings : Brought) : Type 0 where
  pub stands : IsKeeper w.mode.version w.numbers.n i keeper brings.peers
  pub more : IsMore w i goes brings

pub both_of : (w : Setting) (i : ℕ) (keeper : Keeper) (goes : More) (brings : Brought) → Answers w i keeper goes brings
    → IsKeeper w.mode.version w.numbers.n i keeper brings.peers × IsMore w i goes brings
both_of w i keeper goes brings so = (so.stands, so.more)

pub answers_as : (w : Setting) (i : ℕ) (keeper : Keeper) (goes : More) (brings other : Brought) → brings ≡ other → Answers w i keeper goes brings → Answers w i keeper goes other
answers_as w i keeper goes brings other same so = subst (λ (b : Brought). Answers w i keeper goes b) same so

pub answers_nothing : (w : Setting) (i : ℕ) (keeper : Keeper) (p : Peers) → IsKeeper w.mode.version w.numbers.n i keeper p → Answers w i keeper mores.Nothing (nothing_more p)
answers_nothing w i keeper p is = record { stands = is; more = refl }

-- a part of what is kept goes out, and nothing changes
pub answers_part : (w : Setting) (i peer : ℕ) (part : Part) (keeper : Keeper) (p : Peers) → IsKeeper w.mode.version w.numbers.n i keeper p → peer < w.numbers.n
    → Answers w i keeper (mores.Kept peer part) (resends i peer part p)
answers_part w i peer part keeper p is below = record { stands = is; more = (below, refl) }

-- a batch
pub answers_batch : (w : Setting) (i peer : ℕ) (after : Option ℕ) (end most : ℕ) (pending : Option Pending) (old new : Keeper) (p : Peers)
    → IsKeeper w.mode.version w.numbers.n i old p → peer < w.numbers.n
    → pending ≡ reached after end (grown most) (batch most (between after end (kept_for old.resume.lists peer))) → new ≡ record old { pending = new.pending }
    → new.pending.items ≡ slice_set old.pending.items peer pending
    → Answers w i new (mores.Kept peer (parts_are.Batch after end most)) (sends_batch i peer after end most p)
answers_batch w i peer after end most pending old new p is below so rest set =
    let now : Option Pending = reached after end (grown most) (batch most (between after end (p.keeping i peer))) in
    let same : pending ≡ now = so ∙ ap (λ (ks : List Kept). reached after end (grown most) (batch most (between after end ks))) (is.kept.each peer below) in
    record {
      stands = pending_there w.mode.version w.numbers.n i peer now old new p is rest (set ∙ ap (slice_set old.pending.items peer) same);
      more = (below, refl);
    }

-- what a peer acknowledged isn't kept any more
pub taken_there : (version : FrameVersion) (n i peer seq : ℕ) (old new : Keeper) (p : Peers) → IsKeeper version n i old p → peer < n
    → new ≡ record old { resume = new.resume } → new.resume ≡ without_number old.resume peer seq → IsKeeper version n i new (acknowledged i peer seq p)
taken_there version n i peer seq old new p is here rest took =
    let list : List Kept = all_but seq (p.keeping i peer) in
    let same : all_but seq (kept_for old.resume.lists peer) ≡ list = ap (all_but seq) (is.kept.each peer here) in
    let now : IsKeeper version n i (record old { resume = without_number old.resume peer seq }) (acknowledged i peer seq p) = record {
      version_is = is.version_is;
      kept = subst (λ (l : List Kept). AreKept version n i (record old.resume { lists = slice_set old.resume.lists peer l }) (acknowledged i peer seq p).keeping) (sym same)
          (one_list version n i peer list old.resume p is.kept here);
      marked = is.marked;
      pending = is.pending;
    } in
    subst (λ (k : Keeper). IsKeeper version n i k (acknowledged i peer seq p)) (sym (rest ∙ ap (λ (r : Keepings). record old { resume = r }) took)) now

-- ---- by the version

pub not_three : (version : FrameVersion) → (version ≡ One) ⊎ (version ≡ Two) → version ≡ Three → ⊥
not_three version (inl one) three = let e = sym one ∙ three in cc
not_three version (inr two) three = let e = sym two ∙ three in cc

pub acked_earlier : (version : FrameVersion) (i j seq : ℕ) (p : Peers) → (version ≡ Three → ⊥) → acked_so version i j seq p ≡ nothing_more (acknowledged i j seq p)
acked_earlier One i j seq p other = refl
acked_earlier Two i j seq p other = refl
acked_earlier Three i j seq p other = absurd (other refl)

pub acked_three : (version : FrameVersion) (i j seq : ℕ) (p : Peers) → version ≡ Three → acked_so version i j seq p ≡ goes_on i j (p.pending i j) (acknowledged i j seq p)
acked_three version i j seq p is = ap (λ (v : FrameVersion). acked_so v i j seq p) is

pub asked_earlier : (version : FrameVersion) (i j seq : ℕ) (p : Peers) → (version ≡ Three → ⊥) → asked_so version i j seq p ≡ resends i j parts_are.All p
asked_earlier One i j seq p other = refl
asked_earlier Two i j seq p other = refl
asked_earlier Three i j seq p other = absurd (other refl)

pub asked_three : (version : FrameVersion) (i j seq : ℕ) (p : Peers) → version ≡ Three → asked_so version i j seq p ≡ begins_unless i j seq (p.pending i j) p
asked_three version i j seq p is = ap (λ (v : FrameVersion). asked_so v i j seq p) is

pub connected_earlier : (version : FrameVersion) (i j : ℕ) (p : Peers) → (version ≡ Three → ⊥) → connected version i j p ≡ resends i j parts_are.All p
connected_earlier One i j p other = refl
connected_earlier Two i j p other = refl
connected_earlier Three i j p other = absurd (other refl)

pub connected_three : (version : FrameVersion) (i j : ℕ) (p : Peers) → version ≡ Three → connected version i j p ≡ sends_batch i j None (newest_in (p.keeping i j)) batch_step p
connected_three version i j p is = ap (λ (v : FrameVersion). connected v i j p) is
