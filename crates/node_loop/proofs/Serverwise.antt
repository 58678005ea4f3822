-- Servers from call to call.
use Rattle.std.proofs.Common.{◌≡◌, ℕ, List, [], refl, sym, subst}
use Rattle.std.proofs.lemmas.List.{append-nil}
use Rattle.ritas_base.specs.declared.event.Event.{Event}
use Rattle.keyed_channel.specs.KeyRow.{KeyRow}
use Rattle.ritas_core.specs.Stands.{Meaning}
use Rattle.replica.specs.declared.replica.Replica.{Replica}
use Rattle.world_model.specs.World.{Setting}
use Rattle.node_loop.specs.declared.end.ServeEnd.{ServeEnd}
use Rattle.node_loop.specs.declared.limits.Limits.{Limits}
use Rattle.node_loop.specs.declared.server.Server.{Server}
use Rattle.node_loop.specs.Again.{ServesAgain}
use Rattle.node_loop.specs.Archives.{Moment}
use Rattle.node_loop.specs.Outs.{Outs, Tells, Agrees}
use Rattle.node_loop.specs.ServedKept.{ServesKept}
use Rattle.node_loop.specs.Servers.{IsSameServer}
use Rattle.node_loop.specs.Serving.{Serving}

-- ---- it is the same server

pub same_self : {L K A D : Type 0} (server : Server L K A D) → IsSameServer server server
same_self server = record { link = refl; tape = refl; archive = refl; disk = refl; limits = refl }

-- ---- for how long it served

module _ {S E C : Type 0} (m : Meaning S E C KeyRow) (w : Setting) (past : List Event) (numbers : List ℕ) (here : List (Replica S E C)) (tells : Tells) (base : Outs) (now : Moment)
    (end : ServeEnd) where
  pub served_for : (start : Serving) (limits k : Limits) → k ≡ limits → ServesKept m w past numbers here tells base now end k start
      → ServesKept m w past numbers here tells base now end limits start
  served_for start limits k same served = subst (λ (a : Limits). ServesKept m w past numbers here tells base now end a start) same served

  pub served_again_for : (limits k : Limits) → k ≡ limits → ServesAgain m w past numbers here tells base now end k → ServesAgain m w past numbers here tells base now end limits
  served_again_for limits k same served = subst (λ (a : Limits). ServesAgain m w past numbers here tells base now end a) same served

-- ---- before it did anything

pub agrees_none : (tells : Tells) (base : Outs) → Agrees tells base base [] []
agrees_none tells base = record { taken = λ t. sym (append-nil base.taken); told = λ t. refl; tape_stands = refl; link_stands = refl }

-- ---- what its references leave, where these are their last values

pub at_last : {K L : Type 0} (P : K → L → Type 0) (k k₀ : K) (l l₀ : L) → k ≡ k₀ → l ≡ l₀ → P k₀ l₀ → P k l
at_last P k k₀ l l₀ same_k same_l p = subst (λ (x : _). P x l) (sym same_k) (subst (λ (x : _). P k₀ x) (sym same_l) p)

pub all_at_last : {K L A D : Type 0} (P : K → L → A → D → Type 0) (k k₀ : K) (l l₀ : L) (a a₀ : A) (d d₀ : D) → k ≡ k₀ → l ≡ l₀ → a ≡ a₀ → d ≡ d₀ → P k₀ l₀ a₀ d₀ → P k l a d
all_at_last P k k₀ l l₀ a a₀ d d₀ same_k same_l same_a same_d p =
    at_last (λ (x : _) (y : _). P x y a d) k k₀ l l₀ same_k same_l (at_last (λ (x : _) (y : _). P k₀ l₀ x y) a a₀ d d₀ same_a same_d p)
