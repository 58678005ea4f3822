-- The broadcast of one slot, which is one of the two reliable broadcasts or a core's other one. It is one broadcast, whose rules
-- depend on by which of the three the slot goes.
use Rattle.std.specs.Prelude.{◌≡◌, Bool, true, List}
use Rattle.ritas_base.specs.declared.mode.Mode.{Mode}
use Rattle.ritas_base.specs.Messages.{Place}
use Rattle.ritas_base.specs.History.{Call}
use Rattle.ritas_base.specs.Tags.{Tags}
use Rattle.layer_api.specs.BroadcastCalls.{CastShown}
use Rattle.reliable_bcast.specs.State.{state_of}
use Rattle.reliable_bcast.specs.DigestState.{KeepsDigests, digest_shown}
use Rattle.ritas_core.specs.declared.cast.Cast.{Cast}
use Rattle.ritas_core.specs.declared.cast.Cast.TheVariants.{Plain, Digest, Other}
use Rattle.ritas_core.specs.declared.route.Route.{Route}
use Rattle.ritas_core.specs.declared.route.Route.TheVariants as routes
use Rattle.ritas_core.specs.Rules.{route_of}

-- the value stands for these calls, where its slot goes so
abbrev pub CastStands : {E : Type 0} → Route → (E → Place → Tags → List Call → Type 0) → Cast E → Place → Tags → List Call → Type 0
CastStands route stands (Plain b) at tags h = (route ≡ routes.Values) × (b ≡ state_of at h)
CastStands route stands (Digest b) at tags h = (route ≡ routes.Digests) × KeepsDigests b at tags h
CastStands route stands (Other e) at tags h = (route ≡ routes.Other) × stands e at tags h

-- the same at a place, in a mode
abbrev pub CastStandsAt : {E : Type 0} → Mode → (E → Place → Tags → List Call → Type 0) → Cast E → Place → Tags → List Call → Type 0
CastStandsAt mode stands cast at tags h = CastStands (route_of mode at.slot) stands cast at tags h

-- no call on it was without memory
abbrev pub is_cast_live : {E : Type 0} → (E → Bool) → Cast E → Bool
is_cast_live live (Plain b) = b.live
is_cast_live live (Digest b) = b.live
is_cast_live live (Other e) = live e

-- what its getters answer: reliable broadcast can take any item
abbrev pub shown_by_cast : {E : Type 0} → (E → CastShown) → Cast E → CastShown
shown_by_cast shown (Plain b) = record { out = b.delivered; ready = λ i. true }
shown_by_cast shown (Digest b) = digest_shown b
shown_by_cast shown (Other e) = shown e

-- by which broadcast a value goes
abbrev pub route_of_cast : {E : Type 0} → Cast E → Route
route_of_cast (Plain b) = routes.Values
route_of_cast (Digest b) = routes.Digests
route_of_cast (Other e) = routes.Other
