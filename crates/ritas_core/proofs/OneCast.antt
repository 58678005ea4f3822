-- The broadcast of one slot does what the one inside it does: reliable broadcast, or the other one.
use Rattle.std.proofs.Common.{◌≡◌, Bool, true, false, Result, Ok, Err, ℕ, List, ◌∷◌, ◌++◌, refl, sym, ◌∙◌, ap, subst}
use Rattle.ritas_base.specs.declared.bytes.Mem.{Mem}
use Rattle.ritas_base.specs.declared.item.Item.{Item}
use Rattle.ritas_base.specs.declared.item.Msg.{Msg}
use Rattle.ritas_base.specs.Messages.{Place}
use Rattle.ritas_base.specs.Tags.{Tags}
use Rattle.ritas_base.specs.History.{Call, Start, Take}
use Rattle.layer_api.specs.declared.broadcast.Heard.{Heard}
use Rattle.layer_api.specs.declared.broadcast.Heard.TheVariants.{Took, Repeat}
use Rattle.layer_api.specs.Broadcast.{BroadcastRules, Tagging, IsTagger, MayTake, news}
use Rattle.layer_api.specs.BroadcastCalls.{Started, TakesNew, TakesAgain, TakesNone, Takes, CastShown, ShowsCast, ShowsCastNear}
use Rattle.reliable_bcast.specs.declared.rb.Rb.{Rb}
use Rattle.reliable_bcast.specs.Bracha.{bracha}
use Rattle.reliable_bcast.specs.State.{state_of}
use Rattle.reliable_bcast.specs.declared.digest_rb.DigestRb.{DigestRb}
use Rattle.reliable_bcast.specs.Digests.{by_digest}
use Rattle.reliable_bcast.specs.DigestState.{KeepsDigests, digest_shown}
use Rattle.reliable_bcast.specs.Laws.DigestShown.{shows_cast}
use Rattle.ritas_core.specs.declared.cast.Cast.{Cast}
use Rattle.ritas_core.specs.declared.cast.Cast.TheVariants.{Plain, Digest, Other}
use Rattle.ritas_core.specs.declared.route.Route.{Route}
use Rattle.ritas_core.specs.declared.route.Route.TheVariants as routes
use Rattle.ritas_core.specs.Rules.{rules_by}
use Rattle.ritas_core.specs.SlotCast.{CastStands, is_cast_live, shown_by_cast}

-- a value that stands for calls where one inside does, by the same rules
module _ {A B : Type 0} (stands : A → Place → Tags → List Call → Type 0) (r : BroadcastRules) (live : A → Bool) (shown : A → CastShown)
    (stands_out : B → Place → Tags → List Call → Type 0) (r_out : BroadcastRules) (live_out : B → Bool) (shown_out : B → CastShown)
    (wrap : A → B) (Fits : Type 0) (same : Fits → r ≡ r_out)
    (down : (a : A) (at : Place) (tags : Tags) (h : List Call) → stands_out (wrap a) at tags h → Fits × stands a at tags h)
    (up : (a : A) (at : Place) (tags : Tags) (h : List Call) → Fits → stands a at tags h → stands_out (wrap a) at tags h)
    (live_same : (a : A) → live_out (wrap a) ≡ live a) (shown_same : (a : A) → shown_out (wrap a) ≡ shown a)
    (t : Tagging) (old new : A) (before after : List Msg) where
  back : {at : Place} {tags : Tags} {h : List Call} (item : Item) → Fits → MayTake r_out at tags h item → MayTake r at tags h item
  back {at} {tags} {h} item fits may = subst (λ (x : BroadcastRules). MayTake x at tags h item) (sym (same fits)) may

  -- a take
  counts_out : (item : Item) (b : Bool) →
      ((at : Place) (tags : Tags) (h : List Call) → stands old at tags h → IsTagger at tags t → MayTake r at tags h item → r.repeats at tags h item ≡ b) →
      (at : Place) (tags : Tags) (h : List Call) → stands_out (wrap old) at tags h → IsTagger at tags t → MayTake r_out at tags h item
      → r_out.repeats at tags h item ≡ b
  counts_out item b counts at tags h stood tagger may =
      let inside = down old at tags h stood in
      subst (λ (x : BroadcastRules). x.repeats at tags h item ≡ b) (same inside.0) (counts at tags h inside.1 tagger (back item inside.0 may))

  takes_new : (item : Item) → TakesNew stands r t old new item before after → TakesNew stands_out r_out t (wrap old) (wrap new) item before after
  takes_new item takes = record {
    grows = λ at tags h stood tagger may.
        let inside = down old at tags h stood in
        up new at tags (Take item ∷ h) inside.0 (takes.grows at tags h inside.1 tagger (back item inside.0 may));
    made = λ at tags h stood tagger may.
        let inside = down old at tags h stood in
        subst (λ (x : BroadcastRules). after ≡ before ++ news x at tags h (Take item)) (same inside.0) (takes.made at tags h inside.1 tagger (back item inside.0 may));
    counts = counts_out item false takes.counts;
  }

  takes_again : (item : Item) → TakesAgain stands r t old new item before after → TakesAgain stands_out r_out t (wrap old) (wrap new) item before after
  takes_again item takes = record {
    same = λ at tags h stood.
        let inside = down old at tags h stood in
        up new at tags h inside.0 (takes.same at tags h inside.1);
    out = takes.out;
    counts = counts_out item true takes.counts;
  }

  takes_none : (item : Item) → TakesNone stands r live shown t old new item before after →
      TakesNone stands_out r_out live_out shown_out t (wrap old) (wrap new) item before after
  takes_none item takes = record {
    dies = record {
      out = takes.dies.out;
      dead = live_same new ∙ takes.dies.dead;
      shows = λ at tags h stood tagger may.
          let inside = down old at tags h stood in
          subst (λ (x : BroadcastRules). ShowsCastNear x at tags h (Take item) (shown_out (wrap new))) (same inside.0)
          (subst (λ (o : CastShown). ShowsCastNear r at tags h (Take item) o) (sym (shown_same new))
          (takes.dies.shows at tags h inside.1 tagger (back item inside.0 may)));
    };
    counts = counts_out item false takes.counts;
  }

  -- a start
  pub starts_out : (value : List ℕ) (result : Result (Unit {0}) Mem) → Started stands r live shown t old new value before after result →
      Started stands_out r_out live_out shown_out t (wrap old) (wrap new) value before after result
  starts_out value (Ok u) does = record {
    grows = λ at tags h stood tagger may.
        let inside = down old at tags h stood in
        up new at tags (Start value ∷ h) inside.0 (does.grows at tags h inside.1 tagger may);
    made = λ at tags h stood tagger may.
        let inside = down old at tags h stood in
        subst (λ (x : BroadcastRules). after ≡ before ++ news x at tags h (Start value)) (same inside.0) (does.made at tags h inside.1 tagger may);
  }
  starts_out value (Err e) does = record {
    out = does.out;
    dead = live_same new ∙ does.dead;
    shows = λ at tags h stood tagger may.
        let inside = down old at tags h stood in
        subst (λ (x : BroadcastRules). ShowsCastNear x at tags h (Start value) (shown_out (wrap new))) (same inside.0)
        (subst (λ (o : CastShown). ShowsCastNear r at tags h (Start value) o) (sym (shown_same new)) (does.shows at tags h inside.1 tagger may));
  }

  pub takes_out : (item : Item) (result : Result Heard Mem) → Takes stands r live shown t old new item before after result →
      Takes stands_out r_out live_out shown_out t (wrap old) (wrap new) item before after result
  takes_out item (Ok Took) does = takes_new item does
  takes_out item (Ok Repeat) does = takes_again item does
  takes_out item (Err e) does = takes_none item does

-- reliable broadcast, and the other one
abbrev pub RbStands : Rb → Place → Tags → List Call → Type 0
RbStands b at tags h = b ≡ state_of at h

abbrev pub RbShown : Rb → CastShown
RbShown b = record { out = b.delivered; ready = λ i. true }

route_rules : (route to : Route) (rules : BroadcastRules) → route ≡ to → rules_by to rules ≡ rules_by route rules
route_rules route to rules same = ap (λ (x : Route). rules_by x rules) (sym same)

module _ {E : Type 0} (stands : E → Place → Tags → List Call → Type 0) (rules : BroadcastRules) (live : E → Bool) (shown : E → CastShown) where
  -- its getters answer what the rules say of the calls that it stands for
  pub shows_at : ((e : E) (at : Place) (tags : Tags) (h : List Call) → stands e at tags h → (live e ≡ true) × ShowsCast rules at tags h (shown e)) →
      (route : Route) (cast : Cast E) (at : Place) (tags : Tags) (h : List Call) → CastStands route stands cast at tags h →
      ShowsCast (rules_by route rules) at tags h (shown_by_cast shown cast)
  shows_at shows route (Plain b) at tags h stood =
      subst (λ (x : BroadcastRules). ShowsCast x at tags h (shown_by_cast shown (Plain b))) (route_rules route routes.Values rules stood.0)
      (record { out = ap (λ (x : Rb). x.delivered) stood.1; ready = λ i. refl })
  shows_at shows route (Digest b) at tags h stood =
      subst (λ (x : BroadcastRules). ShowsCast x at tags h (digest_shown b)) (route_rules route routes.Digests rules stood.0) (shows_cast b at tags h stood.1)
  shows_at shows route (Other e) at tags h stood =
      subst (λ (x : BroadcastRules). ShowsCast x at tags h (shown e)) (route_rules route routes.Other rules stood.0) (shows e at tags h stood.1).1

  module _ (route : Route) (t : Tagging) (before after : List Msg) where
    pub plain_takes : (cast : Cast E) (old new : Rb) → cast ≡ Plain old → (item : Item) (result : Result Heard Mem) →
        Takes (λ b at tags h. b ≡ state_of at h) bracha (λ b. b.live) RbShown t old new item before after result →
        Takes (CastStands route stands) (rules_by route rules) (is_cast_live live) (shown_by_cast shown) t cast (Plain new) item before after result
    plain_takes cast old new is item result does =
        subst (λ (x : Cast E). Takes (CastStands route stands) (rules_by route rules) (is_cast_live live) (shown_by_cast shown) t x (Plain new) item before after result) (sym is)
        (takes_out (λ (b : Rb) at tags h. b ≡ state_of at h) bracha (λ b. b.live) RbShown
        (CastStands route stands) (rules_by route rules) (is_cast_live live) (shown_by_cast shown) (λ b. Plain b)
        (route ≡ routes.Values) (route_rules route routes.Values rules) (λ a at tags h stood. stood) (λ a at tags h plain stood. (plain, stood)) (λ a. refl) (λ a. refl)
        t old new before after item result does)

    pub digest_takes : (cast : Cast E) (old new : DigestRb) → cast ≡ Digest old → (item : Item) (result : Result Heard Mem) →
        Takes KeepsDigests by_digest (λ b. b.live) digest_shown t old new item before after result →
        Takes (CastStands route stands) (rules_by route rules) (is_cast_live live) (shown_by_cast shown) t cast (Digest new) item before after result
    digest_takes cast old new is item result does =
        subst (λ (x : Cast E). Takes (CastStands route stands) (rules_by route rules) (is_cast_live live) (shown_by_cast shown) t x (Digest new) item before after result) (sym is)
        (takes_out KeepsDigests by_digest (λ b. b.live) digest_shown
        (CastStands route stands) (rules_by route rules) (is_cast_live live) (shown_by_cast shown) (λ b. Digest b)
        (route ≡ routes.Digests) (route_rules route routes.Digests rules) (λ a at tags h stood. stood) (λ a at tags h plain stood. (plain, stood)) (λ a. refl) (λ a. refl)
        t old new before after item result does)

    pub digest_starts : (cast : Cast E) (old new : DigestRb) → cast ≡ Digest old → (value : List ℕ) (result : Result (Unit {0}) Mem) →
        Started KeepsDigests by_digest (λ b. b.live) digest_shown t old new value before after result →
        Started (CastStands route stands) (rules_by route rules) (is_cast_live live) (shown_by_cast shown) t cast (Digest new) value before after result
    digest_starts cast old new is value result does =
        subst (λ (x : Cast E). Started (CastStands route stands) (rules_by route rules) (is_cast_live live) (shown_by_cast shown) t x (Digest new) value before after result) (sym is)
        (starts_out KeepsDigests by_digest (λ b. b.live) digest_shown
        (CastStands route stands) (rules_by route rules) (is_cast_live live) (shown_by_cast shown) (λ b. Digest b)
        (route ≡ routes.Digests) (route_rules route routes.Digests rules) (λ a at tags h stood. stood) (λ a at tags h plain stood. (plain, stood)) (λ a. refl) (λ a. refl)
        t old new before after value result does)
