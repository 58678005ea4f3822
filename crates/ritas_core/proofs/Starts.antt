-- Starting one say more.
use Rattle.std.proofs.Common.{◌≡◌, ℕ, zero, suc, Some, take, subst, List, [], ◌∷◌, ◌++◌, ap, refl, sym, ◌∙◌, append_assoc, append-nil}
use Rattle.std.specs.List.{slice_get}
use Rattle.ritas_base.specs.declared.slot.Slot.{Slot}
use Rattle.ritas_base.specs.declared.item.Say.{Say}
use Rattle.ritas_base.specs.History.{Call, Start}
use Rattle.layer_api.specs.Broadcast.{MayStart}
use Rattle.ritas_core.specs.Rules.{CastRules, place_at}
use Rattle.ritas_core.specs.Casts.{called, started_all, start_news, news_at, MayStartAll}

pub started_more : (says : List Say) (say : Say) (h : Slot → List Call) → started_all (says ++ say ∷ []) h ≡ called (started_all says h) say.slot (Start say.value)
started_more [] say h = refl
started_more (first ∷ says) say h = started_more says say (called h first.slot (Start first.value))

pub start_news_more : (c : CastRules) (says : List Say) (say : Say) (h : Slot → List Call) →
    start_news c (says ++ say ∷ []) h ≡ start_news c says h ++ news_at c say.slot (started_all says h say.slot) (Start say.value)
start_news_more c [] say h = append-nil _
start_news_more c (first ∷ says) say h =
    ap (λ ms. news_at c first.slot (h first.slot) (Start first.value) ++ ms) (start_news_more c says say (called h first.slot (Start first.value)))
    ∙ sym (append_assoc (news_at c first.slot (h first.slot) (Start first.value)) (start_news c says (called h first.slot (Start first.value))) _)

-- two things appended, one after the other
pub appended_more : {X : Type 0} (before mid after first second all : List X) → mid ≡ before ++ first → after ≡ mid ++ second → all ≡ first ++ second → after ≡ before ++ all
appended_more before mid after first second all p q r = q ∙ ap (λ ms. ms ++ second) p ∙ append_assoc before first second ∙ ap (λ ms. before ++ ms) (sym r)

some_inside : {X : Type 0} (x y : X) → Some x ≡ Some y → x ≡ y
some_inside x y h = cc

-- the i-th of these says may be started when its turn comes
pub may_start_at : (c : CastRules) (says : List Say) (i : ℕ) (say : Say) (h : Slot → List Call) →
    slice_get says i ≡ Some say → MayStartAll c says h → MayStart (place_at c say.slot) (started_all (take i says) h say.slot)
may_start_at c [] i say h here may = cc
may_start_at c (first ∷ says) zero say h here may = subst (λ (x : Say). MayStart (place_at c x.slot) (h x.slot)) (some_inside first say here) may.0
may_start_at c (first ∷ says) (suc i) say h here may = may_start_at c says i say (called h first.slot (Start first.value)) here may.1
