use Rattle.std.proofs.Common.{◌≡◌, ◌+◌, ◌∙◌, ◌++◌, ◌∷◌, [], ℕ, Bool, List, Some, length, refl, take, subst, sym, ap}
use Rattle.std.specs.List.{slice_get}
use Rattle.std.proofs.lemmas.List.{take_more}
use Rattle.std.proofs.lemmas.Option.{slice_get_read}
use Rattle.ritas_base.specs.declared.slot.Slot.{Slot}
use Rattle.ritas_base.specs.declared.item.Say.{Say}
use Rattle.ritas_base.specs.History.{Call, Start}
use Rattle.ritas_core.specs.Rules.{casts_by}
use Rattle.ritas_core.specs.SlotCast.{CastStandsAt}
use Rattle.ritas_core.specs.Drops.{is_dropped_shown}
use Rattle.ritas_core.specs.Casts.{CastsStand, started_all, start_news, news_at}
use Rattle.ritas_core.specs.CastCalls.{CanStartAll, CanStart}
use Rattle.ritas_core.proofs.TestLaws.{on_err_here}
use Rattle.ritas_core.proofs.ShownCasts.{out_started}
use Rattle.ritas_core.proofs.Starts.{started_more, start_news_more, appended_more, may_start_at}
use Rattle.ritas_core.proofs.casts.start_casts.Goals as goal

pub loop-say-preserved : goal.loop-say-preserved
loop-say-preserved g c =
    let b = g.E.Broadcast in
    let t = g.T.Tagger in
    let rules = casts_by c.args.mode.now c.args.p.now c.args.me (t.tags c.args.t.now) b.rules in
    let dropped : Slot → Bool = is_dropped_shown c.args.mode.now.version (g.S.Service.shown c.args.service.now) c.args.p.now.n in
    let says = c.args.says.now in
    let i = c.loop-say.say-index in
    let say = c.say-item.result in
    let more : take (i + 1) says ≡ take i says ++ say ∷ [] = take_more says i say c.loop-say-test.true ∙ ap (λ x. take i says ++ x ∷ []) (sym c.say-item.is) in
    let here : slice_get says i ≡ Some say = slice_get_read says (length says) i say refl c.loop-say-test.true c.say-item.is in
    let gone : dropped say.slot ≡ c.is_dropped-is_gone.result = ap (λ (n : ℕ). is_dropped_shown c.args.mode.now.version (g.S.Service.shown c.args.service.now) n say.slot) (sym c.n.ensures.value) ∙ sym c.is_dropped-is_gone.ensures in
    let can : (h : Slot → List Call) → CanStartAll (CastStandsAt c.args.mode.now b.stands) rules dropped (t.me c.args.t.now) c.args.casts.now says h
    → CanStart (CastStandsAt c.args.mode.now b.stands) rules dropped (t.me c.args.t.now) c.loop-say.casts say (started_all (take i says) h) = λ h all.
    record { is_own = all.is_own; may = may_start_at rules says i say h here all.may; stood = c.loop-say.invariant.stands h all } in
    record {
      stands = λ h all.
          subst (λ (k : Slot → List Call). CastsStand (CastStandsAt c.args.mode.now b.stands) rules dropped c.start_cast.new.casts k)
          (sym (ap (λ (xs : List Say). started_all xs h) more ∙ started_more (take i says) say h))
          ((c.in_ok-start_cast.ensures.ok dropped gone).grows (started_all (take i says) h) (can h all));
      made = λ h all.
          appended_more c.args.made.now.items c.loop-say.made.items c.start_cast.new.made.items
          (start_news rules (take i says) h)
          (news_at rules say.slot (started_all (take i says) h say.slot) (Start say.value))
          (start_news rules (take (i + 1) says) h)
          (c.loop-say.invariant.made h all)
          ((c.in_ok-start_cast.ensures.ok dropped gone).made (started_all (take i says) h) (can h all))
          (ap (λ (xs : List Say). start_news rules xs h) more ∙ start_news_more rules (take i says) say h);
    }

pub returns-in_err-start_cast-clause-err : goal.returns-in_err-start_cast-clause-err
returns-in_err-start_cast-clause-err g c =
    let b = g.E.Broadcast in
    let t = g.T.Tagger in
    let rules = casts_by c.args.mode.now c.args.p.now c.args.me (t.tags c.args.t.now) b.rules in
    let dropped : Slot → Bool = is_dropped_shown c.args.mode.now.version (g.S.Service.shown c.args.service.now) c.args.p.now.n in
    let says = c.args.says.now in
    let i = c.loop-say.say-index in
    let say = c.say-item.result in
    let here : slice_get says i ≡ Some say = slice_get_read says (length says) i say refl c.loop-say-test.true c.say-item.is in
    let gone : dropped say.slot ≡ c.is_dropped-is_gone.result = ap (λ (n : ℕ). is_dropped_shown c.args.mode.now.version (g.S.Service.shown c.args.service.now) n say.slot) (sym c.n.ensures.value) ∙ sym c.is_dropped-is_gone.ensures in
    on_err_here c.from_residual.result (λ h all s near.
    let can : CanStart (CastStandsAt c.args.mode.now b.stands) rules dropped (t.me c.args.t.now) c.loop-say.casts say (started_all (take i says) h) =
    record { is_own = all.is_own; may = may_start_at rules says i say h here all.may; stood = c.loop-say.invariant.stands h all } in
    c.in_err-start_cast.ensures.err dropped gone (started_all (take i says) h) can s near
    ∙ out_started c.args.mode.now b.stands b.rules b.live b.shown g.met.E.Broadcast.shows g.met.E.Broadcast.value_laws c.args.p.now c.args.me (t.tags c.args.t.now)
    (take i says) h s)
