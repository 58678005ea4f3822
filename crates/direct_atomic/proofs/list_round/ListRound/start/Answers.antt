use Rattle.std.proofs.Common.{◌∙◌, ◌++◌, ap, refl, ℕ, List, [], ◌∷◌}
use Rattle.std.proofs.lemmas.Result.{IfOk-weaker}
use Rattle.layer_api.specs.Words.{Ask}
use Rattle.ritas_base.specs.declared.item.Say.{Say}
use Rattle.layer_api.specs.Part.{part_of, says_in}
use Rattle.direct_atomic.specs.Lists.{inner_asked, inner_desk, inner_words, is_inner}
use Rattle.direct_atomic.specs.Stands.{StartsRound}
use Rattle.direct_atomic.proofs.Going.{holds_asked, own_said}
use Rattle.direct_atomic.proofs.list_round.ListRound.start.Goals as goal

pub returns-clause-ok : goal.returns-clause-ok
returns-clause-ok g c =
    let x = c.args.self.now in
    let v = c.args.value.now in
    let made = c.args.made.now.items in
    let pushed = c.in_ok-push.ensures.items
    ∙ ap (λ (z : List ℕ). let y : Say = record { slot = record { class = 2; a = x.a; attempt = 0; bround = 0; step = 0; origin = x.me }; value = z } in made ++ y ∷ []) c.in_ok-value.ensures in
    IfOk-weaker c.go_on.result _ (λ u. StartsRound g.M.MultiBox.stands g.M.MultiBox.rules x c.go_on.new.self v made c.go_on.new.made.items)
    (λ u goes at w h may.
    let rest = says_in (g.M.MultiBox.rules.says (inner_desk at)) (part_of (inner_asked at.scope) is_inner w (Ask v)) (inner_words at.scope w) in
    let r = goes at w (Ask v) (holds_asked g.M.MultiBox.stands g.M.MultiBox.rules g.met.M.MultiBox.multi_laws g.M.MultiBox.live g.M.MultiBox.shown g.met.M.MultiBox.shows x at w v h may) refl in (
      r.0,
      own_said g.M.MultiBox.stands g.M.MultiBox.rules g.met.M.MultiBox.multi_laws g.M.MultiBox.live g.M.MultiBox.shown g.met.M.MultiBox.shows x at w v made c.go_on.new.made.items rest h may (r.1 ∙ ap (λ (ys : List Say). ys ++ rest) pushed),
    ))
    c.go_on.ensures.ok
