use Rattle.std.proofs.Common.{◌≡◌, ◌<◌, ◌+◌, ◌∷◌, ◌++◌, [], Bool, false, List, length, get_or, refl, sym, ◌∙◌, ap, subst, arith}
use Rattle.std.proofs.lemmas.List.{get_or_default}
use Rattle.world_model.specs.declared.player.Player.{Player}
use Rattle.world_model.specs.declared.player.Player.TheVariants.{Correct}
use Rattle.schedule_plan.specs.Plans.{players_of}
use Rattle.schedule_drive.specs.declared.sender.Link.{Link}
use Rattle.schedule_drive.proofs.Senders.{IsNew, new_past, new_next, new_all}
use Rattle.schedule_drive.proofs.sender.Sender.new.Goals as goal
use Rattle.schedule_drive.proofs.sender.Sender.new.Goals.{then-are_linked+in_ok-push+in_ok-push-2, else-are_linked}

pub loop-place-preserved : goal.loop-place-preserved
loop-place-preserved c = λ are.
    let p = c.args.plan.now in
    let x = c.args.player in
    let at = c.loop-place.place in
    let y = get_or c.args.players.now at (Correct 0) in
    let before = c.loop-place.invariant are in
    let below : at < length (players_of p) = (let many = ap length are in omega (arith, many, c.loop-place-test.true)) in
    let read : y ≡ get_or (players_of p) at y = ap (λ (ys : List Player). get_or ys at (Correct 0)) are ∙ get_or_default (players_of p) at (Correct 0) y below in
    elim c.if-are_linked.branch [
      | then-are_linked+in_ok-push+in_ok-push-2 w ↦
          let link : Link = record { place = at; player = y; lane = w.new.result } in
          let next : IsNew p x (at + 1) (c.loop-place.links.items ++ link ∷ []) (c.loop-place.row ++ false ∷ []) =
          new_next p x y at c.loop-place.links.items c.loop-place.row link before below read (sym c.are_linked.ensures ∙ w.if-are_linked.true) refl refl w.new.ensures in
          let links : c.loop-place.links.items ++ link ∷ [] ≡ c.if-are_linked.links.items = sym (ap (λ v. v.items) w.links-is ∙ w.in_ok-push-2.ensures.items) in
          let row : c.loop-place.row ++ false ∷ [] ≡ c.if-are_linked.row = sym (w.row-is ∙ w.in_ok-push.ensures) in
          subst (λ (bs : List Bool). IsNew p x (at + 1) c.if-are_linked.links.items bs) row
          (subst (λ (ls : List Link). IsNew p x (at + 1) ls (c.loop-place.row ++ false ∷ [])) links next)
      | else-are_linked w ↦
          let next : IsNew p x (at + 1) c.loop-place.links.items c.loop-place.row = new_past p x y at c.loop-place.links.items c.loop-place.row before below read (sym c.are_linked.ensures ∙ w.if-are_linked.false) in
          subst (λ (bs : List Bool). IsNew p x (at + 1) c.if-are_linked.links.items bs) (sym w.row-is)
          (subst (λ (ls : List Link). IsNew p x (at + 1) ls c.loop-place.row) (sym (ap (λ v. v.items) w.links-is)) next)
    ]

pub returns-clause-sender : goal.returns-clause-sender
returns-clause-sender c = λ are. new_all c.args.plan.now _ c.loop-place.place (let many = ap length are in omega (arith, many, c.loop-place-test.false)) (c.loop-place.invariant are)
