use Rattle.std.proofs.Common.{◌∙◌, ◌+◌, arith, inl}
use Rattle.std.proofs.lemmas.Result.{IfOk-weaker}
use Rattle.std.proofs.lemmas.Bool.{ne_eqb}
use Rattle.layer_api.specs.Words.{Hear}
use Rattle.direct_atomic.specs.Stands.{HearsList}
use Rattle.direct_atomic.proofs.Going.{heard_inner, near_inner, holds_heard, few_lists, few_origins, said_inside, near_word}
use Rattle.direct_atomic.proofs.Going.{quiet_by}
use Rattle.direct_atomic.proofs.list_round.ListRound.hear.Goals.{then-slot-ge32-via-then-slot-ge32, then-slot-ge32-via-else-slot-ge32+then-self-ge32}
use Rattle.direct_atomic.proofs.list_round.ListRound.hear.Goals as goal

pub returns-then-slot-ne2-clause-ok : goal.returns-then-slot-ne2-clause-ok
returns-then-slot-ne2-clause-ok g c =
    heard_inner g.M.MultiBox.stands g.M.MultiBox.rules g.met.M.MultiBox.multi_laws g.M.MultiBox.live g.M.MultiBox.shown g.met.M.MultiBox.shows (g.C.Coin.bits c.args.coin.now)
    c.args.self.now c.heard.new.self c.args.slot.now c.args.value.now (ne_eqb c.args.slot.now.class 2 (λ e. omega (arith, e))) c.args.made.now.items c.heard.new.says.items c.heard.result c.heard.ensures

pub returns-then-slot-ne2-clause-near : goal.returns-then-slot-ne2-clause-near
returns-then-slot-ne2-clause-near g c =
    near_inner g.M.MultiBox.stands g.M.MultiBox.rules g.met.M.MultiBox.multi_laws g.M.MultiBox.live g.M.MultiBox.shown g.met.M.MultiBox.shows (g.C.Coin.bits c.args.coin.now)
    c.args.self.now c.heard.new.self c.args.slot.now c.args.value.now (ne_eqb c.args.slot.now.class 2 (λ e. omega (arith, e))) c.args.made.now.items c.heard.new.says.items c.heard.result c.heard.ensures

pub returns-then-slot-ge32-clause-ok : goal.returns-then-slot-ge32-clause-ok
returns-then-slot-ge32-clause-ok g c = λ at w h may.
    let a = few_origins g.M.MultiBox.stands g.M.MultiBox.rules g.met.M.MultiBox.multi_laws g.M.MultiBox.live g.M.MultiBox.shown g.met.M.MultiBox.shows at w c.args.slot.now c.args.value.now h.session may.1 in
    let b = few_lists g.M.MultiBox.stands g.M.MultiBox.rules g.met.M.MultiBox.multi_laws g.M.MultiBox.live g.M.MultiBox.shown g.met.M.MultiBox.shows c.args.self.now at w h in
    elim c.then-slot-ge32.branch [
      | then-slot-ge32-via-then-slot-ge32 z ↦ absurd (let q = z.if-slot-ge32.true in omega (arith, a, q))
      | then-slot-ge32-via-else-slot-ge32+then-self-ge32 z ↦ absurd (let q = z.if-self-ge32.true in omega (arith, b, q))
    ]

pub returns-clause-ok : goal.returns-clause-ok
returns-clause-ok g c =
    let x = c.args.self.now in
    let s = c.args.slot.now in
    let v = c.args.value.now in
    let made = c.args.made.now.items in
    IfOk-weaker c.go_on.result _ (λ u. HearsList g.M.MultiBox.stands g.M.MultiBox.rules (g.C.Coin.bits c.args.coin.now) x c.go_on.new.self s v made c.go_on.new.made.items)
    (λ u goes at w h may.
    let r = goes at w (Hear s v) (holds_heard g.M.MultiBox.stands g.M.MultiBox.rules g.met.M.MultiBox.multi_laws g.M.MultiBox.live g.M.MultiBox.shown g.met.M.MultiBox.shows x at w s v c.note_list.new.noted (x.count + 1) h may.1 c.if-slot-ne2.false c.in_ok-note_list.ensures (omega arith)) (quiet_by s v c.if-slot-ne2.false) in
    (r.0, said_inside g.M.MultiBox.stands g.M.MultiBox.rules g.met.M.MultiBox.multi_laws g.M.MultiBox.live g.M.MultiBox.shown g.met.M.MultiBox.shows at w s v made c.go_on.new.made.items r.1))
    c.go_on.ensures.ok

pub returns-clause-near : goal.returns-clause-near
returns-clause-near g c = λ at w h may.
    let x = c.args.self.now in
    let s = c.args.slot.now in
    let v = c.args.value.now in
    near_word g.M.MultiBox.stands g.M.MultiBox.rules g.met.M.MultiBox.multi_laws g.M.MultiBox.live g.M.MultiBox.shown g.met.M.MultiBox.shows c.go_on.new.self at w (Hear s v) (c.go_on.ensures.keeps.a ∙ h.a) (inl (c.go_on.ensures.keeps.own ∙ h.own))
    (c.go_on.ensures.near at w (Hear s v) (holds_heard g.M.MultiBox.stands g.M.MultiBox.rules g.met.M.MultiBox.multi_laws g.M.MultiBox.live g.M.MultiBox.shown g.met.M.MultiBox.shows x at w s v c.note_list.new.noted (x.count + 1) h may.1 c.if-slot-ne2.false c.in_ok-note_list.ensures (omega arith)) (quiet_by s v c.if-slot-ne2.false))
