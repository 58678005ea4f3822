use Rattle.std.proofs.Common.{◌≡◌, ℕ, ◌-◌, ◌∙◌, ap, sym, subst, arith}
use Rattle.ritas_core.specs.Drops.{is_dropped_shown, DropsPast}
use Rattle.ritas_core.proofs.Dropping.{rounds_taken, command_taken, drops_past, drops_nothing}
use Rattle.ritas_core.proofs.drops.drop_past.Goals as goal

pub loop-origin-init : goal.loop-origin-init
loop-origin-init g c =
    rounds_taken (g.S.Service.shown c.args.service.now) c.saturating_sub.result c.args.casts.now c.drop_before.new.self
    (c.saturating_sub.ensures ∙ ap (λ (n : ℕ). n - 2) c.completed.ensures.shown) c.drop_before.ensures

pub loop-origin-preserved : goal.loop-origin-preserved
loop-origin-preserved g c = λ s.
    command_taken (g.S.Service.shown c.args.service.now) c.loop-origin.origin c.saturating_sub-in-loop-origin.result c.args.casts.now c.loop-origin.casts c.drop_commands.new.self s
    (c.saturating_sub-in-loop-origin.ensures ∙ ap (λ (n : ℕ). n - 64) c.base.ensures.shown) c.drop_commands.ensures (c.loop-origin.invariant s)

pub returns : goal.returns
returns g c =
    let shown = g.S.Service.shown c.args.service.now in
    let whole : c.loop-origin.origin ≡ c.args.replicas = omega arith in
    subst (λ (k : ℕ). DropsPast (is_dropped_shown c.args.version shown k) k c.args.casts.now c.loop-origin.casts) whole
    (drops_past c.args.version (sym c.has_past.ensures ∙ c.if-not-has_past.false) shown c.loop-origin.origin c.args.casts.now c.loop-origin.casts c.loop-origin.invariant)

pub returns-then-not-has_past : goal.returns-then-not-has_past
returns-then-not-has_past g c =
    drops_nothing c.args.version (sym c.has_past.ensures ∙ c.if-not-has_past.true) (g.S.Service.shown c.args.service.now) c.args.replicas c.args.casts.now
