use Rattle.std.proofs.Common.{◌≡◌, ℕ, ◌<◌, ◌∙◌, ap, List, ◌++◌, arith, string_bytes}
use Rattle.std.specs.List.{flat_map, range_with_len}
use Rattle.schedule_replay.specs.Report.{origin_lines, commands_delivered}
use Rattle.schedule_replay.proofs.Written.{written_next}
use Rattle.schedule_replay.proofs.report.add_outs.Goals as goal

pub loop-origin-preserved : goal.loop-origin-preserved
loop-origin-preserved g c = λ r st stands live core low.
    let below : c.loop-origin.origin < r.casts.numbers.n = omega (arith, c.loop-origin-test.true, ap (λ p. p.n) (c.params.ensures.rules r st stands), c.n-origin-end.ensures.value) in
    written_next (string_bytes c.args.text.now) (string_bytes c.loop-origin.text) (string_bytes c.add_origin.new.text)
    (λ origin. origin_lines (commands_delivered r st.history origin) origin) c.loop-origin.origin
    (c.loop-origin.invariant r st stands live core low) (c.in_ok-add_origin.ensures r st stands live core low below)

pub returns : goal.returns
returns g c = λ r st stands live core low.
    let all : c.loop-origin.origin ≡ r.casts.numbers.n =
    omega (arith, c.loop-origin-test.false, c.loop-origin.auto.origin-end, ap (λ p. p.n) (c.params.ensures.rules r st stands), c.n-origin-end.ensures.value) in
    let lines : ℕ → List ℕ = λ origin. origin_lines (commands_delivered r st.history origin) origin in
    c.loop-origin.invariant r st stands live core low ∙ ap (λ (n : ℕ). string_bytes c.args.text.now ++ flat_map lines (range_with_len 0 n)) all
