use Rattle.std.proofs.Common.{◌≡◌, ℕ, ◌+◌, ◌≤◌, ◌<◌, List, [], ◌++◌, sym, ◌∙◌, ap, refl, arith, string_bytes}
use Rattle.layer_api.specs.Service.{ServiceRules}
use Rattle.layer_api.specs.Windows.{command_window}
use Rattle.ritas_base.specs.Slots.{command_slot}
use Rattle.ritas_core.specs.Rules.{seat_of}
use Rattle.ritas_core.specs.Parts.{parts}
use Rattle.schedule_replay.specs.Report.{out_line, commands_delivered, command_numbers}
use Rattle.schedule_replay.proofs.Written.{written_next, lines_end}
use Rattle.schedule_replay.proofs.Outs.{silent}
use Rattle.schedule_replay.proofs.report.add_origin.Goals as goal

pub loop-num-preserved : goal.loop-num-preserved
loop-num-preserved g c = λ r st stands live low.
    written_next (string_bytes c.args.text.now) (string_bytes c.loop-num.text) (string_bytes c.add_delivered.new.text)
    (λ num. out_line c.args.origin num (commands_delivered r st.history c.args.origin num)) c.loop-num.num
    (c.loop-num.invariant r st stands live low) (c.in_ok-add_delivered.ensures r st stands live low)

pub returns : goal.returns
unfolding command_numbers
returns g c = λ r st stands live core low within.
    let outs = commands_delivered r st.history c.args.origin in
    let line : ℕ → List ℕ = λ num. out_line c.args.origin num (outs num) in
    let words = (parts r st.history).words in
    let base : c.base.result ≡ r.service.base (seat_of r) words c.args.origin =
    c.base.ensures.rules (seat_of r) words (c.service.ensures.live r st stands live) within
    ∙ ap (λ (s : ServiceRules). s.base (seat_of r) words c.args.origin) (sym core.words) in
    let window = c.delivered_within.ensures.window r core st.history stands.history in
    let quiet : (j : ℕ) → 0 + c.loop-num.num ≤ j → j < 0 + command_numbers → line j ≡ [] =
    λ j above below. silent c.args.origin j (outs j) (λ some.
    let early : j < r.service.base (seat_of r) words c.args.origin + command_window = window (command_slot c.args.origin j) refl some in
    omega (arith, early, base, above, below, c.saturating_add.ensures, c.min-end.ensures, c.loop-num-test.false)) in
    let few : c.loop-num.num ≤ command_numbers = omega (arith, c.min-end.ensures, c.loop-num.auto.num-end) in
    c.loop-num.invariant r st stands live low
    ∙ ap (λ (l : List ℕ). string_bytes c.args.text.now ++ l) (sym (lines_end line c.loop-num.num command_numbers 0 few quiet))
