use Rattle.std.proofs.Common.{ℕ, List, ◌++◌, sym, ◌∙◌, ap, string_bytes}
use Rattle.layer_api.specs.Service.{ServiceRules}
use Rattle.ritas_core.specs.Rules.{seat_of}
use Rattle.ritas_core.specs.Parts.{parts}
use Rattle.schedule_replay.specs.Report.{ending_line}
use Rattle.schedule_replay.proofs.report.add_ending.Goals as goal

pub returns : goal.returns
returns g c = λ r st stands live core.
    let words = (parts r st.history).words in
    let outcome = c.outcome.ensures.rules (seat_of r) words (c.service.ensures.live r st stands live) in
    let own = ap (λ (s : ServiceRules). s.outcome (seat_of r) words) (sym core.words) in
    c.in_ok-push_str.ensures.bytes
    ∙ ap (λ (l : List ℕ). string_bytes c.args.text.now ++ l) (c.as_str.ensures.value ∙ (c.in_ok-line.ensures ∙ ap ending_line (outcome ∙ own)))
