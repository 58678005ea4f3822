use Rattle.std.proofs.Common.{◌≡◌, List, ℕ, ◌++◌, length, ◌∙◌, ap, ap₂, append_assoc, string_bytes}
use Rattle.world_model.specs.Counts.{counts_of}
use Rattle.schedule_replay.specs.Layers.{setting_by}
use Rattle.schedule_replay.specs.Replicas.{rest_on}
use Rattle.schedule_replay.specs.Report.{report_on, head_line, count_line}
use Rattle.schedule_replay.specs.declared.replicas.Lines.TheVariants as lines
use Rattle.schedule_replay.proofs.report.report_text.Goals as goal

pub returns : goal.returns
unfolding report_on
returns g c = λ es stands audit.
    let h = c.args.x.now.header in
    let w = setting_by g.S.Service.rules g.E.Broadcast.rules h in
    let rest = rest_on lines.Report w es in
    let counts : string_bytes c.in_ok-counts.counts ≡ count_line (length es) (counts_of w es) =
    c.in_ok-counts.ensures ∙ ap₂ count_line (c.events.ensures.is w es stands.world) stands.counts in
    let begun : string_bytes c.push_str.new.self ≡ head_line h ++ count_line (length es) (counts_of w es) =
    c.in_ok-push_str.ensures.bytes ∙ ap₂ (λ (l k : List ℕ). l ++ k) c.in_ok-text.ensures (c.as_str.ensures.value ∙ counts) in
    c.in_ok-add_rest.ensures es stands audit
    ∙ (ap (λ (l : List ℕ). l ++ rest) begun ∙ append_assoc (head_line h) (count_line (length es) (counts_of w es)) rest)
