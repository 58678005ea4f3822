use Rattle.std.proofs.Common.{rules, ◌≡◌, ℕ, ◌%◌, ◌^◌, List, ◌++◌, ◌∙◌, ap, append_assoc, string_bytes}
use Rattle.replica.specs.Stands.{frames_made}
use Rattle.schedule_replay.specs.Report.{replica_line, service_lines}
use Rattle.schedule_replay.proofs.report.add_replica.Goals as goal

pub returns : goal.returns
returns g c = λ s r k st stands live core.
    let stood = c.core-core.ensures.live s r k st stands live in
    let line : string_bytes c.in_ok-line.line ≡ replica_line c.args.i (frames_made r k st.history % 2 ^ 64) st = search rules in
    let service = c.in_ok-add_service.ensures s r k st stands live core in
    service
    ∙ (ap (λ (l : List ℕ). l ++ service_lines s r st.history) (c.in_ok-push_str.ensures.bytes ∙ ap (λ (l : List ℕ). string_bytes c.args.text.now ++ l) (c.as_str.ensures.value ∙ line))
    ∙ append_assoc (string_bytes c.args.text.now) (replica_line c.args.i (frames_made r k st.history % 2 ^ 64) st) (service_lines s r st.history))
