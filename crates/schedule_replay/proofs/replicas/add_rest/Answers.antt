use Rattle.std.proofs.Common.{◌≡◌, List, ℕ, ◌++◌, ◌∙◌, ap, append_assoc, string_bytes}
use Rattle.std.specs.List.{flat_map, range_with_len}
use Rattle.std.specs.Prelude.{filter}
use Rattle.world_model.specs.Audit.{audit_of}
use Rattle.schedule_replay.specs.Layers.{setting_by}
use Rattle.schedule_replay.specs.Replicas.{lines_at}
use Rattle.schedule_replay.specs.Report.{audit_line}
use Rattle.schedule_replay.proofs.Deals.{cores_of}
use Rattle.schedule_replay.proofs.replicas.add_rest.Goals as goal

pub returns : goal.returns
returns g c = λ es stands audit.
    let h = c.args.x.now.header in
    let service = g.S.Service.rules in
    let other = g.E.Broadcast.rules in
    let w = setting_by service other h in
    let form = g.met.E.Broadcast.form ∙ c.requires.form in
    let replicas = c.in_ok-add_replicas.ensures w es stands.world c.n.ensures.value (cores_of service other h stands.header c.requires.serves form) in
    let last : string_bytes c.in_ok-last.last ≡ audit_line (audit_of w es) = c.in_ok-last.ensures ∙ ap audit_line audit in
    let lines = flat_map (lines_at c.args.lines w es) (filter w.is_correct (range_with_len 0 w.numbers.n)) in
    c.in_ok-push_str.ensures.bytes
    ∙ (ap (λ (l : List ℕ). string_bytes c.add_replicas.new.text ++ l) (c.as_str.ensures.value ∙ last)
    ∙ (ap (λ (l : List ℕ). l ++ audit_line (audit_of w es)) replicas
    ∙ append_assoc (string_bytes c.args.text.now) lines (audit_line (audit_of w es))))
