use Rattle.std.proofs.Common.{List, ℕ, ◌++◌, ◌∙◌, ap}
use Rattle.schedule_replay.specs.Layers.{setting_by}
use Rattle.schedule_replay.specs.Replicas.{rest_on}
use Rattle.schedule_replay.specs.Vectors.{vectors_on}
use Rattle.schedule_replay.specs.declared.replicas.Lines.TheVariants as lines
use Rattle.schedule_replay.proofs.vectors.vectors_text.Goals as goal

pub returns : goal.returns
unfolding vectors_on
returns g c = λ es stands audit.
    let rest = rest_on lines.Vectors (setting_by g.S.Service.rules g.E.Broadcast.rules c.args.x.now.header) es in
    c.in_ok-add_rest.ensures es stands audit ∙ ap (λ (l : List ℕ). l ++ rest) c.new-text.ensures.bytes
