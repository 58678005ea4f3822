use Rattle.std.proofs.Common.{ℕ, List, ◌++◌, sym, ◌∙◌, ap, ap₂, string_bytes}
use Rattle.layer_api.specs.Service.{ServiceRules}
use Rattle.ritas_core.specs.Rules.{seat_of}
use Rattle.ritas_core.specs.Parts.{parts}
use Rattle.schedule_replay.specs.Vectors.{line_says, vector_line}
use Rattle.schedule_replay.proofs.vectors.add_vector.Goals as goal

pub returns : goal.returns
returns g c = λ s r k st stands live core.
    let words = (parts r st.history).words in
    let stood = c.service-service.ensures.live r st (c.core.ensures.live s r k st stands live) live in
    let outcome = c.outcome.ensures.rules (seat_of r) words stood ∙ ap (λ (t : ServiceRules). t.outcome (seat_of r) words) (sym core.words) in
    let last = c.last_vector.ensures.rules (seat_of r) words stood ∙ ap (λ (t : ServiceRules). t.last (seat_of r) words) (sym core.words) in
    c.in_ok-push_str.ensures.bytes
    ∙ ap (λ (l : List ℕ). string_bytes c.args.text.now ++ l)
    (c.as_str.ensures.value ∙ (c.in_ok-line.ensures ∙ ap (vector_line c.args.i) (ap₂ line_says outcome last)))
