use Rattle.std.proofs.Common.{◌≡◌, ◌∙◌, ℕ, sym, false}
use Rattle.std.proofs.lemmas.Bool.{both_ways}
use Rattle.ritas_base.specs.Members.{has_member}
use Rattle.echo_bcast.specs.State.{has_valid_entry}
use Rattle.layer_api.specs.Broadcast.{Tagging}
use Rattle.echo_bcast.proofs.EntrySteps.{IsJudged, takes_new, takes_old}
use Rattle.echo_bcast.proofs.entries.judged.Goals.{then-not-has+then-is_valid, else-not-has, else-not-has-via-then-not-has+else-is_valid, else-not-has-via-else-not-has}
use Rattle.echo_bcast.proofs.entries.judged.Goals as goal

pub loop-echoer-preserved : goal.loop-echoer-preserved
loop-echoer-preserved g c =
    let t : Tagging = record { me = g.T.Tagger.me c.args.t.now; tags = g.T.Tagger.tags c.args.t.now } in
    let slot = c.args.slot.now in
    let digest = c.args.digest.now in
    let value = c.args.value.now in
    let good : ℕ = c.args.good in
    let e = c.loop-echoer.echoer in
    let all : ℕ = c.loop-echoer.all in
    let news = c.loop-echoer.news in
    let was : IsJudged t slot digest value good e e all news = c.loop-echoer.invariant in
    let there : c.has.result ≡ has_member good e = c.has.ensures in
    elim c.if-not-has.branch [
      | then-not-has+then-is_valid w ↦
          takes_new t slot digest value good e all w.with-all.result c.if-not-has.all news c.if-not-has.news was (sym there ∙ w.if-not-has.true)
          (sym w.is_valid.ensures ∙ w.if-is_valid.true) w.with-all.ensures w.all-is w.news-is
      | else-not-has w ↦
          let old : has_member good e ≡ false → has_valid_entry t slot digest value e ≡ false = elim w.else-not-has.branch [
            | else-not-has-via-then-not-has+else-is_valid v ↦ λ q. sym v.is_valid.ensures ∙ v.if-is_valid.false
            | else-not-has-via-else-not-has v ↦ λ q. absurd (both_ways c.has.result (there ∙ q) v.if-not-has.false)
          ] in
          takes_old t slot digest value good e all c.if-not-has.all news c.if-not-has.news was old w.all-is w.news-is
    ]
