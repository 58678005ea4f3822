use Rattle.std.proofs.Common.{◌≡◌, ◌==◌, ◌&&◌, false, List, ℕ, sym, ◌∙◌, ap, subst}
use Rattle.std.specs.Prelude.{IfOk, slice_index}
use Rattle.keyed_channel.specs.Frames.{sealed, frame_body}
use Rattle.schedule_plan.specs.Flips.{flip_body}
use Rattle.schedule_stage.proofs.FlipBodies.{sealed_body, left_body}
use Rattle.schedule_stage.proofs.flip.flip_frame.Goals as goal

pub returns-then-not-is_step_init : goal.returns-then-not-is_step_init
returns-then-not-is_step_init c = λ body is.
    let k = c.args.keys.now in
    let said : c.in-Some.parts.body.now ≡ body =
    c.in-Some.ensures.3 ∙ ap frame_body is ∙ sealed_body c.sealed_length.ensures k c.args.to c.args.seq body in
    let plain : (slice_index body 0 == 1 && slice_index body 1 == 5) ≡ false =
    ap (λ (bs : List ℕ). slice_index bs 0 == 1 && slice_index bs 1 == 5) (sym said) ∙ sym c.if-not-is_step_init.ensures in
    subst (λ (x : List ℕ). IfOk c.from_slice-then-not-is_step_init.result (λ frame. frame ≡ x)) (is ∙ ap (sealed k c.args.to c.args.seq) (sym (left_body body plain))) c.from_slice-then-not-is_step_init.ensures

pub returns : goal.returns
returns c = λ body is.
    let k = c.args.keys.now in
    let said : c.in-Some.parts.body.now ≡ body =
    c.in-Some.ensures.3 ∙ ap frame_body is ∙ sealed_body c.sealed_length.ensures k c.args.to c.args.seq body in
    subst (λ (x : List ℕ). IfOk c.seal.result (λ frame. frame ≡ sealed k c.args.to c.args.seq x)) (c.as_slice.ensures.value ∙ c.in_ok-flipped.ensures ∙ ap flip_body said) c.seal.ensures
