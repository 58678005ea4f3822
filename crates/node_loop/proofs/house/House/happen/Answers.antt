use Rattle.std.proofs.Common.{◌∷◌, ◌++◌, map, Some, refl, sym, ap, ◌∙◌}
use Rattle.std.proofs.lemmas.Bool.{both_ways}
use Rattle.std.proofs.lemmas.Result.{on_ok_weaker, err_from_is_err_and}
use Rattle.node_loop.specs.Recalling.{waits_again}
use Rattle.node_loop.specs.Serving.{sent_by}
use Rattle.node_loop.specs.Standing.{frame_by}
use Rattle.node_loop.proofs.Indexing.{at_error}
use Rattle.node_loop.proofs.Comings.{given_stands, wait_else}
use Rattle.node_loop.proofs.Recalling.{served_alone, served_here, happened}
use Rattle.node_loop.proofs.house.House.happen.Goals as goal
use Rattle.world_model.specs.World.{seen_answer}

pub returns-in_default : goal.returns-in_default
returns-in_default g c = record {
  happens = λ w es numbers ws p stand served. absurd (served_alone w c.args.event.now served c.in_default.ensures.at);
  memory = λ w es numbers stand. tt;
}

pub returns-in_default-place_of : goal.returns-in_default-place_of
returns-in_default-place_of g c = record {
  happens = λ w es numbers ws p stand served.
      absurd (both_ways (w.is_correct c.in-Some.at) (c.in_default-place_of.ensures.place w es numbers stand.here) (served_here w c.args.event.now c.in-Some.at served c.in-Some.ensures.at));
  memory = λ w es numbers stand. tt;
}

pub returns : goal.returns
returns g c = record {
  happens = λ w es numbers ws p stand served.
      let e = c.args.event.now in
      let at = c.in-Some.at in
      let alone = c.in-Some.ensures.at in
      let right = served_here w e at served alone in
      let out = c.clear.ensures.at in
      let number = (c.in-Some-place_of.ensures.place w es numbers stand.here).1 in
      let did = c.in_ok-answer.ensures.does w es numbers at stand.here number alone in
      let seen = c.in_ok-answer.ensures.answered w es numbers at stand.here number alone in
      let given = given_stands _ w es (e ∷ es) numbers c.args.self.now c.give.new.self ws p stand did.0 c.give.ensures.same.0 c.give.ensures.same.1 in
      let us = waits_again e (seen_answer c.in_ok-answer.answer) ws in
      let waits = c.in_ok-wait_again.ensures.waits ws given.waiting in
      let now = wait_else _ w (e ∷ es) numbers c.give.new.self (record { replicas = c.give.new.self.replicas; waiting = c.wait_again.new.waiting; keepers = c.give.new.self.keepers }) ws us p given refl refl waits in
      on_ok_weaker c.enter.result
      (λ x. (
        happened _ w es numbers c.enter.new.self e at c.clear.new.self.at c.rows_at-count.result (seen_answer c.in_ok-answer.answer) ws p alone out (c.rows_at-count.ensures.count w es numbers at stand.here number) seen x.0,
        ap (λ k. map (frame_by k) c.enter.new.output.frames.items) (c.enter.ensures.same.0 ∙ out) ∙ ap (λ fs. map (frame_by at) fs.items) c.enter.ensures.same.2 ∙ did.1
            ∙ ap (λ fs. map (frame_by at) fs ++ sent_by w es (Some e)) c.clear.ensures.none.1,
        ap w.is_correct (c.enter.ensures.same.0 ∙ out) ∙ right,
      ))
      (c.enter.ensures.enters w (e ∷ es) numbers us p now (number ∙ ap (λ x. Some x) (sym out)));
  memory = λ w es numbers stand. at_error c.enter.result (c.in-Some.at, c.in-Some.ensures.at, (c.in-Some-place_of.ensures.place w es numbers stand).0);
}

pub returns-in_err-answer-clause-memory : goal.returns-in_err-answer-clause-memory
returns-in_err-answer-clause-memory g c = λ w es numbers stand.
    let failed = err_from_is_err_and c.from_residual.result c.from_residual.ensures.1 in
    rw failed.1 (c.in-Some.at, c.in-Some.ensures.at, (c.in-Some-place_of.ensures.place w es numbers stand).0)

pub returns-in_err-wait_again-clause-memory : goal.returns-in_err-wait_again-clause-memory
returns-in_err-wait_again-clause-memory g c = λ w es numbers stand.
    let failed = err_from_is_err_and c.from_residual-in_err-wait_again.result c.from_residual-in_err-wait_again.ensures.1 in
    rw failed.1 (c.in-Some.at, c.in-Some.ensures.at, (c.in-Some-place_of.ensures.place w es numbers stand).0)
