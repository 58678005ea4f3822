use Rattle.std.proofs.Common.{◌∷◌, ap, ◌∙◌}
use Rattle.std.proofs.lemmas.Result.{on_ok_weaker}
use Rattle.node_loop.specs.Keeping.{is_kept_so}
use Rattle.node_loop.proofs.Comings.{right_at, given_stands, came_quietly}
use Rattle.node_loop.proofs.house.House.call.Goals as goal

pub returns-clause-comes : goal.returns-clause-comes
returns-clause-comes g c = λ w es numbers ws p stand number alone clear.
    let at = c.args.output.now.at in
    let e = c.args.event in
    let did = c.in_ok-answer.ensures.does w es numbers at stand.here number alone in
    let given = given_stands _ w es (e ∷ es) numbers c.args.self.now c.give.new.self ws p stand did.0 c.give.ensures.same.0 c.give.ensures.same.1 in
    let seen = c.in_ok-answer.ensures.answered w es numbers at stand.here number alone in
    on_ok_weaker c.enter.result
    (λ x. came_quietly _ w es numbers c.enter.new.self c.enter.new.output at c.rows_at-count.result e c.args.output.now.frames.items c.give.new.frames.items c.args.output.now.replies.items ws p
    (c.rows_at-count.ensures.count w es numbers at stand.here number) clear.frames did.1 clear.replies (right_at _ w es numbers c.args.self.now.replicas.items c.args.place at stand.here number)
    (c.enter.ensures.same.3 ∙ clear.more) x.0 x.1 c.enter.ensures.same.0 c.enter.ensures.same.1 (c.enter.ensures.same.4 ∙ c.is_kept-output.ensures.kept ∙ ap (is_kept_so e) seen) (ap (λ v. v.items) c.enter.ensures.same.2))
    (c.enter.ensures.enters w (e ∷ es) numbers ws p given number)
