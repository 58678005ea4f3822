use Rattle.std.proofs.Common.{◌<◌, ◌++◌, List, length, map, ap, ◌∙◌, subst, arith}
use Rattle.std.proofs.lemmas.Result.{on_ok_weaker}
use Rattle.command_log.specs.Index.{HaveFourBytes}
use Rattle.command_log.specs.Pieces.{piece_bytes, piece_of_log}
use Rattle.world_model.specs.Agree.{rows_at}
use Rattle.node_loop.specs.Calls.{reply}
use Rattle.node_loop.specs.Standing.{reply_by}
use Rattle.node_loop.proofs.Indexing.{at_error}
use Rattle.node_loop.proofs.Comings.{only_replies}
use Rattle.node_loop.proofs.Heres.{as_here, nowhere, read_at, log_at}
use Rattle.node_loop.proofs.house.House.query.Goals as goal

pub returns-in_default-clause-comes : goal.returns-in_default-clause-comes
returns-in_default-clause-comes g c = λ w es numbers ws p stand number clear.
    absurd (nowhere _ w es numbers c.deref.result.now c.args.place c.args.output.now.at (as_here _ w es numbers c.args.self.now.replicas.items c.deref.result.now c.deref.ensures.value stand.here) number c.in_default.ensures.lookup.3)

pub returns-in_default-clause-fits : goal.returns-in_default-clause-fits
returns-in_default-clause-fits g c = λ w es numbers stand number.
    absurd (nowhere _ w es numbers c.deref.result.now c.args.place c.args.output.now.at (as_here _ w es numbers c.args.self.now.replicas.items c.deref.result.now c.deref.ensures.value stand) number c.in_default.ensures.lookup.3)

pub returns-clause-comes : goal.returns-clause-comes
returns-clause-comes g c = λ w es numbers ws p stand number clear.
    let at = c.args.output.now.at in
    let is = read_at _ w es numbers c.args.self.now.replicas.items c.deref.result.now c.args.place at c.in-Some.replica.now stand.here c.deref.ensures.value number c.in-Some.ensures.lookup.3.0 c.in-Some.ensures.lookup.1 in
    let rows = log_at _ w es at c.in-Some.replica.now c.log-log.result.now.rows is (c.log-log.ensures.live w.start) in
    let said = c.in_ok-piece.ensures ∙ ap (λ l. piece_bytes (piece_of_log l c.args.position)) rows in
    on_ok_weaker c.reply.result
    (λ replied. only_replies _ w es numbers c.args.self.now c.args.output.now c.reply.new.output (reply at (piece_bytes (piece_of_log (rows_at w es at) c.args.position)) c.args.conn) ws p stand clear
    c.reply.ensures.same.0 c.reply.ensures.same.1 c.reply.ensures.same.4 c.reply.ensures.same.2 c.reply.ensures.same.3
    (replied ∙ ap (λ b. map (reply_by at) c.args.output.now.replies.items ++ reply at b c.args.conn) said))
    (c.reply.ensures.replies at)

pub returns-clause-fits : goal.returns-clause-fits
returns-clause-fits g c = λ w es numbers stand number.
    let at = c.args.output.now.at in
    let is = read_at _ w es numbers c.args.self.now.replicas.items c.deref.result.now c.args.place at c.in-Some.replica.now stand c.deref.ensures.value number c.in-Some.ensures.lookup.3.0 c.in-Some.ensures.lookup.1 in
    let rows = log_at _ w es at c.in-Some.replica.now c.log-log.result.now.rows is (c.log-log.ensures.live w.start) in
    (omega arith, subst HaveFourBytes rows c.numbers_fit.ensures)

pub returns-in_err-piece-clause-fits : goal.returns-in_err-piece-clause-fits
returns-in_err-piece-clause-fits g c = λ w es numbers stand number.
    let at = c.args.output.now.at in
    let is = read_at _ w es numbers c.args.self.now.replicas.items c.deref.result.now c.args.place at c.in-Some.replica.now stand c.deref.ensures.value number c.in-Some.ensures.lookup.3.0 c.in-Some.ensures.lookup.1 in
    let rows = log_at _ w es at c.in-Some.replica.now c.log-log.result.now.rows is (c.log-log.ensures.live w.start) in
    (omega arith, subst HaveFourBytes rows c.numbers_fit.ensures)

pub returns-clause-memory : goal.returns-clause-memory
returns-clause-memory g c =
    let P : List _ → Type 0 = λ l. c.args.place < length l in
    at_error c.reply.result (subst P c.deref.ensures.value c.in-Some.ensures.lookup.3.0)
