use Rattle.std.proofs.Common.{◌≡◌, ◌<◌, ◌==◌, true, false, length, [], ◌∷◌, length-append, arith, rules, sym, ◌∙◌}
use Rattle.cluster_config.specs.Lines.{fields_up_to}
use Rattle.cluster_config.specs.Cluster.{most_requests}
use Rattle.cluster_config.specs.Values.{request_of_line}
use Rattle.cluster_config.specs.Views.{viewed_request}
use Rattle.cluster_config.proofs.Loops.{more_of_some, wrong_of_some, all_ok, all_err}
use Rattle.cluster_config.proofs.lines.Lines.requests.Goals as goal
use Rattle.cluster_config.proofs.lines.Lines.requests.Goals.{then-loop-self-test+else-not-is_over, else-loop-self-test}

pub returns-in_err-request : goal.returns-in_err-request
returns-in_err-request c =
    let below : length c.loop-self.requests < most_requests = omega (arith, c.len.ensures, c.loop-self-test.true) in
    let some : (length c.loop-self.self.rest == 0) ≡ false = sym c.is_over.ensures ∙ c.if-not-is_over.true in
    let none = wrong_of_some c.args.name.now (request_of_line c.args.n) most_requests (fields_up_to c.args.name.now (request_of_line c.args.n) most_requests c.args.self.now) c.loop-self.requests c.loop-self.self c.in_err-request.field-0.0.line below some c.loop-self.invariant.reads c.in_err-request.ensures.exact in
    search (rules, none)

pub loop-self-preserved : goal.loop-self-preserved
loop-self-preserved c =
    let below : length c.loop-self.requests < most_requests = omega (arith, c.len.ensures, c.loop-self-test.true) in
    let some : (length c.loop-self.self.rest == 0) ≡ false = sym c.is_over.ensures ∙ c.if-not-is_over.true in
    let more = more_of_some c.args.name.now (request_of_line c.args.n) most_requests (fields_up_to c.args.name.now (request_of_line c.args.n) most_requests c.args.self.now) c.loop-self.requests c.loop-self.self c.request.new.self (viewed_request c.in_ok-request.field-0) below some c.loop-self.invariant.reads c.in_ok-request.ensures.exact in
    let grows = length-append c.loop-self.requests (viewed_request c.in_ok-request.field-0 ∷ []) in
    record {
      reads = rw c.push.ensures more;
      number = rw c.push.ensures (omega (arith, grows, c.in_ok-request.ensures.next, c.loop-self.invariant.number));
      within = rw c.push.ensures (omega (arith, grows, below));
    }

pub returns-in_err-end : goal.returns-in_err-end
returns-in_err-end c =
    let nothing : length c.loop-self.requests < most_requests → (length c.loop-self.self.rest == 0) ≡ true = elim c.loop-self-test.branch [
      | then-loop-self-test+else-not-is_over w ↦ λ below. sym w.is_over.ensures ∙ w.if-not-is_over.false
      | else-loop-self-test w ↦ λ below. absurd (omega (arith, c.len.ensures, w.loop-self-test.false))
    ] in
    let none = all_err c.args.name.now (request_of_line c.args.n) most_requests (fields_up_to c.args.name.now (request_of_line c.args.n) most_requests c.args.self.now) c.loop-self.requests c.loop-self.self c.in_err-end.field-0.0.line nothing c.loop-self.invariant.reads c.in_err-end.ensures in
    search (rules, none)

pub returns : goal.returns
returns c =
    let nothing : length c.loop-self.requests < most_requests → (length c.loop-self.self.rest == 0) ≡ true = elim c.loop-self-test.branch [
      | then-loop-self-test+else-not-is_over w ↦ λ below. sym w.is_over.ensures ∙ w.if-not-is_over.false
      | else-loop-self-test w ↦ λ below. absurd (omega (arith, c.len.ensures, w.loop-self-test.false))
    ] in
    all_ok c.args.name.now (request_of_line c.args.n) most_requests (fields_up_to c.args.name.now (request_of_line c.args.n) most_requests c.args.self.now) c.loop-self.requests c.loop-self.self c.end.new.self c.in_ok-end.field-0 nothing c.loop-self.invariant.reads c.in_ok-end.ensures
