use Rattle.std.proofs.Common.{◌≡◌, ℕ, ◌<◌, List, ◌∷◌, slice_index_or, slice_set, Some, None, Ok, subst, sym, ap, ◌∙◌}
use Rattle.std.proofs.lemmas.Result.{err_from_is_err_and}
use Rattle.client_port.specs.Votes.{Wanted, ReplyCall, Ballots, VotesStand, reply_fault_of}
use Rattle.client_port.proofs.Standing.{in_places, answers_fault, stands_still, stands_more, answers_position}
use Rattle.client_port.proofs.votes.Votes.reply.Goals as goal

pub returns-in_err-position-clause-answer : goal.returns-in_err-position-clause-answer
returns-in_err-position-clause-answer c = λ w h stands.
    let p = err_from_is_err_and c.from_residual.result c.from_residual.ensures.1 in
    let call : ReplyCall = record { from = c.args.from; bytes = c.args.bytes.now } in
    rw (p.1, p.2) (sym (answers_fault w h c.args.self.now call _ stands c.in_err-position.ensures.fault))

pub returns-in_err-position-clause-stands : goal.returns-in_err-position-clause-stands
returns-in_err-position-clause-stands c = λ w h stands.
    let call : ReplyCall = record { from = c.args.from; bytes = c.args.bytes.now } in
    stands_still w h c.args.self.now call _ stands c.in_err-position.ensures.fault

call_of : goal.After-settled → ReplyCall
call_of c = record { from = c.args.from; bytes = c.args.bytes.now }

after : (c : goal.After-settled) (w : Wanted) (h : List ReplyCall) → VotesStand w h c.args.self.now
    → VotesStand w (call_of c ∷ h) (in_places (record { numbers = record { n = c.self.inside.n; f = c.self.inside.f }; client = c.self.inside.client; request = c.self.inside.request }) (slice_set c.self.inside.positions c.from.result (Some c.in_ok-position.position)))
unfolding call_of
after c w h stands =
    let call : ReplyCall = record { from = c.args.from; bytes = c.args.bytes.now } in
    let wanted : Wanted = record { numbers = record { n = c.self.inside.n; f = c.self.inside.f }; client = c.self.inside.client; request = c.self.inside.request } in
    let places = c.self.inside.positions in
    let before : VotesStand w h (in_places wanted places) = subst (λ (v : Ballots). VotesStand w h v) (sym c.self.view_is) stands in
    let right : reply_fault_of wanted (slice_index_or (in_places wanted places).positions call.from None) call ≡ None =
    subst (λ (v : Ballots). reply_fault_of v.wanted (slice_index_or v.positions call.from None) call ≡ None) (sym c.self.view_is) c.in_ok-position.ensures.fault in
    let within : call.from < wanted.numbers.n = subst (λ (v : Ballots). call.from < v.wanted.numbers.n) (sym c.self.view_is) c.in_ok-position.ensures.within.0 in
    subst (λ (place : ℕ). VotesStand w (call ∷ h) (in_places wanted (slice_set places place (Some c.in_ok-position.position)))) (sym c.from.ensures)
    (stands_more w h wanted places call c.in_ok-position.position before right within c.in_ok-position.ensures.position)

pub returns-clause-answer : goal.returns-clause-answer
unfolding call_of
returns-clause-answer c = λ w h stands.
    ap Ok c.settled.ensures
    ∙ sym (answers_position w h c.args.self.now _ (call_of c) c.in_ok-position.position stands c.in_ok-position.ensures.fault c.in_ok-position.ensures.position (after c w h stands))

pub returns-clause-stands : goal.returns-clause-stands
unfolding call_of
returns-clause-stands c = λ w h stands. after c w h stands
