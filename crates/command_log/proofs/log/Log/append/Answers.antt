use Rattle.std.proofs.Common.{rules, arith, ◌≡◌, ◌∙◌, sym, ap, subst, true, false, refl}
use Rattle.std.proofs.lemmas.Bool.{both_ways}
use Rattle.std.specs.Option.{is_some}
use Rattle.command_log.specs.Rows.{Row, row_of, has_ended}
use Rattle.command_log.specs.Standing.{Ledger, own_of}
use Rattle.command_log.proofs.Places.{found_has, row_from, on_err}
use Rattle.command_log.proofs.Confirming.{Found, Settles, found_from, stays_over, stays_again, knows, is_first, settled_position, settled_ok, settled_err}
use Rattle.command_log.proofs.log.Log.append.Goals as goal

-- ---- the log is over

pub returns-then-is_over-clause-position : goal.returns-then-is_over-clause-position
returns-then-is_over-clause-position c = λ es stands.
    (stays_over c.args.self.now (record { id = c.args.id; command = c.args.command.now }) es (sym c.is_over.ensures.exact ∙ c.if-is_over.true) stands).0

pub returns-then-is_over-clause-ok : goal.returns-then-is_over-clause-ok
returns-then-is_over-clause-ok c = λ es stands.
    (stays_over c.args.self.now (record { id = c.args.id; command = c.args.command.now }) es (sym c.is_over.ensures.exact ∙ c.if-is_over.true) stands).1

-- ---- they have a row

pub returns-then-is_some-clause-position : goal.returns-then-is_some-clause-position
returns-then-is_some-clause-position c = λ es stands.
    let some : is_some c.find.result ≡ true = search rules in
    let has = found_has _ _ _ _ _ _ true c.number-client.ensures c.number-request.ensures c.find.ensures.value some in
    (stays_again c.args.self.now (record { id = c.args.id; command = c.args.command.now }) es has stands).0

pub returns-then-is_some-clause-ok : goal.returns-then-is_some-clause-ok
returns-then-is_some-clause-ok c = λ es stands.
    let some : is_some c.find.result ≡ true = search rules in
    let has = found_has _ _ _ _ _ _ true c.number-client.ensures c.number-request.ensures c.find.ensures.value some in
    (stays_again c.args.self.now (record { id = c.args.id; command = c.args.command.now }) es has stands).1

-- ---- its origin was one already

known_in : (c : goal.Then-has) → Found c.args.self.now (record { id = c.args.id; command = c.args.command.now }) c.origins-origins.result
known_in c =
    let none : is_some c.find.result ≡ false = search rules in
    found_from c.args.self.now (record { id = c.args.id; command = c.args.command.now }) c.number-client.result c.number-request.result c.key_of.result
    c.origins-origins.result _ c.self.inside.waiting c.number-client.ensures c.number-request.ensures c.number-client.type_inv c.number-request.type_inv
    c.key_of.ensures c.payload_of-payload.ensures c.origins-origins.ensures (ap (λ (l : Ledger). l.waiting) c.self.view_is)
    (sym c.is_over.ensures.exact ∙ c.if-is_over.false)
    (found_has _ _ _ _ _ _ false c.number-client.ensures c.number-request.ensures c.find.ensures.value none)

pub returns-then-has-clause-position : goal.returns-then-has-clause-position
returns-then-has-clause-position c = λ es stands.
    (knows c.args.self.now (record { id = c.args.id; command = c.args.command.now }) es c.origins-origins.result (known_in c) (omega arith) (sym c.has.ensures ∙ c.if-has.true) stands).0

pub returns-then-has-clause-ok : goal.returns-then-has-clause-ok
returns-then-has-clause-ok c = λ es stands.
    (knows c.args.self.now (record { id = c.args.id; command = c.args.command.now }) es c.origins-origins.result (known_in c) (omega arith) (sym c.has.ensures ∙ c.if-has.true) stands).1

-- ---- it is a new one

lasting : (c : goal.After-settle) → has_ended c.args.self.now.start (own_of c.args.self.now) ≡ false
lasting c = sym c.is_over.ensures.exact ∙ c.if-is_over.false

pub settle-requires-clause-none : goal.settle-requires-clause-none
settle-requires-clause-none c =
    let none : is_some c.find.result ≡ false = search rules in
    found_has c.args.self.now.rows _ c.number-client.result c.number-request.result _ _ false refl refl c.find.ensures.value none

found_in : (c : goal.After-settle) → Found c.args.self.now (record { id = c.args.id; command = c.args.command.now }) c.origins-origins.result
found_in c =
    let none : is_some c.find.result ≡ false = search rules in
    found_from c.args.self.now (record { id = c.args.id; command = c.args.command.now }) c.number-client.result c.number-request.result c.key_of.result
    c.origins-origins.result _ c.self.inside.waiting c.number-client.ensures c.number-request.ensures c.number-client.type_inv c.number-request.type_inv
    c.key_of.ensures c.payload_of-payload.ensures c.origins-origins.ensures (ap (λ (l : Ledger). l.waiting) c.self.view_is) (lasting c)
    (found_has _ _ _ _ _ _ false c.number-client.ensures c.number-request.ensures c.find.ensures.value none)

settles_in : (c : goal.After-settle) → Settles c.args.self.now c.settle.new.self (row_of (record { id = c.args.id; command = c.args.command.now })) c.with.result c.settle.result
settles_in c =
    subst (λ (r : Row). Settles c.args.self.now c.settle.new.self r c.with.result c.settle.result)
    (row_from (record { id = c.args.id; command = c.args.command.now }) c.number-client.result c.number-request.result _ c.number-client.ensures c.number-request.ensures
    c.payload_of-payload.ensures)
    (record { many = c.settle.ensures.many; few = c.settle.ensures.few; err = c.settle.ensures.err })

pub returns-clause-position : goal.returns-clause-position
returns-clause-position c = λ es stands.
    settled_position c.args.self.now c.settle.new.self _ es c.origins-origins.result c.with.result c.settle.result (found_in c) (record { is = c.with.ensures }) (settles_in c) stands

pub returns-clause-ok : goal.returns-clause-ok
returns-clause-ok c = λ es stands.
    settled_ok c.args.self.now c.settle.new.self _ es c.origins-origins.result c.with.result c.settle.result (found_in c) (record { is = c.with.ensures }) (settles_in c) stands

pub returns-clause-err : goal.returns-clause-err
returns-clause-err c = λ es stands.
    settled_err c.args.self.now c.settle.new.self _ es c.origins-origins.result c.with.result c.settle.result (found_in c) (settles_in c) stands

pub returns-clause-over : goal.returns-clause-over
returns-clause-over c = λ over. absurd (both_ways _ (lasting c) over)

pub returns-clause-only : goal.returns-clause-only
returns-clause-only c = on_err c.settle.result (found_in c).none

pub returns-clause-first : goal.returns-clause-first
returns-clause-first c = λ es stands.
    on_err c.settle.result
    (is_first c.args.self.now _ es c.origins-origins.result (found_in c) (omega arith) (sym c.has.ensures ∙ c.if-has.false) stands)
