use Rattle.std.proofs.Common.{◌≡◌, ◌∙◌, ◌++◌, [], ℕ, List, drop, Some, sym, ap, arith, append-nil}
use Rattle.std.proofs.lemmas.List.{drop_all}
use Rattle.ritas_base.specs.Bytes.{IsBytes}
use Rattle.schedule_file.specs.OwnEvents.{own_event}
use Rattle.schedule_file.specs.OwnEventsLaws.{own_found}
use Rattle.schedule_file.specs.Spelling.{event_text}
use Rattle.event_journal.proofs.reading.whole_event.Goals as goal

pub returns-then-size-text : goal.returns-then-size-text
returns-then-size-text c =
    let text = c.args.text.now in
    let e = c.in-Some.event in
    let fits : IsBytes text = λ i. omega (arith, c.type_inv.text i) in
    let read : own_event c.args.me text ≡ Some (e, c.in-Some.size) = sym c.in_ok-event.ensures.event ∙ c.in-Some.is in
    let found = own_found c.args.me text e c.in-Some.size fits read in
    let rest : drop c.in-Some.size text ≡ [] = drop_all c.in-Some.size text (omega (arith, c.if-size-text.true)) in (
      record { alone = found.own.alone; fits = found.own.fits; short = omega (arith, found.size, c.if-size-text.true, c.requires.short) },
      found.text ∙ ap (λ (x : List ℕ). event_text e ++ x) rest ∙ append-nil (event_text e),
    )
