use Rattle.std.proofs.Common.{◌≡◌, ◌+◌, [], ◌∷◌, List, length, min, reverse, sym, ap, ◌∙◌, arith, length-append}
use Rattle.ritas_base.specs.declared.event.Event.{Event}
use Rattle.schedule_file.specs.Spelling.{event_text, sized}
use Rattle.record_file.specs.Form.{Form}
use Rattle.event_journal.specs.Journal.{records}
use Rattle.event_journal.specs.Appending.{JournalState, length_with}
use Rattle.event_journal.proofs.journal.Journal.append.Goals as goal

pub returns-clause-full : goal.returns-clause-full
returns-clause-full g c = λ x.
    let full = c.append_all.ensures.full x in
    let one : length_with c.args.self.now (reverse c.from_ref.result.now) ≡ length_with c.args.self.now (c.args.ev.now ∷ []) = ap (λ (es : List Event). length_with c.args.self.now (reverse es)) c.from_ref.ensures.value in
    let long : length (records (c.args.ev.now ∷ [])) ≡ length (event_text c.args.ev.now) + 3 = omega (arith, length-append (sized (event_text c.args.ev.now)) []) in
    let end_is : c.self.inside.file.end ≡ c.args.self.now.end = ap (λ (j : JournalState). j.end) c.self.view_is in
    let exact : min (length_with c.args.self.now (reverse c.from_ref.result.now)) 18446744073709551615 ≡ length_with c.args.self.now (c.args.ev.now ∷ []) =
    omega (arith, one, long, end_is, c.end-end.ensures.low, ap (λ (f : Form). f.limit) c.self.invariant.0, c.requires.own.short) in (
      λ is. let h = full.0 is in (h.0 ∙ exact, h.1),
      λ h. full.1 (h.0 ∙ sym exact, h.1),
    )
