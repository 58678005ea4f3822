use Rattle.std.proofs.Common.{◌≡◌, ◌∙◌, ◌++◌, ◌∷◌, [], arith, ap, ap₂, sym, true, List, ℕ}
use Rattle.std.proofs.lemmas.Bool.{eqb-true}
use Rattle.std.specs.Map.{values_of}
use Rattle.link_resume.specs.declared.kept.Kept.{Kept}
use Rattle.link_resume.specs.Lanes.{StandByNumber}
use Rattle.link_resume.proofs.Places.{inserted, values_behind, lane_more, none_stands}
use Rattle.link_resume.proofs.lane.Lane.add.Goals.{then-place-number+then-self, then-place-number+else-self, else-place-number}
use Rattle.link_resume.proofs.lane.Lane.add.Goals as goal

pub invariant_of-self-2 : goal.invariant_of-self-2
invariant_of-self-2 c =
    let kept : Kept = record { seq = c.args.seq; frame = c.in_ok-frame.frame } in
    let place : ℕ = c.in-Some-place_behind.place in
    let by : c.if-place-number.by_number ≡ true → (place ≡ c.args.seq) × StandByNumber c.self.inside.kept.entries =
    elim c.if-place-number.branch [
      | then-place-number+then-self w ↦ λ t. (w.if-place-number.true ∙ c.from-number.ensures, c.self.invariant.places w.if-self.true)
      | then-place-number+else-self w ↦ λ t. (w.if-place-number.true ∙ c.from-number.ensures, none_stands c.self.inside.kept.entries (w.is_empty.ensures.0 (sym w.by_number-is ∙ t)))
      | else-place-number w ↦ λ t. absurd (w.if-place-number.false (eqb-true c.in-Some-place_behind.place c.from-number.result (sym w.by_number-is ∙ t)))
    ] in
    let made = c.in-Ok.ensures.entries ∙ inserted c.self.inside.kept.entries place _ c.in-Some-place_behind.ensures.behind in
    rw (made, c.in_ok-frame.ensures)
    (lane_more c.self.inside.bytes c.in-Some.bytes c.args.seq place c.args.frame.now c.self.inside.by_number c.if-place-number.by_number c.self.inside.kept.entries
    c.self.invariant (omega (arith, c.in-Some.ensures, c.len-len.ensures.is)) (omega (arith, c.in-Some.ensures)) by)

pub returns-clause-ok : goal.returns-clause-ok
returns-clause-ok c =
    let kept : Kept = record { seq = c.args.seq; frame = c.in_ok-frame.frame } in
    ap values_of (c.in-Ok.ensures.entries ∙ inserted c.self.inside.kept.entries c.in-Some-place_behind.place kept c.in-Some-place_behind.ensures.behind)
    ∙ (values_behind c.self.inside.kept.entries c.in-Some-place_behind.place kept ∙ ap₂ (λ (xs : List Kept) (frame : List ℕ). xs ++ record { seq = c.args.seq; frame = frame } ∷ []) c.self.view_is c.in_ok-frame.ensures)
