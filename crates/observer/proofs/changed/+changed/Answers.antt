use Rattle.std.proofs.Common.{◌≡◌, ℕ, ◌+◌, ◌-◌, ◌<◌, false, nat_le, length, slice_index_or, Option, None, sym, ◌∙◌, ap, ap₂, subst, arith, refl}
use Rattle.std.specs.Prelude.{if◌then◌else◌}
use Rattle.std.proofs.lemmas.Bool.{cond-true, cond-false, le-leb, lt-leb}
use Rattle.std.proofs.lemmas.List.{get_or_read_under}
use Rattle.command_log.specs.Rows.{Row}
use Rattle.observer.specs.Reading.{AreWhole, row_at_front, rows_at_front}
use Rattle.observer.specs.Giving.{is_another_row, changed_from}
use Rattle.observer.specs.Places.{placed}
use Rattle.observer.proofs.Rows.{first_whole, first_row, behind}
use Rattle.observer.proofs.changed.+changed.Goals as goal
use Rattle.observer.proofs.changed.+changed.Goals.{After-changed, else-first-len-via-then-first-len+else-is_another_row, else-first-len-via-else-first-len}

pub changed-requires : goal.changed-requires
changed-requires t c =
    let some : 0 < c.args.count = omega (arith, c.if-count-eq0.false) in
    let whole = first_whole c.args.count c.args.bytes.now some c.requires.whole in
    let less : c.args.count - 1 < t = omega (arith, c.decreases, some) in (
      less,
      (
        c.requires.sized,
        (
          c.requires.within,
          (
            omega (arith, some, c.requires.below),
            subst (AreWhole (c.args.count - 1)) (sym (behind c.args.bytes.now c.payload_size-size.result c.payload_size-size.ensures)) whole.others,
          ),
        ),
      ),
    )

pub returns : goal.returns
returns t c =
    let some : 0 < c.args.count = omega (arith, c.if-count-eq0.false) in
    let still : ℕ → Option Row = λ at. if nat_le c.args.len at then placed c.args.places.now c.args.from at else None in
    let same : is_another_row (row_at_front c.args.bytes.now) (still c.args.first) ≡ false =
    elim c.else-first-len.branch [
      | else-first-len-via-then-first-len+else-is_another_row w ↦
          let here : still c.args.first ≡ w.index-places-first_place.result =
          cond-true (nat_le c.args.len c.args.first) _ _ (le-leb c.args.len c.args.first (omega (arith, w.if-first-len.true)))
          ∙ (ap₂ (λ x y. slice_index_or c.args.places.now (x + y) None) (sym w.first_place.ensures.value) (sym w.from.ensures)
          ∙ sym (get_or_read_under c.args.places.now (w.first_place.result + w.from.result) (length c.args.places.now) w.index-places-first_place.result None w.index-places-first_place.is
          (omega (arith, w.first_place.ensures.within, w.from.ensures, c.requires.within, c.requires.sized)) refl)) in
          ap (is_another_row (row_at_front c.args.bytes.now)) here ∙ sym w.if-is_another_row.ensures
      | else-first-len-via-else-first-len w ↦
          ap (is_another_row (row_at_front c.args.bytes.now)) (cond-false (nat_le c.args.len c.args.first) _ _ (lt-leb c.args.len c.args.first (omega (arith, w.if-first-len.false))))
    ] in
    c.changed.ensures
    ∙ (ap (λ l. changed_from still (c.args.first + 1) (rows_at_front (c.args.count - 1) l)) (behind c.args.bytes.now c.payload_size-size.result c.payload_size-size.ensures)
    ∙ sym (ap (changed_from still c.args.first) (first_row c.args.count c.args.bytes.now some)
    ∙ cond-false (is_another_row (row_at_front c.args.bytes.now) (still c.args.first)) _ _ same))
