use Rattle.std.proofs.Common.{◌≡◌, ◌+◌, [], ◌∷◌, length, None, slice_index_or, length-append, ◌∙◌, ap, ap₂, arith}
use Rattle.observer.specs.Places.{first_place}
use Rattle.observer.proofs.Places.{KeepsOne, keeps_more, keeps_none, keeps_placed}
use Rattle.observer.proofs.keeping.+keep_rows.Goals as goal
use Rattle.observer.proofs.keeping.+keep_rows.Goals.{then-at-len, else-at-len}

pub returns : goal.returns
returns t c =
    let items = c.in-Some.ensures.items in
    let all : length c.args.rows.now.items ≡ length c.pop.new.self.items + 1 = ap length items ∙ length-append c.pop.new.self.items (c.in-Some.row ∷ []) in
    let count : c.len.result ≡ length c.pop.new.self.items = omega (arith, c.len.ensures, c.pop.new.self.ok) in
    let at : c.args.first + c.len.result ≡ c.args.first + length c.pop.new.self.items = ap (λ k. c.args.first + k) count in
    let one : KeepsOne c.args.len c.args.places.now c.if-at-len.places c.args.from (c.args.first + length c.pop.new.self.items) c.in-Some.row =
    elim c.if-at-len.branch [
      | then-at-len w ↦
          keeps_placed c.args.len c.args.places.now c.if-at-len.places c.args.from _ (w.first_place.result + w.from.result) c.in-Some.row c.requires.within
          (let most = c.requires.near (omega (arith, all)) in record { least = omega (arith, w.if-at-len.true, at); most = omega (arith, most, all, at) })
          (ap₂ (λ x y. x + y) (w.first_place.ensures.value ∙ ap first_place at) w.from.ensures)
          (λ i. ap (λ l. slice_index_or l i None) w.places-is ∙ w.keep_row.ensures i)
      | else-at-len w ↦ keeps_none c.args.len c.args.places.now c.if-at-len.places c.args.from _ c.in-Some.row (omega (arith, w.if-at-len.false, at)) w.places-is
    ] in
    keeps_more c.args.len c.args.places.now c.if-at-len.places c.keep_rows.new.places c.args.from c.args.first c.pop.new.self.items c.args.rows.now.items c.in-Some.row items one c.keep_rows.ensures
