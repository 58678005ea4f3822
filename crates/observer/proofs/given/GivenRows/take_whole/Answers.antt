use Rattle.std.proofs.Common.{◌≡◌, ℕ, ◌-◌, List, [], ◌∷◌, ◌++◌, length, take, drop, Option, refl, sym, ◌∙◌, ap, ap₂, subst, arith}
use Rattle.std.proofs.lemmas.List.{take_all, length-drop, with_items_is}
use Rattle.std.specs.Vec.{with_items}
use Rattle.ritas_base.specs.Numbers.{Numbers}
use Rattle.command_log.specs.Rows.{Row}
use Rattle.observer.specs.Reading.{row_count_in, rows_at_front, piece_in}
use Rattle.observer.specs.Giving.{Gift, Gave}
use Rattle.observer.specs.Places.{Window, Keeps, IsTakenGift, StandsForSteps}
use Rattle.observer.proofs.Faults.{rows_count}
use Rattle.observer.proofs.Giving.{stands_gave, keeps_as}
use Rattle.observer.proofs.given.GivenRows.take_whole.Goals as goal

-- what is read is the piece's rows
items_read : (bytes : List ℕ) (new items : List Row) → new ≡ [] → items ≡ new ++ rows_at_front (row_count_in bytes) (take (length bytes - 6) (drop 6 bytes)) → items ≡ (piece_in bytes).rows
items_read bytes new items none read =
    read ∙ ap₂ (λ a b. a ++ rows_at_front (row_count_in bytes) b) none (take_all (length bytes - 6) (drop 6 bytes) (omega (arith, length-drop 6 bytes)))

pub keep_rows-requires-clause-below : goal.keep_rows-requires-clause-below
keep_rows-requires-clause-below c =
    let items = items_read c.args.bytes.now c.new-rows.result.items c.read_rows.new.rows.items c.new-rows.ensures.items c.in_ok-read_rows.ensures.rows in
    let count : length c.read_rows.new.rows.items ≡ row_count_in c.args.bytes.now = ap length items ∙ rows_count (row_count_in c.args.bytes.now) (drop 6 c.args.bytes.now) in
    omega (arith, c.requires.whole.below, count, c.number_at-first.ensures)

pub keep_rows-requires-clause-near : goal.keep_rows-requires-clause-near
keep_rows-requires-clause-near c = λ some.
    let items = items_read c.args.bytes.now c.new-rows.result.items c.read_rows.new.rows.items c.new-rows.ensures.items c.in_ok-read_rows.ensures.rows in
    let count : length c.read_rows.new.rows.items ≡ row_count_in c.args.bytes.now = ap length items ∙ rows_count (row_count_in c.args.bytes.now) (drop 6 c.args.bytes.now) in
    let fits = c.requires.near (omega (arith, some, count)) in
    let at = ap (λ (w : Window). w.len) c.self.view_is in
    omega (arith, fits, count, c.number_at-first.ensures, at)

pub returns-clause-taken : goal.returns-clause-taken
returns-clause-taken c = λ p first h stands.
    let g : Gift = record { from = c.args.from; piece = piece_in c.args.bytes.now } in
    let w : Window = record { numbers = record { n = c.self.inside.n; f = c.self.inside.f }; len = c.self.inside.len; places = c.self.inside.places.items } in
    let before : StandsForSteps p first h w = subst (λ (v : Window). StandsForSteps p first h v) (sym c.self.view_is) stands in
    let items = items_read c.args.bytes.now c.new-rows.result.items c.read_rows.new.rows.items c.new-rows.ensures.items c.in_ok-read_rows.ensures.rows in
    let count = rows_count (row_count_in c.args.bytes.now) (drop 6 c.args.bytes.now) in
    let n : c.args.self.now.numbers.n ≡ p.n = ap (λ (q : Numbers). q.n) stands.numbers in
    let taken : IsTakenGift p g = record { within = omega (arith, c.requires.within, n); below = omega (arith, c.requires.whole.below, count) } in
    let keeps : Keeps c.self.inside.len c.self.inside.places.items c.keep_rows.new.places c.args.from (piece_in c.args.bytes.now).position (piece_in c.args.bytes.now).rows =
    keeps_as c.self.inside.len c.self.inside.len c.as_mut_slice.result.now c.self.inside.places.items c.keep_rows.new.places c.args.from c.number_at-first.result (piece_in c.args.bytes.now).position
    c.read_rows.new.rows.items (piece_in c.args.bytes.now).rows refl c.as_mut_slice.ensures.value c.number_at-first.ensures items c.keep_rows.ensures in
    let left : (with_items c.self.inside.places c.keep_rows.new.places).items ≡ c.keep_rows.new.places =
    with_items_is c.self.inside.places c.keep_rows.new.places (c.keep_rows.auto.places ∙ c.as_mut_slice.ensures.len) in
    subst (λ (l : List (Option Row)). StandsForSteps p first (Gave g ∷ h) (record w { places = l })) (sym left)
    (stands_gave p first h g w c.keep_rows.new.places before taken keeps)
