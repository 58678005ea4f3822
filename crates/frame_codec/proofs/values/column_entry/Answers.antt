use Rattle.std.proofs.Common.{◌≡◌, ◌+◌, ◌-◌, ◌*◌, ◌≤◌, ◌<◌, arith, length, drop, take, ◌∙◌, refl, sym, ap, true, false, ℕ, Bool, List, cond}
use Rattle.std.specs.Prelude.{Option, None}
use Rattle.std.specs.List.{slice_get}
use Rattle.std.specs.Int.RustNames.{count_ones}
use Rattle.std.proofs.lemmas.List.{length-drop, length-take-le}
use Rattle.ritas_base.specs.Members.{has_member, member_count}
use Rattle.frame_codec.specs.Values.{mask_of, at_place, rows_in, if_whole, column_row}
use Rattle.frame_codec.proofs.Found.{found, found_small}
use Rattle.frame_codec.specs.RowLaws.{whole_row}
use Rattle.frame_codec.specs.ColumnLaws.{rows_get, short_row}
use Rattle.frame_codec.proofs.values.column_entry.Goals as goal

-- no row is given where it isn't whole
short_at : (value : List ℕ) (k : ℕ) → length (drop 4 value) < 32 * member_count k (mask_of value) + 32 → column_row value k ≡ None
unfolding at_place
short_at value k short =
    let mask = mask_of value in
    at_most (has_member mask k) (slice_get (rows_in (count_ones mask) (drop 4 value)) (member_count k mask)) (short_row (count_ones mask) (member_count k mask) (drop 4 value) short)
  where
    at_most : (b : Bool) (o : Option (List ℕ)) → if_whole o ≡ None → if_whole (cond b o None) ≡ None
    at_most true o e = e
    at_most false o e = refl

pub returns-then-value-lt4 : goal.returns-then-value-lt4
returns-then-value-lt4 c =
    let v = c.args.value.now in
    sym (short_at v c.args.k (omega (arith, length-drop 4 v, c.if-value-lt4.true)))

pub returns-then-not-has : goal.returns-then-not-has
unfolding at_place
returns-then-not-has c =
    rw (ap (λ (x : ℕ). has_member x c.args.k) (sym c.split_mask-places.ensures.mask) ∙ sym c.has.ensures ∙ c.if-not-has.true) refl

pub rank-requires : goal.rank-requires
rank-requires c =
    let split = c.split_mask-places.ensures in
    found_small c.split_mask-places.result.0 _ c.args.k split.mask split.small (sym c.has.ensures ∙ c.if-not-has.false)

pub returns-then-rest-start : goal.returns-then-rest-start
returns-then-rest-start c =
    let v = c.args.value.now in
    let rank : c.rank.result ≡ member_count c.args.k (mask_of v) = c.rank.ensures.value ∙ ap (member_count c.args.k) c.split_mask-places.ensures.mask in
    sym (short_at v c.args.k (omega (arith, rank, ap length c.split_mask-places.ensures.rest, c.if-rest-start.true)))

pub returns : goal.returns
unfolding at_place
returns c =
    let v = c.args.value.now in
    let k = c.args.k in
    let mask = mask_of v in
    let has = sym c.has.ensures ∙ c.if-not-has.false in
    let place = found c.split_mask-places.result.0 mask k c.rank.result c.split_mask-places.ensures.mask has c.rank.ensures.value (c.rank.ensures.below has) in
    let lt : member_count k mask < count_ones mask = omega (arith, place.rank, place.below) in
    let start = 32 * member_count k mask in
    let long : 32 ≤ length (drop start (drop 4 v)) = omega (arith, place.rank, ap length c.split_mask-places.ensures.rest, length-drop start (drop 4 v), c.if-rest-start.false) in
    let whole = whole_row (take 32 (drop start (drop 4 v))) (length-take-le 32 (drop start (drop 4 v)) long) in
    let width : 32 * c.rank.result + 32 - 32 * c.rank.result ≡ 32 = omega arith in
    rw (place.has, rows_get (count_ones mask) (member_count k mask) (drop 4 v) lt, whole, width, c.split_mask-places.ensures.rest, place.rank) refl
