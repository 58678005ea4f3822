use Rattle.std.proofs.Common.{◌<◌, arith, drop, ◌∙◌, refl, sym, ap, subst, Some, ℕ, suc}
use Rattle.std.specs.Int.RustNames.{count_ones}
use Rattle.ritas_base.specs.Members.{has_member, member_count}
use Rattle.frame_codec.specs.Values.{mask_of, at_place, nth_entry}
use Rattle.frame_codec.proofs.Found.{found, found_small}
use Rattle.frame_codec.specs.PartLaws.{vector_parts, has_less, entries_get}
use Rattle.frame_codec.proofs.values.vector_entry.Goals as goal

pub split_mask-places-requires : goal.split_mask-places-requires
split_mask-places-requires c = (vector_parts c.requires.0 c.requires.1 c.args.value.now c.requires.2).0

pub rank-requires : goal.rank-requires
rank-requires c =
    let split = c.split_mask-places.ensures in
    found_small c.split_mask-places.result.0 _ c.args.k split.mask split.small (sym c.has.ensures ∙ c.if-not-has.false)

pub returns-then-not-has : goal.returns-then-not-has
unfolding at_place
returns-then-not-has c =
    rw (ap (λ (x : ℕ). has_member x c.args.k) (sym c.split_mask-places.ensures.mask) ∙ sym c.has.ensures ∙ c.if-not-has.true) refl

pub nth_entry-requires : goal.nth_entry-requires
nth_entry-requires c =
    let v = c.args.value.now in
    let has = sym c.has.ensures ∙ c.if-not-has.false in
    let below = subst (λ (x : ℕ). c.rank.result < count_ones x) c.split_mask-places.ensures.mask (c.rank.ensures.below has) in
    let all = (vector_parts c.requires.0 c.requires.1 v c.requires.2).1 in
    rw c.split_mask-places.ensures.rest (has_less (suc c.rank.result) (count_ones (mask_of v)) (drop 4 v) (omega (arith, below)) all)

pub returns : goal.returns
unfolding at_place
returns c =
    let v = c.args.value.now in
    let k = c.args.k in
    let mask = mask_of v in
    let has = sym c.has.ensures ∙ c.if-not-has.false in
    let place = found c.split_mask-places.result.0 mask k c.rank.result c.split_mask-places.ensures.mask has c.rank.ensures.value (c.rank.ensures.below has) in
    let lt : member_count k mask < count_ones mask = omega (arith, place.rank, place.below) in
    rw place.has (ap Some (c.nth_entry.ensures ∙ ap (nth_entry c.rank.result) c.split_mask-places.ensures.rest ∙ ap (λ (r : ℕ). nth_entry r (drop 4 v)) place.rank) ∙ sym (entries_get (member_count k mask) (count_ones mask) (drop 4 v) lt))
