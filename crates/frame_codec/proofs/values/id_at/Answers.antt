use Rattle.std.proofs.Common.{◌≡◌, ◌+◌, ◌*◌, ◌-◌, ◌≤◌, ◌/◌, ◌<◌, length, sym, ap, ◌∙◌, arith, ℕ, take, drop, Some}
use Rattle.std.proofs.lemmas.Option.{slice_get_past}
use Rattle.frame_codec.specs.Grammar.{id_of}
use Rattle.frame_codec.specs.Values.{ids_of}
use Rattle.frame_codec.specs.PartLaws.{ids_get, ids_length_in}
use Rattle.frame_codec.proofs.values.id_at.Goals as goal

pub returns-then-at-value : goal.returns-then-at-value
returns-then-at-value c =
    let v = c.args.value.now in
    let past : length (ids_of v) ≤ c.args.at = omega (arith, ids_length_in (length v / 5) v) in
    sym (slice_get_past (ids_of v) c.args.at past)

pub returns : goal.returns
returns c =
    let v = c.args.value.now in
    let at = c.args.at in
    let within : at < length v / 5 = omega arith in
    let five : 5 * at + 5 - 5 * at ≡ 5 = omega arith in
    ap Some (c.id_from.ensures ∙ ap (λ (n : ℕ). id_of (take n (drop (5 * at) v))) five) ∙ sym (ids_get (length v / 5) at v within)
