use Rattle.std.proofs.Common.{◌≡◌, ℕ, ◌<◌, true, sym, ◌∙◌, ap}
use Rattle.std.specs.Option.{option_copied}
use Rattle.std.proofs.lemmas.Option.{IfSome_then}
use Rattle.ritas_base.specs.declared.slot.Slot.{Slot}
use Rattle.keyed_channel.specs.KeyRow.{KeyRow}
use Rattle.world_model.specs.declared.met.EntryPair.{EntryPair}
use Rattle.world_model.specs.World.{Setting}
use Rattle.world_model.specs.Stands.{SeatsStand}
use Rattle.world_model.specs.Met.{pair_of, met_with}
use Rattle.world_model.specs.Hashed.{IsMetAt}
use Rattle.world_model.proofs.KeysAt.{keys_are}
use Rattle.world_model.proofs.met.known_pair.Goals as goal

pub returns-in-Some-Some : goal.returns-in-Some-Some
returns-in-Some-Some c =
    let others = c.in-Some-Some.others.now in
    let met = c.in-Some-Some.met.now in
    IfSome_then c.shared_pair.result
    {P = λ (pair : EntryPair). (s : Slot) → met ≡ met_with others s met.digest → pair ≡ pair_of c.args.keys.now s c.args.digest.now others.me}
    {Q = λ (pair : EntryPair). (w : Setting) (s : Slot) → SeatsStand w c.args.seats.now → IsMetAt w c.args.other s (option_copied c.args.met)
    → c.args.other < w.numbers.n → pair ≡ pair_of c.args.keys.now s c.args.digest.now c.args.other}
    c.shared_pair.ensures
    (λ pair holds. λ w s seats is_met below.
    let keys = keys_are w c.args.seats.now c.args.other c.from.result c.deref.result.now others seats below c.from.ensures c.deref.ensures.value
    c.in-Some-Some.ensures.lookup.3.0 c.in-Some-Some.ensures.lookup.1 in
    let right : w.is_correct c.args.other ≡ true = seats.correct c.args.other ∙ sym c.has.ensures ∙ c.if-not-has.false in
    let made = is_met met right (ap option_copied c.in-Some-Some.is-1) in
    let own : others.me ≡ c.args.other = ap (λ (x : KeyRow). x.me) keys ∙ (seats.own c.args.other below).0 in
    holds s (made ∙ ap (λ (x : KeyRow). met_with x s met.digest) (sym keys))
    ∙ ap (λ (i : ℕ). pair_of c.args.keys.now s c.args.digest.now i) own)
