use Rattle.std.proofs.Common.{◌≡◌, ℕ, Bool, true, false, not, List, Some, sym, ◌∙◌, ap}
use Rattle.std.specs.List.{slice_get}
use Rattle.std.specs.Option.{option_copied}
use Rattle.std.specs.Str.{bytes_eq}
use Rattle.std.proofs.lemmas.Slice.Eq.{bytes_eq-Decides}
use Rattle.world_model.proofs.Pairs.{pair_shared}
use Rattle.world_model.proofs.met.shared_pair.Goals as goal

same_unless : (a b : List ℕ) (differ : Bool) → differ ≡ not (bytes_eq a b) → differ ≡ false → a ≡ b
same_unless a b differ is same = (bytes_eq-Decides a b).0 (passes (bytes_eq a b) (sym is ∙ same))
  where
    passes : (c : Bool) → not c ≡ false → c ≡ true
    passes true e = cc
    passes false e = absurd (cc)

pub returns-in-Some : goal.returns-in-Some
returns-in-Some c = λ s is.
    let met = c.args.met.now in
    let keys = c.args.keys.now in
    let same = sym c.digest.ensures ∙ same_unless c.digest.result.now c.args.digest.now c.ne.result c.ne.ensures c.if-ne.false in
    let own : c.me.result ≡ keys.me = c.me.ensures in
    let there : slice_get met.pairs keys.me ≡ Some c.in-Some.pair.now =
    ap (slice_get met.pairs) (sym own) ∙ sym c.pair.ensures ∙ ap option_copied c.in-Some.is in
    c.turned.ensures ∙ pair_shared keys c.args.others.now s c.args.digest.now met c.in-Some.pair.now (sym c.shares_key.ensures ∙ c.if-not-shares_key.false) same is there
