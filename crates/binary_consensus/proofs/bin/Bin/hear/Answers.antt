use Rattle.std.proofs.Common.{◌≡◌, ℕ, sym, ◌∙◌, refl, subst, List, ◌∷◌, [], ◌++◌, Some}
use Rattle.ritas_base.specs.declared.item.Say.{Say}
use Rattle.layer_api.specs.Words.{Hear}
use Rattle.binary_consensus.specs.Going.{line_of, IsHere, LineGoesOn}
use Rattle.binary_consensus.proofs.Boxes.{over_stands, no_early_vote, vote_stands}
use Rattle.binary_consensus.proofs.bin.Bin.hear.Goals as goal
use Rattle.binary_consensus.proofs.bin.Bin.hear.Goals.{then-self-via-then-self, then-self-via-else-self+then-self-eq0}

pub returns-then-self-clause-ok : goal.returns-then-self-clause-ok
returns-then-self-clause-ok g c = λ at w stands tosses may. elim c.then-self.branch [
  | then-self-via-then-self x ↦ over_stands at c.args.self.now c.args.self.now (Hear c.args.slot.now (c.args.value ∷ [])) w c.args.says.now.items refl x.if-self.true stands
  | then-self-via-else-self+then-self-eq0 x ↦
      absurd (no_early_vote at c.args.self.now.place.ended w (subst (λ (n : ℕ). IsHere at c.args.self.now.place.ended n w) x.if-self-eq0.true stands.here) may.proposed)
]

pub returns-clause-ok : goal.returns-clause-ok
returns-clause-ok g c = λ at w stands tosses may.
    let line : line_of c.args.slot.now ≡ Some c.in-Some.t = sym c.line_of.ensures ∙ c.in-Some.is in
    let pushed : c.append.new.self.items ≡ c.args.says.now.items ++ c.go_on.new.says.items = c.in_ok-append.ensures.items in
    let goes = subst (λ (ys : List Say). LineGoesOn c.args.self.now.part c.hear.new.self (g.C.Coin.bits c.args.coin.now) c.args.self.now.place ys c.go_on.new.says.items c.in_ok-place.place) c.new-made.ensures.items c.in_ok-place.ensures in
    vote_stands at c.args.self.now _ w c.args.slot.now c.in-Some.t c.args.value (g.C.Coin.bits c.args.coin.now) c.args.self.now.place c.args.says.now.items c.append.new.self.items c.go_on.new.says.items
    stands c.if-self.false c.if-self-eq0.false tosses may line c.in_ok-hear.ensures refl refl goes pushed
