use Rattle.std.proofs.Common.{◌≡◌, ℕ, ◌∙◌, ap, refl, arith, rules, ◌∷◌, ◌++◌, []}
use Rattle.ritas_base.specs.declared.item.Say.{Say}
use Rattle.layer_api.specs.Words.{Ask, bit_byte}
use Rattle.binary_consensus.specs.Going.{own_step_slot}
use Rattle.binary_consensus.specs.Stands.{shows_as_before}
use Rattle.binary_consensus.proofs.Boxes.{proposed_before, takes_proposal}
use Rattle.binary_consensus.proofs.bin.BinBinaryBox.propose.Goals as goal

pub returns-then-self-gt0 : goal.returns-then-self-gt0
returns-then-self-gt0 c = record {
  grows = λ at w stands may. absurd (proposed_before at c.args.self.now.place.ended c.args.self.now.place.said w c.if-self-gt0.true stands.here may);
  made = λ at w stands may. absurd (proposed_before at c.args.self.now.place.ended c.args.self.now.place.said w c.if-self-gt0.true stands.here may);
}

pub returns-in-Ok : goal.returns-in-Ok
returns-in-Ok c =
    let none : c.args.self.now.place.said ≡ 0 = let no = c.if-self-gt0.false in omega (arith, no) in
    let bit : c.from.result ≡ bit_byte c.args.bit = search rules in
    let pushed = c.in-Ok.ensures.said ∙ ap (λ (v : ℕ). c.args.says.now.items ++ (let y : Say = record { slot = own_step_slot c.args.self.now.part 0; value = v ∷ [] } in y ∷ [])) bit in
    takes_proposal c.args.self.now _ c.args.bit c.args.says.now.items c.say.new.says.items none refl refl refl refl refl refl pushed

pub returns-in-Err : goal.returns-in-Err
returns-in-Err c = record {
  out = c.in-Err.ensures.err;
  dead = refl;
  shows = λ at w stands may. shows_as_before c.args.self.now at w (Ask (bit_byte c.args.bit ∷ [])) stands;
}
