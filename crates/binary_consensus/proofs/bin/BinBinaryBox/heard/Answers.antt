use Rattle.std.proofs.Common.{sym, ap, refl, subst, ◌∷◌, []}
use Rattle.layer_api.specs.Words.{Hear}
use Rattle.layer_api.specs.BinaryCalls.{ShowsBoxNear}
use Rattle.binary_consensus.specs.Consensus.{binary}
use Rattle.binary_consensus.specs.Stands.{box_shown_at, shows_as_before}
use Rattle.binary_consensus.specs.declared.bin.Bin.{Bin}
use Rattle.binary_consensus.specs.declared.place.Place.{Place}
use Rattle.binary_consensus.proofs.bin.BinBinaryBox.heard.Goals as goal

pub returns-in-Err : goal.returns-in-Err
returns-in-Err g c = record {
  out = c.in-Err.ensures.err;
  dead = refl;
  shows = λ at w stands may.
      subst (λ (p : Place). ShowsBoxNear binary at w (Hear c.args.slot.now (c.args.value ∷ [])) (box_shown_at p)) (sym (ap (λ (b : Bin). b.place) c.hear.ensures.kept))
      (shows_as_before c.args.self.now at w (Hear c.args.slot.now (c.args.value ∷ [])) stands);
}
