use Rattle.std.proofs.Common.{ℕ, List, sym, ◌∙◌, ap}
use Rattle.std.specs.Option.{option_copied}
use Rattle.std.specs.Str.{bytes_eq}
use Rattle.world_model.proofs.Pairs.{gives_one}
use Rattle.world_model.proofs.met.Met.gives_to.Goals as goal

pub returns-in-Some : goal.returns-in-Some
returns-in-Some c = λ same.
    gives_one c.args.self.now c.args.other c.in-Some.pair.now c.args.entry.now (sym c.pair.ensures ∙ ap option_copied c.in-Some.is)
    (ap (λ (x : List ℕ). bytes_eq c.args.entry.now x) (sym c.as_slice.ensures) ∙ sym c.eq.ensures ∙ same)
