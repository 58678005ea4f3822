use Rattle.std.specs.Prelude.{◌≡◌, ℕ, ◌≤◌, Option, None, replicate, [], refl}
use Rattle.std.proofs.Common.{◌∙◌, ap₂, subst, sym}
use Rattle.std.proofs.lemmas.List.{take-replicate, length-replicate, get_or-replicate}
use Rattle.std.proofs.lemmas.List.FromFn.{fill_by_all}
use Rattle.client_port.specs.Votes.{Wanted, VotesStand, replied}
use Rattle.client_port.proofs.Standing.{in_places}
use Rattle.client_port.proofs.votes.Votes.new.Goals as goal

-- nobody replied anything
nobody : (w : Wanted) → w.numbers.n ≤ 31 → VotesStand w [] (in_places w (replicate 31 None))
nobody w most =
    let none : Option ℕ = None in
    record {
      waits = refl;
      kept =
          take-replicate w.numbers.n 31 none most
          ∙ fill_by_all (replied w []) (replicate w.numbers.n none) w.numbers.n none (length-replicate w.numbers.n none) (λ k lt. get_or-replicate w.numbers.n k none none lt);
    }

pub returns : goal.returns
returns c =
    let w : Wanted = record { numbers = c.args.p.now; client = c.args.client; request = c.args.request } in
    let of : ℕ → ℕ → Wanted = λ n f. record { numbers = record { n = n; f = f }; client = c.args.client; request = c.args.request } in
    let same : w ≡ of c.n.result c.f.result = ap₂ of (sym c.n.ensures.value) (sym c.f.ensures.value) in
    subst (λ (x : Wanted). VotesStand w [] (in_places x (replicate 31 None))) same (nobody w c.n.ensures.session.most)
