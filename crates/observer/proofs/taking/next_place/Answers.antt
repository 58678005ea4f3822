use Rattle.std.proofs.Common.{◌≡◌, ℕ, ◌+◌, ◌-◌, take, drop, subst, arith}
use Rattle.std.specs.List.{position}
use Rattle.observer.specs.Giving.{is_backed_gift}
use Rattle.observer.proofs.taking.next_place.Goals as goal

pub returns : goal.returns
returns c =
    let same : (c.args.first + c.from.result) - c.args.first ≡ c.args.n = omega (arith, c.from.ensures) in
    subst (λ (k : ℕ). c.first_backed.result ≡ position (is_backed_gift c.args.f (take k (drop c.args.first c.args.places.now))) (take k (drop c.args.first c.args.places.now))) same
    c.first_backed.ensures
