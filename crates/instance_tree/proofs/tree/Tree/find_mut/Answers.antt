use Rattle.std.proofs.Common.{refl, sym, ◌∙◌, inl}
use Rattle.instance_tree.proofs.Tied.{found_value, found_nothing, write_view, write_tied}
use Rattle.instance_tree.proofs.tree.Tree.find_mut.Goals as goal

pub returns-in_err-key : goal.returns-in_err-key
returns-in_err-key g c =
    let none = found_nothing c.self.inside.keys c.self.inside.arena c.args.slot.now _ (sym c.find.ensures ∙ c.in_err-key.was) refl in
    rw (c.from_residual.ensures, ← c.self.view_is) (refl, record { writes_back = tt; value = none })

pub index_mut-requires : goal.index_mut-requires
index_mut-requires g c = c.self.invariant.has c.args.slot.now c.in_ok-key.key (sym c.find.ensures ∙ c.in_ok-key.was)

pub invariant_of-self-lent : goal.invariant_of-self-lent
invariant_of-self-lent g c =
    λ w. write_tied c.self.inside.keys c.self.inside.arena c.args.slot.now c.in_ok-key.key w c.self.invariant (sym c.find.ensures ∙ c.in_ok-key.was)

pub returns : goal.returns
returns g c =
    let keys = c.self.inside.keys in
    let arena = c.self.inside.arena in
    let q = c.args.slot.now in
    let found = sym c.find.ensures ∙ c.in_ok-key.was in
    rw (← c.self.view_is) (
      (λ i. inl (c.index_mut.result.ghost_name, λ w. write_view keys arena q c.in_ok-key.key w c.self.invariant found i)),
      record { writes_back = tt; value = sym c.index_mut.ensures.value ∙ found_value keys arena q c.in_ok-key.key _ found refl },
    )
