use Rattle.std.proofs.Common.{refl, ◌∙◌}
use Rattle.world_model.proofs.Begins.{begins, same_keys, first_table}
use Rattle.world_model.proofs.world.World.new.Goals as goal

pub returns : goal.returns
returns g c = λ w is.
    begins _ c.args.p c.args.mode c.args.correct c.args.keys.items c.args.coins.items _ w (λ k. refl)
    (record { session = c.n.ensures.session; rows_many = c.requires.rows; coins_many = c.requires.tosses; own = c.requires.own; within = c.requires.within })
    c.requires.served (g.met.E.Broadcast.form ∙ c.requires.form)
    (same_keys _ c.args.p c.args.mode c.args.correct c.as_slice.result.now c.args.keys.items c.args.coins.items c.in_ok-replicas.replicas.items c.as_slice.ensures.value c.in_ok-replicas.ensures)
    refl refl refl c.in_ok-keys.ensures (first_table c.n.result c.args.p.n c.in_ok-made.made c.n.ensures.value c.in_ok-made.ensures) refl (record { verdict = c.new-2.ensures.verdict; sent = c.new-2.ensures.sent; hashed = c.new-2.ensures.hashed }) refl is
