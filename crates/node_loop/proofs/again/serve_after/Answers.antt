use Rattle.std.proofs.Common.{[], ◌∷◌, reverse, refl, rules}
use Rattle.node_loop.specs.Again.{ServesAgain}
use Rattle.node_loop.specs.Journals.{JournalStands, journal_moment}
use Rattle.node_loop.specs.Meanings.{meaning_of}
use Rattle.node_loop.specs.Outs.{outs_of, tells_of}
use Rattle.node_loop.proofs.AfterPast.{record_sized, record_served, kept_past, again_short}
use Rattle.node_loop.proofs.Serverwise.{all_at_last, served_again_for}
use Rattle.node_loop.proofs.again.serve_after.Goals as goal

pub serve_again-end-requires-clause-sized : goal.serve_again-end-requires-clause-sized
serve_again-end-requires-clause-sized g c = record_sized c.args.journal.now.me (g.P.AsSlice.items c.args.recovered) c.requires.own

pub returns-in-Err : goal.returns-in-Err
returns-in-Err g c = record {
  serves = λ head w numbers are_here right stands.
      let es = g.P.AsSlice.items c.args.recovered in
      again_short _ w (reverse es) numbers _ _ _ _
      (refl, kept_past head (reverse es) c.args.journal.now g.D.Disk.tells (g.D.Disk.told c.args.disk.now) (g.D.Disk.faults c.args.disk.now) stands);
}

pub returns : goal.returns
returns g c = record {
  serves = λ head w numbers are_here right stands.
      let me = c.args.journal.now.me in
      let es = g.P.AsSlice.items c.args.recovered in
      let same = c.serve_again-end.ensures.same in
      let now = c.serve_again-end.new.self in
      let tells = tells_of g.K.Sink g.L.Link in
      let base = outs_of g.K.Sink g.L.Link c.args.tape.now c.args.link.now in
      let begins : JournalStands head (reverse es) [] c.args.journal.now g.D.Disk.tells (g.D.Disk.told c.args.disk.now) (g.D.Disk.told c.args.disk.now) (g.D.Disk.faults c.args.disk.now) (g.D.Disk.faults c.args.disk.now) =
      kept_past head (reverse es) c.args.journal.now g.D.Disk.tells (g.D.Disk.told c.args.disk.now) (g.D.Disk.faults c.args.disk.now) stands in
      all_at_last (λ (tape : _) (link : _) (journal : _) (disk : _). ServesAgain (meaning_of g.S.Service g.E.Broadcast g.C.Coin) w (reverse es) numbers c.serve_again-end.new.house.replicas.items tells base
      (journal_moment g.D.Disk head (reverse es) me c.args.disk.now (outs_of g.K.Sink g.L.Link tape link) journal disk) c.serve_again-end.result c.args.limits)
      _ now.tape.now _ now.link.now _ now.archive.now _ now.disk.now (search rules) (search rules) (search rules) (search rules)
      (served_again_for _ w (reverse es) numbers _ tells base _ _ c.args.limits _ same.limits
      (c.serve_again-end.ensures.serves (me ∷ head) c.args.disk.now w numbers (c.in-Ok.ensures.stands w [] numbers are_here) (record_served w me es right c.requires.own) (refl, begins) refl));
}
