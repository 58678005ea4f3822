use Rattle.std.proofs.Common.{[], refl, rules}
use Rattle.node_loop.specs.Meanings.{meaning_of}
use Rattle.node_loop.specs.Outs.{outs_of, tells_of}
use Rattle.node_loop.specs.Served.{Serves}
use Rattle.node_loop.specs.Servers.{Outset}
use Rattle.node_loop.specs.Serving.{begin}
use Rattle.node_loop.proofs.Gathering.{none_served, runs_first, serves_plain}
use Rattle.node_loop.proofs.Serverwise.{agrees_none, at_last, served_for}
use Rattle.node_loop.proofs.rounds.serve.Goals as goal

pub returns-in-Err : goal.returns-in-Err
returns-in-Err g c = record { serves = λ w past numbers are_here. none_served _ w past numbers _ _ _ _ _ }

pub returns : goal.returns
returns g c = record {
  serves = λ w past numbers are_here.
      let base = outs_of g.K.Sink g.L.Link c.args.tape.now c.args.link.now in
      let tells = tells_of g.K.Sink g.L.Link in
      let same = c.serve-end.ensures.same in
      let first = c.as_slice.result.now in
      let now = c.serve-end.new.self in
      let run = runs_first _ w past numbers tells base c.args.limits (begin first) _ _ refl (c.in-Ok.ensures.stands w past numbers are_here) (agrees_none tells base) tt in
      let o : Outset _ = record { head = []; before = _; world = w; past = past; numbers = numbers; base = base; start = begin first } in
      rw (← c.as_slice.ensures.value)
      (at_last (λ (tape : _) (link : _). Serves (meaning_of g.S.Service g.E.Broadcast g.C.Coin) w past numbers c.serve-end.new.house.replicas.items tells base (outs_of g.K.Sink g.L.Link tape link)
      c.serve-end.result c.args.limits first)
      _ now.tape.now _ now.link.now (search rules) (search rules)
      (serves_plain _ w past numbers _ tells base _ _ _ first (λ x group older failed. failed)
      (served_for _ w past numbers _ tells base _ _ (begin first) c.args.limits _ same.limits (c.serve-end.ensures.serves o run))));
}
