use Rattle.std.proofs.Common.{ap, sym, ◌∙◌, ◌==◌}
use Rattle.std.specs.Map.{lookup}
use Rattle.std.specs.BTreeMap.{is_at}
use Rattle.node_loop.specs.WaitersStanding.{conns_in, asked_cmp}
use Rattle.node_loop.proofs.Indexing.{and_false}
use Rattle.node_loop.proofs.waiting.Waiters.new.Goals as goal

pub returns : goal.returns
returns c = record {
  nobody = record {
    shows = λ a. ap (λ es. conns_in (lookup (is_at (asked_cmp a)) es)) c.new.ensures.empty;
    listed = λ k a. c.new-2.ensures k a ∙ sym (and_false (k.at == a.at));
  };
}
