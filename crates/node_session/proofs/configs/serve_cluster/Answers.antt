use Rattle.std.proofs.Common.{rules, sym, subst, List}
use Rattle.std.specs.List.{All}
use Rattle.outside.specs.declared.link.LinkItem.{LinkItem}
use Rattle.schedule_file.specs.ReadHeader.{heading}
use Rattle.schedule_file.specs.Spelling.{IsHeading}
use Rattle.schedule_file.specs.declared.header.Header.{Header}
use Rattle.node_loop.specs.Served.{MayBegin}
use Rattle.node_session.proofs.Headings.{cluster_heading, are_first}
use Rattle.node_session.proofs.configs.serve_cluster.Goals as goal

pub serve_session-requires : goal.serve_session-requires
serve_session-requires g c = record {
  servable = record {
    heading = subst (λ (h : Header). IsHeading (heading h)) (sym c.cluster_header.ensures.header)
        (cluster_heading c.args.config (search rules) (search rules) (search rules) c.requires.fits);
    atomic = rw c.cluster_header.ensures.header c.requires.fits.root;
    firsts = subst (λ (items : List LinkItem). All MayBegin items) (sym c.in_ok-first.ensures.items) (are_first c.args.config.requests c.requires.fits.short);
  };
}
