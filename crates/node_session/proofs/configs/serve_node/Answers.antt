use Rattle.std.proofs.Common.{rules, Err, refl, sym, ap, ◌∙◌, subst}
use Rattle.std.proofs.lemmas.Result.{err_from_is_err_and}
use Rattle.event_journal.specs.declared.fault.JournalFault.{JournalFault}
use Rattle.node_session.proofs.Counted.{session_counts, short_counts}
use Rattle.node_session.proofs.Headings.{node_servable}
use Rattle.node_session.specs.Session.{IsServable}
use Rattle.node_session.specs.declared.session.Session.{Session}
use Rattle.node_session.proofs.configs.serve_node.Goals as goal

pub serve_session-requires : goal.serve_session-requires
serve_session-requires g c = record {
  servable =
      subst (λ (s : Session). IsServable s c.new.result.items) (sym c.session_of-session.ensures.session)
      (node_servable c.args.config c.new.result.items (search rules) (search rules) (search rules) c.requires.fits.keys (search rules) c.requires.fits (search rules));
}

pub returns-clause-disk_counts : goal.returns-clause-disk_counts
returns-clause-disk_counts g c = session_counts _ _ _ _ _ _ _ _ c.in_ok-serve_session.field-0 refl c.in_ok-serve_session.ensures.served

pub returns-in_err-serve_session-clause-disk_counts : goal.returns-in_err-serve_session-clause-disk_counts
returns-in_err-serve_session-clause-disk_counts g c =
    let fault = err_from_is_err_and c.from_residual.result c.from_residual.ensures.1 in
    short_counts _ _ c.from_residual.result (fault.1 ∙ ap (λ (x : JournalFault). Err x) fault.2) refl
