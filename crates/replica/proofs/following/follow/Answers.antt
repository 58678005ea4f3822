use Rattle.std.proofs.Common.{◌+◌, ◌<◌, ◌≤◌, ◌++◌, ◌∙◌, sym, subst, arith, length, reverse, List}
use Rattle.std.proofs.lemmas.List.{take_all}
use Rattle.std.proofs.lemmas.Result.{err_from_is_err_and}
use Rattle.ritas_base.specs.declared.id.Id.{Id}
use Rattle.command_log.specs.Rows.{Start, entries_of_log}
use Rattle.command_log.specs.Standing.{StandsFor}
use Rattle.replica.specs.CommandRows.{command_of, HasCommand}
use Rattle.replica.proofs.FollowSteps.{all_at, fits_at, first_ids, stands_next, first_between}
use Rattle.replica.proofs.following.follow.Goals as goal

pub loop-id-preserved : goal.loop-id-preserved
loop-id-preserved g c = record {
  f = c.follow_one.ensures.f ∙ c.loop-id.invariant.f;
  start = c.follow_one.ensures.start ∙ c.loop-id.invariant.start;
  stands = λ r st stands live all xs room old.
      let ids = c.args.ids.now in
      let i = c.loop-id.id-index in
      let within : i < length ids = omega arith in
      let a = command_of r st.history in
      let before = c.loop-id.invariant.stands r st stands live all xs room old in
      let fits = subst (λ (s : Start). length s.base + length xs + length ids < 4294967295) (sym c.loop-id.invariant.start) room in
      stands_next a ids xs i c.loop-id.log before c.follow_one.new.log within
      (c.in_ok-follow_one.ensures.ok r st stands live (all_at (HasCommand r st.history) ids i within all) (fits_at a ids xs i c.loop-id.log before within fits)
      (entries_of_log a (first_ids ids i xs)) before);
}

pub returns-clause-ok : goal.returns-clause-ok
returns-clause-ok g c = λ r st stands live all xs room old.
    let past : length c.args.ids.now ≤ c.loop-id.id-index = omega arith in
    subst (λ (l : List Id). StandsFor c.loop-id.log (entries_of_log (command_of r st.history) (reverse l ++ xs))) (take_all c.loop-id.id-index c.args.ids.now past)
    (c.loop-id.invariant.stands r st stands live all xs room old)

pub returns-in_err-follow_one-clause-err : goal.returns-in_err-follow_one-clause-err
returns-in_err-follow_one-clause-err g c =
    let p = err_from_is_err_and c.from_residual.result c.from_residual.ensures.1 in
    rw p.1 (λ r st stands live all xs room old.
    let before = c.loop-id.invariant.stands r st stands live all xs room old in
    first_between (command_of r st.history) c.args.ids.now xs c.loop-id.id-index c.loop-id.log before c.args.log.now.start c.args.log.now.f c.follow_one.new.log.rows
    c.in_err-follow_one.ensures.err c.loop-id.invariant.start c.loop-id.invariant.f)
