use Rattle.std.proofs.Common.{◌≡◌, ◌≤◌, ◌∙◌, ◌/◌, ◌+◌, drop, arith, length, sym, subst, ℕ, Some, BTreeMap, List}
use Rattle.std.specs.List.{slice_get}
use Rattle.std.proofs.lemmas.List.{drop_all}
use Rattle.std.proofs.lemmas.Option.{slice_get-get_or}
use Rattle.ritas_base.specs.declared.id.Id.{Id}
use Rattle.frame_codec.specs.Values.{ids_of}
use Rattle.ordered_rounds.proofs.BackingSteps.{NotesRest, rest_next, rest_done, ids_many}
use Rattle.ordered_rounds.proofs.Listed.{left_get}
use Rattle.ordered_rounds.proofs.backing.note_list.Goals.{in-Some+in_ok-note_id, in_default}
use Rattle.ordered_rounds.proofs.backing.note_list.Goals as goal

pub loop-at-preserved : goal.loop-at-preserved
loop-at-preserved c =
    let list = c.args.list.now in
    let ids : List Id = ids_of list in
    let at = c.loop-at.at in
    let before : BTreeMap Id ℕ = c.args.noted.now in
    elim c.match-id_at.branch [
      | in-Some+in_ok-note_id w ↦
          let here : slice_get ids at ≡ Some w.in-Some.id = sym c.id_at.ensures ∙ w.in-Some.is in
          subst (λ (m : BTreeMap Id ℕ). NotesRest before m ids (drop (at + 1) ids) c.args.k) (sym w.noted-is)
          (rest_next before c.loop-at.noted w.note_id.new.noted ids (drop at ids) (drop (at + 1) ids) w.in-Some.id c.args.k (left_get ids at w.in-Some.id here)
          w.in_ok-note_id.ensures c.loop-at.invariant)
      | in_default w ↦
          let many = ids_many (length list / 5) list in
          let here = slice_get-get_or ids at (record { origin = 0; num = 0 }) (omega (arith, many)) in
          absurd (w.in_default.not-Some _ (c.id_at.ensures ∙ here))
    ]

pub returns : goal.returns
returns c =
    let list = c.args.list.now in
    let many = ids_many (length list / 5) list in
    let past : length (ids_of list) ≤ c.loop-at.at = omega (arith, many) in
    rest_done c.args.noted.now c.loop-at.noted (ids_of list) _ c.args.k (drop_all c.loop-at.at (ids_of list) past) c.loop-at.invariant
