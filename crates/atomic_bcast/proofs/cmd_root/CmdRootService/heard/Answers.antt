use Rattle.std.proofs.Common.{refl, sym, subst, ap, ap₂, ◌∙◌, ◌≡◌, inl, inr, append-nil}
use Rattle.std.specs.Prelude.{ℕ, ◌<◌, List, Bool, ◌==◌, ◌&&◌, ◌||◌}
use Rattle.std.proofs.lemmas.Bool.{cases_eq, and_from, and_right, and_left, eq-eqb, ne_eqb, false_from_ne_true}
use Rattle.ritas_base.specs.declared.slot.Slot.{Slot}
use Rattle.ritas_base.specs.Numbers.{Numbers}
use Rattle.ritas_base.specs.Slots.{command_slot}
use Rattle.ritas_base.specs.SlotLaws.{right_command}
use Rattle.ritas_base.specs.SlotOrder.{is_slot, same_slot, slot_itself}
use Rattle.ordered_rounds.specs.Early.{IsTight}
use Rattle.layer_api.specs.Words.{Hear}
use Rattle.layer_api.specs.ServiceCalls.{ShowsNear}
use Rattle.atomic_bcast.specs.Commands.{commands}
use Rattle.atomic_bcast.specs.CmdRootGetters.{shown_with, shows_as_before}
use Rattle.atomic_bcast.specs.declared.cmd_root.CmdRoot.{CmdRoot}
use Rattle.atomic_bcast.proofs.cmd_root.CmdRootService.heard.Goals as goal

pub returns-in-Err : goal.returns-in-Err
returns-in-Err g c = record {
  out = refl;
  dead = refl;
  shows = λ seat w stands may.
      let old = c.args.self.now in
      let before = shows_as_before old seat w (Hear c.args.slot.now c.args._value.now) stands in
      let inputs : c.note.new.self.inputs ≡ old.inputs = ap (λ (s : CmdRoot). s.inputs) c.note.ensures.kept in
      subst (λ (k : ℕ). ShowsNear commands seat w (Hear c.args.slot.now c.args._value.now) (shown_with k c.note.new.self.bases)) (sym inputs)
      (subst (λ (bs : List ℕ). ShowsNear commands seat w (Hear c.args.slot.now c.args._value.now) (shown_with old.inputs bs)) (sym c.in-Err.ensures.lost) before);
}

-- two command slots are one where their origins and numbers are equal
command_here : (p a o k : ℕ) → is_slot (command_slot p a) (command_slot o k) ≡ (o == p && k == a)
command_here p a o k =
    elim (cases_eq o p) [
      | inl e ↦ elim (cases_eq k a) [
        | inl d ↦
            ap₂ (λ (x y : ℕ). is_slot (command_slot p a) (command_slot x y)) e d
            ∙ (slot_itself (command_slot p a) ∙ sym (and_from (o == p) (k == a) (eq-eqb o p e) (eq-eqb k a d)))
        | inr ne ↦
            false_from_ne_true _ (λ h. ne (sym (ap (λ (q : Slot). q.a) (same_slot (command_slot p a) (command_slot o k) h))))
            ∙ sym (and_right (o == p) (k == a) (ne_eqb k a ne))
      ]
      | inr ne ↦
          false_from_ne_true _ (λ h. ne (sym (ap (λ (q : Slot). q.origin) (same_slot (command_slot p a) (command_slot o k) h))))
          ∙ sym (and_left (o == p) (k == a) (ne_eqb o p ne))
    ]

pub returns-in-Ok : goal.returns-in-Ok
returns-in-Ok g c = record {
  grows = λ seat w stands may.
      let old = c.args.self.now in
      let new = c.note.new.self in
      let s = c.args.slot.now in
      let here = right_command seat.numbers seat.mode s may.1.right may.1.is_open in
      let noted = c.in-Ok.ensures.noted in
      let numbers = stands.numbers in
      record {
        numbers = ap (λ (x : CmdRoot). x.numbers) c.note.ensures.kept ∙ numbers;
        me = ap (λ (x : CmdRoot). x.me) c.note.ensures.kept ∙ stands.me;
        inputs = ap (λ (x : CmdRoot). x.inputs) c.note.ensures.kept ∙ stands.inputs;
        heard = λ o k within.
            noted.known o k (subst (λ (p : Numbers). o < p.n) (sym numbers) within) (subst (λ (p : Numbers). s.origin < p.n) (sym numbers) may.1.origin) may.1.number
            ∙ ap₂ (λ (x y : Bool). x || y) (sym (ap (λ (q : Slot). is_slot q (command_slot o k)) here ∙ command_here s.origin s.a o k)) (stands.heard o k within);
        tight = subst (λ (p : Numbers). IsTight p.n new.bases new.early) numbers
            (noted.tight (subst (λ (p : Numbers). IsTight p.n old.bases old.early) (sym numbers) stands.tight));
        live = ap (λ (x : CmdRoot). x.live) c.note.ensures.kept ∙ stands.live;
      };
  made = λ seat w stands may. sym (append-nil c.args._says.now.items);
}
