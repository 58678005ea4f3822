use Rattle.std.proofs.Common.{◌≡◌, false, cond, Option, Some, Result, sym, subst, ap, ◌∙◌}
use Rattle.std.proofs.Math.Dec.{leb}
use Rattle.std.specs.BTreeMap.{get}
use Rattle.std.proofs.lemmas.Result.{err_from_is_err_and}
use Rattle.ritas_base.specs.declared.bytes.Mem.{Mem}
use Rattle.ritas_base.specs.declared.slot.Slot.{Slot}
use Rattle.ritas_base.specs.declared.mode.Mode.{Mode}
use Rattle.ritas_base.specs.SlotOrder.{slot_cmp, is_slot}
use Rattle.ritas_core.specs.declared.taken.Taken.TheVariants.{Took}
use Rattle.ritas_core.specs.declared.change.Change.{Change}
use Rattle.ritas_core.specs.LayerCalls.{SameSeat, GivesItem}
use Rattle.ritas_core.proofs.Means.{means_by, means_well}
use Rattle.ritas_core.proofs.ShownLayers.{cast_fails}
use Rattle.ritas_core.proofs.LayerSteps.{repeats_item, quiet_so, heard_item, heard_none, unkept_item}
use Rattle.ritas_core.proofs.layers.Layers.take.Goals as goal

pub returns-in-Repeat-clause-given : goal.returns-in-Repeat-clause-given
returns-in-Repeat-clause-given g c =
    let m = means_by g.S.Service g.E.Broadcast g.C.Coin g.T.Tagger in
    let well = means_well m g.E.Broadcast.live g.met.E.Broadcast.value_laws g.met.S.Service.word_laws g.met.S.Service.shows g.met.E.Broadcast.shows in
    let old = c.args.self.now in
    repeats_item m well old c.take_cast.new.casts c.args.item.now c.args.made.now.items c.take_cast.new.made.items _ c.in-Repeat.is c.in_ok-take_cast.ensures

pub returns-in-Took-None-clause-given : goal.returns-in-Took-None-clause-given
returns-in-Took-None-clause-given g c =
    let m = means_by g.S.Service g.E.Broadcast g.C.Coin g.T.Tagger in
    let well = means_well m g.E.Broadcast.live g.met.E.Broadcast.value_laws g.met.S.Service.word_laws g.met.S.Service.shows g.met.E.Broadcast.shows in
    let old = c.args.self.now in
    quiet_so m well old c.take_cast.new.casts c.args.item.now c.args.made.now.items c.take_cast.new.made.items _
    (c.in-Took-None.is ∙ ap Took c.in-Took-None.field-0-is) c.in_ok-take_cast.ensures c.quiet_change.result c.quiet_change.ensures

pub returns-in_ok-keep_output-in-Took-Some-clause-given : goal.returns-in_ok-keep_output-in-Took-Some-clause-given
returns-in_ok-keep_output-in-Took-Some-clause-given g c =
    let m = means_by g.S.Service g.E.Broadcast g.C.Coin g.T.Tagger in
    let well = means_well m g.E.Broadcast.live g.met.E.Broadcast.value_laws g.met.S.Service.word_laws g.met.S.Service.shows g.met.E.Broadcast.shows in
    let old = c.args.self.now in
    let is = c.in-Took-Some.is ∙ ap Took c.in-Took-Some.field-0-is in
    record {
      only = tt;
      takes = heard_item m well old c.hear.new.self c.take_cast.new.casts c.args.item.now _ _ _ c.in-Took-Some.value c.as_slice.result.now is c.in_ok-take_cast.ensures
          c.as_slice.ensures c.hear.ensures.outputs c.keep_output.new.outputs _ c.in_ok-hear-in-Took-Some.ensures.told
          (subst (λ (mode : Mode). leb 3 mode.root ≡ false → (s : Slot) → get slot_cmp c.keep_output.new.outputs s ≡ cond (is_slot c.args.item.now.slot s) (Some c.in-Took-Some.value) (get slot_cmp c.hear.new.self.outputs s))
          c.hear.ensures.same.mode c.in_ok-keep_output-in-Took-Some.ensures.kept);
    }

pub returns-in_err-keep_output-in-Took-Some-clause-given : goal.returns-in_err-keep_output-in-Took-Some-clause-given
returns-in_err-keep_output-in-Took-Some-clause-given g c =
    let m = means_by g.S.Service g.E.Broadcast g.C.Coin g.T.Tagger in
    let well = means_well m g.E.Broadcast.live g.met.E.Broadcast.value_laws g.met.S.Service.word_laws g.met.S.Service.shows g.met.E.Broadcast.shows in
    let old = c.args.self.now in
    let is = c.in-Took-Some.is ∙ ap Took c.in-Took-Some.field-0-is in
    let same = c.hear.ensures.same in
    let seat : SameSeat old c.hear.new.self = record { params = same.params; mode = same.mode; me = same.me; tagger = same.tagger; coin = same.coin } in
    let p = err_from_is_err_and c.from_residual-in_err-keep_output-in-Took-Some.result c.from_residual-in_err-keep_output-in-Took-Some.ensures.1 in
    subst (λ (r : Result (Option Change) Mem). GivesItem m old (record c.hear.new.self { outputs = c.keep_output.new.outputs }) c.args.item.now c.args.made.now.items c.hear.new.made.items r) (sym p.1)
    (unkept_item m well old c.hear.new.self c.take_cast.new.casts c.args.item.now _ _ _ c.in-Took-Some.value c.as_slice.result.now is c.in_ok-take_cast.ensures
    c.as_slice.ensures c.hear.ensures.outputs c.keep_output.new.outputs _ c.in_ok-hear-in-Took-Some.ensures.told seat
    c.in_err-keep_output-in-Took-Some.ensures.err)

pub returns-in_err-hear-in-Took-Some-clause-given : goal.returns-in_err-hear-in-Took-Some-clause-given
returns-in_err-hear-in-Took-Some-clause-given g c =
    let m = means_by g.S.Service g.E.Broadcast g.C.Coin g.T.Tagger in
    let well = means_well m g.E.Broadcast.live g.met.E.Broadcast.value_laws g.met.S.Service.word_laws g.met.S.Service.shows g.met.E.Broadcast.shows in
    let old = c.args.self.now in
    let is = c.in-Took-Some.is ∙ ap Took c.in-Took-Some.field-0-is in
    let p = err_from_is_err_and c.from_residual-in_err-hear-in-Took-Some.result c.from_residual-in_err-hear-in-Took-Some.ensures.1 in
    subst (λ (r : Result (Option Change) Mem). GivesItem m old c.hear.new.self c.args.item.now c.args.made.now.items c.hear.new.made.items r) (sym p.1)
    (heard_none m well old c.hear.new.self c.take_cast.new.casts c.args.item.now _ _ _ c.in-Took-Some.value c.as_slice.result.now is c.in_ok-take_cast.ensures
    c.as_slice.ensures c.hear.ensures.outputs c.in_err-hear-in-Took-Some.ensures.missed)

pub returns-in_err-take_cast-clause-given : goal.returns-in_err-take_cast-clause-given
returns-in_err-take_cast-clause-given g c =
    let m = means_by g.S.Service g.E.Broadcast g.C.Coin g.T.Tagger in
    let well = means_well m g.E.Broadcast.live g.met.E.Broadcast.value_laws g.met.S.Service.word_laws g.met.S.Service.shows g.met.E.Broadcast.shows in
    let old = c.args.self.now in
    let p = err_from_is_err_and c.from_residual.result c.from_residual.ensures.1 in
    subst (λ (r : Result (Option Change) Mem). GivesItem m old (record old { casts = c.take_cast.new.casts }) c.args.item.now c.args.made.now.items c.take_cast.new.made.items r) (sym p.1)
    (cast_fails m well old c.take_cast.new.casts c.args.item.now c.in_err-take_cast.ensures)
