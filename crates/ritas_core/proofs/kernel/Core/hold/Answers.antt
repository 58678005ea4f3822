use Rattle.std.proofs.Common.{◌≡◌, ℕ, Err, Ok, Result, sym, ◌∙◌, ap, arith}
use Rattle.ooc_buffers.specs.declared.held.HoldFault.{HoldFault}
use Rattle.ooc_buffers.specs.declared.held.HoldFault.TheVariants as faults
use Rattle.ooc_buffers.specs.Lists.{held_bytes}
use Rattle.ritas_core.specs.Checks.{body_length, IsGood}
use Rattle.ritas_core.specs.Stands.{Meaning, meaning, rules_of}
use Rattle.ritas_core.proofs.HoldOutcomes.{room_from, hold_does, full_does, mem_does}
use Rattle.ritas_core.proofs.kernel.Core.hold.Goals as goal

abbrev Answer : Type 0
Answer = Result (Unit {0}) HoldFault

is_no_fault : (u : Unit {0}) (x : ℕ) → ◌≡◌ {A = Answer} (Ok u) (Err (faults.HeldFull x)) → ⊥
is_no_fault u x h = cc

is_other_fault : (x : ℕ) → ◌≡◌ {A = Answer} (Err faults.Mem) (Err (faults.HeldFull x)) → ⊥
is_other_fault x h = cc

pub returns-in-Ok-clause-does : goal.returns-in-Ok-clause-does
returns-in-Ok-clause-does g c =
    let b = g.E.Broadcast in
    let m : Meaning g.row.S.Denot g.row.E.Denot g.row.C.Denot g.row.T.Denot =
    meaning g.S.Service.stands g.S.Service.rules g.S.Service.shown b.stands b.rules b.shown g.C.Coin.bits g.T.Tagger.me g.T.Tagger.tags in
    let old = c.args.self.now in
    let counted : IsGood (rules_of m old.layers) c.args.item → c.length_of-len.result ≡ body_length c.args.item = λ good.
    let short = c.spelled.ensures.short old.layers.params old.layers.mode c.args.item good.in_grammar in
    c.length_of-len.ensures (omega (arith, short)) in
    λ sent. hold_does m old c.args.item c.length_of-len.result c.hold.new.self sent counted c.in-Ok.ensures.ok
    (room_from (held_bytes old.held c.args.item.from) c.length_of-len.result (λ (x : ℕ). ◌≡◌ {A = Answer} (Ok c.in-Ok.field-0) (Err (faults.HeldFull x)))
    (is_no_fault c.in-Ok.field-0) (λ x above. (c.in-Ok.ensures.full x).1 above))

pub returns-in-Err-HeldFull-clause-does : goal.returns-in-Err-HeldFull-clause-does
returns-in-Err-HeldFull-clause-does g c =
    let b = g.E.Broadcast in
    let m : Meaning g.row.S.Denot g.row.E.Denot g.row.C.Denot g.row.T.Denot =
    meaning g.S.Service.stands g.S.Service.rules g.S.Service.shown b.stands b.rules b.shown g.C.Coin.bits g.T.Tagger.me g.T.Tagger.tags in
    let old = c.args.self.now in
    let counted : IsGood (rules_of m old.layers) c.args.item → c.length_of-len.result ≡ body_length c.args.item = λ good.
    let short = c.spelled.ensures.short old.layers.params old.layers.mode c.args.item good.in_grammar in
    c.length_of-len.ensures (omega (arith, short)) in
    let e = c.in-Err-HeldFull.ensures in
    let full = (e.full c.in-Err-HeldFull.bytes).0 (ap (λ (f : HoldFault). Err f) c.in-Err-HeldFull.field-0-is) in
    λ sent. full_does m old c.args.item c.length_of-len.result c.hold.new.self sent counted c.in-Err-HeldFull.bytes e.err full.0 full.1

pub returns-in-Err-Mem-clause-does : goal.returns-in-Err-Mem-clause-does
returns-in-Err-Mem-clause-does g c =
    let b = g.E.Broadcast in
    let m : Meaning g.row.S.Denot g.row.E.Denot g.row.C.Denot g.row.T.Denot =
    meaning g.S.Service.stands g.S.Service.rules g.S.Service.shown b.stands b.rules b.shown g.C.Coin.bits g.T.Tagger.me g.T.Tagger.tags in
    let old = c.args.self.now in
    let counted : IsGood (rules_of m old.layers) c.args.item → c.length_of-len.result ≡ body_length c.args.item = λ good.
    let short = c.spelled.ensures.short old.layers.params old.layers.mode c.args.item good.in_grammar in
    c.length_of-len.ensures (omega (arith, short)) in
    let e = c.in-Err-Mem.ensures in
    λ sent. mem_does m old c.args.item c.length_of-len.result c.hold.new.self sent counted e.err
    (room_from (held_bytes old.held c.args.item.from) c.length_of-len.result (λ (x : ℕ). ◌≡◌ {A = Answer} (Err c.in-Err-Mem.field-0) (Err (faults.HeldFull x)))
    (λ x h. is_other_fault x (sym (ap (λ (f : HoldFault). Err f) c.in-Err-Mem.field-0-is) ∙ h)) (λ x above. (e.full x).1 above))
