use Rattle.std.proofs.Common.{◌≡◌, ◌+◌, inl, inr, [], ◌∷◌, ◌++◌, length, refl, sym, ap, ◌∙◌, arith, rules}
use Rattle.outside.specs.Memory.{FailingCalls}
use Rattle.outside.specs.MemoryDisk.{MemDiskState, Writes, IsRefused, IsWriteTooLong, acts_of, wrote_in}
use Rattle.outside.specs.declared.mem_disk.DiskDid.TheVariants.{Wrote}
use Rattle.outside.proofs.DiskSteps.{fits_write, keeps_write, acts_more, going, count_up, refuted, short_enough}
use Rattle.outside.proofs.mem_disk.MemDiskDisk.write_at.Goals as goal

pub invariant_of-self-2 : goal.invariant_of-self-2
invariant_of-self-2 c =
    let inv = c.self.invariant in
    let bytes = c.args.bytes.now in
    let text = c.self.inside.text.items in
    let longer : c.extend_from_slice.new.self.items ≡ text ++ bytes = search rules in
    let pushed : c.push.new.self.items ≡ c.self.inside.dids.items ++ Wrote c.args.at (length text) (length bytes) ∷ [] = search rules in
    let not : IsRefused c.args.self.now → ⊥ = refuted c.is_refused.result (IsRefused c.args.self.now) c.is_refused.ensures c.if-is_refused.false in
    let fits : IsWriteTooLong c.args.self.now c.args.at (length bytes) → ⊥ = refuted c.is_too_long.result (IsWriteTooLong c.args.self.now c.args.at (length bytes)) c.is_too_long.ensures c.if-is_too_long.false in
    let room = short_enough c.args.self.now c.args.at (length bytes) fits in
    let room_is : c.args.self.now.room ≡ c.self.inside.room = ap (λ (s : MemDiskState). s.room) (sym c.self.view_is) in
    let wrote_is : wrote_in c.args.self.now.acts ≡ length text = ap (λ (s : MemDiskState). wrote_in s.acts) (sym c.self.view_is) ∙ sym inv.0.sum in
    let lt = going c.args.self.now not in
    let number : c.args.self.now.calls.number ≡ c.self.inside.calls.number = ap (λ (s : MemDiskState). s.calls.number) (sym c.self.view_is) in
    let most : c.args.self.now.most ≡ c.self.inside.most = ap (λ (s : MemDiskState). s.most) (sym c.self.view_is) in
    let up : c.pass.new.self.number ≡ c.self.inside.calls.number + 1 = ap (λ (s : FailingCalls). s.number) c.pass.ensures ∙ count_up c.self.inside.calls.number c.self.inside.most (omega (arith, lt, number, most)) (omega (arith, c.self.ranges)) in
    let spanned : c.push-2.new.self.items ≡ c.self.inside.spans.items ++ record { at = c.args.at; count = length bytes } ∷ [] = search rules in (
      rw (pushed, longer) (fits_write _ _ _ bytes _ _ _ _ _ c.args.at inv.0 c.overwrite.ensures.value (omega (arith, room.0, room_is)) (omega (arith, room.1, room_is, wrote_is)) (omega (arith, up, inv.0.counted))),
      rw (pushed, longer, spanned) (keeps_write _ _ bytes _ _ _ _ c.args.at inv.0.parts inv.1 (omega (arith, room.0, room_is))),
      omega (arith, inv.2, c.overwrite.ensures.room),
      omega (arith, inv.3, c.extend_from_slice.ensures.capacity),
      inv.4,
      omega (arith, inv.5, c.push.ensures.capacity),
      omega (arith, inv.6, c.push-2.ensures.capacity),
    )

pub returns-clause-exact : goal.returns-clause-exact
returns-clause-exact c =
    let bytes = c.args.bytes.now in
    let text = c.self.inside.text.items in
    let longer : c.extend_from_slice.new.self.items ≡ text ++ bytes = search rules in
    let pushed : c.push.new.self.items ≡ c.self.inside.dids.items ++ Wrote c.args.at (length text) (length bytes) ∷ [] = search rules in
    let not : IsRefused c.args.self.now → ⊥ = refuted c.is_refused.result (IsRefused c.args.self.now) c.is_refused.ensures c.if-is_refused.false in
    let fits : IsWriteTooLong c.args.self.now c.args.at (length bytes) → ⊥ = refuted c.is_too_long.result (IsWriteTooLong c.args.self.now c.args.at (length bytes)) c.is_too_long.ensures c.if-is_too_long.false in
    let acts : acts_of c.extend_from_slice.new.self.items c.push.new.self.items ≡ Writes c.args.at bytes ∷ acts_of text c.self.inside.dids.items =
    rw (pushed, longer) (acts_more c.args.at text bytes c.self.inside.dids.items c.self.invariant.0.parts) in
    record {
      fails = (λ err. absurd (cc err), λ r. absurd (elim r [ inl a ↦ not a | inr b ↦ fits b ]));
      now = rw (acts, c.pass.ensures, ← c.self.view_is) refl;
    }

pub returns-clause-written : goal.returns-clause-written
returns-clause-written c =
    let bytes = c.args.bytes.now in
    let text = c.self.inside.text.items in
    let longer : c.extend_from_slice.new.self.items ≡ text ++ bytes = search rules in
    let pushed : c.push.new.self.items ≡ c.self.inside.dids.items ++ Wrote c.args.at (length text) (length bytes) ∷ [] = search rules in
    let acts : acts_of c.extend_from_slice.new.self.items c.push.new.self.items ≡ Writes c.args.at bytes ∷ acts_of text c.self.inside.dids.items =
    rw (pushed, longer) (acts_more c.args.at text bytes c.self.inside.dids.items c.self.invariant.0.parts) in
    rw (acts, ← c.self.view_is) refl
