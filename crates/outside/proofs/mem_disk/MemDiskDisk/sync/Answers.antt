use Rattle.std.proofs.Common.{◌≡◌, ◌+◌, [], ◌∷◌, ◌++◌, refl, sym, ap, ◌∙◌, arith, rules}
use Rattle.outside.specs.Memory.{FailingCalls}
use Rattle.outside.specs.MemoryDisk.{MemDiskState, Syncs, IsRefused, acts_of}
use Rattle.outside.specs.declared.mem_disk.DiskDid.TheVariants.{Synced}
use Rattle.outside.proofs.DiskSteps.{fits_sync, keeps_sync, acts_synced, going, count_up, refuted}
use Rattle.outside.proofs.mem_disk.MemDiskDisk.sync.Goals as goal

pub invariant_of-self-2 : goal.invariant_of-self-2
invariant_of-self-2 c =
    let inv = c.self.invariant in
    let pushed : c.push.new.self.items ≡ c.self.inside.dids.items ++ Synced ∷ [] = search rules in
    let not : IsRefused c.args.self.now → ⊥ = refuted c.is_refused.result (IsRefused c.args.self.now) c.is_refused.ensures c.if-is_refused.false in
    let lt = going c.args.self.now not in
    let number : c.args.self.now.calls.number ≡ c.self.inside.calls.number = ap (λ (s : MemDiskState). s.calls.number) (sym c.self.view_is) in
    let most : c.args.self.now.most ≡ c.self.inside.most = ap (λ (s : MemDiskState). s.most) (sym c.self.view_is) in
    let up : c.pass.new.self.number ≡ c.self.inside.calls.number + 1 = ap (λ (s : FailingCalls). s.number) c.pass.ensures ∙ count_up c.self.inside.calls.number c.self.inside.most (omega (arith, lt, number, most)) (omega (arith, c.self.ranges)) in
    let kept : c.extend_from_slice.new.self.items ≡ c.self.inside.bytes.items = search rules in
    let none : c.clear-2.new.self.items ≡ [] = search rules in (
      rw pushed (fits_sync _ _ _ _ _ _ _ inv.0 (omega (arith, up, inv.0.counted))),
      rw (pushed, none) (keeps_sync _ c.self.inside.bytes.items _ _ _ _ _ inv.0 kept),
      inv.2,
      inv.3,
      omega (arith, inv.4, c.clear.ensures.capacity, c.extend_from_slice.ensures.capacity),
      omega (arith, inv.5, c.push.ensures.capacity),
      omega (arith, inv.6, c.clear-2.ensures.capacity),
    )

pub returns-clause-exact : goal.returns-clause-exact
returns-clause-exact c =
    let pushed : c.push.new.self.items ≡ c.self.inside.dids.items ++ Synced ∷ [] = search rules in
    let not : IsRefused c.args.self.now → ⊥ = refuted c.is_refused.result (IsRefused c.args.self.now) c.is_refused.ensures c.if-is_refused.false in
    let acts : acts_of c.self.inside.text.items c.push.new.self.items ≡ Syncs ∷ acts_of c.self.inside.text.items c.self.inside.dids.items =
    ap (acts_of c.self.inside.text.items) pushed ∙ acts_synced c.self.inside.text.items c.self.inside.dids.items in
    record {
      fails = (λ err. absurd (cc err), λ r. absurd (not r));
      now = rw (acts, c.pass.ensures, ← c.self.view_is) refl;
    }

pub returns-clause-synced : goal.returns-clause-synced
returns-clause-synced c =
    let pushed : c.push.new.self.items ≡ c.self.inside.dids.items ++ Synced ∷ [] = search rules in
    let acts : acts_of c.self.inside.text.items c.push.new.self.items ≡ Syncs ∷ acts_of c.self.inside.text.items c.self.inside.dids.items =
    ap (acts_of c.self.inside.text.items) pushed ∙ acts_synced c.self.inside.text.items c.self.inside.dids.items in
    rw (acts, ← c.self.view_is) refl
